-- The row of a word's slot says what the word is. Assumes nothing.
use Prim.Native.Nat.{ℕ, ◌+◌, ◌*◌, ◌/◌, ◌%◌, ◌<◌, ◌≤◌}
use mathlib.Core.Path.{◌≡◌, refl, sym, ◌∙◌}
use mathlib.Core.Bool.{Bool, true, false}
use mathlib.Core.List.{List, [], ◌∷◌, map}
use mathlib.Core.Logic.{⊎_elim}
use native.Mathlib.Omega.{arith}
use borrow.Author.Tests.{eq-eqb, ne_eqb}
use lib.Dec.{eqb}
use lib.ListN.{length, get_or}
use Rattle.rules.specs.Base.{when◌then◌else◌, same}
use Rattle.rules.specs.Tokens.{upper}
use Rattle.rules.specs.Words.{Row, instructions}
use Rattle.rules.proofs.Instructions.{instructions-count}
use Rattle.rules.proofs.Bools.{never}
use Rattle.lex_reserved.specs.Slots.{key_of, slot_of, row_from, slot_row}
use Rattle.lex_reserved.specs.Ident.{place_from, ident_of}
use Rattle.lex_reserved.specs.declared.Ident.{Ident}
use Rattle.lex_reserved.specs.declared.Ident.TheVariants.{Reserved, Label}
use Rattle.lex_reserved.proofs.Rule.{place-fine}
use Rattle.lex_reserved.proofs.Keys.{of_bytes, upper-bytes, key-some, key-same}

-- THE LAST ARM OF THE MATCH: P, and the slot is none of these words'
abbrev Apart : Type 0 → ℕ → List Row → Type 0
Apart P x [] = P
Apart P x (r ∷ rs) = Apart (P × (x ≡ slot_of (key_of r.key) → ⊥)) x rs

row-none : (P : Type 0) (k x : ℕ) (rs : List Row) → Apart P x rs → P × (row_from k x rs ≡ 0)
unfolding row_from when◌then◌else◌
row-none P k x [] h = (h, refl)
row-none P k x (r ∷ rs) h =
    let t = row-none (P × (x ≡ slot_of (key_of r.key) → ⊥)) (k + 1) x rs h in
    (t.0.0, rw (ne_eqb (slot_of (key_of r.key)) x (λ e. t.0.1 (sym e))) t.1)

pub no_word : (x : ℕ) → Apart (Unit {0}) x instructions → 0 ≡ slot_row x
unfolding slot_row
no_word x h = sym (row-none (Unit {0}) 0 x instructions h).1

-- WHAT THE ROW OF A SLOT SAYS of a word with this key
abbrev by_row : ℕ → ℕ → Ident
by_row key row = when eqb (row / 256) key then Reserved (row % 256) else Label

abbrev looked : List ℕ → Ident
looked w = by_row (key_of w) (slot_row (slot_of (key_of w)))

-- the computed tests: each reserved word is found in its slot; each is of bytes
each_word : map (λ (r : Row). looked r.key) instructions ≡ map (λ (r : Row). ident_of r.key) instructions
unfolding key_of row_from slot_row ident_of place_from instructions when◌then◌else◌
each_word = refl

each-bytes : map (λ (r : Row). of_bytes r.key) instructions ≡ map (λ (r : Row). true) instructions
unfolding instructions
each-bytes = refl

-- a label's key is not the one in its slot
key-other : (a b : List ℕ) (k : ℕ) → k < 256 → of_bytes a ≡ true → of_bytes b ≡ true → same a b ≡ false → by_row (key_of a) (key_of b * 256 + k) ≡ Label
unfolding when◌then◌else◌
key-other a b k h p q n =
    let d : (key_of b * 256 + k) / 256 ≡ key_of b = omega arith in
    rw (ne_eqb ((key_of b * 256 + k) / 256) (key_of a) (λ e. let t : same a b ≡ true = key-same a b p q (sym e ∙ d) in never cc))

label-fine : (w : List ℕ) (k x : ℕ) (rs : List Row) → k + length rs ≤ 256 → of_bytes w ≡ true → map (λ (r : Row). of_bytes r.key) rs ≡ map (λ (r : Row). true) rs → place_from k w rs ≡ Label → by_row (key_of w) (row_from k x rs) ≡ Label
unfolding place_from row_from when◌then◌else◌
label-fine w k x [] h p q e = rw (ne_eqb 0 (key_of w) (λ z. omega (arith, key-some w)))
label-fine w k x (r ∷ rs) h p q e = go (same w r.key) refl e (label-fine w (k + 1) x rs (omega arith) p (cc))
  where
    slot : (t : Bool) → same w r.key ≡ false → by_row (key_of w) (row_from (k + 1) x rs) ≡ Label → by_row (key_of w) (when t then key_of r.key * 256 + k else row_from (k + 1) x rs) ≡ Label
    slot true n f = key-other w r.key k (omega arith) p (cc) n
    slot false n f = f

    go : (t : Bool) → same w r.key ≡ t → (when t then Reserved k else place_from (k + 1) w rs) ≡ Label → (place_from (k + 1) w rs ≡ Label → by_row (key_of w) (row_from (k + 1) x rs) ≡ Label) → by_row (key_of w) (when eqb (slot_of (key_of r.key)) x then key_of r.key * 256 + k else row_from (k + 1) x rs) ≡ Label
    go true n e f = never cc
    go false n e f = slot (eqb (slot_of (key_of r.key)) x) n (f e)

looked-right : (w : List ℕ) → of_bytes w ≡ true → looked w ≡ ident_of w
unfolding ident_of slot_row
looked-right w p =
    ⊎_elim
    (λ l. label-fine w 0 (slot_of (key_of w)) instructions (omega (arith, instructions-count)) p each-bytes l ∙ sym l)
    (λ e. e)
    (place-fine looked w 0 instructions each_word)

-- THE WAY THROUGH THE CODE
module _ (s : List ℕ) {key slot row : ℕ} (e : key ≡ key_of (map upper s)) (f : slot ≡ slot_of key) (g : row ≡ slot_row slot) where
  said : ((k : ℕ) → get_or s k 0 < 256) → by_row key row ≡ ident_of (map upper s)
  said v = rw (g, f, e) (looked-right (map upper s) (upper-bytes s v))

  pub ident-row : row / 256 ≡ key → ((k : ℕ) → get_or s k 0 < 256) → Reserved (row % 256) ≡ ident_of (map upper s)
  unfolding when◌then◌else◌
  ident-row h v = rw (eq-eqb (row / 256) key h) at (said v)
