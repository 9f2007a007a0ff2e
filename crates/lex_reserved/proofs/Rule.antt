-- The table's rule: the search in it finds what a word is. Assumes nothing.
use Prim.Native.Nat.{ℕ, zero, suc, ◌+◌, ◌-◌, ◌<◌, ◌≤◌}
use mathlib.Core.Path.{◌≡◌, refl, sym, ◌∙◌, ap}
use mathlib.Core.Bool.{Bool, true, false, ◌&&◌}
use mathlib.Core.List.{List, [], ◌∷◌, map}
use mathlib.Core.Logic.{◌⊎◌, inl, inr, ⊎_elim}
use native.Mathlib.Omega.{arith}
use borrow.Author.Tests.{leb-true, ltb-false, lt-ltb, le-ltb}
use lib.Dec.{leb, ltb}
use lib.ListN.{length, get_or, length-map}
use Rattle.rules.specs.Base.{when◌then◌else◌, same}
use Rattle.rules.specs.Tokens.{upper}
use Rattle.rules.proofs.Run.{true_run}
use Rattle.rules.specs.Words.{Row, instructions}
use Rattle.lex_reserved.specs.Table.{words, starts, row, first_row, name_of, code_of, find_in, searched}
use Rattle.lex_reserved.specs.Ident.{place_from, ident_of}
use Rattle.lex_reserved.specs.declared.Ident.{Ident}
use Rattle.lex_reserved.specs.declared.Ident.TheVariants.{Reserved, Label}
use Rattle.rules.proofs.Named.{same_true}
use Rattle.rules.proofs.Instructions.{maps-at}
use Rattle.rules.proofs.Bools.{and_left, and_right}

-- the computed test: each row's word is the instruction of its code
each_row : map (λ (r : List ℕ). ident_of (name_of r)) words ≡ map (λ (r : List ℕ). Reserved (code_of r)) words
unfolding words ident_of place_from instructions when◌then◌else◌
each_row = refl

-- the computed test: each instruction is found in the rows of its letter
each-key : map (λ (r : Row). searched r.key) instructions ≡ map (λ (r : Row). ident_of r.key) instructions
unfolding words starts row first_row find_in searched ident_of place_from instructions when◌then◌else◌
each-key = refl

row-right : (i : ℕ) → i < 32 → ident_of (name_of (row i)) ≡ Reserved (code_of (row i))
unfolding words row
row-right i h = maps-at (λ (r : List ℕ). ident_of (name_of r)) (λ (r : List ℕ). Reserved (code_of r)) [] words each_row i h

-- what a search finds is right
abbrev Fine : List ℕ → Ident → Type 0
Fine w f = (f ≡ Label) ⊎ (f ≡ ident_of w)

search-fine : (n i : ℕ) (w : List ℕ) → i + n ≤ 32 → Fine w (find_in n i w)
unfolding find_in when◌then◌else◌
search-fine zero i w h = inl refl
search-fine (suc n) i w h = go (same w (name_of (row i))) refl (search-fine n (i + 1) w (omega arith))
  where
    go : (t : Bool) → same w (name_of (row i)) ≡ t → Fine w (find_in n (i + 1) w) → Fine w (when t then Reserved (code_of (row i)) else find_in n (i + 1) w)
    go true e f = inr (sym (row-right i (omega arith)) ∙ ap ident_of (sym (same_true w (name_of (row i)) e)))
    go false e f = f

-- the rows of a letter lie in the table
in_order : ℕ → Bool
unfolding starts first_row
in_order c = leb (first_row c) (first_row (c + 1)) && leb (first_row (c + 1)) 32

in_order_lem : (c : ℕ) → 65 ≤ c → c ≤ 90 → in_order c ≡ true
unfolding in_order
in_order_lem c l h = sym (true_run in_order 65 26 tt c l (omega arith))

module _ (c : ℕ) (l : 65 ≤ c) (h : c ≤ 90) where
  pub first_next_lem : first_row c ≤ first_row (c + 1)
  unfolding in_order
  first_next_lem = leb-true _ _ (and_left (leb (first_row c) (first_row (c + 1))) _ (in_order_lem c l h))

  pub next_last : first_row (c + 1) ≤ 32
  unfolding in_order
  next_last = leb-true _ _ (and_right (leb (first_row c) (first_row (c + 1))) _ (in_order_lem c l h))

either-if : (P : Ident → Type 0) (b : Bool) {x y : Ident} → P x → (b ≡ false → P y) → P (when b then x else y)
unfolding when◌then◌else◌
either-if P true p q = p
either-if P false p q = q refl

searched-fine : (w : List ℕ) → Fine w (searched w)
unfolding searched
searched-fine w =
    let c = get_or w 0 0 in
    either-if (Fine w) (ltb (length w) 2) (inl refl) (λ a.
    either-if (Fine w) (ltb 5 (length w)) (inl refl) (λ b.
    either-if (Fine w) (ltb c 65) (inl refl) (λ l.
    either-if (Fine w) (ltb 90 c) (inl refl) (λ h.
    let lo : 65 ≤ c = ltb-false _ _ l in
    let hi : c ≤ 90 = ltb-false _ _ h in
    search-fine (first_row (c + 1) - first_row c) (first_row c) w (omega (arith, first_next_lem c lo hi, next_last c lo hi))))))

-- a word is a label, or is found by whatever finds the keys of these rows
pub place-fine : (find : List ℕ → Ident) (w : List ℕ) (k : ℕ) (rs : List Row) → map (λ (r : Row). find r.key) rs ≡ map (λ (r : Row). ident_of r.key) rs → (place_from k w rs ≡ Label) ⊎ (find w ≡ ident_of w)
unfolding place_from when◌then◌else◌
place-fine find w k [] e = inl refl
place-fine find w k (r ∷ rs) e = go (same w r.key) refl (place-fine find w (k + 1) rs (cc))
  where
    go : (t : Bool) → same w r.key ≡ t → (place_from (k + 1) w rs ≡ Label) ⊎ (find w ≡ ident_of w) → ((when t then Reserved k else place_from (k + 1) w rs) ≡ Label) ⊎ (find w ≡ ident_of w)
    go true q f =
        let p : find r.key ≡ ident_of r.key = cc in
        inr (rw (same_true w r.key q) p)
    go false q f = f

pub searched-right : (w : List ℕ) → searched w ≡ ident_of w
unfolding ident_of
searched-right w =
    ⊎_elim
    (λ l. ⊎_elim (λ n. n ∙ sym l) (λ e. e) (searched-fine w))
    (λ e. e)
    (place-fine searched w 0 instructions each-key)

first-upper : (s : List ℕ) → 2 ≤ length s → get_or (map upper s) 0 0 ≡ upper (get_or s 0 0)
first-upper [] h = absurd (omega arith)
first-upper (x ∷ s) h = refl

-- the ways through the search
module _ (s : List ℕ) where
  pub ident-short : length s < 2 → Label ≡ ident_of (map upper s)
  unfolding searched when◌then◌else◌
  ident-short h = sym (rw (length-map s upper, lt-ltb _ _ h)) ∙ searched-right (map upper s)

  pub ident-long : 2 ≤ length s → 5 < length s → Label ≡ ident_of (map upper s)
  unfolding searched when◌then◌else◌
  ident-long l h = sym (rw (length-map s upper, le-ltb _ _ l, lt-ltb _ _ h)) ∙ searched-right (map upper s)

  module _ {c : ℕ} (e : c ≡ upper (get_or s 0 0)) (l : 2 ≤ length s) (h : length s ≤ 5) where
    pub ident-low : c < 65 → Label ≡ ident_of (map upper s)
    unfolding searched when◌then◌else◌
    ident-low k = sym (rw (length-map s upper, le-ltb _ _ l, le-ltb _ _ h, first-upper s l, ← e, lt-ltb _ _ k)) ∙ searched-right (map upper s)

    pub ident-high : 65 ≤ c → 90 < c → Label ≡ ident_of (map upper s)
    unfolding searched when◌then◌else◌
    ident-high k m = sym (rw (length-map s upper, le-ltb _ _ l, le-ltb _ _ h, first-upper s l, ← e, le-ltb _ _ k, lt-ltb _ _ m)) ∙ searched-right (map upper s)

    pub ident-found : {r : Ident} {a b : ℕ} → 65 ≤ c → c ≤ 90 → a ≡ first_row c → b ≡ first_row (c + 1) → r ≡ find_in (b - a) a (map upper s) → r ≡ ident_of (map upper s)
    unfolding searched when◌then◌else◌
    ident-found k m p q f = f ∙ rw (p, q) (sym (rw (length-map s upper, le-ltb _ _ l, le-ltb _ _ h, first-upper s l, ← e, le-ltb _ _ k, le-ltb _ _ m))) ∙ searched-right (map upper s)
