-- The characters of a string, one more at each place: what is counted or written on the way along them. Assumes nothing.
use mathlib.Core.Path.{◌≡◌, refl, sym, ◌∙◌, ap}
use mathlib.Core.List.{List, [], ◌∷◌, ◌++◌}
use Prim.Native.Nat.{ℕ, zero, suc, ◌+◌, ◌-◌, ◌≤◌, ◌<◌}
use mathlib.Core.Bool.{Bool, true, false, ◌||◌, not}
use native.Mathlib.Omega.{arith}
use borrow.Author.Tests.{ltb-true, ltb-false}
use lib.Dec.{eqb, ltb}
use lib.ListN.{length, length-append, drop_of_length-le}
use Rattle.rules.specs.Base.{when◌then◌else◌}
use Rattle.rules.specs.Tokens.{while, escape, closed, quoted, line}
use Rattle.rules.proofs.Bools.{never}
use Rattle.base_text.specs.Runs.{plain, in_class, from, run_end}
use Rattle.base_text.specs.declared.Class.TheVariants.{Plain}
use Rattle.base_text.proofs.RunLaws.{end_ge}
use Rattle.lex_literals.specs.declared.StringChar.{StringChar}
use Rattle.lex_literals.specs.declared.StringChar.TheVariants.{Char, Done}
use Rattle.lex_literals.specs.Strings.{first_of, after_backslash, char_at}
use Rattle.lex_literals.proofs.StringRule.{Handed, char-handed, from-rest}
use Rattle.parse_meaning.specs.Reading.{chars_from, chars_at, plain_at}

-- the next character stands further on
abbrev Onward : ℕ → StringChar → Type 0
Onward i (Char c j) = i < j
Onward i Done = Unit {0}

first-onward : (i : ℕ) (l : List ℕ) → Onward i (first_of i l)
first-onward i [] = tt
first-onward i (x ∷ []) = omega arith
first-onward i (x ∷ y ∷ l) = omega arith

back-onward : (i : ℕ) (l : List ℕ) → Onward i (after_backslash i l)
unfolding after_backslash
back-onward i [] = omega arith
back-onward i (d ∷ l) = first-onward i (escape d)

char-onward : (i : ℕ) (l : List ℕ) → Onward i (char_at i l)
unfolding char_at when◌then◌else◌
char-onward i [] = tt
char-onward i (c ∷ l) = go (eqb c 34) (eqb c 92)
  where
    go : (q k : Bool) → Onward i (when q then Done else when k then after_backslash i l else Char c (i + 1))
    go true k = tt
    go false true = back-onward i l
    go false false = omega arith

module _ (s : List ℕ) where
  pub char-past : (i c j : ℕ) → char_at i (from s i) ≡ Char c j → i < j
  char-past i c j e = rw e at (char-onward i (from s i))

  done-past : (i : ℕ) → length s ≤ i → char_at i (from s i) ≡ Done
  unfolding char_at from
  done-past i h = rw (drop_of_length-le s h)

  -- a character stands inside the source
  pub char-inside : (i c j : ℕ) → char_at i (from s i) ≡ Char c j → i < length s
  char-inside i c j e = go (ltb i (length s)) refl
    where
      go : (b : Bool) → ltb i (length s) ≡ b → i < length s
      go true h = ltb-true _ _ h
      go false h = let d = done-past i (ltb-false _ _ h) in never cc

  -- the characters of a place whose first is known
  abbrev Then : (ℕ → List ℕ) → StringChar → List ℕ
  Then f (Char c j) = c ∷ f j
  Then f Done = []

  step-here : (k i : ℕ) → chars_from (suc k) s i ≡ Then (chars_from k s) (char_at i (from s i))
  unfolding chars_from
  step-here k i = go (char_at i (from s i))
    where
      go : (o : StringChar) → ◌≡◌ {A = List ℕ} (elim o [ Char c j ↦ c ∷ chars_from k s j | Done ↦ [] ]) (Then (chars_from k s) o)
      go (Char c j) = refl
      go Done = refl

  chars-step : (k i : ℕ) (o : StringChar) → char_at i (from s i) ≡ o → chars_from (suc k) s i ≡ Then (chars_from k s) o
  chars-step k i o e = step-here k i ∙ ap (Then (chars_from k s)) e

  none-at : (k i : ℕ) → char_at i (from s i) ≡ Done → chars_from k s i ≡ []
  unfolding chars_from
  none-at zero i h = refl
  none-at (suc k) i h = chars-step k i Done h

  -- whatever count is large enough
  same_count : (k l i : ℕ) → length s - i ≤ k → length s - i ≤ l → chars_from k s i ≡ chars_from l s i
  same_count zero l i a b = let h = done-past i (omega arith) in none-at zero i h ∙ sym (none-at l i h)
  same_count (suc k) zero i a b = let h = done-past i (omega arith) in none-at (suc k) i h ∙ sym (none-at zero i h)
  same_count (suc k) (suc l) i a b = chars-step k i _ refl ∙ (go (char_at i (from s i)) (char-onward i (from s i)) (same_count k l) ∙ sym (chars-step l i _ refl))
    where
      go : (o : StringChar) → Onward i o → ((j : ℕ) → length s - j ≤ k → length s - j ≤ l → chars_from k s j ≡ chars_from l s j) → Then (chars_from k s) o ≡ Then (chars_from l s) o
      go (Char c j) h r = ap (λ (t : List ℕ). c ∷ t) (r j (omega arith) (omega arith))
      go Done h r = refl

  -- ONE CHARACTER, THEN THE REST; OR NONE
  pub chars-on : (i c j : ℕ) → char_at i (from s i) ≡ Char c j → chars_at s i ≡ c ∷ chars_at s j
  unfolding chars_at
  chars-on i c j e =
      let h = char-past i c j e in
      let w = char-inside i c j e in
      let z : length s - i ≡ suc (length s - i - 1) = omega arith in
      rw z (chars-step (length s - i - 1) i (Char c j) e ∙ ap (λ (t : List ℕ). c ∷ t) (same_count (length s - i - 1) (length s - j) j (omega arith) (omega arith)))

  pub chars-done : (i : ℕ) → char_at i (from s i) ≡ Done → chars_at s i ≡ []
  unfolding chars_at
  chars-done i e = none-at (length s - i) i e

  -- each character takes a byte or more
  few : (k i : ℕ) → length (chars_from k s i) ≤ k
  unfolding chars_from
  few zero i = omega arith
  few (suc k) i = rw (step-here k i) (go (char_at i (from s i)) (few k))
    where
      go : (o : StringChar) → ((j : ℕ) → length (chars_from k s j) ≤ k) → length (Then (chars_from k s) o) ≤ suc k
      go (Char c j) r = omega (arith, r j)
      go Done r = omega arith

  pub chars-fit : (i : ℕ) → length (chars_at s i) ≤ length s - i
  unfolding chars_at
  chars-fit i = few (length s - i) i

-- A RUN OF PLAIN BYTES, each a character

plain-char : (i c : ℕ) (l : List ℕ) → plain c ≡ true → char_at i (c ∷ l) ≡ Char c (i + 1)
unfolding plain char_at when◌then◌else◌
plain-char i c l = go (eqb c 34) (eqb c 92) (eqb c 10) (eqb c 13)
  where
    go : (q b f r : Bool) → not (q || b || f || r) ≡ true → (when q then Done else when b then after_backslash i l else Char c (i + 1)) ≡ Char c (i + 1)
    go true b f r e = never cc
    go false true f r e = never cc
    go false false f r e = refl

no_bytes : (l : List ℕ) → length l ≡ 0 → l ≡ []
no_bytes [] e = refl
no_bytes (x ∷ l) e = absurd (omega arith)

module _ (s : List ℕ) where
  run-chars : (n i : ℕ) → length (plain_at s i) ≡ n → chars_at s i ≡ plain_at s i ++ chars_at s (i + n)
  unfolding plain_at while in_class
  run-chars zero i e = let z : i + 0 ≡ i = omega arith in rw (no_bytes (while (in_class Plain) (from s i)) e, z)
  run-chars (suc n) i e = by-list (from s i) refl e (run-chars n (i + 1))
    where
      by-list : (l : List ℕ) → from s i ≡ l → length (while (in_class Plain) l) ≡ suc n → (length (while (in_class Plain) (from s (i + 1))) ≡ n → chars_at s (i + 1) ≡ while (in_class Plain) (from s (i + 1)) ++ chars_at s (i + 1 + n)) → chars_at s i ≡ while (in_class Plain) l ++ chars_at s (i + suc n)
      by-list [] f e again = absurd (omega arith)
      by-list (c ∷ l) f e again = by_byte (plain c) refl e
        where
          by_byte : (b : Bool) → plain c ≡ b → length {A = ℕ} (elim b [ true ↦ c ∷ while (in_class Plain) l | false ↦ [] ]) ≡ suc n → chars_at s i ≡ (elim b [ true ↦ c ∷ while (in_class Plain) l | false ↦ [] ]) ++ chars_at s (i + suc n)
          by_byte true p e =
              let g : from s (i + 1) ≡ l = from-rest s i c l f in
              let z : i + 1 + n ≡ i + suc n = omega arith in
              chars-on s i c (i + 1) (ap (char_at i) f ∙ plain-char i c l p) ∙ ap (λ (t : List ℕ). c ∷ t) (again (rw g (omega arith)) ∙ rw (g, z))
          by_byte false p e = absurd (omega arith)

  module _ (i j : ℕ) (e : j ≡ run_end Plain s i) where
    pub run-size : j - i ≡ length (plain_at s i)
    unfolding run_end plain_at
    run-size = rw e (omega arith)

    pub run-after : i ≤ j
    run-after = rw e (end_ge Plain s i)

    pub chars-run : chars_at s i ≡ plain_at s i ++ chars_at s j
    chars-run = let z : i + length (plain_at s i) ≡ j = omega (arith, run-size, run-after) in run-chars (length (plain_at s i)) i refl ∙ rw z

-- COUNTED: so many of them stand before the place that is come to
pub record Counted (s : List ℕ) (at i n : ℕ) : Type 0 where
  pub same : length (chars_at s at) ≡ n + length (chars_at s i)

pub counted_start : (s : List ℕ) (at : ℕ) → Counted s at at 0
counted_start s at = record { same = omega arith }

module _ (s : List ℕ) (at : ℕ) {n i j : ℕ} (v : Counted s at i n) (e : j ≡ run_end Plain s i) where
  behind-run : length (chars_at s at) ≡ n + (j - i) + length (chars_at s j)
  behind-run = omega (arith, v.same, run-size s i j e, ap length (chars-run s i j e) ∙ length-append (plain_at s i) (chars_at s j))

  pub counted-run : n + (j - i) ≤ length s
  counted-run = omega (arith, behind-run, chars-fit s at)

  module _ {o : StringChar} (h : o ≡ char_at j (from s j)) where
    module _ {c k : ℕ} (q : o ≡ Char c k) where
      here : char_at j (from s j) ≡ Char c k
      here = sym h ∙ q

      one_more : length (chars_at s j) ≡ length (chars_at s k) + 1
      one_more = ap length (chars-on s j c k here) ∙ omega arith

      pub counted-fits : n + (j - i) + 1 ≤ length s
      counted-fits = omega (arith, behind-run, one_more, chars-fit s at)

      pub counted-less : length s - k < length s - i
      counted-less = omega (arith, run-after s i j e, char-past s j c k here, char-inside s j c k here)

      pub counted-more : Counted s at k (n + (j - i) + 1)
      counted-more = record { same = omega (arith, behind-run, one_more) }

    pub counted-all : o ≡ Done → n + (j - i) ≡ length (chars_at s at)
    counted-all q = omega (arith, behind-run, ap length (chars-done s j (sym h ∙ q)))

-- THE RULE'S: where a string stands that has an end, its characters are those
pub chars-closed : (s t : List ℕ) (at m : ℕ) → quoted false (line (from s at)) ≡ closed t m → chars_at s at ≡ t
chars-closed s [] at m e = chars-done s at (rw e at (char-handed s at))
chars-closed s (x ∷ t) at m e =
    let h : Handed s at (closed (x ∷ t) m) (char_at at (from s at)) = rw e at (char-handed s at) in
    chars-on s at x h.0 h.2 ∙ ap (λ (l : List ℕ). x ∷ l) (chars-closed s t h.0 h.1 h.4)
