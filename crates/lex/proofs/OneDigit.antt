-- R and one digit: the tests for it, and what the rule says of it. Assumes nothing.
use Prim.Native.Nat.{ℕ, ◌+◌, ◌-◌, ◌<◌, ◌≤◌}
use mathlib.Core.Path.{◌≡◌, refl, sym}
use mathlib.Core.Bool.{Bool, true, false, ◌||◌}
use mathlib.Core.List.{List, [], ◌∷◌}
use native.Mathlib.Omega.{arith}
use borrow.Author.Tests.{le-leb, lt-leb, le-ltb, lt-ltb, ltb-false}
use lib.Dec.{leb, ltb}
use lib.ListN.{get_or}
use Rattle.rules.specs.Base.{when◌then◌else◌}
use Rattle.rules.specs.Tokens.{match, token, register, digit, letter, wordy, value, while, begins, reg, digits, read, number_after, after_r}
use Rattle.rules.proofs.While.{yes-cons, no-cons}
use Rattle.rules.proofs.Bytes.{value-digit}
use Rattle.rules.proofs.Sizes.{digit-wordy}
use Rattle.lex.specs.Ways.{short_register}

-- A REGISTER OF ONE DIGIT c, before d
pub record Short (c d n : ℕ) : Type 0 where
  pub low : 48 ≤ c
  pub high : c ≤ 55
  pub alone : wordy d ≡ false
  pub is : n ≡ c - 48

-- the tests for it
module _ (s : List ℕ) (i : ℕ) {c : ℕ} (p : c ≡ get_or s i 0) where
  pub short-low : c < 48 → 8 ≡ short_register s i
  unfolding short_register when◌then◌else◌
  short-low h = sym (rw (← p, lt-ltb c 48 h))

  module _ (l : 48 ≤ c) where
    pub short-high : 55 < c → 8 ≡ short_register s i
    unfolding short_register when◌then◌else◌
    short-high h = sym (rw (← p, le-ltb c 48 l, lt-ltb 55 c h))

    module _ (h : c ≤ 55) {d : ℕ} {t : Bool} (q : d ≡ get_or s (i + 1) 0) (w : t ≡ wordy d) where
      pub short-word : t ≡ true → 8 ≡ short_register s i
      unfolding short_register when◌then◌else◌
      short-word y = sym (rw (← p, le-ltb c 48 l, le-ltb 55 c h, ← q, ← w, y))

      pub short-digit : t ≡ false → c - 48 ≡ short_register s i
      unfolding short_register when◌then◌else◌
      short-digit y = sym (rw (← p, le-ltb c 48 l, le-ltb 55 c h, ← q, ← w, y))

-- a number below 8 is that of one
pub short-is : (s : List ℕ) (i n : ℕ) → n ≡ short_register s i → n < 8 → Short (get_or s i 0) (get_or s (i + 1) 0) n
unfolding short_register when◌then◌else◌
short-is s i n p h = go (ltb c 48) refl (ltb 55 c) refl (wordy d) refl p
  where
    c : ℕ
    c = get_or s i 0

    d : ℕ
    d = get_or s (i + 1) 0

    go : (x : Bool) → ltb c 48 ≡ x → (y : Bool) → ltb 55 c ≡ y → (z : Bool) → wordy d ≡ z → n ≡ (when x then 8 else when y then 8 else when z then 8 else c - 48) → Short c d n
    go true a y b z w e = absurd (omega arith)
    go false a true b z w e = absurd (omega arith)
    go false a false b true w e = absurd (omega arith)
    go false a false b false w e = record { low = ltb-false c 48 a; high = ltb-false 55 c b; alone = w; is = e }

-- WHAT THE RULE SAYS
while-nil : (p : ℕ → Bool) (l : List ℕ) → begins p l ≡ false → while p l ≡ []
unfolding begins while
while-nil p [] h = refl
while-nil p (c ∷ l) h = no-cons p c l h

begins-with : (p : ℕ → Bool) (c : ℕ) (l : List ℕ) → p c ≡ true → begins p (c ∷ l) ≡ true
unfolding begins
begins-with p c l e = e

digit-short : (c : ℕ) → 48 ≤ c → c ≤ 55 → digit c ≡ true
unfolding digit
digit-short c a b = let h : c ≤ 57 = omega arith in rw (le-leb 48 c a, le-leb c 57 h)

pub no_digit : (c : ℕ) → wordy c ≡ false → digit c ≡ false
unfolding wordy
no_digit c e = go (digit c) (letter c) e
  where
    go : (x y : Bool) → (x || y) ≡ false → x ≡ false
    go true y e = e
    go false y e = refl

short-read : (c : ℕ) → 48 ≤ c → c ≤ 55 → read reg (c ∷ []) ≡ token (register (c - 48))
unfolding reg read digits when◌then◌else◌
short-read c a b =
    let v : value c ≡ c - 48 = sym (value-digit c a (omega arith)) in
    let x : leb 10 (c - 48) ≡ false = lt-leb 10 (c - 48) (omega arith) in
    let y : ltb 7 (c - 48) ≡ false = le-ltb 7 (c - 48) (omega arith) in
    let z : 0 + (c - 48) ≡ c - 48 = omega arith in
    rw (v, x, z, y)

pub short-after : (r c : ℕ) (l : List ℕ) → 48 ≤ c → c ≤ 55 → begins wordy l ≡ false → begins digit l ≡ false → after_r r (c ∷ l) ≡ match (token (register (c - 48))) 2
unfolding after_r number_after when◌then◌else◌
short-after r c l a b w d =
    let g : digit c ≡ true = digit-short c a b in
    let f : begins digit (c ∷ l) ≡ true = begins-with digit c l g in
    rw (f, yes-cons digit c l g, while-nil digit l d, w, yes-cons wordy c l (digit-wordy c g), while-nil wordy l w, short-read c a b)
