-- The fields of a word, once over the width w, from 1 to 16: what fits, its bits, and the bits read back. Assumes nothing.
use Prim.Native.Nat.{ℕ, zero, suc, ◌+◌, ◌-◌, ◌*◌, ◌%◌, ◌^◌, ◌≤◌, ◌<◌, zero-le}
use native.Mathlib.Nat.{mod-lt, mod-eq_of_lt, add-mul-mod_self_right, mod_self, zero-mod, sub-zero, two-pow-succ}
use native.Mathlib.Omega.{arith}
use mathlib.Core.Bool.{Bool, true, false, ◌||◌, ◌&&◌}
use mathlib.Core.Logic.{◌⊎◌, inl, inr, ⊎_elim}
use mathlib.Core.Option.{some}
use mathlib.Core.Path.{◌≡◌, refl, ap, sym, ◌∙◌}
use lib.Dec.{leb, ltb}
use lib.Pow.{pow_pos, high_ones, pow_mono}
use borrow.Author.Tests.{lt-ltb, le-ltb, le-leb, lt-leb, leb-true, ltb-true, ltb-false}
use Rattle.rules.specs.Base.{when◌then◌else◌}
use Rattle.rules.specs.Tokens.{Num, plus, minus}
use Rattle.rules.specs.Statements.{in_range, reduced}
use Rattle.rules.specs.Words.{Range, signed, unsigned, num, offset, fits, field, extend, value, bits, Width}
use Rattle.rules.proofs.Bools.{and_left, and_right}

-- a test with its answer
pub by-test : {A : Type 0} (t : Bool) → (t ≡ true → A) → (t ≡ false → A) → A
by-test true f g = f refl
by-test false f g = g refl

or-true : (a b : Bool) → (a || b) ≡ true → (a ≡ true) ⊎ (b ≡ true)
or-true true b e = inl refl
or-true false b e = inr e

or_right : (a b : Bool) → b ≡ true → (a || b) ≡ true
or_right true b e = refl
or_right false b e = e

-- what fits a range: at most high, or at most low below zero
pub fits-cases : (r : Range) (d : ℕ) → fits r d ≡ true → (d ≤ r.high) ⊎ ((65536 - r.low ≤ d) × (d < 65536))
unfolding fits
fits-cases r d e =
    ⊎_elim
    (λ a. inl (leb-true _ _ a))
    (λ b. inr (leb-true _ _ (and_left _ _ b), ltb-true _ _ (and_right (leb (65536 - r.low) d) _ b)))
    (or-true (leb d r.high) (leb (65536 - r.low) d && ltb d 65536) e)

pub fits-above : (r : Range) (d : ℕ) → d ≤ r.high → fits r d ≡ true
unfolding fits
fits-above r d h = rw (le-leb d r.high h)

pub fits_below : (r : Range) (d : ℕ) → 65536 - r.low ≤ d → d < 65536 → fits r d ≡ true
unfolding fits
fits_below r d h l = rw (le-leb _ _ h, lt-ltb d 65536 l) (or_right (leb d r.high) true refl)

pub fits_not : (r : Range) (d : ℕ) → r.high < d → d < 65536 - r.low → fits r d ≡ false
unfolding fits
fits_not r d h l = rw (lt-leb d r.high h, lt-leb (65536 - r.low) d l)

module _ (w : ℕ) (ok : Width w) where
  -- a field's numbers are two halves
  pub halves : 2 ^ (w - 1) + 2 ^ (w - 1) ≡ 2 ^ w
  halves = sym (two-pow-succ (w - 1)) ∙ ap (λ (k : ℕ). 2 ^ k) (omega arith)

  -- sixteen bits hold a field's numbers a whole number of times
  pub times : 65536 - 2 ^ w ≡ (2 ^ (16 - w) - 1) * 2 ^ w
  times = let e : 16 ≡ 16 - w + w = omega arith in ap (λ (k : ℕ). 2 ^ k - 2 ^ w) e ∙ high_ones (16 - w) w

  pub room : 2 ^ w ≤ 65536
  room = pow_mono ok.most

  -- the encoded value is below 2 ^ w
  pub field_below : (d : ℕ) → field (signed w) d < 2 ^ w
  unfolding field
  field_below d = mod-lt d (pow_pos w)

  pub high_bits : (b : ℕ) → b < 2 ^ w → (b + (65536 - 2 ^ w)) % 2 ^ w ≡ b
  high_bits b l = ap (λ (k : ℕ). (b + k) % 2 ^ w) times ∙ add-mul-mod_self_right b (2 ^ (16 - w) - 1) (2 ^ w) ∙ mod-eq_of_lt l

  extend-low : (b : ℕ) → b < 2 ^ (w - 1) → extend w b ≡ b
  unfolding extend when◌then◌else◌
  extend-low b l = rw (lt-ltb b (2 ^ (w - 1)) l)

  extend-high : (b : ℕ) → 2 ^ (w - 1) ≤ b → extend w b ≡ b + (65536 - 2 ^ w)
  unfolding extend when◌then◌else◌
  extend-high b l = rw (le-ltb b (2 ^ (w - 1)) l)

  -- encoding undoes decoding
  pub field-extend : (b : ℕ) → b < 2 ^ w → field (signed w) (extend w b) ≡ b
  unfolding field
  field-extend b l =
      by-test (ltb b (2 ^ (w - 1)))
      (λ t. ap (field (signed w)) (extend-low b (ltb-true _ _ t)) ∙ mod-eq_of_lt l)
      (λ t. ap (field (signed w)) (extend-high b (ltb-false _ _ t)) ∙ high_bits b l)

  -- decoding undoes encoding
  pub extend-field : (d : ℕ) → fits (signed w) d ≡ true → extend w (field (signed w) d) ≡ d
  unfolding field
  extend-field d e = ⊎_elim up down (fits-cases (signed w) d e) where
    up : d ≤ 2 ^ (w - 1) - 1 → extend w (d % 2 ^ w) ≡ d
    up h = let p = pow_pos (w - 1) in
        ap (extend w) (mod-eq_of_lt (omega (arith, halves))) ∙ extend-low d (omega arith)

    down : (65536 - 2 ^ (w - 1) ≤ d) × (d < 65536) → extend w (d % 2 ^ w) ≡ d
    down h =
        let b : ℕ = d - (65536 - 2 ^ w) in
        let s : d ≡ b + (65536 - 2 ^ w) = omega (arith, halves, room) in
        let l : b < 2 ^ w = omega (arith, halves, room) in
        let e : d % 2 ^ w ≡ b = ap (λ (k : ℕ). k % 2 ^ w) s ∙ high_bits b l in
        ap (extend w) e ∙ extend-high b (omega (arith, halves, room)) ∙ sym s

  -- what is read back fits, and is sixteen bits
  pub extend_fits : (b : ℕ) → b < 2 ^ w → fits (signed w) (extend w b) ≡ true
  extend_fits b l =
      by-test (ltb b (2 ^ (w - 1)))
      (λ t. let h = ltb-true _ _ t in rw (extend-low b h) (fits-above (signed w) b (omega arith)))
      (λ t. let h = ltb-false _ _ t in rw (extend-high b h) (fits_below (signed w) (b + (65536 - 2 ^ w)) (omega (arith, halves, room)) (omega (arith, room))))

  pub extend-below : (b : ℕ) → b < 2 ^ w → extend w b < 65536
  extend-below b l =
      by-test (ltb b (2 ^ (w - 1)))
      (λ t. let h = ltb-true _ _ t in rw (extend-low b h) (omega (arith, room)))
      (λ t. let h = ltb-false _ _ t in rw (extend-high b h) (omega (arith, room)))

  -- an unsigned field's bits are the number itself
  pub below-unsigned : (d : ℕ) → fits (unsigned w) d ≡ true → d < 2 ^ w
  below-unsigned d e = ⊎_elim (λ h. omega (arith, pow_pos w)) (λ h. absurd (omega arith)) (fits-cases (unsigned w) d e)

  pub field-unsigned : (d : ℕ) → fits (unsigned w) d ≡ true → field (unsigned w) d ≡ d
  unfolding field
  field-unsigned d e = mod-eq_of_lt (below-unsigned d e)

-- from the address after the instruction, a label's offset leads to the label
pub offset-leads : (label next : ℕ) → label < 65536 → next < 65536 → (next + offset label next) % 65536 ≡ label
unfolding offset
offset-leads label next l n = omega arith

-- a whole number that is read, modulo 65536
pub sixteen : Num → ℕ
sixteen (plus n) = n
sixteen (minus n) = (65536 - n) % 65536

-- the ranges of a width, signed or unsigned
pub record OfWidth (w : ℕ) (r : Range) : Type 0 where
  pub below : r.low ≤ 2 ^ w
  pub above : r.high < 2 ^ w
  pub whole : r.modulus ≡ 2 ^ w

module _ (w : ℕ) (ok : Width w) where
  pub of-signed : OfWidth w (signed w)
  of-signed = record { below = omega (arith, halves w ok); above = omega (arith, halves w ok, pow_pos (w - 1)); whole = refl }

  pub of-unsigned : OfWidth w (unsigned w)
  of-unsigned = record { below = zero-le; above = omega (arith, pow_pos w); whole = refl }

  module _ (r : Range) (k : OfWidth w r) where
    -- below zero: modulo 2 ^ w and modulo 65536 give the same bits
    minus-same : (n : ℕ) → suc n ≤ 2 ^ w → (2 ^ w - suc n) % 2 ^ w ≡ (65536 - suc n) % 65536 % 2 ^ w
    minus-same n l =
        let m : 65536 - suc n ≡ 2 ^ w - suc n + (65536 - 2 ^ w) = omega (arith, room w ok) in
        let b : 2 ^ w - suc n < 2 ^ w = omega arith in
        mod-eq_of_lt b ∙ sym (ap (λ (x : ℕ). x % 2 ^ w) (mod-eq_of_lt (omega arith) ∙ m) ∙ high_bits w ok (2 ^ w - suc n) b)

    -- a number in the range: the reader's bits are the field of the number, and the number fits
    pub number-field : (n : Num) → in_range r n ≡ true → reduced r n ≡ field r (sixteen n)
    unfolding in_range reduced field sixteen
    number-field (plus n) e = let h = leb-true n r.high e in rw k.whole (sym (mod-eq_of_lt (omega (arith, k.above))))
    number-field (minus zero) e = rw k.whole (ap (λ (x : ℕ). x % 2 ^ w) (sub-zero (2 ^ w)) ∙ mod_self (2 ^ w) ∙ sym (zero-mod (2 ^ w)))
    number-field (minus (suc n)) e = let h = leb-true (suc n) r.low e in rw k.whole (minus-same n (omega (arith, k.below)))

    pub number_fits : (n : Num) → in_range r n ≡ true → fits r (sixteen n) ≡ true
    unfolding in_range sixteen
    number_fits (plus n) e = fits-above r n (leb-true n r.high e)
    number_fits (minus zero) e = fits-above r 0 zero-le
    number_fits (minus (suc n)) e =
        let h = leb-true (suc n) r.low e in
        let m : (65536 - suc n) % 65536 ≡ 65536 - suc n = mod-eq_of_lt (omega arith) in
        let l : 65536 - r.low ≤ 65536 - suc n = omega arith in
        rw m (fits_below r (65536 - suc n) l (omega arith))

    -- so a number that is read adds to its statement's word what it adds to the instruction's
    pub read-bits : (n : Num) → in_range r n ≡ true → bits (num r) (value (sixteen n)) ≡ some (reduced r n)
    unfolding bits when◌then◌else◌
    read-bits n e = rw (number_fits n e, number-field n e)
