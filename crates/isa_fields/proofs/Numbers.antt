-- Numbers of sixteen bits in a field, and a label's offset as sixteen bits: each test of the code and the rule's. Assumes nothing.
use Rattle.std.proofs.Common.{◌≡◌, ℕ, ◌+◌, ◌-◌, ◌%◌, ◌^◌, ◌<◌, ◌≤◌, true, cond, ltb, ℤ, pos, negsuc, ◌-ℤ◌, sym, ap, ◌∙◌, subst, mod-lt, arith, pow_pos, w32, SFits, to_z, of_z, ltb-false, ltb-true, le-ltb, lt-ltb}
use mir.ValLaws.{to_z_pos, to_z-of_z}
use Rattle.rules.specs.Base.{when◌then◌else◌, Outcome, ok, refuse, nowhere}
use Rattle.rules.specs.Words.{range, signed, fits, field, offset, reach, bits, num, value, Width}
use Rattle.rules.proofs.Fields.{by-test, halves, room, fits-above, fits_below, fits_not}
use Rattle.isa_fields.specs.Fields.{encoded, meant_offset, signed16, tested}
use Rattle.std.specs.declared.option.Option.TheVariants.{Some, None}
use Rattle.std.specs.declared.result.Result.TheVariants.{Ok, Err}
use Rattle.isa_fields.specs.declared.OffsetNewErr.TheVariants.{CannotFitSigned}

-- a number of sixteen bits
module _ (d l h m : ℕ) where
  taken : fits (range l h m) d ≡ true → Some (d % m) ≡ encoded (bits (num (range l h m)) (value d))
  unfolding bits field when◌then◌else◌
  taken e = rw e

  pub value-up : d ≤ h → Some (d % m) ≡ encoded (bits (num (range l h m)) (value d))
  value-up i = taken (fits-above (range l h m) d i)

  pub value-down : d < 65536 → 65535 - d < l → Some (d % m) ≡ encoded (bits (num (range l h m)) (value d))
  value-down f i = let k : 65536 - l ≤ d = omega arith in taken (fits_below (range l h m) d k f)

  pub value_out : d < 65536 → h < d → l ≤ 65535 - d → None ≡ encoded (bits (num (range l h m)) (value d))
  unfolding bits when◌then◌else◌
  value_out f i j = let k : d < 65536 - l = omega arith in rw (fits_not (range l h m) d i k)

-- the difference that wraps
pub wrapped : (r a b : ℕ) → r < 65536 → a < 65536 → b < 65536 → (r + b) % 65536 ≡ a → r ≡ offset a b
unfolding offset
wrapped r a b f g h e = omega arith

-- sixteen bits read as a signed number of 32
module _ (d : ℕ) (f : d < 65536) where
  pub small : d < 32768 → to_z w32 d ≡ signed16 d
  unfolding signed16
  small l = to_z_pos w32 d (omega arith) ∙ simp (lt-ltb d 32768 l)

  less : to_z w32 d -ℤ pos 65536 ≡ negsuc (65535 - d)
  less = ap (λ (z : ℤ). z -ℤ pos 65536) (to_z_pos w32 d (omega arith)) ∙ simp (lt-ltb d 65536 f) (ap negsuc (omega arith))

  pub less-fits : SFits w32 (to_z w32 d -ℤ pos 65536)
  less-fits = subst (SFits w32) (sym less) (record { sfits = omega arith })

  pub large : 32768 ≤ d → to_z w32 (of_z w32 (to_z w32 d -ℤ pos 65536)) ≡ signed16 d
  unfolding signed16
  large l = to_z-of_z w32 _ less-fits ∙ less ∙ simp (le-ltb d 32768 l)

-- the test on the signed number is the rule's, at every width
module _ (w : ℕ) (wide : Width w) where
  half : 2 ^ (w - 1) ≤ 32768
  half = omega (arith, halves w wide, room w wide)

  low_up : (d : ℕ) → d < 32768 → tested (negsuc (2 ^ (w - 1) - 1)) (pos (2 ^ (w - 1) - 1)) d ≡ cond (ltb (2 ^ (w - 1) - 1) d) (Err CannotFitSigned) (Ok d)
  unfolding tested signed16
  low_up d l = rw (lt-ltb d 32768 l)

  low-down : (d : ℕ) → 32768 ≤ d → tested (negsuc (2 ^ (w - 1) - 1)) (pos (2 ^ (w - 1) - 1)) d ≡ cond (ltb (2 ^ (w - 1) - 1) (65535 - d)) (Err CannotFitSigned) (Ok d)
  unfolding tested signed16
  low-down d l = rw (le-ltb d 32768 l)

  ruled : ℕ → Outcome ℕ
  ruled d = when fits (signed w) d then ok d else refuse 29 nowhere

  same_test : (d : ℕ) → d < 65536 → meant_offset (tested (negsuc (2 ^ (w - 1) - 1)) (pos (2 ^ (w - 1) - 1)) d) ≡ ruled d
  unfolding when◌then◌else◌ ruled
  same_test d f =
      by-test (ltb d 32768)
      (λ t. let l = ltb-true _ _ t in
      by-test (ltb (2 ^ (w - 1) - 1) d)
      (λ s. let o = ltb-true _ _ s in
      let k : d < 65536 - 2 ^ (w - 1) = omega (arith, half) in
      rw (low_up d l, s, fits_not (signed w) d o k))
      (λ s. rw (low_up d l, s, fits-above (signed w) d (ltb-false _ _ s))))
      (λ t. let l = ltb-false _ _ t in
      by-test (ltb (2 ^ (w - 1) - 1) (65535 - d))
      (λ s. let o : 2 ^ (w - 1) - 1 < 65535 - d = ltb-true _ _ s in
      let j : 2 ^ (w - 1) - 1 < d = omega (arith, half) in
      let k : d < 65536 - 2 ^ (w - 1) = omega (arith, half) in
      rw (low-down d l, s, fits_not (signed w) d j k))
      (λ s. let o : 65535 - d ≤ 2 ^ (w - 1) - 1 = ltb-false _ _ s in
      let k : 65536 - 2 ^ (w - 1) ≤ d = omega (arith, half, pow_pos (w - 1)) in
      rw (low-down d l, s, fits_below (signed w) d k f)))

  pub reached : (label pc : ℕ) → meant_offset (tested (negsuc (2 ^ (w - 1) - 1)) (pos (2 ^ (w - 1) - 1)) (offset label pc)) ≡ reach (signed w) label pc nowhere
  unfolding reach offset ruled
  reached label pc = same_test _ (mod-lt _ (omega arith))
