-- What the contracts of this crate give: 29 exactly outside the field, and two answers that a contract allows are equal. Assumes nothing.
use Rattle.std.proofs.Common.{◌≡◌, ℕ, true, false, sym, refl, ◌∙◌}
use Rattle.rules.specs.Base.{when◌then◌else◌, nowhere}
use Rattle.rules.specs.Words as R
use Rattle.rules.specs.Words.{Range, fits, offset, reach}
use Rattle.rules.proofs.Bools.{never}
use Rattle.isa_fields.specs.Fields.{encoded, meant_offset}
use Rattle.std.specs.declared.option.Option as O
use Rattle.std.specs.declared.result.Result.{Result}
use Rattle.isa_fields.specs.declared.OffsetNewErr.{OffsetNewErr}
use Rattle.std.specs.declared.result.Result.TheVariants.{Ok, Err}
use Rattle.isa_fields.specs.declared.OffsetNewErr.TheVariants.{CannotFitSigned}

-- two answers are equal where they mean the same
offset-once : (r s : Result ℕ OffsetNewErr) → meant_offset r ≡ meant_offset s → r ≡ s
offset-once (Ok a) (Ok b) e = cc
offset-once (Ok a) (Err CannotFitSigned) e = never cc
offset-once (Err CannotFitSigned) (Ok b) e = never cc
offset-once (Err CannotFitSigned) (Err CannotFitSigned) e = refl

-- `replace_pc_offset9`, `replace_pc_offset11`: 29 exactly where the offset lies outside the field, and else the offset itself
pub refused-outside : (f : Range) (label pc : ℕ) (r : Result ℕ OffsetNewErr) → meant_offset r ≡ reach f label pc nowhere → fits f (offset label pc) ≡ false → r ≡ (Err CannotFitSigned)
unfolding reach when◌then◌else◌
refused-outside f label pc r e o = offset-once r (Err CannotFitSigned) (e ∙ rw o)

pub accepted-inside : (f : Range) (label pc : ℕ) (r : Result ℕ OffsetNewErr) → meant_offset r ≡ reach f label pc nowhere → fits f (offset label pc) ≡ true → r ≡ Ok (offset label pc)
unfolding reach when◌then◌else◌
accepted-inside f label pc r e o = offset-once r (Ok (offset label pc)) (e ∙ rw o)

-- two answers that a contract allows are equal: `replace_pc_offset9`, `replace_pc_offset11`; `low5` to `low11`
pub offset-one-answer :
    (f : Range) (label pc : ℕ) (r s : Result ℕ OffsetNewErr) →
    meant_offset r ≡ reach f label pc nowhere → meant_offset s ≡ reach f label pc nowhere → r ≡ s
offset-one-answer f label pc r s p q = offset-once r s (p ∙ sym q)

pub value-one-answer : (f : Range) (d : ℕ) (r s : O.Option ℕ) → r ≡ encoded (R.bits (R.num f) (R.value d)) → s ≡ encoded (R.bits (R.num f) (R.value d)) → r ≡ s
value-one-answer f d r s p q = p ∙ sym q
