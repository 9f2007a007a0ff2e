-- Two answers that a call's contract allows are equal. Assumes nothing.
use mathlib.Core.Path.{◌≡◌, sym, ◌∙◌}
use mathlib.Core.Bool.{Bool}
use Rattle.rules.specs.Base.{Outcome}
use Rattle.rules.specs.Calls.{Answered, too_short, bad_object, on_object}
use Rattle.rules.proofs.Bools.{never}

pub answered-once : {A : Type 0} {small : Bool} {valid : Type 0} {rule r s : Outcome A} → Answered small valid rule r → Answered small valid rule s → r ≡ s
answered-once (too_short p e) (too_short q f) = e ∙ sym f
answered-once (too_short p e) (bad_object q n f) = never cc
answered-once (too_short p e) (on_object q v f) = never cc
answered-once (bad_object p n e) (too_short q f) = never cc
answered-once (bad_object p n e) (bad_object q m f) = e ∙ sym f
answered-once (bad_object p n e) (on_object q v f) = absurd (n v)
answered-once (on_object p v e) (too_short q f) = never cc
answered-once (on_object p v e) (bad_object q n f) = absurd (n v)
answered-once (on_object p v e) (on_object q w f) = e ∙ sym f
