-- `link_decide::decide` meets its contract. Assumes nothing.
use mathlib.Core.Path.{◌∙◌}
use Rattle.std.specs.declared.result.Result.TheVariants.{Err}
use Rattle.link_decide.proofs.Ready.{judge-ready}
use Rattle.link_decide.proofs.Deciding.{first-valid, second-valid, decided-short, decided-bad, decided-judged}
use Rattle.link_decide.proofs.decide.Goals as goal

pub judge-requires : goal.judge-requires
judge-requires c =
    judge-ready _ _ _ _ _ _
    (first-valid _ _ _ _ _ _ _ _ c.check_object-checked1.ensures c.check_object-checked2.ensures c.both_checked.ensures c.in-Ok.is)
    (second-valid _ _ _ _ _ _ _ _ c.check_object-checked1.ensures c.check_object-checked2.ensures c.both_checked.ensures c.in-Ok.is)
    c.requires.0 c.requires.1

pub returns-in-Err-ShortBuffer : goal.returns-in-Err-ShortBuffer
returns-in-Err-ShortBuffer c = decided-short _ _ _ _ _ _ _ _ c.check_object-checked1.ensures c.check_object-checked2.ensures c.both_checked.ensures _ _ _ _ (c.in-Err-ShortBuffer.is ∙ (λ i. Err (c.in-Err-ShortBuffer.field-0-is i))) c.placeless.ensures

pub returns-in-Err-BadObject : goal.returns-in-Err-BadObject
returns-in-Err-BadObject c = decided-bad _ _ _ _ _ _ _ _ c.check_object-checked1.ensures c.check_object-checked2.ensures c.both_checked.ensures _ _ _ _ (c.in-Err-BadObject.is ∙ (λ i. Err (c.in-Err-BadObject.field-0-is i))) c.placeless-in-Err-BadObject.ensures

pub returns-in-Ok : goal.returns-in-Ok
returns-in-Ok c = decided-judged _ _ _ _ _ _ _ _ c.check_object-checked1.ensures c.check_object-checked2.ensures c.both_checked.ensures c.in-Ok.is _ _ _ _ c.judge.ensures
