-- `pass1::step_labelled` meets its contract. Assumes nothing.
use Rattle.std.proofs.Common.{rules, ◌≡◌, ◌∙◌, sym, Err}
use Rattle.pass1.proofs.Steps.{step-held, step_went, step-refused}
use Rattle.pass1.proofs.step_labelled.Goals as goal

pub step_on-requires : goal.step_on-requires
step_on-requires c = (step-held _ _ _ _ c.requires.0 _ _ _ c.define_labels.ensures _ c.in_ok-next.was, search rules)

pub returns : goal.returns
returns c = step_went _ _ _ _ c.requires.0 _ _ _ _ c.define_labels.ensures _ c.in_ok-next.was _ _ _ c.step_on.ensures

pub returns-in_err-next : goal.returns-in_err-next
returns-in_err-next c =
    let e : c.from_residual.result ≡ Err c.in_err-next.field-0.0 = search rules in
    let z : c.define_labels.result ≡ c.from_residual.result = c.in_err-next.was ∙ sym e in
    rw z at (step-refused _ _ _ _ c.requires.0 c.args.st c.args.at _ _ c.define_labels.ensures _ c.in_err-next.was)
