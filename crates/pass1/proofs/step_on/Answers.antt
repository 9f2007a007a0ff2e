-- `pass1::step_on` meets its contract. Assumes nothing.
use Rattle.std.proofs.Common.{rules, ◌≡◌, ◌∙◌, sym, Err}
use Rattle.pass1.proofs.Steps.{on-steady, on-went, on-refused}
use Rattle.pass1.proofs.step_on.Goals as goal

pub shift-requires : goal.shift-requires
shift-requires c = (on-steady _ _ _ _ _ c.requires.1 _ _ _ c.direct.ensures _ c.in_ok-next.was, c.word_len-size.ensures.0)

pub returns : goal.returns
returns c = on-went _ _ _ _ _ c.requires.1 _ _ _ c.direct.ensures _ c.in_ok-next.was _ c.word_len-size.ensures.1 _ c.shift.ensures

pub returns-in_err-next : goal.returns-in_err-next
returns-in_err-next c =
    let e : c.from_residual.result ≡ Err c.in_err-next.field-0.0 = search rules in
    let z : c.direct.result ≡ c.from_residual.result = c.in_err-next.was ∙ sym e in
    rw z at (on-refused _ _ _ _ _ c.requires.1 _ _ _ c.direct.ensures _ c.in_err-next.was)
