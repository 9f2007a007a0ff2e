-- `parse::row_read` meets its contract. Assumes nothing.
use Rattle.std.proofs.Common.{rules, ◌≡◌, Err}
use Rattle.parse.proofs.Reading.{code-took, code-refused}
use Rattle.parse.proofs.row_read.Goals as goal

pub returns : goal.returns
returns c = search (rules, code-took)

pub returns-in_err-g : goal.returns-in_err-g
returns-in_err-g c =
    let e : c.from_residual.result ≡ Err c.in_err-g.field-0.0 = search rules in
    code-refused _ _ _ _ _ _ _ _ c.row_at-full.ensures _ c.operands_due.ensures _ c.operands_from.ensures _ _ c.in_err-g.was e
