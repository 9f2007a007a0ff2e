-- `view_word::label_cell` meets its contract. Assumes nothing.
use Rattle.std.proofs.Common.{◌+◌, ◌*◌, arith}
use Rattle.view_word.proofs.Rows.{past}
use Rattle.view_word.proofs.label_cell.Goals as goal

pub returns-then-labels-k : goal.returns-then-labels-k
returns-then-labels-k c = past c.args.labels.now (c.args.k * 4 + c.args.i) (omega arith)

pub returns : goal.returns
returns c = past c.args.labels.now (c.args.k * 4 + c.args.i) (omega arith)
