-- `view_word::relocation_cell` meets its contract. Assumes nothing.
use Rattle.std.proofs.Common.{◌+◌, ◌*◌, arith}
use Rattle.view_word.proofs.Rows.{past}
use Rattle.view_word.proofs.relocation_cell.Goals as goal

pub returns-then-relocations-k : goal.returns-then-relocations-k
returns-then-relocations-k c = past c.args.relocations.now (c.args.k * 2 + c.args.i) (omega arith)

pub returns : goal.returns
returns c = past c.args.relocations.now (c.args.k * 2 + c.args.i) (omega arith)
