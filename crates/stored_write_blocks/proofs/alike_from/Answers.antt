-- `stored_write_blocks::alike_from` meets its contract. Assumes nothing.
use borrow.Author.Rules.{rules}
use Rattle.stored_write_blocks.proofs.Ahead.{passed-more, passed-stop, passed-all}
use Rattle.stored_write_blocks.proofs.alike_from.Goals as goal

pub loop-i-preserved : goal.loop-i-preserved
loop-i-preserved c = search (rules, passed-more)

pub returns-then-marks-i : goal.returns-then-marks-i
returns-then-marks-i c = search (rules, passed-stop)

pub returns : goal.returns
returns c = search (rules, passed-all)
