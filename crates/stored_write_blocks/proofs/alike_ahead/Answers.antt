-- `stored_write_blocks::alike_ahead` meets its contract. Assumes nothing.
use borrow.Author.Rules.{rules}
use Rattle.stored_write_blocks.proofs.Ahead.{passed-step}
use Rattle.stored_write_blocks.proofs.alike_ahead.Goals as goal

pub loop-i-preserved : goal.loop-i-preserved
loop-i-preserved c = search (rules, passed-step)
