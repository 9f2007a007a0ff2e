-- `stored_write_blocks::run_ahead` meets its contract. Assumes nothing.
use borrow.Author.Rules.{rules}
use Rattle.stored_write_blocks.proofs.Ahead.{ahead-unset, ahead_set}
use Rattle.stored_write_blocks.proofs.run_ahead.Goals as goal

pub returns-then-mark-eq-UNSET : goal.returns-then-mark-eq-UNSET
returns-then-mark-eq-UNSET c = search (rules, ahead-unset)

pub returns : goal.returns
returns c = search (rules, ahead_set)
