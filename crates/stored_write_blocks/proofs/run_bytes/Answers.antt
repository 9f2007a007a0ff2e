-- `stored_write_blocks::run_bytes` meets its contract. Assumes nothing.
use borrow.Author.Rules.{rules}
use Rattle.stored_write_blocks.proofs.Runs.{sized-unset, sized_set}
use Rattle.stored_write_blocks.proofs.run_bytes.Goals as goal

pub returns-then-mark-eq-UNSET : goal.returns-then-mark-eq-UNSET
returns-then-mark-eq-UNSET c = search (rules, sized-unset)

pub returns : goal.returns
returns c = search (rules, sized_set)
