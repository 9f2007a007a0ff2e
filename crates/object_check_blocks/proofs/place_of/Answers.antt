-- `object_check_blocks::place_of` meets its contract. Assumes nothing.
use Rattle.object_check_blocks.proofs.Seeking.{seeking-hit, seeking-before}
use borrow.Author.Rules.{rules}
use Rattle.object_check_blocks.proofs.place_of.Goals as goal

pub returns-then-x-start : goal.returns-then-x-start
returns-then-x-start c = search (rules, seeking-before)

pub returns-then-d-size : goal.returns-then-d-size
returns-then-d-size c = search (rules, seeking-hit)
