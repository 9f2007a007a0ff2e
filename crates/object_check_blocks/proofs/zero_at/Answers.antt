-- `object_check_blocks::zero_at` meets its contract. Assumes nothing.
use Rattle.object_check_blocks.proofs.Seeking.{place-words, place-marks, zero_held, zero-nowhere}
use borrow.Author.Rules.{rules}
use Rattle.object_check_blocks.proofs.zero_at.Goals as goal

pub zero_cell-requires : goal.zero_cell-requires
zero_cell-requires c = (search (rules, place-words), search (rules, place-marks))

pub returns-in-Some : goal.returns-in-Some
returns-in-Some c = search (rules, zero_held)

pub returns-in-None : goal.returns-in-None
returns-in-None c = search (rules, zero-nowhere)
