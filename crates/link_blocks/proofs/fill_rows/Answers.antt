-- `link_blocks::fill_rows` lays the rows of two tables by start. Assumes nothing.
use Rattle.link_blocks.proofs.Filled.{rows_none, row-held, row_room, other_held, other-room, rows-first, rows-second, rows_all}
use borrow.Author.Rules.{rules}
use Rattle.link_blocks.proofs.fill_rows.Goals as goal

pub loop-i-init : goal.loop-i-init
loop-i-init c = search (rules, rows_none)

pub copy-requires : goal.copy-requires
copy-requires c = (search (rules, row-held), search (rules, row_room))

pub loop-i-preserved-then-first_next : goal.loop-i-preserved-then-first_next
loop-i-preserved-then-first_next c = search (rules, rows-first)

pub copy-requires-in-loop-i : goal.copy-requires-in-loop-i
copy-requires-in-loop-i c = (search (rules, other_held), search (rules, other-room))

pub loop-i-preserved : goal.loop-i-preserved
loop-i-preserved c = search (rules, rows-second)

pub returns : goal.returns
returns c = search (rules, rows_all)
