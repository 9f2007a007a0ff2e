-- `view_word::later_row` meets its contract. Assumes nothing.
use Rattle.view_word.proofs.Rows.{later-this, later-other}
use Rattle.std.proofs.Common.{rules}
use Rattle.view_word.proofs.later_row.Goals as goal

pub returns-then-stands_at : goal.returns-then-stands_at
returns-then-stands_at c = search (rules, later-this)

pub returns : goal.returns
returns c = search (rules, later-other)
