-- `view_word::last_row` meets its contract. Assumes nothing.
use Rattle.std.proofs.Common.{rules}
use Rattle.view_word.proofs.Rows.{last-start, last_more, last-all}
use Rattle.view_word.proofs.last_row.Goals as goal

pub loop-row-init : goal.loop-row-init
loop-row-init c = search (rules, last-start)

pub loop-row-preserved : goal.loop-row-preserved
loop-row-preserved c = search (rules, last_more)

pub returns : goal.returns
returns c = search (rules, last-all)
