-- `view_object::block_row` meets its contract. Assumes nothing.
use Rattle.std.proofs.Common.{rules}
use Rattle.view_word.proofs.Seeking.{seek-start, seek-on, seek_found, seek-none}
use Rattle.view_object.proofs.block_row.Goals as goal

pub loop-row-init : goal.loop-row-init
loop-row-init c = search (rules, seek-start)

pub returns-then-covers_at : goal.returns-then-covers_at
returns-then-covers_at c = search (rules, seek_found)

pub loop-row-preserved : goal.loop-row-preserved
loop-row-preserved c = search (rules, seek-on)

pub returns : goal.returns
returns c = search (rules, seek-none)
