-- `list_print::list_source` meets its contract. Assumes nothing.
use Rattle.list_print.proofs.Program.{whole-listed, more-listed}
use Rattle.list_print.proofs.list_source.Goals as goal

pub returns-then-more : goal.returns-then-more
returns-then-more c = record { by_index = more-listed c.args.src.now _ _ _ _ c.if-more.true c.requires.src_len c.write_refused.ensures; upper_bound = c.write_refused.ensures.room }

pub returns : goal.returns
returns c = record { by_index = whole-listed c.args.src.now _ _ _ _ c.if-more.false c.list_whole.ensures; upper_bound = c.list_whole.ensures.room }
