-- `view_object::put_above` meets its contract. Assumes nothing.
use Rattle.view_object.proofs.Lines.{above-first, above_other}
use Rattle.std.proofs.Common.{rules, arith}
use Rattle.view_object.proofs.put_above.Goals as goal

pub returns-then-before-eq0 : goal.returns-then-before-eq0
returns-then-before-eq0 c = above-first c.args.start c.args.size c.args.before (omega arith) c.put_block.ensures

pub returns : goal.returns
returns c = search (rules, above_other)
