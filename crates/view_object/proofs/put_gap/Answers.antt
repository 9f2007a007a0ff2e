-- `view_object::put_gap` meets its contract. Assumes nothing.
use Rattle.view_object.proofs.Lines.{gap-first, gap_other}
use Rattle.std.proofs.Common.{rules}
use Rattle.view_object.proofs.put_gap.Goals as goal

pub returns-then-k-first : goal.returns-then-k-first
returns-then-k-first c = search (rules, gap-first)

pub returns : goal.returns
returns c = search (rules, gap_other)
