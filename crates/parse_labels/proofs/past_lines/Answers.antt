-- `parse_labels::past_lines` meets its contract. Assumes nothing.
use borrow.Author.Rules.{rules}
use Prim.Native.Nat.{◌-◌}
use Rattle.parse_labels.proofs.Walking.{lines_start, lines_next, lines-less, lines-stop, lines_end}
use Rattle.parse_labels.proofs.past_lines.Goals as goal

pub loop-i-init : goal.loop-i-init
loop-i-init c = search (rules, lines_start)

pub returns-then-next-i : goal.returns-then-next-i
returns-then-next-i c = search (rules, lines-stop)

pub loop-i-smaller : goal.loop-i-smaller
loop-i-smaller c = search (rules, lines-less)

pub loop-i-preserved : goal.loop-i-preserved
loop-i-preserved c = search (rules, lines_next)

pub returns : goal.returns
returns c = search (rules, lines_end)
