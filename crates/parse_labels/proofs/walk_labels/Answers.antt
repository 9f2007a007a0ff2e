-- `parse_labels::walk_labels` meets its contract. Assumes nothing.
use Prim.Native.Nat.{◌-◌}
use native.Mathlib.Omega.{arith}
use borrow.Author.Rules.{rules}
use Rattle.lex.proofs.Peek.{peek-inside}
use Rattle.parse_labels.proofs.Labelled.{walk_start, line-less, walk-line, walk_more, walk-less, walk-stop}
use Rattle.parse_labels.proofs.walk_labels.Goals as goal

pub loop-i-init : goal.loop-i-init
loop-i-init c = search (rules, walk_start)

pub overflow_add-i : goal.overflow_add-i
overflow_add-i c = omega (arith, peek-inside c.args.src.now c.run_end-start.result _ c.byte_at.ensures (omega arith))

pub loop-i-smaller-then-byte_at-eq10 : goal.loop-i-smaller-then-byte_at-eq10
loop-i-smaller-then-byte_at-eq10 c = line-less c.args.src.now c.loop-i.i c.run_end-start.result c.run_end-start.ensures _ c.byte_at.ensures (omega arith)

pub loop-i-preserved-then-byte_at-eq10 : goal.loop-i-preserved-then-byte_at-eq10
loop-i-preserved-then-byte_at-eq10 c = search (rules, walk-line)

pub loop-i-smaller : goal.loop-i-smaller
loop-i-smaller c = search (rules, walk-less)

pub loop-i-preserved : goal.loop-i-preserved
loop-i-preserved c = search (rules, walk_more)

pub returns-else-is_before : goal.returns-else-is_before
returns-else-is_before c = search (rules, walk-stop)
