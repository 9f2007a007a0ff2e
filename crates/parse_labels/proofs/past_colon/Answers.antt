-- `parse_labels::past_colon` meets its contract. Assumes nothing.
use native.Mathlib.Omega.{arith}
use borrow.Author.Rules.{rules}
use Rattle.lex.proofs.Peek.{peek-inside}
use Rattle.parse_labels.proofs.Walking.{colon-here, colon-none}
use Rattle.parse_labels.proofs.past_colon.Goals as goal

pub overflow_add-result : goal.overflow_add-result
overflow_add-result c = omega (arith, peek-inside c.args.src.now c.run_end-colon.result _ c.byte_at.ensures (omega arith))

pub returns-then-byte_at-eq58 : goal.returns-then-byte_at-eq58
returns-then-byte_at-eq58 c = search (rules, colon-here)

pub returns : goal.returns
returns c = search (rules, colon-none)
