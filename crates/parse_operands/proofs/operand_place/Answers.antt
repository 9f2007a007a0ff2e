-- `parse_operands::operand_place` meets its contract. Assumes nothing.
use native.Mathlib.Omega.{arith}
use Rattle.lex.proofs.Peek.{peek-inside}
use Rattle.parse_operands.proofs.Following.{due-first, due-behind, due-bad, due-other}
use borrow.Author.Rules.{rules}
use Rattle.parse_operands.proofs.operand_place.Goals as goal

pub returns-then-k-eq0 : goal.returns-then-k-eq0
returns-then-k-eq0 c = search (rules, due-first)

pub overflow_add-result : goal.overflow_add-result
overflow_add-result c = omega (arith, peek-inside c.args.src.now c.run_end-comma.result _ c.byte_at.ensures (omega arith))

pub returns-then-byte_at-eq44 : goal.returns-then-byte_at-eq44
returns-then-byte_at-eq44 c = search (rules, due-behind)

pub returns-then-t-eq-FAULT : goal.returns-then-t-eq-FAULT
returns-then-t-eq-FAULT c = search (rules, due-bad)

pub returns : goal.returns
returns c = search (rules, due-other)
