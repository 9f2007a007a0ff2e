-- `object_names::all_capital` meets its contract. Assumes nothing.
use native.Mathlib.Omega.{arith}
use Rattle.object_names.proofs.Plain.{to_start, to-next, to-stop, to_end}
use borrow.Author.Rules.{rules}
use Rattle.object_names.proofs.all_capital.Goals as goal

pub loop-i-init : goal.loop-i-init
loop-i-init c = to_start _

pub loop-i-preserved : goal.loop-i-preserved
loop-i-preserved c = to-next _ c.loop-i.invariant c.capital_part.ensures (omega arith) c.if-capital_part.true (omega arith)

pub returns-else-capital_part : goal.returns-else-capital_part
returns-else-capital_part c = to-stop _ c.loop-i.invariant c.capital_part.ensures (omega arith) c.if-capital_part.false

pub returns : goal.returns
returns c = search (rules, to_end)
