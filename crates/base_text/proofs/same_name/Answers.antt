-- `base_text::same_name` meets its contract. Assumes nothing.
use Rattle.std.proofs.Common.{sym, arith}
use Rattle.rules.specs.Tokens.{upper}
use Rattle.base_text.proofs.Rest.{from_start}
use Rattle.base_text.proofs.NameLaws.{same-again, same_differs, same-done, same-lengths}
use Rattle.base_text.proofs.same_name.Goals as goal

pub returns-then-a-b : goal.returns-then-a-b
returns-then-a-b c = sym (same-lengths c.args.a.now c.args.b.now c.if-a-b.true)

pub loop-i-init : goal.loop-i-init
loop-i-init c = simp from_start

pub returns-then-upper_case : goal.returns-then-upper_case
returns-then-upper_case c = same_differs upper _ _ c.upper_case.ensures c.upper_case-in-loop-i.ensures c.loop-i-test.true (omega arith) c.loop-i.invariant c.if-upper_case.true

pub loop-i-preserved : goal.loop-i-preserved
loop-i-preserved c = same-again upper _ _ c.upper_case.ensures c.upper_case-in-loop-i.ensures c.loop-i-test.true (omega arith) c.loop-i.invariant c.if-upper_case.false

pub returns : goal.returns
returns c = same-done upper _ _ c.if-a-b.false c.loop-i-test.false c.loop-i.invariant
