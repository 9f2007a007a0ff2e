-- `base_text::run_end` meets its contract. Assumes nothing.
use Rattle.base_text.proofs.RunLaws.{run-again, run-stop, run-over, run-whole}
use Rattle.std.proofs.Common.{refl, arith}
use Rattle.base_text.proofs.run_end.Goals as goal

pub returns-then-not-in_class : goal.returns-then-not-in_class
returns-then-not-in_class c = run-stop _ _ c.loop-i-test.true c.in_class.ensures c.if-not-in_class.true c.loop-i.invariant

pub loop-i-preserved : goal.loop-i-preserved
loop-i-preserved c = run-again _ _ c.loop-i-test.true c.in_class.ensures c.if-not-in_class.false c.loop-i.invariant

pub returns-then-at-src : goal.returns-then-at-src
returns-then-at-src c = run-whole _ _ c.loop-i-test.false (omega (arith, c.loop-i.auto.i-end, c.if-at-src.true)) c.loop-i.invariant

pub returns : goal.returns
returns c = run-over _ _ c.if-at-src.false refl
