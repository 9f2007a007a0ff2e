-- `join_bits` meets its contract. Assumes nothing.
use Rattle.std.proofs.Common.{◌∙◌, arith, rules}
use Rattle.isa.proofs.Parts.{first_out, second-out, low-out, all_in, no_wrap}
use Rattle.isa.proofs.join_bits.Goals as goal

pub returns-then-first-gt-LAST_REG : goal.returns-then-first-gt-LAST_REG
returns-then-first-gt-LAST_REG c = search (rules, first_out)

pub returns-then-second-gt-LAST_REG : goal.returns-then-second-gt-LAST_REG
returns-then-second-gt-LAST_REG c = search (rules, second-out)

pub overflow_add-result-3 : goal.overflow_add-result-3
overflow_add-result-3 c = omega (arith, no_wrap _ _ _ c.requires c.in_ok-low.was)

pub returns : goal.returns
returns c = all_in _ _ _ _ _ c.if-first-gt-LAST_REG.false c.if-second-gt-LAST_REG.false c.in_ok-low.was

pub returns-in_err-low : goal.returns-in_err-low
returns-in_err-low c = c.from_residual.ensures ∙ low-out _ _ _ _ c.in_err-low.was
