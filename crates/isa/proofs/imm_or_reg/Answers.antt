-- `imm_or_reg` meets its contract: an imm5 or a register, inside its field or outside. Assumes nothing.
use Rattle.std.proofs.Common.{◌∙◌, arith, rules}
use Rattle.isa.proofs.Parts.{imm-small, imm-in, imm-out, reg_in, reg-out}
use Rattle.isa.proofs.imm_or_reg.Goals as goal

pub overflow_add-result : goal.overflow_add-result
overflow_add-result c = omega (arith, imm-small _ _ _ c.low5.ensures c.in_ok-low5-in-Imm.was)

pub returns-in_ok-low5-in-Imm : goal.returns-in_ok-low5-in-Imm
returns-in_ok-low5-in-Imm c = imm-in _ _ _ _ c.in-Imm.is c.low5.ensures c.in_ok-low5-in-Imm.was

pub returns-in_err-low5-in-Imm : goal.returns-in_err-low5-in-Imm
returns-in_err-low5-in-Imm c = c.from_residual.ensures ∙ imm-out _ _ _ c.in-Imm.is c.low5.ensures c.in_err-low5-in-Imm.was

pub returns-then-r-le-LAST_REG : goal.returns-then-r-le-LAST_REG
returns-then-r-le-LAST_REG c = search (rules, reg_in)

pub returns-else-r-le-LAST_REG : goal.returns-else-r-le-LAST_REG
returns-else-r-le-LAST_REG c = search (rules, reg-out)
