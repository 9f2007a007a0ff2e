-- `view_instruction::line_reach` meets its contract. Assumes nothing.
use Rattle.view_instruction.specs.Spelled.{reached}
use Rattle.view_instruction.proofs.Arms.{reach-line, reach-fill}
use Rattle.view_instruction.proofs.line_reach.Goals as goal

pub returns-in-Instr : goal.returns-in-Instr
unfolding reached
returns-in-Instr c = reach-line _ c.in-Instr.is c.operands_of.ensures c.operands_reach.ensures

pub returns-in-Fill : goal.returns-in-Fill
unfolding reached
returns-in-Fill c = reach-fill c.in-Fill.is
