-- `view_instruction::operands_reach` meets its contract. Assumes nothing.
use mathlib.Core.Path.{refl}
use Rattle.view_instruction.specs.Lines.{part_reach, parts_reach}
use Rattle.view_instruction.specs.Spelled.{parts_of, reached}
use Rattle.view_instruction.proofs.Arms.{reach-arm}
use Rattle.view_instruction.proofs.operands_reach.Goals as goal

pub returns-in-Nothing : goal.returns-in-Nothing
unfolding parts_of part_reach parts_reach reached
returns-in-Nothing c = reach-arm c.in-Nothing.is refl

pub returns-in-Reg : goal.returns-in-Reg
unfolding parts_of part_reach parts_reach reached
returns-in-Reg c = reach-arm c.in-Reg.is refl

pub returns-in-RegReg : goal.returns-in-RegReg
unfolding parts_of part_reach parts_reach reached
returns-in-RegReg c = reach-arm c.in-RegReg.is refl

pub returns-in-RegRegReg : goal.returns-in-RegRegReg
unfolding parts_of part_reach parts_reach reached
returns-in-RegRegReg c = reach-arm c.in-RegRegReg.is refl

pub returns-in-RegRegNumber : goal.returns-in-RegRegNumber
unfolding parts_of part_reach parts_reach reached
returns-in-RegRegNumber c = reach-arm c.in-RegRegNumber.is refl

pub returns-in-Number : goal.returns-in-Number
unfolding parts_of part_reach parts_reach reached
returns-in-Number c = reach-arm c.in-Number.is refl

pub returns-in-Offset : goal.returns-in-Offset
unfolding parts_of part_reach parts_reach reached
returns-in-Offset c = reach-arm c.in-Offset.is refl

pub returns-in-RegOffset : goal.returns-in-RegOffset
unfolding parts_of part_reach parts_reach reached
returns-in-RegOffset c = reach-arm c.in-RegOffset.is refl

pub returns-in-Vector : goal.returns-in-Vector
unfolding parts_of part_reach parts_reach reached
returns-in-Vector c = reach-arm c.in-Vector.is refl
