-- `view_instruction::put_operands` meets its contract. Assumes nothing.
use Rattle.view_text.proofs.Putting.{put-none}
use Rattle.view_instruction.specs.Lines.{reg, number, offset, space, parts_text}
use Rattle.view_instruction.specs.Spelled.{parts_of}
use Rattle.view_instruction.proofs.Puts.{offset-put, one-put, operands-put}
use Rattle.view_instruction.proofs.put_operands.Goals as goal

pub returns-in-Nothing : goal.returns-in-Nothing
unfolding parts_of parts_text
returns-in-Nothing c = operands-put c.in-Nothing.is (put-none _ _)

pub returns-in-Reg : goal.returns-in-Reg
unfolding parts_of parts_text
returns-in-Reg c = operands-put c.in-Reg.is (one-put space (reg _) c.put_one.ensures)

pub returns-in-RegReg : goal.returns-in-RegReg
unfolding parts_of parts_text
returns-in-RegReg c = operands-put c.in-RegReg.is c.put_two.ensures

pub returns-in-RegRegReg : goal.returns-in-RegRegReg
unfolding parts_of parts_text
returns-in-RegRegReg c = operands-put c.in-RegRegReg.is c.put_three.ensures

pub returns-in-RegRegNumber : goal.returns-in-RegRegNumber
unfolding parts_of parts_text
returns-in-RegRegNumber c = operands-put c.in-RegRegNumber.is c.put_two_number.ensures

pub returns-in-Number : goal.returns-in-Number
unfolding parts_of parts_text
returns-in-Number c = operands-put c.in-Number.is (one-put space (number _) c.put_alone.ensures)

pub returns-in-Offset : goal.returns-in-Offset
unfolding parts_of parts_text
returns-in-Offset c = operands-put c.in-Offset.is (one-put space (offset _) (offset-put space _ c.put_alone-in-Offset.ensures))

pub returns-in-RegOffset : goal.returns-in-RegOffset
unfolding parts_of parts_text
returns-in-RegOffset c = operands-put c.in-RegOffset.is c.put_one_offset.ensures

pub returns-in-Vector : goal.returns-in-Vector
unfolding parts_of parts_text
returns-in-Vector c = operands-put c.in-Vector.is c.put_vector.ensures
