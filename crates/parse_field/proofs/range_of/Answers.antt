-- `parse_field::range_of` meets its contract. Assumes nothing.
use Rattle.parse_field.proofs.range_of.Goals as goal

pub returns-in-Dr : goal.returns-in-Dr
returns-in-Dr c = rw c.in-Dr.is c.numbers.ensures

pub returns-in-Sr : goal.returns-in-Sr
returns-in-Sr c = rw c.in-Sr.is c.numbers-in-Sr.ensures

pub returns-in-RegOrImm : goal.returns-in-RegOrImm
returns-in-RegOrImm c = rw c.in-RegOrImm.is c.numbers-in-RegOrImm.ensures

pub returns-in-Offset6 : goal.returns-in-Offset6
returns-in-Offset6 c = rw c.in-Offset6.is c.numbers-in-Offset6.ensures

pub returns-in-Near9 : goal.returns-in-Near9
returns-in-Near9 c = rw c.in-Near9.is c.numbers-in-Near9.ensures

pub returns-in-Near11 : goal.returns-in-Near11
returns-in-Near11 c = rw c.in-Near11.is c.numbers-in-Near11.ensures

pub returns-in-Trap : goal.returns-in-Trap
returns-in-Trap c = rw c.in-Trap.is c.numbers-in-Trap.ensures

pub returns-in-Word : goal.returns-in-Word
returns-in-Word c = rw c.in-Word.is c.numbers-in-Word.ensures

pub returns-in-Fill : goal.returns-in-Fill
returns-in-Fill c = rw c.in-Fill.is c.numbers-in-Fill.ensures

pub returns-in-Name : goal.returns-in-Name
returns-in-Name c = rw c.in-Name.is c.numbers-in-Name.ensures

pub returns-in-Text : goal.returns-in-Text
returns-in-Text c = rw c.in-Text.is c.numbers-in-Text.ensures
