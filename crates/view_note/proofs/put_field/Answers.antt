-- `view_note::put_field` meets its contract. Assumes nothing.
use Rattle.parse_field.specs.declared.Field.TheVariants as field
use Rattle.view_note.proofs.NoteTexts.{field_put}
use Rattle.view_note.proofs.put_field.Goals as goal

pub returns-in-Dr : goal.returns-in-Dr
returns-in-Dr c = field_put _ field.Dr c.in-Dr.is c.put.ensures

pub returns-in-Sr : goal.returns-in-Sr
returns-in-Sr c = field_put _ field.Sr c.in-Sr.is c.put-in-Sr.ensures

pub returns-in-RegOrImm : goal.returns-in-RegOrImm
returns-in-RegOrImm c = field_put _ field.RegOrImm c.in-RegOrImm.is c.put-in-RegOrImm.ensures

pub returns-in-Offset6 : goal.returns-in-Offset6
returns-in-Offset6 c = field_put _ field.Offset6 c.in-Offset6.is c.put-in-Offset6.ensures

pub returns-in-Near9 : goal.returns-in-Near9
returns-in-Near9 c = field_put _ field.Near9 c.in-Near9.is c.put-in-Near9.ensures

pub returns-in-Near11 : goal.returns-in-Near11
returns-in-Near11 c = field_put _ field.Near11 c.in-Near11.is c.put-in-Near11.ensures

pub returns-in-Trap : goal.returns-in-Trap
returns-in-Trap c = field_put _ field.Trap c.in-Trap.is c.put-in-Trap.ensures

pub returns-in-Word : goal.returns-in-Word
returns-in-Word c = field_put _ field.Word c.in-Word.is c.put-in-Word.ensures

pub returns-in-Fill : goal.returns-in-Fill
returns-in-Fill c = field_put _ field.Fill c.in-Fill.is c.put-in-Fill.ensures

pub returns-in-Name : goal.returns-in-Name
returns-in-Name c = field_put _ field.Name c.in-Name.is c.put-in-Name.ensures

pub returns-in-Text : goal.returns-in-Text
returns-in-Text c = field_put _ field.Text c.in-Text.is c.put-in-Text.ensures
