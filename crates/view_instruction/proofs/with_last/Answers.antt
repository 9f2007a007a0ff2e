-- `view_instruction::with_last` meets its contract. Assumes nothing.
use mathlib.Core.Path.{refl}
use Rattle.view_instruction.specs.Spelled.{parts_of}
use Rattle.view_instruction.proofs.Arms.{last_arm}
use Rattle.view_instruction.proofs.with_last.Goals as goal

pub returns-in-Imm : goal.returns-in-Imm
unfolding parts_of
returns-in-Imm c = last_arm c.in-Imm.is refl

pub returns-in-Reg : goal.returns-in-Reg
unfolding parts_of
returns-in-Reg c = last_arm c.in-Reg.is refl
