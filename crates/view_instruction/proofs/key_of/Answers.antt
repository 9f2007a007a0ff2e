-- `view_instruction::key_of` meets its contract. Assumes nothing.
use mathlib.Core.Path.{refl}
use Rattle.isa.specs.Instructions.{meant}
use Rattle.view_instruction.specs.Lines.{spelling}
use Rattle.view_instruction.specs.Spelled.{keys, key_row}
use Rattle.view_instruction.proofs.Arms.{key-arm, key-branch}
use Rattle.view_instruction.proofs.key_of.Goals as goal

pub returns-in-ADD : goal.returns-in-ADD
unfolding key_row keys spelling meant
returns-in-ADD c = key-arm c.in-ADD.is refl

pub returns-in-AND : goal.returns-in-AND
unfolding key_row keys spelling meant
returns-in-AND c = key-arm c.in-AND.is refl

pub returns-in-NOT : goal.returns-in-NOT
unfolding key_row keys spelling meant
returns-in-NOT c = key-arm c.in-NOT.is refl

pub returns-in-BR : goal.returns-in-BR
unfolding key_row keys spelling meant
returns-in-BR c = key-branch c.in-BR.is c.from.ensures

pub returns-in-JMP : goal.returns-in-JMP
unfolding key_row keys spelling meant
returns-in-JMP c = key-arm c.in-JMP.is refl

pub returns-in-JSR : goal.returns-in-JSR
unfolding key_row keys spelling meant
returns-in-JSR c = key-arm c.in-JSR.is refl

pub returns-in-JSRR : goal.returns-in-JSRR
unfolding key_row keys spelling meant
returns-in-JSRR c = key-arm c.in-JSRR.is refl

pub returns-in-LD : goal.returns-in-LD
unfolding key_row keys spelling meant
returns-in-LD c = key-arm c.in-LD.is refl

pub returns-in-LDI : goal.returns-in-LDI
unfolding key_row keys spelling meant
returns-in-LDI c = key-arm c.in-LDI.is refl

pub returns-in-LDR : goal.returns-in-LDR
unfolding key_row keys spelling meant
returns-in-LDR c = key-arm c.in-LDR.is refl

pub returns-in-LEA : goal.returns-in-LEA
unfolding key_row keys spelling meant
returns-in-LEA c = key-arm c.in-LEA.is refl

pub returns-in-ST : goal.returns-in-ST
unfolding key_row keys spelling meant
returns-in-ST c = key-arm c.in-ST.is refl

pub returns-in-STI : goal.returns-in-STI
unfolding key_row keys spelling meant
returns-in-STI c = key-arm c.in-STI.is refl

pub returns-in-STR : goal.returns-in-STR
unfolding key_row keys spelling meant
returns-in-STR c = key-arm c.in-STR.is refl

pub returns-in-NOP : goal.returns-in-NOP
unfolding key_row keys spelling meant
returns-in-NOP c = key-arm c.in-NOP.is refl

pub returns-in-TRAP : goal.returns-in-TRAP
unfolding key_row keys spelling meant
returns-in-TRAP c = key-arm c.in-TRAP.is refl

pub returns-in-RET : goal.returns-in-RET
unfolding key_row keys spelling meant
returns-in-RET c = key-arm c.in-RET.is refl

pub returns-in-RTI : goal.returns-in-RTI
unfolding key_row keys spelling meant
returns-in-RTI c = key-arm c.in-RTI.is refl

pub returns-in-GETC : goal.returns-in-GETC
unfolding key_row keys spelling meant
returns-in-GETC c = key-arm c.in-GETC.is refl

pub returns-in-OUT : goal.returns-in-OUT
unfolding key_row keys spelling meant
returns-in-OUT c = key-arm c.in-OUT.is refl

pub returns-in-PUTC : goal.returns-in-PUTC
unfolding key_row keys spelling meant
returns-in-PUTC c = key-arm c.in-PUTC.is refl

pub returns-in-PUTS : goal.returns-in-PUTS
unfolding key_row keys spelling meant
returns-in-PUTS c = key-arm c.in-PUTS.is refl

pub returns-in-IN : goal.returns-in-IN
unfolding key_row keys spelling meant
returns-in-IN c = key-arm c.in-IN.is refl

pub returns-in-PUTSP : goal.returns-in-PUTSP
unfolding key_row keys spelling meant
returns-in-PUTSP c = key-arm c.in-PUTSP.is refl

pub returns-in-HALT : goal.returns-in-HALT
unfolding key_row keys spelling meant
returns-in-HALT c = key-arm c.in-HALT.is refl
