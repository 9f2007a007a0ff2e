-- `view_instruction::operands_of` meets its contract. Assumes nothing.
use mathlib.Core.Path.{refl}
use Rattle.isa.specs.Instructions.{meant}
use Rattle.view_instruction.specs.Lines.{spelling}
use Rattle.view_instruction.specs.Spelled.{parts_of}
use Rattle.view_instruction.proofs.Arms.{parts-arm}
use Rattle.view_instruction.proofs.operands_of.Goals as goal

pub returns-in-ADD : goal.returns-in-ADD
unfolding parts_of spelling meant
returns-in-ADD c = parts-arm c.in-ADD.is c.with_last.ensures

pub returns-in-AND : goal.returns-in-AND
unfolding parts_of spelling meant
returns-in-AND c = parts-arm c.in-AND.is c.with_last-in-AND.ensures

pub returns-in-NOT : goal.returns-in-NOT
unfolding parts_of spelling meant
returns-in-NOT c = parts-arm c.in-NOT.is refl

pub returns-in-BR : goal.returns-in-BR
unfolding parts_of spelling meant
returns-in-BR c = parts-arm c.in-BR.is refl

pub returns-in-JMP : goal.returns-in-JMP
unfolding parts_of spelling meant
returns-in-JMP c = parts-arm c.in-JMP.is refl

pub returns-in-JSR : goal.returns-in-JSR
unfolding parts_of spelling meant
returns-in-JSR c = parts-arm c.in-JSR.is refl

pub returns-in-JSRR : goal.returns-in-JSRR
unfolding parts_of spelling meant
returns-in-JSRR c = parts-arm c.in-JSRR.is refl

pub returns-in-LD : goal.returns-in-LD
unfolding parts_of spelling meant
returns-in-LD c = parts-arm c.in-LD.is refl

pub returns-in-LDI : goal.returns-in-LDI
unfolding parts_of spelling meant
returns-in-LDI c = parts-arm c.in-LDI.is refl

pub returns-in-LDR : goal.returns-in-LDR
unfolding parts_of spelling meant
returns-in-LDR c = parts-arm c.in-LDR.is refl

pub returns-in-LEA : goal.returns-in-LEA
unfolding parts_of spelling meant
returns-in-LEA c = parts-arm c.in-LEA.is refl

pub returns-in-ST : goal.returns-in-ST
unfolding parts_of spelling meant
returns-in-ST c = parts-arm c.in-ST.is refl

pub returns-in-STI : goal.returns-in-STI
unfolding parts_of spelling meant
returns-in-STI c = parts-arm c.in-STI.is refl

pub returns-in-STR : goal.returns-in-STR
unfolding parts_of spelling meant
returns-in-STR c = parts-arm c.in-STR.is refl

pub returns-in-NOP : goal.returns-in-NOP
unfolding parts_of spelling meant
returns-in-NOP c = parts-arm c.in-NOP.is refl

pub returns-in-TRAP : goal.returns-in-TRAP
unfolding parts_of spelling meant
returns-in-TRAP c = parts-arm c.in-TRAP.is refl

pub returns-in-RET : goal.returns-in-RET
unfolding parts_of spelling meant
returns-in-RET c = parts-arm c.in-RET.is refl

pub returns-in-RTI : goal.returns-in-RTI
unfolding parts_of spelling meant
returns-in-RTI c = parts-arm c.in-RTI.is refl

pub returns-in-GETC : goal.returns-in-GETC
unfolding parts_of spelling meant
returns-in-GETC c = parts-arm c.in-GETC.is refl

pub returns-in-OUT : goal.returns-in-OUT
unfolding parts_of spelling meant
returns-in-OUT c = parts-arm c.in-OUT.is refl

pub returns-in-PUTC : goal.returns-in-PUTC
unfolding parts_of spelling meant
returns-in-PUTC c = parts-arm c.in-PUTC.is refl

pub returns-in-PUTS : goal.returns-in-PUTS
unfolding parts_of spelling meant
returns-in-PUTS c = parts-arm c.in-PUTS.is refl

pub returns-in-IN : goal.returns-in-IN
unfolding parts_of spelling meant
returns-in-IN c = parts-arm c.in-IN.is refl

pub returns-in-PUTSP : goal.returns-in-PUTSP
unfolding parts_of spelling meant
returns-in-PUTSP c = parts-arm c.in-PUTSP.is refl

pub returns-in-HALT : goal.returns-in-HALT
unfolding parts_of spelling meant
returns-in-HALT c = parts-arm c.in-HALT.is refl
