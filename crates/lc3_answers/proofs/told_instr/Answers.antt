-- `lc3_answers::told_instr` meets its contract. Assumes nothing.
use Rattle.isa.specs.Instructions.{meant}
use Rattle.lc3_answers.proofs.told_instr.Goals as goal

pub returns-in-ADD : goal.returns-in-ADD
unfolding meant
returns-in-ADD c = rw c.in-ADD.is c.shown_last.ensures

pub returns-in-AND : goal.returns-in-AND
unfolding meant
returns-in-AND c = rw c.in-AND.is c.shown_last-in-AND.ensures

pub returns-in-BR : goal.returns-in-BR
unfolding meant
returns-in-BR c = rw c.in-BR.is c.shown.ensures

pub returns-in-JMP : goal.returns-in-JMP
unfolding meant
returns-in-JMP c = rw c.in-JMP.is c.shown-in-JMP.ensures

pub returns-in-JSR : goal.returns-in-JSR
unfolding meant
returns-in-JSR c = rw c.in-JSR.is c.shown-in-JSR.ensures

pub returns-in-JSRR : goal.returns-in-JSRR
unfolding meant
returns-in-JSRR c = rw c.in-JSRR.is c.shown-in-JSRR.ensures

pub returns-in-LD : goal.returns-in-LD
unfolding meant
returns-in-LD c = rw c.in-LD.is c.shown-in-LD.ensures

pub returns-in-LDI : goal.returns-in-LDI
unfolding meant
returns-in-LDI c = rw c.in-LDI.is c.shown-in-LDI.ensures

pub returns-in-LDR : goal.returns-in-LDR
unfolding meant
returns-in-LDR c = rw c.in-LDR.is c.shown-in-LDR.ensures

pub returns-in-LEA : goal.returns-in-LEA
unfolding meant
returns-in-LEA c = rw c.in-LEA.is c.shown-in-LEA.ensures

pub returns-in-NOT : goal.returns-in-NOT
unfolding meant
returns-in-NOT c = rw c.in-NOT.is c.shown-in-NOT.ensures

pub returns-in-RET : goal.returns-in-RET
unfolding meant
returns-in-RET c = rw c.in-RET.is c.shown-in-RET.ensures

pub returns-in-RTI : goal.returns-in-RTI
unfolding meant
returns-in-RTI c = rw c.in-RTI.is c.shown-in-RTI.ensures

pub returns-in-ST : goal.returns-in-ST
unfolding meant
returns-in-ST c = rw c.in-ST.is c.shown-in-ST.ensures

pub returns-in-STI : goal.returns-in-STI
unfolding meant
returns-in-STI c = rw c.in-STI.is c.shown-in-STI.ensures

pub returns-in-STR : goal.returns-in-STR
unfolding meant
returns-in-STR c = rw c.in-STR.is c.shown-in-STR.ensures

pub returns-in-TRAP : goal.returns-in-TRAP
unfolding meant
returns-in-TRAP c = rw c.in-TRAP.is c.shown-in-TRAP.ensures

pub returns-in-NOP : goal.returns-in-NOP
unfolding meant
returns-in-NOP c = rw c.in-NOP.is c.shown-in-NOP.ensures

pub returns-in-GETC : goal.returns-in-GETC
unfolding meant
returns-in-GETC c = rw c.in-GETC.is c.shown-in-GETC.ensures

pub returns-in-OUT : goal.returns-in-OUT
unfolding meant
returns-in-OUT c = rw c.in-OUT.is c.shown-in-OUT.ensures

pub returns-in-PUTC : goal.returns-in-PUTC
unfolding meant
returns-in-PUTC c = rw c.in-PUTC.is c.shown-in-PUTC.ensures

pub returns-in-PUTS : goal.returns-in-PUTS
unfolding meant
returns-in-PUTS c = rw c.in-PUTS.is c.shown-in-PUTS.ensures

pub returns-in-IN : goal.returns-in-IN
unfolding meant
returns-in-IN c = rw c.in-IN.is c.shown-in-IN.ensures

pub returns-in-PUTSP : goal.returns-in-PUTSP
unfolding meant
returns-in-PUTSP c = rw c.in-PUTSP.is c.shown-in-PUTSP.ensures

pub returns-in-HALT : goal.returns-in-HALT
unfolding meant
returns-in-HALT c = rw c.in-HALT.is c.shown-in-HALT.ensures
