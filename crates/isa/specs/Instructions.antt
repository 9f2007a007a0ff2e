-- What this crate's instructions mean: each is the rule's of the same name. Assumes nothing.
use Rattle.rules.specs.Words as R
use Rattle.rules.specs.Words.{Operand, Instr}
use Rattle.isa.specs.declared.ImmOrReg.{ImmOrReg}
use Rattle.isa.specs.declared.ImmOrReg.TheVariants.{Imm, Reg}
use Rattle.isa.specs.declared.AsmInstr.{AsmInstr}
use Rattle.isa.specs.declared.AsmInstr.TheVariants.{ADD, AND, BR, JMP, JSR, JSRR, LD, LDI, LDR, LEA, NOT, RET, RTI, ST, STI, STR, TRAP, NOP, GETC, OUT, PUTC, PUTS, IN, PUTSP, HALT}

abbrev pub operand_of : ImmOrReg → Operand
operand_of (Imm d) = R.value d
operand_of (Reg r) = R.register r

unfoldable pub meant : AsmInstr → Instr
meant (ADD d s o) = R.ADD d s (operand_of o)
meant (AND d s o) = R.AND d s (operand_of o)
meant (BR nzp o) = R.BR nzp o
meant (JMP b) = R.JMP b
meant (JSR o) = R.JSR o
meant (JSRR b) = R.JSRR b
meant (LD d o) = R.LD d o
meant (LDI d o) = R.LDI d o
meant (LDR d b o) = R.LDR d b o
meant (LEA d o) = R.LEA d o
meant (NOT d s) = R.NOT d s
meant RET = R.RET
meant RTI = R.RTI
meant (ST s o) = R.ST s o
meant (STI s o) = R.STI s o
meant (STR s b o) = R.STR s b o
meant (TRAP v) = R.TRAP v
meant (NOP o) = R.NOP o
meant GETC = R.GETC
meant OUT = R.OUT
meant PUTC = R.PUTC
meant PUTS = R.PUTS
meant IN = R.IN
meant PUTSP = R.PUTSP
meant HALT = R.HALT
