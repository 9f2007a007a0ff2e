-- `encode` meets its contract: each arm joins the parts that the rule's row has. Assumes nothing.
use mathlib.Core.Path.{refl}
use native.Mathlib.Omega.{arith}
use Rattle.rules.specs.Base.{when◌then◌else◌}
use Rattle.rules.specs.Words.{signed, instructions, find, bits, joined, made, word}
use Rattle.isa.specs.Instructions.{meant}
use Rattle.std.specs.declared.option.Option.TheVariants.{Some, None}
use Rattle.isa.specs.declared.AsmInstr.TheVariants.{ADD, AND, JMP, JSR, JSRR, LD, LDI, LDR, LEA, RET, RTI, ST, STI, STR, NOP, GETC, OUT, PUTC, PUTS, IN, PUTSP, HALT}
use Rattle.isa.proofs.Parts.{small, small-last, arm-last, arm-six, arm-nine, arm-branch, arm_low, arm-base, arm-not, arm-trap, fixed}
use Rattle.isa.proofs.encode.Goals as goal

pub join_bits-requires : goal.join_bits-requires
unfolding word made find instructions joined bits meant when◌then◌else◌
join_bits-requires c = omega (arith, small-last ADD _ _ _ _ _ c.in-ADD.is c.imm_or_reg.ensures)

pub join_bits-requires-in-AND : goal.join_bits-requires-in-AND
unfolding word made find instructions joined bits meant when◌then◌else◌
join_bits-requires-in-AND c = omega (arith, small-last AND _ _ _ _ _ c.in-AND.is c.imm_or_reg-in-AND.ensures)

pub join_bits-requires-in-BR : goal.join_bits-requires-in-BR
unfolding word made find instructions joined bits meant when◌then◌else◌
join_bits-requires-in-BR c = omega (arith, small 256 255 512 _ _ (omega arith) c.low9.ensures)

pub join_bits-requires-in-JSR : goal.join_bits-requires-in-JSR
unfolding word made find instructions joined bits meant when◌then◌else◌
join_bits-requires-in-JSR c = omega (arith, small 1024 1023 2048 _ _ (omega arith) c.low11.ensures)

pub join_bits-requires-in-LD : goal.join_bits-requires-in-LD
unfolding word made find instructions joined bits meant when◌then◌else◌
join_bits-requires-in-LD c = omega (arith, small 256 255 512 _ _ (omega arith) c.low9-in-LD.ensures)

pub join_bits-requires-in-LDI : goal.join_bits-requires-in-LDI
unfolding word made find instructions joined bits meant when◌then◌else◌
join_bits-requires-in-LDI c = omega (arith, small 256 255 512 _ _ (omega arith) c.low9-in-LDI.ensures)

pub join_bits-requires-in-LDR : goal.join_bits-requires-in-LDR
unfolding word made find instructions joined bits meant when◌then◌else◌
join_bits-requires-in-LDR c = omega (arith, small 32 31 64 _ _ (omega arith) c.low6.ensures)

pub join_bits-requires-in-LEA : goal.join_bits-requires-in-LEA
unfolding word made find instructions joined bits meant when◌then◌else◌
join_bits-requires-in-LEA c = omega (arith, small 256 255 512 _ _ (omega arith) c.low9-in-LEA.ensures)

pub join_bits-requires-in-ST : goal.join_bits-requires-in-ST
unfolding word made find instructions joined bits meant when◌then◌else◌
join_bits-requires-in-ST c = omega (arith, small 256 255 512 _ _ (omega arith) c.low9-in-ST.ensures)

pub join_bits-requires-in-STI : goal.join_bits-requires-in-STI
unfolding word made find instructions joined bits meant when◌then◌else◌
join_bits-requires-in-STI c = omega (arith, small 256 255 512 _ _ (omega arith) c.low9-in-STI.ensures)

pub join_bits-requires-in-STR : goal.join_bits-requires-in-STR
unfolding word made find instructions joined bits meant when◌then◌else◌
join_bits-requires-in-STR c = omega (arith, small 32 31 64 _ _ (omega arith) c.low6-in-STR.ensures)

pub join_bits-requires-in-NOP : goal.join_bits-requires-in-NOP
unfolding word made find instructions joined bits meant when◌then◌else◌
join_bits-requires-in-NOP c = omega (arith, small 256 255 512 _ _ (omega arith) c.low9-in-NOP.ensures)

pub returns-in-ADD : goal.returns-in-ADD
unfolding word made find instructions joined bits meant when◌then◌else◌
returns-in-ADD c = arm-last 0x1000 _ _ _ ADD (λ d s o. refl) _ _ _ c.in-ADD.is c.imm_or_reg.ensures c.join_bits.ensures

pub returns-in-AND : goal.returns-in-AND
unfolding word made find instructions joined bits meant when◌then◌else◌
returns-in-AND c = arm-last 0x5000 _ _ _ AND (λ d s o. refl) _ _ _ c.in-AND.is c.imm_or_reg-in-AND.ensures c.join_bits-in-AND.ensures

pub returns-in-BR : goal.returns-in-BR
unfolding word made find instructions joined bits meant when◌then◌else◌
returns-in-BR c = arm-branch 0 _ _ _ _ _ c.in-BR.is c.low9.ensures c.join_bits-in-BR.ensures

pub returns-in-JMP : goal.returns-in-JMP
unfolding word made find instructions joined bits meant when◌then◌else◌
returns-in-JMP c = arm-base 0xc000 _ _ (Some 0) JMP (λ b. refl) _ c.in-JMP.is c.join_bits-in-JMP.ensures

pub returns-in-JSR : goal.returns-in-JSR
unfolding word made find instructions joined bits meant when◌then◌else◌
returns-in-JSR c = arm_low 0x4800 _ _ _ (signed 11) JSR (λ o. refl) _ c.in-JSR.is c.low11.ensures c.join_bits-in-JSR.ensures

pub returns-in-JSRR : goal.returns-in-JSRR
unfolding word made find instructions joined bits meant when◌then◌else◌
returns-in-JSRR c = arm-base 0x4000 _ _ (Some 0) JSRR (λ b. refl) _ c.in-JSRR.is c.join_bits-in-JSRR.ensures

pub returns-in-LD : goal.returns-in-LD
unfolding word made find instructions joined bits meant when◌then◌else◌
returns-in-LD c = arm-nine 0x2000 _ _ _ LD (λ d o. refl) _ _ c.in-LD.is c.low9-in-LD.ensures c.join_bits-in-LD.ensures

pub returns-in-LDI : goal.returns-in-LDI
unfolding word made find instructions joined bits meant when◌then◌else◌
returns-in-LDI c = arm-nine 0xa000 _ _ _ LDI (λ d o. refl) _ _ c.in-LDI.is c.low9-in-LDI.ensures c.join_bits-in-LDI.ensures

pub returns-in-LDR : goal.returns-in-LDR
unfolding word made find instructions joined bits meant when◌then◌else◌
returns-in-LDR c = arm-six 0x6000 _ _ _ LDR (λ d b o. refl) _ _ _ c.in-LDR.is c.low6.ensures c.join_bits-in-LDR.ensures

pub returns-in-LEA : goal.returns-in-LEA
unfolding word made find instructions joined bits meant when◌then◌else◌
returns-in-LEA c = arm-nine 0xe000 _ _ _ LEA (λ d o. refl) _ _ c.in-LEA.is c.low9-in-LEA.ensures c.join_bits-in-LEA.ensures

pub returns-in-NOT : goal.returns-in-NOT
unfolding word made find instructions joined bits meant when◌then◌else◌
returns-in-NOT c = arm-not _ _ _ _ c.in-NOT.is c.join_bits-in-NOT.ensures

pub returns-in-RET : goal.returns-in-RET
unfolding word made find instructions joined bits meant when◌then◌else◌
returns-in-RET c = fixed _ RET _ c.in-RET.is refl

pub returns-in-RTI : goal.returns-in-RTI
unfolding word made find instructions joined bits meant when◌then◌else◌
returns-in-RTI c = fixed _ RTI _ c.in-RTI.is refl

pub returns-in-ST : goal.returns-in-ST
unfolding word made find instructions joined bits meant when◌then◌else◌
returns-in-ST c = arm-nine 0x3000 _ _ _ ST (λ d o. refl) _ _ c.in-ST.is c.low9-in-ST.ensures c.join_bits-in-ST.ensures

pub returns-in-STI : goal.returns-in-STI
unfolding word made find instructions joined bits meant when◌then◌else◌
returns-in-STI c = arm-nine 0xb000 _ _ _ STI (λ d o. refl) _ _ c.in-STI.is c.low9-in-STI.ensures c.join_bits-in-STI.ensures

pub returns-in-STR : goal.returns-in-STR
unfolding word made find instructions joined bits meant when◌then◌else◌
returns-in-STR c = arm-six 0x7000 _ _ _ STR (λ d b o. refl) _ _ _ c.in-STR.is c.low6-in-STR.ensures c.join_bits-in-STR.ensures

pub returns-in-TRAP : goal.returns-in-TRAP
unfolding word made find instructions joined bits meant when◌then◌else◌
returns-in-TRAP c = arm-trap _ _ _ c.in-TRAP.is c.trap_word.ensures

pub returns-in-NOP : goal.returns-in-NOP
unfolding word made find instructions joined bits meant when◌then◌else◌
returns-in-NOP c = arm_low 0 _ _ _ (signed 9) NOP (λ o. refl) _ c.in-NOP.is c.low9-in-NOP.ensures c.join_bits-in-NOP.ensures

pub returns-in-GETC : goal.returns-in-GETC
unfolding word made find instructions joined bits meant when◌then◌else◌
returns-in-GETC c = fixed _ GETC _ c.in-GETC.is refl

pub returns-in-OUT : goal.returns-in-OUT
unfolding word made find instructions joined bits meant when◌then◌else◌
returns-in-OUT c = fixed _ OUT _ c.in-OUT.is refl

pub returns-in-PUTC : goal.returns-in-PUTC
unfolding word made find instructions joined bits meant when◌then◌else◌
returns-in-PUTC c = fixed _ PUTC _ c.in-PUTC.is refl

pub returns-in-PUTS : goal.returns-in-PUTS
unfolding word made find instructions joined bits meant when◌then◌else◌
returns-in-PUTS c = fixed _ PUTS _ c.in-PUTS.is refl

pub returns-in-IN : goal.returns-in-IN
unfolding word made find instructions joined bits meant when◌then◌else◌
returns-in-IN c = fixed _ IN _ c.in-IN.is refl

pub returns-in-PUTSP : goal.returns-in-PUTSP
unfolding word made find instructions joined bits meant when◌then◌else◌
returns-in-PUTSP c = fixed _ PUTSP _ c.in-PUTSP.is refl

pub returns-in-HALT : goal.returns-in-HALT
unfolding word made find instructions joined bits meant when◌then◌else◌
returns-in-HALT c = fixed _ HALT _ c.in-HALT.is refl
