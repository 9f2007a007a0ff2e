-- `try_disassemble_line` meets its contract: one law for each of the sixteen arms. Assumes nothing.
use Prim.Native.Nat.{zero-le}
use native.Mathlib.Nat.{le_antisymm}
use native.Mathlib.Omega.{arith}
use mathlib.Core.Path.{ap, ◌∙◌}
use Rattle.isa.specs.Disassembly.{meant_if}
use Rattle.isa.proofs.Exact.{up, fill-low, fill-D, branch-shows, add-shows, add-hides, ld-shows, st-shows, and-shows, and-hides, ldr-shows, str-shows, rti-shows, rti-hides, not-shows, not-hides, ldi-shows, sti-shows, lea-shows}
use Rattle.isa.proofs.disassembly.try_disassemble_line.Goals as goal

pub returns-then-word-lt-LEAST_WORD : goal.returns-then-word-lt-LEAST_WORD
returns-then-word-lt-LEAST_WORD c = fill-low _ (omega arith)

-- four bits that are none of 0 to 14 are 15
pub decode_trap-requires : goal.decode_trap-requires
decode_trap-requires c =
    let h = (up (up (up (up (up (up (up (up (up (up (up (up (up (up (up zero-le c.in_default.in_default-own.rest.0.0.0.0.0.0.0.0.0.0.0.0.0.0.1) c.in_default.in_default-own.rest.0.0.0.0.0.0.0.0.0.0.0.0.0.1) c.in_default.in_default-own.rest.0.0.0.0.0.0.0.0.0.0.0.0.1) c.in_default.in_default-own.rest.0.0.0.0.0.0.0.0.0.0.0.1) c.in_default.in_default-own.rest.0.0.0.0.0.0.0.0.0.0.1) c.in_default.in_default-own.rest.0.0.0.0.0.0.0.0.0.1) c.in_default.in_default-own.rest.0.0.0.0.0.0.0.0.1) c.in_default.in_default-own.rest.0.0.0.0.0.0.0.1) c.in_default.in_default-own.rest.0.0.0.0.0.0.1) c.in_default.in_default-own.rest.0.0.0.0.0.1) c.in_default.in_default-own.rest.0.0.0.0.1) c.in_default.in_default-own.rest.0.0.0.1) c.in_default.in_default-own.rest.0.0.1) c.in_default.in_default-own.rest.0.1) c.in_default.in_default-own.rest.1) in
    le_antisymm (omega (arith, c.ranges.word)) h

pub returns-in-0 : goal.returns-in-0
returns-in-0 c = branch-shows _ _ c.if-word-lt-LEAST_WORD.false c.in-0.is c.offset9_of.ensures

pub returns-in_ok-last_operand-in-1 : goal.returns-in_ok-last_operand-in-1
returns-in_ok-last_operand-in-1 c = add-shows _ _ _ c.in-1.is c.last_operand.ensures c.in_ok-last_operand-in-1.was

pub returns-in_err-last_operand-in-1 : goal.returns-in_err-last_operand-in-1
returns-in_err-last_operand-in-1 c = ap meant_if c.from_residual.ensures ∙ add-hides _ _ c.in-1.is c.last_operand.ensures c.in_err-last_operand-in-1.was

pub returns-in-2 : goal.returns-in-2
returns-in-2 c = ld-shows _ _ c.in-2.is c.offset9_of-in-2.ensures

pub returns-in-3 : goal.returns-in-3
returns-in-3 c = st-shows _ _ c.in-3.is c.offset9_of-in-3.ensures

pub returns-in-4 : goal.returns-in-4
returns-in-4 c = c.decode_jsr.ensures

pub returns-in_ok-last_operand-in-5 : goal.returns-in_ok-last_operand-in-5
returns-in_ok-last_operand-in-5 c = and-shows _ _ _ c.in-5.is c.last_operand-in-5.ensures c.in_ok-last_operand-in-5.was

pub returns-in_err-last_operand-in-5 : goal.returns-in_err-last_operand-in-5
returns-in_err-last_operand-in-5 c = ap meant_if c.from_residual-in_err-last_operand-in-5.ensures ∙ and-hides _ _ c.in-5.is c.last_operand-in-5.ensures c.in_err-last_operand-in-5.was

pub returns-in-6 : goal.returns-in-6
returns-in-6 c = ldr-shows _ _ c.in-6.is c.offset6_of.ensures

pub returns-in-7 : goal.returns-in-7
returns-in-7 c = str-shows _ _ c.in-7.is c.offset6_of-in-7.ensures

pub returns-then-word-eq-RTI_WORD : goal.returns-then-word-eq-RTI_WORD
returns-then-word-eq-RTI_WORD c = rti-shows _ c.if-word-eq-RTI_WORD.true

pub returns-else-word-eq-RTI_WORD : goal.returns-else-word-eq-RTI_WORD
returns-else-word-eq-RTI_WORD c = rti-hides _ c.in-8.is c.if-word-eq-RTI_WORD.false

pub returns-then-word-eq-NOT_LOW : goal.returns-then-word-eq-NOT_LOW
returns-then-word-eq-NOT_LOW c = not-shows _ c.in-9.is c.if-word-eq-NOT_LOW.true

pub returns-else-word-eq-NOT_LOW : goal.returns-else-word-eq-NOT_LOW
returns-else-word-eq-NOT_LOW c = not-hides _ c.in-9.is c.if-word-eq-NOT_LOW.false

pub returns-in-10 : goal.returns-in-10
returns-in-10 c = ldi-shows _ _ c.in-10.is c.offset9_of-in-10.ensures

pub returns-in-11 : goal.returns-in-11
returns-in-11 c = sti-shows _ _ c.in-11.is c.offset9_of-in-11.ensures

pub returns-in-12 : goal.returns-in-12
returns-in-12 c = c.decode_jmp.ensures

pub returns-in-13 : goal.returns-in-13
returns-in-13 c = fill-D _ c.in-13.is

pub returns-in-14 : goal.returns-in-14
returns-in-14 c = lea-shows _ _ c.in-14.is c.offset9_of-in-14.ensures

pub returns-in_default : goal.returns-in_default
returns-in_default c = c.decode_trap.ensures
