-- What the contracts of this crate give: encoding and disassembly undo each other, and two answers that a contract allows are equal.
-- Assumes nothing.
use Prim.Native.Nat.{ℕ}
use mathlib.Core.Option.{Option, none, some}
use mathlib.Core.Path.{◌≡◌, refl, ap, sym, subst, ◌∙◌}
use Rattle.rules.specs.Base.{when◌then◌else◌}
use Rattle.rules.specs.Words as R
use Rattle.rules.specs.Words.{Instr, word, disassemble, line, Shown}
use Rattle.rules.proofs.Disassembly.{disassembled-encodes, encoded-shows}
use Rattle.rules.proofs.Bools.{never}
use Rattle.isa_fields.specs.Fields.{encoded}
use Rattle.isa.specs.Instructions.{operand_of, meant}
use Rattle.isa.specs.Disassembly.{meant_if, meant_line}
use Rattle.std.specs.declared.option.Option as O
use Rattle.std.specs.declared.option.Option.TheVariants.{Some, None}
use Rattle.isa.specs.declared.disassembly.Line.{Line}
use Rattle.isa.specs.declared.disassembly.Line.TheVariants as L
use Rattle.isa.specs.declared.ImmOrReg.{ImmOrReg}
use Rattle.isa.specs.declared.ImmOrReg.TheVariants.{Imm, Reg}
use Rattle.isa.specs.declared.AsmInstr.{AsmInstr}
use Rattle.isa.specs.declared.AsmInstr.TheVariants.{ADD, AND, BR, JMP, JSR, JSRR, LD, LDI, LDR, LEA, NOT, RET, RTI, ST, STI, STR, TRAP, NOP, GETC, OUT, PUTC, PUTS, IN, PUTSP, HALT}

-- an instruction's meaning has its every operand
operand-back : R.Operand → ImmOrReg
operand-back (R.value d) = Imm d
operand-back (R.register r) = Reg r

back : Instr → AsmInstr
back (R.ADD d s o) = ADD d s (operand-back o)
back (R.AND d s o) = AND d s (operand-back o)
back (R.NOT d s) = NOT d s
back (R.BR c o) = BR c o
back (R.JMP b) = JMP b
back (R.JSRR b) = JSRR b
back (R.JSR o) = JSR o
back (R.NOP o) = NOP o
back (R.LD d o) = LD d o
back (R.LDI d o) = LDI d o
back (R.LEA d o) = LEA d o
back (R.ST s o) = ST s o
back (R.STI s o) = STI s o
back (R.LDR d b o) = LDR d b o
back (R.STR s b o) = STR s b o
back (R.TRAP v) = TRAP v
back R.RET = RET
back R.RTI = RTI
back R.GETC = GETC
back R.OUT = OUT
back R.PUTC = PUTC
back R.PUTS = PUTS
back R.IN = IN
back R.PUTSP = PUTSP
back R.HALT = HALT

operand-meant : (o : ImmOrReg) → operand-back (operand_of o) ≡ o
unfolding operand-back
operand-meant (Imm d) = refl
operand-meant (Reg r) = refl

back-meant : (i : AsmInstr) → back (meant i) ≡ i
unfolding back meant
back-meant (ADD d s o) = ap (ADD d s) (operand-meant o)
back-meant (AND d s o) = ap (AND d s) (operand-meant o)
back-meant (BR c o) = refl
back-meant (JMP b) = refl
back-meant (JSR o) = refl
back-meant (JSRR b) = refl
back-meant (LD d o) = refl
back-meant (LDI d o) = refl
back-meant (LDR d b o) = refl
back-meant (LEA d o) = refl
back-meant (NOT d s) = refl
back-meant RET = refl
back-meant RTI = refl
back-meant (ST s o) = refl
back-meant (STI s o) = refl
back-meant (STR s b o) = refl
back-meant (TRAP v) = refl
back-meant (NOP o) = refl
back-meant GETC = refl
back-meant OUT = refl
back-meant PUTC = refl
back-meant PUTS = refl
back-meant IN = refl
back-meant PUTSP = refl
back-meant HALT = refl

meant-once : (i j : AsmInstr) → meant i ≡ meant j → i ≡ j
meant-once i j e = sym (back-meant i) ∙ ap back e ∙ back-meant j

-- two answers are equal where they mean the same
if-once : (r s : O.Option AsmInstr) → meant_if r ≡ meant_if s → r ≡ s
if-once (Some i) (Some j) e = let h : meant i ≡ meant j = cc in ap Some (meant-once i j h)
if-once (Some i) None e = never cc
if-once None (Some j) e = never cc
if-once None None e = refl

line-once : (r s : Line) → meant_line r ≡ meant_line s → r ≡ s
line-once (L.Instr i) (L.Instr j) e = let h : meant i ≡ meant j = cc in ap L.Instr (meant-once i j h)
line-once (L.Instr i) (L.Fill n) e = never cc
line-once (L.Fill m) (L.Instr j) e = never cc
line-once (L.Fill m) (L.Fill n) e = cc

-- `encode`, then `try_disassemble_line`: the instruction, up to the names that share a word
pub encode-disassemble :
    (i : AsmInstr) (r : O.Option ℕ) (w : ℕ) (d : O.Option AsmInstr) →
    r ≡ encoded (word (meant i)) → r ≡ Some w → meant_if d ≡ disassemble w → Shown (meant i) (meant_if d)
encode-disassemble i r w d p q e = subst (Shown (meant i)) (sym e) (encoded-shows (meant i) w (is_some (word (meant i)) (sym p ∙ q))) where
  is_some : (x : Option ℕ) → encoded x ≡ Some w → x ≡ some w
  is_some none h = never cc
  is_some (some v) h = cc

-- `try_disassemble_line` to an instruction, then `encode`: the word
pub disassemble-encode :
    (w : ℕ) (d : O.Option AsmInstr) (i : AsmInstr) (r : O.Option ℕ) →
    meant_if d ≡ disassemble w → d ≡ Some i → r ≡ encoded (word (meant i)) → r ≡ Some w
disassemble-encode w d i r e q p = p ∙ ap encoded (disassembled-encodes w (meant i) (sym e ∙ ap meant_if q))

-- two answers that a contract allows are equal: `encode`; `try_disassemble_line`; `disassemble_line`
pub encode-one-answer : (i : AsmInstr) (r s : O.Option ℕ) → r ≡ encoded (word (meant i)) → s ≡ encoded (word (meant i)) → r ≡ s
encode-one-answer i r s p q = p ∙ sym q

pub try-disassemble-one-answer : (w : ℕ) (r s : O.Option AsmInstr) → meant_if r ≡ disassemble w → meant_if s ≡ disassemble w → r ≡ s
try-disassemble-one-answer w r s p q = if-once r s (p ∙ sym q)

pub disassemble-line-one-answer : (w : ℕ) (r s : Line) → meant_line r ≡ line w → meant_line s ≡ line w → r ≡ s
disassemble-line-one-answer w r s p q = line-once r s (p ∙ sym q)
