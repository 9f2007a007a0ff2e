-- What an arm of a match on an instruction gives is what the instruction's spelling has. Assumes nothing.
use mathlib.Core.Path.{◌≡◌, sym, ◌∙◌, ap}
use mathlib.Core.Option.{Option, none}
use mathlib.Core.List.{List, [], ◌∷◌}
use Prim.Native.Nat.{ℕ, ◌%◌, ◌<◌}
use native.Mathlib.Omega.{arith}
use lib.ListN.{get_or, get_or-append}
use Rattle.isa.specs.Instructions.{operand_of, meant}
use Rattle.isa.specs.Disassembly.{meant_line}
use Rattle.isa.specs.declared.ImmOrReg.{ImmOrReg}
use Rattle.isa.specs.declared.disassembly.Line as L
use Rattle.isa.specs.declared.disassembly.Line.TheVariants as LV
use Rattle.isa.specs.declared.AsmInstr.{AsmInstr}
use Rattle.isa.specs.declared.AsmInstr.TheVariants.{BR}
use Rattle.view_instruction.specs.Lines.{Part, reg, last_part, branch_keys, branch_key, spelling, parts_reach, instr_reach, line_reach}
use Rattle.view_instruction.specs.Spelled.{other_keys, keys, key_row, parts_of}
use Rattle.view_instruction.specs.declared.Operands.{Operands}

module _ {i j : AsmInstr} where
  pub key-arm : {k : List ℕ} → i ≡ j → k ≡ (spelling (meant j)).key → k ≡ (spelling (meant i)).key
  key-arm p e = e ∙ ap (λ (x : AsmInstr). (spelling (meant x)).key) (sym p)

  pub parts-arm : {ps : List Part} → i ≡ j → ps ≡ (spelling (meant j)).parts → ps ≡ (spelling (meant i)).parts
  parts-arm p e = e ∙ ap (λ (x : AsmInstr). (spelling (meant x)).parts) (sym p)

pub last_arm : {o p : ImmOrReg} {a b : ℕ} {ps : List Part} → o ≡ p → ps ≡ reg a ∷ reg b ∷ last_part (operand_of p) ∷ [] → ps ≡ reg a ∷ reg b ∷ last_part (operand_of o) ∷ []
last_arm {a = a} {b = b} q e = e ∙ ap (λ (x : ImmOrReg). reg a ∷ reg b ∷ last_part (operand_of x) ∷ []) (sym q)

-- BR's row is its flags
branch_row : (k : ℕ) → k < 8 → key_row k ≡ get_or branch_keys k []
unfolding key_row keys
branch_row k h = get_or-append branch_keys other_keys [] k h

pub key-branch : {i : AsmInstr} {nzp o k : ℕ} → i ≡ BR nzp o → k ≡ nzp % 8 → key_row k ≡ (spelling (meant i)).key
unfolding spelling meant branch_key
key-branch {nzp = nzp} p e = key-arm p (branch_row _ (omega (arith, e)) ∙ ap (λ (x : ℕ). get_or branch_keys x []) e)

-- how far operands and lines reach
pub reach-arm : {o p : Operands} {x : Option ℕ} → o ≡ p → x ≡ parts_reach (parts_of p) → x ≡ parts_reach (parts_of o)
reach-arm q e = e ∙ ap (λ (y : Operands). parts_reach (parts_of y)) (sym q)

pub reach-line : {i : AsmInstr} {l : L.Line} (o : Operands) {x : Option ℕ} → l ≡ LV.Instr i → parts_of o ≡ (spelling (meant i)).parts → x ≡ parts_reach (parts_of o) → x ≡ line_reach (meant_line l)
unfolding line_reach instr_reach
reach-line o q r e = e ∙ (ap parts_reach r ∙ ap (λ (y : L.Line). line_reach (meant_line y)) (sym q))

pub reach-fill : {w : ℕ} {l : L.Line} → l ≡ LV.Fill w → none ≡ line_reach (meant_line l)
unfolding line_reach
reach-fill q = ap (λ (y : L.Line). line_reach (meant_line y)) (sym q)
