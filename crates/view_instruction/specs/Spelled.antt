-- What the code's rows of mnemonics, operands and reaches mean. Assumes nothing.
use Rattle.std.specs.declared.option.Option as O
use Rattle.std.specs.declared.option.Option.TheVariants.{Some, None}
use Rattle.std.specs.Prelude.{ℕ, List, [], ◌∷◌, ◌++◌, get_or, take}
use Rattle.std.proofs.Math.Option.{Option, none, some}
use Rattle.rules.specs.Base.{bytes}
use Rattle.base_text.specs.Runs.{run_end}
use Rattle.base_text.specs.declared.Class.TheVariants.{Word}
use Rattle.view_instruction.specs.Lines.{Part, branch_keys}
use Rattle.view_instruction.specs.Lines as L
use Rattle.view_instruction.specs.declared.Operands.{Operands}
use Rattle.view_instruction.specs.declared.Operands.TheVariants.{Nothing, Reg, RegReg, RegRegReg, RegRegNumber, Number, Offset, RegOffset, Vector}

-- the mnemonics by their rows: BR's are its flags
abbrev pub other_keys : List (List ℕ)
other_keys =
    bytes "ADD" ∷ bytes "AND" ∷ bytes "NOT" ∷ bytes "JMP" ∷ bytes "JSR" ∷ bytes "JSRR" ∷ bytes "LD" ∷ bytes "LDI" ∷ bytes "LDR" ∷ bytes "LEA" ∷ bytes "ST" ∷ bytes "STI" ∷ bytes "STR" ∷ bytes "NOP" ∷ bytes "TRAP"
    ∷ bytes "RET" ∷ bytes "RTI" ∷ bytes "GETC" ∷ bytes "OUT" ∷ bytes "PUTC" ∷ bytes "PUTS" ∷ bytes "IN" ∷ bytes "PUTSP" ∷ bytes "HALT" ∷ []

unfoldable pub keys : List (List ℕ)
keys = branch_keys ++ other_keys

unfoldable pub key_row : ℕ → List ℕ
key_row k = get_or keys k []

-- a mnemonic that is filled up with spaces
unfoldable pub key_text : List ℕ → List ℕ
key_text k = take (run_end Word k 0) k

unfoldable pub parts_of : Operands → List Part
parts_of Nothing = []
parts_of (Reg a) = L.reg a ∷ []
parts_of (RegReg a b) = L.reg a ∷ L.reg b ∷ []
parts_of (RegRegReg a b c) = L.reg a ∷ L.reg b ∷ L.reg c ∷ []
parts_of (RegRegNumber a b d) = L.reg a ∷ L.reg b ∷ L.number d ∷ []
parts_of (Number d) = L.number d ∷ []
parts_of (Offset d) = L.offset d ∷ []
parts_of (RegOffset a d) = L.reg a ∷ L.offset d ∷ []
parts_of (Vector v) = L.vector v ∷ []

unfoldable pub reached : O.Option ℕ → Option ℕ
reached (Some d) = some d
reached None = none
