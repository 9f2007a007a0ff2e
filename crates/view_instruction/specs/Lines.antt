-- A line of disassembly as a person reads it: an instruction's mnemonic and operands, or a fill; and how far it reaches. Assumes nothing.
use Rattle.std.specs.Prelude.{ℕ, ◌+◌, ◌-◌, ◌%◌, List, [], ◌∷◌, ◌++◌, ltb, get_or}
use Rattle.std.proofs.Math.Option.{Option, none, some}
use Rattle.rules.specs.Base.{when◌then◌else◌, bytes}
use Rattle.rules.specs.Words.{Operand, register, value, Instr, ADD, AND, NOT, BR, JMP, JSRR, JSR, NOP, LD, LDI, LEA, ST, STI, LDR, STR, TRAP, RET, RTI, GETC, OUT, PUTC, PUTS, IN, PUTSP, HALT, Line, instruction, filled}
use Rattle.view_text.specs.Texts.{decimal, hex_text, hex_text2}

-- an operand: a register, a number, an offset from the next word, a trap's vector; numbers are modulo 65536
pub data Part : Type 0 where
  reg number offset vector : ℕ → Part

-- a mnemonic and its operands
pub record Spelling : Type 0 where
  pub key : List ℕ
  pub parts : List Part

abbrev pub spelt : List ℕ → List Part → Spelling
spelt k ps = record { key = k; parts = ps }

abbrev pub last_part : Operand → Part
last_part (register r) = reg r
last_part (value d) = number d

-- BR by n, z and p
abbrev pub branch_keys : List (List ℕ)
branch_keys = bytes "BR" ∷ bytes "BRp" ∷ bytes "BRz" ∷ bytes "BRzp" ∷ bytes "BRn" ∷ bytes "BRnp" ∷ bytes "BRnz" ∷ bytes "BRnzp" ∷ []

unfoldable pub branch_key : ℕ → List ℕ
branch_key nzp = get_or branch_keys (nzp % 8) []

-- NOP reaches nothing, and what lies beside a base register is not known here
unfoldable pub spelling : Instr → Spelling
spelling (ADD d s o) = spelt (bytes "ADD") (reg d ∷ reg s ∷ last_part o ∷ [])
spelling (AND d s o) = spelt (bytes "AND") (reg d ∷ reg s ∷ last_part o ∷ [])
spelling (NOT d s) = spelt (bytes "NOT") (reg d ∷ reg s ∷ [])
spelling (BR nzp o) = spelt (branch_key nzp) (offset o ∷ [])
spelling (JMP b) = spelt (bytes "JMP") (reg b ∷ [])
spelling (JSRR b) = spelt (bytes "JSRR") (reg b ∷ [])
spelling (JSR o) = spelt (bytes "JSR") (offset o ∷ [])
spelling (NOP o) = spelt (bytes "NOP") (number o ∷ [])
spelling (LD d o) = spelt (bytes "LD") (reg d ∷ offset o ∷ [])
spelling (LDI d o) = spelt (bytes "LDI") (reg d ∷ offset o ∷ [])
spelling (LEA d o) = spelt (bytes "LEA") (reg d ∷ offset o ∷ [])
spelling (ST s o) = spelt (bytes "ST") (reg s ∷ offset o ∷ [])
spelling (STI s o) = spelt (bytes "STI") (reg s ∷ offset o ∷ [])
spelling (LDR d b o) = spelt (bytes "LDR") (reg d ∷ reg b ∷ number o ∷ [])
spelling (STR s b o) = spelt (bytes "STR") (reg s ∷ reg b ∷ number o ∷ [])
spelling (TRAP v) = spelt (bytes "TRAP") (vector v ∷ [])
spelling RET = spelt (bytes "RET") []
spelling RTI = spelt (bytes "RTI") []
spelling GETC = spelt (bytes "GETC") []
spelling OUT = spelt (bytes "OUT") []
spelling PUTC = spelt (bytes "PUTC") []
spelling PUTS = spelt (bytes "PUTS") []
spelling IN = spelt (bytes "IN") []
spelling PUTSP = spelt (bytes "PUTSP") []
spelling HALT = spelt (bytes "HALT") []

-- TEXTS. R and the digit of a register, of which there are eight
unfoldable pub reg_text : ℕ → List ℕ
reg_text r = bytes "R" ++ ((48 + r % 8) ∷ [])

-- sixteen bits as a signed number, in decimal
unfoldable pub signed_text : ℕ → List ℕ
signed_text d = when ltb d 32768 then bytes "#" ++ decimal d else bytes "#-" ++ decimal (65536 - d)

unfoldable pub part_text : Part → List ℕ
part_text (reg r) = reg_text r
part_text (number d) = signed_text d
part_text (offset d) = signed_text d
part_text (vector v) = hex_text2 v

-- operands, the first behind this text and each other one behind a comma
abbrev pub space : List ℕ
space = bytes " "

abbrev pub comma : List ℕ
comma = bytes ", "

unfoldable pub parts_text : List ℕ → List Part → List ℕ
parts_text before [] = []
parts_text before (p ∷ ps) = before ++ part_text p ++ parts_text comma ps

unfoldable pub instr_text : Instr → List ℕ
instr_text i = (spelling i).key ++ parts_text space (spelling i).parts

unfoldable pub line_text : Line → List ℕ
line_text (instruction i) = instr_text i
line_text (filled w) = bytes ".fill " ++ hex_text w

-- REACH. The first offset of some operands
unfoldable pub part_reach : Part → Option ℕ → Option ℕ
part_reach (reg r) other = other
part_reach (number d) other = other
part_reach (offset d) other = some d
part_reach (vector v) other = other

unfoldable pub parts_reach : List Part → Option ℕ
parts_reach [] = none
parts_reach (p ∷ ps) = part_reach p (parts_reach ps)

unfoldable pub instr_reach : Instr → Option ℕ
instr_reach i = parts_reach (spelling i).parts

unfoldable pub line_reach : Line → Option ℕ
line_reach (instruction i) = instr_reach i
line_reach (filled w) = none
