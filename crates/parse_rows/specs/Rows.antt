-- The table of rows as the code has it. Assumes nothing.
use Rattle.std.specs.Prelude.{ℕ, zero, suc, ◌+◌, ◌*◌, List, [], ◌∷◌, ◌≡◌, eqb, get_or}
use Rattle.rules.specs.Base.{when◌then◌else◌, same}
use Rattle.rules.specs.Words.{instr, orig, fill, blkw, stringz, end, external}
use Rattle.rules.specs.Words as words
use Rattle.parse_field.specs.declared.Field.{Field}
use Rattle.parse_field.specs.declared.Field.TheVariants.{Dr, Sr, RegOrImm, Offset6, Near9, Near11, Trap, Word, Name, Text}
use Rattle.parse_field.specs.declared.Field.TheVariants as field
use Rattle.parse_field.specs.Coded.{field_of}
use Rattle.parse_rows.specs.declared.Op.{Op}
use Rattle.parse_rows.specs.declared.Op.TheVariants.{Instr, Orig, Fill, Blkw, Stringz, End, External}
use Rattle.parse_rows.specs.declared.Row.{Row}

-- a row: the word with all operands zero, how many operands, and three fields by number
unfoldable pub table : List (List ℕ)
table =
    (0x1000 ∷ 3 ∷ 0 ∷ 1 ∷ 2 ∷ []) ∷
    (0x5000 ∷ 3 ∷ 0 ∷ 1 ∷ 2 ∷ []) ∷
    (0x903f ∷ 2 ∷ 0 ∷ 1 ∷ 0 ∷ []) ∷
    (0x0e00 ∷ 1 ∷ 4 ∷ 0 ∷ 0 ∷ []) ∷
    (0x0200 ∷ 1 ∷ 4 ∷ 0 ∷ 0 ∷ []) ∷
    (0x0400 ∷ 1 ∷ 4 ∷ 0 ∷ 0 ∷ []) ∷
    (0x0600 ∷ 1 ∷ 4 ∷ 0 ∷ 0 ∷ []) ∷
    (0x0800 ∷ 1 ∷ 4 ∷ 0 ∷ 0 ∷ []) ∷
    (0x0a00 ∷ 1 ∷ 4 ∷ 0 ∷ 0 ∷ []) ∷
    (0x0c00 ∷ 1 ∷ 4 ∷ 0 ∷ 0 ∷ []) ∷
    (0x0e00 ∷ 1 ∷ 4 ∷ 0 ∷ 0 ∷ []) ∷
    (0xc000 ∷ 1 ∷ 1 ∷ 0 ∷ 0 ∷ []) ∷
    (0x4800 ∷ 1 ∷ 5 ∷ 0 ∷ 0 ∷ []) ∷
    (0x4000 ∷ 1 ∷ 1 ∷ 0 ∷ 0 ∷ []) ∷
    (0x2000 ∷ 2 ∷ 0 ∷ 4 ∷ 0 ∷ []) ∷
    (0xa000 ∷ 2 ∷ 0 ∷ 4 ∷ 0 ∷ []) ∷
    (0x6000 ∷ 3 ∷ 0 ∷ 1 ∷ 3 ∷ []) ∷
    (0xe000 ∷ 2 ∷ 0 ∷ 4 ∷ 0 ∷ []) ∷
    (0x3000 ∷ 2 ∷ 0 ∷ 4 ∷ 0 ∷ []) ∷
    (0xb000 ∷ 2 ∷ 0 ∷ 4 ∷ 0 ∷ []) ∷
    (0x7000 ∷ 3 ∷ 0 ∷ 1 ∷ 3 ∷ []) ∷
    (0xf000 ∷ 1 ∷ 6 ∷ 0 ∷ 0 ∷ []) ∷
    (0x0000 ∷ 1 ∷ 4 ∷ 0 ∷ 0 ∷ []) ∷
    (0xc1c0 ∷ 0 ∷ 0 ∷ 0 ∷ 0 ∷ []) ∷
    (0x8000 ∷ 0 ∷ 0 ∷ 0 ∷ 0 ∷ []) ∷
    (0xf020 ∷ 0 ∷ 0 ∷ 0 ∷ 0 ∷ []) ∷
    (0xf021 ∷ 0 ∷ 0 ∷ 0 ∷ 0 ∷ []) ∷
    (0xf021 ∷ 0 ∷ 0 ∷ 0 ∷ 0 ∷ []) ∷
    (0xf022 ∷ 0 ∷ 0 ∷ 0 ∷ 0 ∷ []) ∷
    (0xf023 ∷ 0 ∷ 0 ∷ 0 ∷ 0 ∷ []) ∷
    (0xf024 ∷ 0 ∷ 0 ∷ 0 ∷ 0 ∷ []) ∷
    (0xf025 ∷ 0 ∷ 0 ∷ 0 ∷ 0 ∷ []) ∷
    (0x0000 ∷ 1 ∷ 7 ∷ 0 ∷ 0 ∷ []) ∷
    (0x0000 ∷ 1 ∷ 8 ∷ 0 ∷ 0 ∷ []) ∷
    (0x0000 ∷ 1 ∷ 7 ∷ 0 ∷ 0 ∷ []) ∷
    (0x0000 ∷ 1 ∷ 10 ∷ 0 ∷ 0 ∷ []) ∷
    (0x0000 ∷ 0 ∷ 0 ∷ 0 ∷ 0 ∷ []) ∷
    (0x0000 ∷ 1 ∷ 9 ∷ 0 ∷ 0 ∷ []) ∷
    []

unfoldable pub cells : ℕ → List ℕ
cells i = get_or table i []

-- a row as one number: the word, then a hexadecimal digit for the count and one for each field
abbrev pub digits_from : ℕ → List ℕ → ℕ
digits_from n [] = n
digits_from n (d ∷ ds) = digits_from (n * 16 + d) ds

unfoldable pub digits_at : ℕ → ℕ
digits_at i = digits_from 0 (cells i)

-- a field by its number
unfoldable pub field_at : ℕ → Field
field_at k =
    when eqb k 0 then Dr else
    when eqb k 1 then Sr else
    when eqb k 2 then RegOrImm else
    when eqb k 3 then Offset6 else
    when eqb k 4 then Near9 else
    when eqb k 5 then Near11 else
    when eqb k 6 then Trap else
    when eqb k 7 then Word else
    when eqb k 8 then field.Fill else
    when eqb k 9 then Name else Text

-- what the statement of a row does
unfoldable pub op_at : ℕ → Op
op_at i =
    when eqb i 32 then Orig else
    when eqb i 33 then Fill else
    when eqb i 34 then Blkw else
    when eqb i 35 then Stringz else
    when eqb i 36 then End else
    when eqb i 37 then External else Instr

unfoldable pub row_at : ℕ → Row
row_at i = record {
  op = op_at i;
  base = get_or (cells i) 0 0;
  count = get_or (cells i) 1 0;
  first = field_at (get_or (cells i) 2 0);
  second = field_at (get_or (cells i) 3 0);
  third = field_at (get_or (cells i) 4 0);
}

-- the place of NOP, the one instruction whose operand may be left out
abbrev pub nop_row : ℕ
nop_row = 22

-- WHAT A ROW MEANS

abbrev pub op_of : Op → words.Op
op_of Instr = instr
op_of Orig = orig
op_of Fill = fill
op_of Blkw = blkw
op_of Stringz = stringz
op_of End = end
op_of External = external

-- as many of three fields as the count says
abbrev pub fields_by : ℕ → (a b c : Field) → List words.Field
fields_by zero a b c = []
fields_by (suc zero) a b c = field_of a ∷ []
fields_by (suc (suc zero)) a b c = field_of a ∷ field_of b ∷ []
fields_by (suc (suc (suc k))) a b c = field_of a ∷ field_of b ∷ field_of c ∷ []

-- the code's row is the rules' row
pub record Means (c : Row) (r : words.Row) : Type 0 where
  pub op : op_of c.op ≡ r.op
  pub base : c.base ≡ r.base
  pub fields : fields_by c.count c.first c.second c.third ≡ r.fields

-- the place of the first row with this key, counted from k
unfoldable pub code_from : ℕ → List ℕ → List words.Row → ℕ
code_from k w [] = k
code_from k w (r ∷ rs) = when same w r.key then k else code_from (k + 1) w rs
