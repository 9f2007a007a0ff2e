-- Words beside their marks, written behind those in use. Assumes nothing.
use Rattle.std.specs.declared.result.Result.{Result}
use Rattle.std.specs.declared.result.Result.TheVariants.{Ok, Err}
use Rattle.base_refusals.specs.declared.Fault.{Fault}
use Rattle.base_refusals.specs.Refusals.{fault}
use Rattle.std.specs.Prelude.{◌≡◌, List, ℕ, ◌+◌, ◌≤◌, ◌<◌, length, get_or}
use Rattle.rules.specs.Base.{Outcome, ok, refuse, span}
use Rattle.rules.specs.Objects.{Cell}
use Rattle.rules.specs.Buffers.{WordRow}
use Rattle.pass2_blocks.specs.Rows.{cells_at}
use Rattle.parse_rows.specs.declared.Op.{Op}
use Rattle.parse_rows.specs.declared.Op.TheVariants.{Instr, Orig, Fill, Blkw, Stringz, External}
use Rattle.parse_rows.specs.declared.Op.TheVariants as op
use Rattle.parse.specs.declared.Statement.{Statement}
use Rattle.parse_meaning.specs.Reading.{chars_at}
use Rattle.pass2_encode.specs.Worded.{Ready}

-- zero from a place on
pub record Clear (ws ms : List ℕ) (used : ℕ) : Type 0 where
  pub words : (i : ℕ) → used ≤ i → get_or ws i 0 ≡ 0
  pub marks : (i : ℕ) → used ≤ i → get_or ms i 0 ≡ 0

-- both buffers have room for k words more
pub record Room (ws ms : List ℕ) (used k : ℕ) : Type 0 where
  pub words : used + k ≤ length ws
  pub marks : used + k ≤ length ms

-- these words stand behind those in use, and all else is as it was
pub record Wrote (ws ms ws' ms' : List ℕ) (used : ℕ) (cs : List Cell) : Type 0 where
  pub words_before : (i : ℕ) → i < used → get_or ws' i 0 ≡ get_or ws i 0
  pub marks_before : (i : ℕ) → i < used → get_or ms' i 0 ≡ get_or ms i 0
  pub cells : cells_at ws' ms' used (length cs) ≡ cs
  pub clean : (i : ℕ) → used ≤ i → i < used + length cs → WordRow ws' ms' i
  pub words_after : (i : ℕ) → used + length cs ≤ i → get_or ws' i 0 ≡ get_or ws i 0
  pub marks_after : (i : ℕ) → used + length cs ≤ i → get_or ms' i 0 ≡ get_or ms i 0

-- and are all of an outcome
pub record WroteAll (o : Outcome (List Cell)) (ws ms ws' ms' : List ℕ) (used u : ℕ) : Type 0 where
  pub cells : List Cell
  pub is : o ≡ ok cells
  pub upto : u ≡ used + length cells
  pub wrote : Wrote ws ms ws' ms' used cells

-- what an answer says of an outcome
pub record WroteAs (o : Outcome (List Cell)) (ws ms ws' ms' : List ℕ) (used : ℕ) (r : Result ℕ Fault) : Type 0 where
  pub went : (u : ℕ) → r ≡ Ok u → WroteAll o ws ms ws' ms' used u
  pub stuck : (f : Fault) → r ≡ Err f → o ≡ refuse f.number (span f.start f.end)

-- how many words a statement takes
abbrev pub size_by : Op → (bits chars : ℕ) → ℕ
size_by Instr b c = 1
size_by Fill b c = 1
size_by Blkw b c = b
size_by Stringz b c = c + 1
size_by Orig b c = 0
size_by op.End b c = 0
size_by External b c = 0

unfoldable pub size_at : List ℕ → Statement → ℕ
size_at src st = size_by st.op st.bits (length (chars_at src (st.text_start + 1)))

-- the symbols, and room for a statement at an address
pub record Roomy (rs src : List ℕ) (n : ℕ) (ws ms : List ℕ) (st : Statement) (used a : ℕ) : Type 0 where
  pub ready : Ready rs src n st
  pub room : Room ws ms used (size_at src st)
  pub clear : Clear ws ms used
  pub low : 0 < size_at src st → a + size_at src st ≤ 0xfe00
