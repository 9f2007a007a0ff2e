-- Section "Refusal numbers" of document 01: the answer of a call in numbers, and the names of the refusals. Assumes nothing.
use Rattle.std.specs.Prelude.{ℕ, true, false, List, [], ◌∷◌, eqb}
use Prim.Native.String.{String}
use Rattle.rules.specs.Base.{Span, nowhere, Refusal, Outcome, ok, refused, bytes}
use Rattle.rules.specs.Objects.{Object, Counts, counts_of}

-- the number, two spans and counts
pub record Answer : Type 0 where
  pub number : ℕ
  pub first : Span
  pub second : Span
  pub counts : Counts

abbrev pub no_counts : Counts
no_counts = record { blocks = 0; words = 0; labels = 0; relocs = 0 }

-- Number 0 is acceptance, with counts of blocks, words, labels, relocations.
abbrev pub accepted : Counts → Answer
accepted c = record { number = 0; first = nowhere; second = nowhere; counts = c }

-- Each refusal returns the number, two spans and counts of 0.
abbrev pub refusal : Refusal → Answer
refusal r = record { number = r.number; first = r.first; second = r.second; counts = no_counts }

-- the answer of a call that makes an object
unfoldable pub answer : Outcome Object → Answer
answer (ok o) = accepted (counts_of o)
answer (refused r) = refusal r

-- in a row, as other languages are handed it
unfoldable pub numbers : Answer → List ℕ
numbers a =
    a.number
    ∷ a.first.start
    ∷ a.first.stop
    ∷ a.second.start
    ∷ a.second.stop
    ∷ a.counts.blocks
    ∷ a.counts.words
    ∷ a.counts.labels
    ∷ a.counts.relocs
    ∷ []

-- the table's numbers and names
unfoldable pub refusals : List (ℕ × String)
refusals =
    (1, "DoesNotFitU16")
    ∷ (2, "DoesNotFitI16")
    ∷ (3, "InvalidHex")
    ∷ (4, "InvalidNumeric")
    ∷ (5, "InvalidHexEmpty")
    ∷ (6, "InvalidDecEmpty")
    ∷ (7, "UnclosedStrLit")
    ∷ (8, "StrLitTooBig")
    ∷ (9, "InvalidReg")
    ∷ (10, "InvalidSymbol")
    ∷ (11, "SourceTooLong")
    ∷ (12, "NonAscii")
    ∷ (13, "BadStatement")
    ∷ (14, "BadOperand")
    ∷ (15, "OperandRange")
    ∷ (16, "NameTooLong")
    ∷ (20, "UndetAddrLabel")
    ∷ (21, "UndetAddrStmt")
    ∷ (22, "UnclosedOrig")
    ∷ (23, "UnopenedOrig")
    ∷ (24, "OverlappingOrig")
    ∷ (25, "OverlappingLabels")
    ∷ (26, "WrappingBlock")
    ∷ (27, "BlockInIO")
    ∷ (28, "OverlappingBlocks")
    ∷ (29, "OffsetNewErr")
    ∷ (30, "OffsetExternal")
    ∷ (31, "CouldNotFindLabel")
    ∷ (40, "TableFull")
    ∷ (41, "NoRoom")
    ∷ (42, "ShortBuffer")
    ∷ (43, "BadObject")
    ∷ (50, "BadField")
    ∷ (51, "NoWriteRoom")
    ∷ []

-- the name of a number; empty where the table has none
unfoldable pub name_in : List (ℕ × String) → ℕ → List ℕ
name_in [] n = []
name_in (r ∷ rs) n = elim (eqb r.0 n) [ true ↦ bytes r.1 | false ↦ name_in rs n ]

unfoldable pub refusal_name : ℕ → List ℕ
refusal_name n = name_in refusals n
