-- A note under a refused place: what was due there, what the operand takes and what stands there, or how far its label is. Assumes nothing.
use Rattle.std.specs.Prelude.{ℕ, zero, suc, Bool, ◌||◌, List, [], ◌++◌, eqb}
use Rattle.std.proofs.Math.Option.{none, some}
use Rattle.rules.specs.Base.{when◌then◌else◌, bytes, ok, refused, Span}
use Rattle.rules.specs.Listing.{lf}
use Rattle.rules.specs.Tokens.{Num, plus, minus, Kind, next_token}
use Rattle.rules.specs.Words.{Range, signed, Field, reg, reg_or_imm, num, near, name, string}
use Rattle.rules.specs.Statements.{as_number}
use Rattle.lex.specs.Label.{label_text}
use Rattle.view_text.specs.Texts.{decimal}
use Rattle.view_due.specs.Wanted.{Wanted, statement, directive, comma, line_end, operand, due_at, label_before}
use Rattle.view_far.specs.Far.{far_note}

-- the least number of a range that goes so far below 0, and the range
unfoldable pub low_text : ℕ → List ℕ
low_text zero = bytes "0"
low_text (suc n) = bytes "-" ++ decimal (suc n)

unfoldable pub range_text : Range → List ℕ
range_text r = bytes "a number from " ++ low_text r.low ++ bytes " to " ++ decimal r.high

-- what a field takes
unfoldable pub field_text : Field → List ℕ
field_text (reg m) = bytes "a register"
field_text reg_or_imm = bytes "a register or " ++ range_text (signed 5)
field_text (num r) = range_text r
field_text (near r) = bytes "a label or " ++ range_text r
field_text (name r) = bytes "a label"
field_text string = bytes "a string"

-- the number that stands at a place; nothing where none does
unfoldable pub num_text : Num → List ℕ
num_text (plus n) = decimal n
num_text (minus n) = bytes "-" ++ decimal n

unfoldable pub number_text : Kind → List ℕ
number_text k = elim (as_number k) [ some n ↦ num_text n | none ↦ [] ]

unfoldable pub number_at : List ℕ → ℕ → List ℕ
number_at s place = elim (next_token s place) [ ok t ↦ number_text t.kind | refused r ↦ [] ]

-- 15: what the operand takes, and what stands there
unfoldable pub takes_text : List ℕ → ℕ → Field → List ℕ
takes_text s place f = bytes "this operand takes " ++ field_text f ++ bytes ", and " ++ number_at s place ++ bytes " stands here"

unfoldable pub operand_text : List ℕ → (n place : ℕ) → Field → List ℕ
operand_text s n place f = when eqb n 15 then takes_text s place f else (field_text f ++ bytes " is due here")

-- the label before the place's statement, which may have been meant for an instruction; nothing where there is none
unfoldable pub labelled : List ℕ → Span → List ℕ
labelled s p = when eqb p.stop 0 then [] else (bytes "; " ++ label_text s p.start p.stop ++ bytes " before it was read as a label")

unfoldable pub label_words : List ℕ → ℕ → List ℕ
label_words s place = labelled s (label_before s place)

-- what is due
unfoldable pub said : List ℕ → (n place : ℕ) → Wanted → List ℕ
said s n place statement = bytes "an instruction or a directive is due here" ++ label_words s place
said s n place directive = bytes "the directives are .orig, .fill, .blkw, .stringz, .end and .external"
said s n place comma = bytes "a comma is due here"
said s n place line_end = bytes "the end of the line is due here"
said s n place (operand f) = operand_text s n place f

unfoldable pub said_at : List ℕ → (n place : ℕ) → List ℕ
said_at s n place = said s n place (due_at s place)

-- 13, 14 and 15 have a note that says what is due
unfoldable pub has_note : ℕ → Bool
has_note n = eqb n 13 || eqb n 14 || eqb n 15

unfoldable pub due_note : List ℕ → (n place : ℕ) → List ℕ
due_note s n place = when has_note n then (bytes "note: " ++ said_at s n place ++ lf) else []

-- 29 has one that says how far the label is
unfoldable pub note_text : List ℕ → (n place : ℕ) → List ℕ
note_text s n place = when eqb n 29 then far_note s place else due_note s n place
