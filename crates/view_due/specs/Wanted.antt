-- What is due at a place of a statement. A statement's tokens but its labels stand on one line: so it is read from the beginning of the place's line. Assumes nothing.
use Rattle.std.specs.Prelude.{ℕ, List, [], ◌∷◌, leb}
use Rattle.std.proofs.Math.Option.{Option, none, some}
use Rattle.rules.specs.Base.{when◌then◌else◌, Outcome, ok, refused, Span, nowhere}
use Rattle.rules.specs.Tokens.{Kind, Token, next_token}
use Rattle.rules.specs.Words.{Field, Row, find, instructions, directives}
use Rattle.rules.specs.Statements.{Name, as_word, as_directive, past_lines, past_labels, labels_at}
use Rattle.view_places.specs.Lines.{line_start}

-- an instruction or a directive, the name of a directive, a comma, the end of the line, or what a field takes
pub data Wanted : Type 0 where
  statement directive comma line_end : Wanted
  operand : Field → Wanted

-- where the token begins and ends that is next from a place on, refused or not
unfoldable pub start_at : List ℕ → ℕ → ℕ
start_at s i = elim (next_token s i) [ ok t ↦ t.place.start | refused r ↦ r.first.start ]

unfoldable pub end_at : List ℕ → ℕ → ℕ
end_at s i = elim (next_token s i) [ ok t ↦ t.place.stop | refused r ↦ r.first.stop ]

-- what is due, or where the next operand stands
pub data Onward : Type 0 where
  found : Wanted → Onward
  next : ℕ → Onward

-- an operand that stands at i or after it, and the comma behind it: the first of the two that does not stand before the place is due there
unfoldable pub operand_or : List ℕ → Field → (i place : ℕ) → Onward
operand_or s f i place =
    when leb place (start_at s i) then found (operand f)
    else when leb place (start_at s (end_at s i)) then found comma
    else next (end_at s (end_at s i))

-- operands from i on, with commas between them, then the end of the line
unfoldable pub due_from : List ℕ → List Field → (i place : ℕ) → Wanted
due_from s [] i place = line_end
due_from s (f ∷ []) i place = when leb place (start_at s i) then operand f else line_end
due_from s (f ∷ g ∷ gs) i place = elim (operand_or s f i place) [ found w ↦ w | next j ↦ due_from s (g ∷ gs) j place ]

-- the row of an instruction or a directive
unfoldable pub row_of : Kind → Option Row
row_of k = elim (as_directive k) [
  | some d ↦ find d directives
  | none ↦ elim (as_word k) [ some w ↦ find w instructions | none ↦ none ]
]

-- behind it, where it ends at i
unfoldable pub due_behind : List ℕ → Option Row → (i place : ℕ) → Wanted
due_behind s none i place = statement
due_behind s (some r) i place = due_from s r.fields i place

-- where it is due itself
unfoldable pub due_head : Kind → Wanted
due_head k = elim (as_directive k) [ some d ↦ directive | none ↦ statement ]

-- by the token that stands after the labels
unfoldable pub due_by : List ℕ → ℕ → Outcome Token → Wanted
due_by s place (refused r) = statement
due_by s place (ok t) = when leb place t.place.start then due_head t.kind else due_behind s (row_of t.kind) t.place.stop place

unfoldable pub due_at : List ℕ → ℕ → Wanted
due_at s place = due_by s place (next_token s (past_lines s (past_labels s (line_start s place))))

-- the place of the last of some labels; another place where there are none
unfoldable pub last_place : Span → List Name → Span
last_place p [] = p
last_place p (n ∷ ns) = last_place n.place ns

-- the last label before the statement of a place
unfoldable pub label_before : List ℕ → ℕ → Span
label_before s place = last_place nowhere (labels_at s (line_start s place))
