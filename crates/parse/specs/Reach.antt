-- The field that a label operand goes to, by what the statement does. Assumes nothing.
use Rattle.std.specs.Prelude.{◌≡◌, ◌⊎◌}
use Rattle.std.proofs.Math.Option.{Option, none, some}
use Rattle.rules.specs.Words.{Range, signed, unsigned, any_word, Op, instr, orig, fill, blkw, stringz, end, external}
use Rattle.rules.specs.Statements.{Target}

-- the fields that a label may go to: offset9 or offset11 in an instruction, a word in .fill and .external, and none elsewhere
abbrev pub LabelField : Op → Range → Type 0
LabelField instr r = (r ≡ signed 9) ⊎ (r ≡ signed 11)
LabelField orig r = ⊥
LabelField fill r = r ≡ any_word
LabelField blkw r = ⊥
LabelField stringz r = ⊥
LabelField end r = ⊥
LabelField external r = r ≡ unsigned 16

-- a label operand's field passes P
abbrev pub HasField : (Range → Type 0) → Option Target → Type 0
HasField P none = Unit {0}
HasField P (some t) = P t.field
