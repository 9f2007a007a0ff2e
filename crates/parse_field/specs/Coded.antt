-- Fields and what operands give, as the code has them. Assumes nothing.
use Rattle.std.specs.declared.result.Result.{Result}
use Rattle.std.specs.declared.result.Result.TheVariants.{Ok, Err}
use Rattle.base_refusals.specs.declared.Fault.{Fault}
use Rattle.base_refusals.specs.Refusals.{fault}
use Rattle.std.specs.Prelude.{ℕ, ◌+◌, ◌≤◌, Bool, true, false, List, ◌≡◌, eqb}
use Rattle.rules.specs.Base.{when◌then◌else◌, Outcome, ok, refused, ◌>>=◌}
use Rattle.rules.specs.Tokens.{Num, plus, minus, next_token}
use Rattle.rules.specs.Words.{reg, reg_or_imm, num, near, name, string, signed, unsigned, any_word}
use Rattle.rules.specs.Words as words
use Rattle.rules.specs.Statements.{Piece, bits, target, chars, operand}
use Rattle.lex_token.specs.declared.Lexeme.{Lexeme}
use Rattle.lex_token.specs.Flat.{fault_sort}
use Rattle.parse_field.specs.declared.Field.{Field}
use Rattle.parse_field.specs.declared.Field.TheVariants.{Dr, Sr, RegOrImm, Offset6, Near9, Near11, Trap, Word, Fill, Name, Text}
use Rattle.parse_field.specs.declared.Range.{Range}
use Rattle.parse_field.specs.declared.Given.{Given}

-- FIELDS
abbrev pub field_of : Field → words.Field
field_of Dr = reg 512
field_of Sr = reg 64
field_of RegOrImm = reg_or_imm
field_of Offset6 = num (signed 6)
field_of Near9 = near (signed 9)
field_of Near11 = near (signed 11)
field_of Trap = num (unsigned 8)
field_of Word = num (unsigned 16)
field_of Fill = near any_word
field_of Name = name (unsigned 16)
field_of Text = string

-- what a register is multiplied by; 0 where the field takes none
abbrev pub multiplier_of : Field → ℕ
multiplier_of Dr = 512
multiplier_of Sr = 64
multiplier_of RegOrImm = 1
multiplier_of Offset6 = 0
multiplier_of Near9 = 0
multiplier_of Near11 = 0
multiplier_of Trap = 0
multiplier_of Word = 0
multiplier_of Fill = 0
multiplier_of Name = 0
multiplier_of Text = 0

-- the numbers that a field takes; of modulus 0 where it takes none
abbrev pub range : (low high modulus : ℕ) → Range
range l h m = record { low = l; high = h; modulus = m }

abbrev pub range_of : Field → Range
range_of Dr = range 0 0 0
range_of Sr = range 0 0 0
range_of RegOrImm = range 16 15 32
range_of Offset6 = range 32 31 64
range_of Near9 = range 256 255 512
range_of Near11 = range 1024 1023 2048
range_of Trap = range 0 255 256
range_of Word = range 0 65535 65536
range_of Fill = range 32768 65535 65536
range_of Name = range 0 0 0
range_of Text = range 0 0 0

-- what goes to the word with a number: bit 5 with an imm5
abbrev pub raise_of : Field → ℕ
raise_of Dr = 0
raise_of Sr = 0
raise_of RegOrImm = 32
raise_of Offset6 = 0
raise_of Near9 = 0
raise_of Near11 = 0
raise_of Trap = 0
raise_of Word = 0
raise_of Fill = 0
raise_of Name = 0
raise_of Text = 0

abbrev pub raised : Field → ℕ → ℕ
raised Dr b = b
raised Sr b = b
raised RegOrImm b = 32 + b
raised Offset6 b = b
raised Near9 b = b
raised Near11 b = b
raised Trap b = b
raised Word b = b
raised Fill b = b
raised Name b = b
raised Text b = b

-- the number of values of a label's field; 0 where the field takes no label
abbrev pub reach_of : Field → ℕ
reach_of Dr = 0
reach_of Sr = 0
reach_of RegOrImm = 0
reach_of Offset6 = 0
reach_of Near9 = 512
reach_of Near11 = 2048
reach_of Trap = 0
reach_of Word = 0
reach_of Fill = 65536
reach_of Name = 65536
reach_of Text = 0

-- whether a field takes a string
abbrev pub texts_of : Field → Bool
texts_of Dr = false
texts_of Sr = false
texts_of RegOrImm = false
texts_of Offset6 = false
texts_of Near9 = false
texts_of Near11 = false
texts_of Trap = false
texts_of Word = false
texts_of Fill = false
texts_of Name = false
texts_of Text = true

-- WHAT OPERANDS GIVE

abbrev pub given : (bits reach label-start label-end text-start text-end stop : ℕ) → Given
given b r ls le ts te i = record { bits = b; reach = r; label_start = ls; label_end = le; text_start = ts; text_end = te; stop = i }

-- one operand more
unfoldable pub add_to : Given → Piece → ℕ → Given
add_to g (bits n) i = given (g.bits + n) g.reach g.label_start g.label_end g.text_start g.text_end i
add_to g (target t) i = given g.bits t.field.modulus t.name.place.start t.name.place.stop g.text_start g.text_end i
add_to g (chars c q) i = given g.bits g.reach g.label_start g.label_end q.start q.stop i

-- what is given, or a refusal
unfoldable pub told : Outcome Given → Result Given Fault
told (ok g) = Ok g
told (refused r) = Err (fault r.number r.first.start r.first.stop)

unfoldable pub stepped : Given → Outcome Piece → ℕ → Result Given Fault
stepped g o i = told (o >>= λ p. ok (add_to g p i))

-- the operand at a place, as in the rules
unfoldable pub operand_given : List ℕ → words.Field → ℕ → Given → ℕ → Outcome Given
operand_given s f other g i = do
  t ← next_token s i
  p ← operand f other t
  ok (add_to g p t.place.stop)

unfoldable pub operand_step : List ℕ → words.Field → ℕ → Given → ℕ → Result Given Fault
operand_step s f other g i = told (operand_given s f other g i)

-- a number by its sort and size
unfoldable pub num_of : ℕ → ℕ → Num
num_of k n = when eqb k 1 then minus n else plus n

-- its own refusal, or another
unfoldable pub misplaced_at : Lexeme → ℕ → Result Given Fault
misplaced_at t other = when eqb t.sort fault_sort then Err (fault t.value t.start t.end) else Err (fault other t.start t.end)

-- the word's bits are at most n
unfoldable pub Below : ℕ → Result Given Fault → Type 0
Below n (Ok g) = g.bits ≤ n
Below n (Err f) = Unit {0}

-- the answer is that of the rules, and adds to the word at most 2 ^ 25
pub record Adds (g : Given) (r x : Result Given Fault) : Type 0 where
  pub is : r ≡ x
  pub room : Below (g.bits + 33554432) r
