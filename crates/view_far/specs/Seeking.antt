-- What the code's answers say of statements and their addresses. Assumes nothing.
use Rattle.std.specs.Prelude.{ℕ, ◌<◌, Bool, List, map, ◌≡◌, eqb}
use Rattle.std.proofs.Math.Option.{Option, none, some}
use Rattle.rules.specs.Base.{when◌then◌else◌}
use Rattle.rules.specs.Tokens.{upper}
use Rattle.rules.specs.Words.{Range, signed}
use Rattle.rules.specs.Statements.{Target, Stmt}
use Rattle.lex.specs.Label.{label_text}
use Rattle.parse_labels.specs.Names.{name_between}
use Rattle.parse.specs.declared.Statement.{Statement}
use Rattle.parse_meaning.specs.Reading.{Faithful}
use Rattle.view_far.specs.declared.Sought.{Sought}
use Rattle.view_far.specs.declared.Sought.TheVariants.{Operand, Label}
use Rattle.std.specs.declared.option.Option as O
use Rattle.std.specs.declared.option.Option.TheVariants.{Some, None}
use Rattle.view_far.specs.Far.{Placed, placed, aims_at, has_label}

-- the name between two places, in upper case
unfoldable pub name_at : List ℕ → (a e : ℕ) → List ℕ
name_at s a e = map upper (label_text s a e)

-- the test of what is looked for
unfoldable pub tested : List ℕ → Sought → Stmt → Bool
tested s (Operand place) = aims_at place
tested s (Label a e) = has_label (name_at s a e)

-- st, at this address, stands for the statement that was found
pub record Pointed (s : List ℕ) (o : Option Placed) (st : Statement) (a : ℕ) : Type 0 where
  pub at : ℕ
  pub stmt : Stmt
  pub faithful : Faithful s at st stmt
  pub is : o ≡ some (placed stmt a)
  pub small : a < 65536

-- an answer that tells what was found
pub record Tells (s : List ℕ) (o : Option Placed) (r : O.Option (Statement × ℕ)) : Type 0 where
  pub there : (st : Statement) (a : ℕ) → r ≡ Some (st, a) → Pointed s o st a
  pub nowhere : r ≡ None → o ≡ none

-- an instruction's field, by how many values it has
abbrev pub range_by : ℕ → Range
range_by r = when eqb r 512 then signed 9 else signed 11

-- the label operand of an instruction
abbrev pub aimed : List ℕ → Statement → Target
aimed s st = record { field = range_by st.reach; name = name_between s st.label_start st.label_end }
