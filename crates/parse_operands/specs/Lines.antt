-- A statement's operands as the code has them. Assumes nothing.
use Rattle.std.specs.declared.result.Result.{Result}
use Rattle.std.specs.declared.result.Result.TheVariants.{Ok, Err}
use Rattle.base_refusals.specs.declared.Fault.{Fault}
use Rattle.base_refusals.specs.Refusals.{fault}
use Rattle.std.specs.Prelude.{ℕ, zero, suc, List, eqb}
use Rattle.std.proofs.Math.Option.{Option, none, some}
use Rattle.rules.specs.Base.{when◌then◌else◌, Outcome, ok, refused, ◌>>=◌}
use Rattle.rules.specs.Words.{Field}
use Rattle.rules.specs.Statements.{Target, bare, comma_at, operands_from}
use Rattle.rules.specs.Statements as rules
use Rattle.parse_field.specs.declared.Given.{Given}
use Rattle.parse_field.specs.Coded.{given, told, operand_given}
use Rattle.parse_field.specs.declared.Field as code

-- the field of operand k
abbrev pub field_in : ℕ → (a b c : code.Field) → code.Field
field_in zero a b c = a
field_in (suc zero) a b c = b
field_in (suc (suc k)) a b c = c

-- where operand k is due, behind operands that end at i
unfoldable pub due_at : List ℕ → (k i : ℕ) → Outcome ℕ
due_at s k i = when eqb k 0 then ok i else comma_at s i

unfoldable pub coded_due : Outcome ℕ → Result ℕ Fault
coded_due (ok i) = Ok i
coded_due (refused r) = Err (fault r.number r.first.start r.first.stop)

-- operand k, behind what is given
unfoldable pub next_step : List ℕ → ℕ → Field → ℕ → Given → Result Given Fault
next_step s k f other g = told (due_at s k g.stop >>= λ j. operand_given s f other g j)

-- WHAT THE RULES GIVE, AS THE CODE TELLS IT

abbrev pub reach_of : Option Target → ℕ
reach_of none = 0
reach_of (some t) = t.field.modulus

abbrev pub label_start : Option Target → ℕ
label_start none = 0
label_start (some t) = t.name.place.start

abbrev pub label_end : Option Target → ℕ
label_end none = 0
label_end (some t) = t.name.place.stop

-- the label operand by its place and its field's number of values, the string by its place
unfoldable pub coded_given : rules.Given → Given
coded_given g = given g.bits (reach_of g.target) (label_start g.target) (label_end g.target) g.quote.start g.quote.stop g.stop

unfoldable pub coded_step : Outcome rules.Given → Result Given Fault
coded_step (ok g) = Ok (coded_given g)
coded_step (refused r) = Err (fault r.number r.first.start r.first.stop)

-- all operands of a row whose word this is, from a place on
unfoldable pub line_step : List ℕ → List Field → (other word at : ℕ) → Result Given Fault
line_step s fs other w i = coded_step (operands_from s fs other (bare w i))
