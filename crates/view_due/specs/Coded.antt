-- What the code's answers mean. Assumes nothing.
use Rattle.std.specs.Prelude.{ℕ, ◌≤◌, ◌<◌, ◌≡◌}
use Rattle.std.proofs.Math.Option.{Option, none, some}
use Rattle.rules.specs.Base.{Span, span}
use Rattle.rules.specs.Words.{Row}
use Rattle.parse_field.specs.Coded.{field_of}
use Rattle.parse_rows.specs.Rows.{row_at, Means}
use Rattle.view_due.specs.declared.Due.{Due}
use Rattle.view_due.specs.declared.Due.TheVariants.{Statement, Directive, Comma, LineEnd, Operand}
use Rattle.view_due.specs.declared.Onward as code
use Rattle.view_due.specs.declared.Onward.TheVariants.{Found, Next}
use Rattle.view_due.specs.declared.Place.{Place}
use Rattle.view_due.specs.Wanted.{Wanted, statement, directive, comma, line_end, operand, Onward, found, next}

unfoldable pub meant : Due → Wanted
meant Statement = statement
meant Directive = directive
meant Comma = comma
meant LineEnd = line_end
meant (Operand f) = operand (field_of f)

unfoldable pub onward : code.Onward → Onward
onward (Found d) = found (meant d)
onward (Next i) = next i

abbrev pub span_of : Place → Span
span_of p = span p.start p.end

-- this row is the one at a place of the code's table
pub record Coded (o : Option Row) (code : ℕ) : Type 0 where
  pub row : Row
  pub is : o ≡ some row
  pub means : Means (row_at code) row

-- the place of a row in that table; where there is no row, a place behind the last
pub record Coding (o : Option Row) (code : ℕ) : Type 0 where
  pub known : code < 38 → Coded o code
  pub unknown : 38 ≤ code → o ≡ none
