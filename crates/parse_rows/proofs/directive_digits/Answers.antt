-- `parse_rows::directive_digits` meets its contract. Assumes nothing.
use mathlib.Core.Path.{sym, ap}
use Rattle.parse_rows.specs.Rows.{table, cells, digits_at}
use Rattle.parse_rows.proofs.Table.{last_arm}
use Rattle.parse_rows.proofs.directive_digits.Goals as goal

pub returns-in-32 : goal.returns-in-32
unfolding table cells digits_at
returns-in-32 c = sym (ap digits_at c.in-32.is)

pub returns-in-33 : goal.returns-in-33
unfolding table cells digits_at
returns-in-33 c = sym (ap digits_at c.in-33.is)

pub returns-in-34 : goal.returns-in-34
unfolding table cells digits_at
returns-in-34 c = sym (ap digits_at c.in-34.is)

pub returns-in-35 : goal.returns-in-35
unfolding table cells digits_at
returns-in-35 c = sym (ap digits_at c.in-35.is)

pub returns-in-36 : goal.returns-in-36
unfolding table cells digits_at
returns-in-36 c = sym (ap digits_at c.in-36.is)

pub returns-in_default : goal.returns-in_default
unfolding table cells digits_at
returns-in_default c = sym (ap digits_at (last_arm _ 32 5 c.requires.0 c.requires.1 c.in_default.in_default-own.rest))
