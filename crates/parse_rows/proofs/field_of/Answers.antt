-- `parse_rows::field_of` meets its contract. Assumes nothing.
use mathlib.Core.Path.{sym, ap}
use borrow.Author.Rules.{rules}
use Rattle.rules.specs.Base.{when◌then◌else◌}
use Rattle.parse_rows.specs.Rows.{field_at}
use Rattle.parse_rows.proofs.Table.{field-rest}
use Rattle.parse_rows.proofs.field_of.Goals as goal

pub returns-in-0 : goal.returns-in-0
unfolding field_at when◌then◌else◌
returns-in-0 c = sym (ap field_at c.in-0.is)

pub returns-in-1 : goal.returns-in-1
unfolding field_at when◌then◌else◌
returns-in-1 c = sym (ap field_at c.in-1.is)

pub returns-in-2 : goal.returns-in-2
unfolding field_at when◌then◌else◌
returns-in-2 c = sym (ap field_at c.in-2.is)

pub returns-in-3 : goal.returns-in-3
unfolding field_at when◌then◌else◌
returns-in-3 c = sym (ap field_at c.in-3.is)

pub returns-in-4 : goal.returns-in-4
unfolding field_at when◌then◌else◌
returns-in-4 c = sym (ap field_at c.in-4.is)

pub returns-in-5 : goal.returns-in-5
unfolding field_at when◌then◌else◌
returns-in-5 c = sym (ap field_at c.in-5.is)

pub returns-in-6 : goal.returns-in-6
unfolding field_at when◌then◌else◌
returns-in-6 c = sym (ap field_at c.in-6.is)

pub returns-in-7 : goal.returns-in-7
unfolding field_at when◌then◌else◌
returns-in-7 c = sym (ap field_at c.in-7.is)

pub returns-in-8 : goal.returns-in-8
unfolding field_at when◌then◌else◌
returns-in-8 c = sym (ap field_at c.in-8.is)

pub returns-in-9 : goal.returns-in-9
unfolding field_at when◌then◌else◌
returns-in-9 c = sym (ap field_at c.in-9.is)

pub returns-in_default : goal.returns-in_default
returns-in_default c = search (rules, field-rest)
