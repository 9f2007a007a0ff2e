-- `parse_rows::op_of` meets its contract. Assumes nothing.
use mathlib.Core.Path.{sym, ap}
use borrow.Author.Rules.{rules}
use Rattle.rules.specs.Base.{when◌then◌else◌}
use Rattle.parse_rows.specs.Rows.{op_at}
use Rattle.parse_rows.proofs.Table.{op-rest}
use Rattle.parse_rows.proofs.op_of.Goals as goal

pub returns-in-32 : goal.returns-in-32
unfolding op_at when◌then◌else◌
returns-in-32 c = sym (ap op_at c.in-32.is)

pub returns-in-33 : goal.returns-in-33
unfolding op_at when◌then◌else◌
returns-in-33 c = sym (ap op_at c.in-33.is)

pub returns-in-34 : goal.returns-in-34
unfolding op_at when◌then◌else◌
returns-in-34 c = sym (ap op_at c.in-34.is)

pub returns-in-35 : goal.returns-in-35
unfolding op_at when◌then◌else◌
returns-in-35 c = sym (ap op_at c.in-35.is)

pub returns-in-36 : goal.returns-in-36
unfolding op_at when◌then◌else◌
returns-in-36 c = sym (ap op_at c.in-36.is)

pub returns-in-37 : goal.returns-in-37
unfolding op_at when◌then◌else◌
returns-in-37 c = sym (ap op_at c.in-37.is)

pub returns-in_default : goal.returns-in_default
returns-in_default c = search (rules, op-rest)
