-- `parse_rows::instruction_digits` meets its contract. Assumes nothing.
use mathlib.Core.Path.{sym, ap}
use native.Mathlib.Omega.{arith}
use Rattle.parse_rows.specs.Rows.{table, cells, digits_at}
use Rattle.parse_rows.proofs.Table.{last_arm}
use Rattle.parse_rows.proofs.instruction_digits.Goals as goal

pub returns-in-0 : goal.returns-in-0
unfolding table cells digits_at
returns-in-0 c = sym (ap digits_at c.in-0.is)

pub returns-in-1 : goal.returns-in-1
unfolding table cells digits_at
returns-in-1 c = sym (ap digits_at c.in-1.is)

pub returns-in-2 : goal.returns-in-2
unfolding table cells digits_at
returns-in-2 c = sym (ap digits_at c.in-2.is)

pub returns-in-3 : goal.returns-in-3
unfolding table cells digits_at
returns-in-3 c = sym (ap digits_at c.in-3.is)

pub returns-in-4 : goal.returns-in-4
unfolding table cells digits_at
returns-in-4 c = sym (ap digits_at c.in-4.is)

pub returns-in-5 : goal.returns-in-5
unfolding table cells digits_at
returns-in-5 c = sym (ap digits_at c.in-5.is)

pub returns-in-6 : goal.returns-in-6
unfolding table cells digits_at
returns-in-6 c = sym (ap digits_at c.in-6.is)

pub returns-in-7 : goal.returns-in-7
unfolding table cells digits_at
returns-in-7 c = sym (ap digits_at c.in-7.is)

pub returns-in-8 : goal.returns-in-8
unfolding table cells digits_at
returns-in-8 c = sym (ap digits_at c.in-8.is)

pub returns-in-9 : goal.returns-in-9
unfolding table cells digits_at
returns-in-9 c = sym (ap digits_at c.in-9.is)

pub returns-in-10 : goal.returns-in-10
unfolding table cells digits_at
returns-in-10 c = sym (ap digits_at c.in-10.is)

pub returns-in-11 : goal.returns-in-11
unfolding table cells digits_at
returns-in-11 c = sym (ap digits_at c.in-11.is)

pub returns-in-12 : goal.returns-in-12
unfolding table cells digits_at
returns-in-12 c = sym (ap digits_at c.in-12.is)

pub returns-in-13 : goal.returns-in-13
unfolding table cells digits_at
returns-in-13 c = sym (ap digits_at c.in-13.is)

pub returns-in-14 : goal.returns-in-14
unfolding table cells digits_at
returns-in-14 c = sym (ap digits_at c.in-14.is)

pub returns-in-15 : goal.returns-in-15
unfolding table cells digits_at
returns-in-15 c = sym (ap digits_at c.in-15.is)

pub returns-in-16 : goal.returns-in-16
unfolding table cells digits_at
returns-in-16 c = sym (ap digits_at c.in-16.is)

pub returns-in-17 : goal.returns-in-17
unfolding table cells digits_at
returns-in-17 c = sym (ap digits_at c.in-17.is)

pub returns-in-18 : goal.returns-in-18
unfolding table cells digits_at
returns-in-18 c = sym (ap digits_at c.in-18.is)

pub returns-in-19 : goal.returns-in-19
unfolding table cells digits_at
returns-in-19 c = sym (ap digits_at c.in-19.is)

pub returns-in-20 : goal.returns-in-20
unfolding table cells digits_at
returns-in-20 c = sym (ap digits_at c.in-20.is)

pub returns-in-21 : goal.returns-in-21
unfolding table cells digits_at
returns-in-21 c = sym (ap digits_at c.in-21.is)

pub returns-in-22 : goal.returns-in-22
unfolding table cells digits_at
returns-in-22 c = sym (ap digits_at c.in-22.is)

pub returns-in-23 : goal.returns-in-23
unfolding table cells digits_at
returns-in-23 c = sym (ap digits_at c.in-23.is)

pub returns-in-24 : goal.returns-in-24
unfolding table cells digits_at
returns-in-24 c = sym (ap digits_at c.in-24.is)

pub returns-in-25 : goal.returns-in-25
unfolding table cells digits_at
returns-in-25 c = sym (ap digits_at c.in-25.is)

pub returns-in-26 : goal.returns-in-26
unfolding table cells digits_at
returns-in-26 c = sym (ap digits_at c.in-26.is)

pub returns-in-27 : goal.returns-in-27
unfolding table cells digits_at
returns-in-27 c = sym (ap digits_at c.in-27.is)

pub returns-in-28 : goal.returns-in-28
unfolding table cells digits_at
returns-in-28 c = sym (ap digits_at c.in-28.is)

pub returns-in-29 : goal.returns-in-29
unfolding table cells digits_at
returns-in-29 c = sym (ap digits_at c.in-29.is)

pub returns-in-30 : goal.returns-in-30
unfolding table cells digits_at
returns-in-30 c = sym (ap digits_at c.in-30.is)

pub returns-in_default : goal.returns-in_default
unfolding table cells digits_at
returns-in_default c = sym (ap digits_at (last_arm _ 0 31 (omega arith) c.requires c.in_default.in_default-own.rest))
