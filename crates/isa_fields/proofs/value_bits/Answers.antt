-- `value_bits` meets its contract: above zero, below zero, or outside. Assumes nothing.
use Rattle.std.proofs.Common.{rules}
use Rattle.isa_fields.proofs.Numbers.{value-up, value-down, value_out}
use Rattle.isa_fields.proofs.value_bits.Goals as goal

pub returns-then-d-high : goal.returns-then-d-high
returns-then-d-high c = search (rules, value-up)

pub returns-then-d-low : goal.returns-then-d-low
returns-then-d-low c = search (rules, value-down)

pub returns : goal.returns
returns c = search (rules, value_out)
