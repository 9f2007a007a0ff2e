-- `parse_operands::operands_from` meets its contract. Assumes nothing.
use Prim.Native.Nat.{◌-◌}
use Rattle.parse_rows.specs.Rows.{fields_by}
use Rattle.parse_operands.proofs.Following.{Midway}
use Rattle.parse_operands.proofs.operands_from.Given as goal

abbrev pub invariant-loop-k : goal.invariant-loop-k
invariant-loop-k l = Midway l.src l.other (fields_by l.row.count l.row.first l.row.second l.row.third) l.row.base l.at l.k l.g
