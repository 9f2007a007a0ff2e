-- `base_text::compare_from` meets its contract. Assumes nothing.
use Rattle.std.proofs.Common.{◌≡◌}
use Rattle.base_text.specs.Runs.{from}
use Rattle.base_text.specs.Names.{ordered}
use Rattle.base_text.proofs.NameLaws.{map_from}
use Rattle.base_text.proofs.compare_from.Given as goal

abbrev pub invariant-loop-i : goal.invariant-loop-i
invariant-loop-i l = ordered (map_from (λ x. x) l.a l.i) (map_from (λ x. x) l.b l.i) ≡ ordered (from l.a l.at) (from l.b l.at)
