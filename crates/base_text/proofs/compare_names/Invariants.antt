-- `base_text::compare_names` meets its contract. Assumes nothing.
use Rattle.std.proofs.Common.{◌≡◌, map}
use Rattle.rules.specs.Tokens.{upper}
use Rattle.base_text.specs.Names.{ordered}
use Rattle.base_text.proofs.NameLaws.{map_from}
use Rattle.base_text.proofs.compare_names.Given as goal

abbrev pub invariant-loop-i : goal.invariant-loop-i
invariant-loop-i l = ordered (map_from upper l.a l.i) (map_from upper l.b l.i) ≡ ordered (map upper l.a) (map upper l.b)
