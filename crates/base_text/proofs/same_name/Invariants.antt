-- `base_text::same_name` meets its contract. Assumes nothing.
use Rattle.std.proofs.Common.{◌≡◌, map}
use Rattle.rules.specs.Base.{same}
use Rattle.rules.specs.Tokens.{upper}
use Rattle.base_text.proofs.NameLaws.{map_from}
use Rattle.base_text.proofs.same_name.Given as goal

abbrev pub invariant-loop-i : goal.invariant-loop-i
invariant-loop-i l = same (map_from upper l.a l.i) (map_from upper l.b l.i) ≡ same (map upper l.a) (map upper l.b)
