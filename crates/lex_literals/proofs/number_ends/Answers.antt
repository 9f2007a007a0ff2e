-- `lex_literals::number_ends` meets its contract. Assumes nothing.
use Rattle.rules.specs.Base.{when◌then◌else◌}
use Rattle.base_text.proofs.Rest.{tests}
use Rattle.lex_literals.specs.Numbers.{stopped}
use Rattle.lex_literals.proofs.number_ends.Goals as goal

pub returns-then-end-at : goal.returns-then-end-at
unfolding stopped when◌then◌else◌
returns-then-end-at c = search tests

pub returns : goal.returns
unfolding stopped when◌then◌else◌
returns c = search tests
