-- `lex_literals::escape_value` meets its contract. Assumes nothing.
use Rattle.rules.specs.Base.{when◌then◌else◌}
use Rattle.base_text.proofs.Rest.{tests}
use Rattle.lex_literals.specs.Strings.{stands_for}
use Rattle.lex_literals.proofs.escape_value.Goals as goal

pub returns-then-b-eq110 : goal.returns-then-b-eq110
unfolding stands_for when◌then◌else◌
returns-then-b-eq110 c = search tests

pub returns-then-b-eq114 : goal.returns-then-b-eq114
unfolding stands_for when◌then◌else◌
returns-then-b-eq114 c = search tests

pub returns-then-b-eq116 : goal.returns-then-b-eq116
unfolding stands_for when◌then◌else◌
returns-then-b-eq116 c = search tests

pub returns-then-b-eq48 : goal.returns-then-b-eq48
unfolding stands_for when◌then◌else◌
returns-then-b-eq48 c = search tests

pub returns : goal.returns
unfolding stands_for when◌then◌else◌
returns c = search tests
