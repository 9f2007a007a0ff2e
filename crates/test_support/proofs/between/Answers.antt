-- `test_support::between` meets its contract. Assumes nothing.
use Rattle.rules.specs.Base.{when◌then◌else◌}
use Rattle.base_text.proofs.Rest.{tests}
use Rattle.test_support.specs.Fields.{between}
use Rattle.test_support.proofs.between.Goals as goal

pub returns-then-stop-text : goal.returns-then-stop-text
unfolding between when◌then◌else◌
returns-then-stop-text c = search tests

pub returns-then-start-stop : goal.returns-then-start-stop
unfolding between when◌then◌else◌
returns-then-start-stop c = search tests

pub returns : goal.returns
unfolding between when◌then◌else◌
returns c = search tests
