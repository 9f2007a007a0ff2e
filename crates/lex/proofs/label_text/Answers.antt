-- `lex::label_text` meets its contract. Assumes nothing.
use Rattle.rules.specs.Base.{when◌then◌else◌}
use Rattle.base_text.proofs.Rest.{tests}
use Rattle.lex_token.specs.Meant.{part}
use Rattle.lex.specs.Label.{label_text}
use Rattle.lex.proofs.label_text.Goals as goal

pub returns-then-end-src : goal.returns-then-end-src
unfolding label_text part when◌then◌else◌
returns-then-end-src c = search tests

pub returns-then-start-end : goal.returns-then-start-end
unfolding label_text part when◌then◌else◌
returns-then-start-end c = search tests

pub returns : goal.returns
unfolding label_text part when◌then◌else◌
returns c = search tests
