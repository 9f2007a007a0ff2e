-- `test_replay::same_answer` meets its contract. Assumes nothing.
use mathlib.Core.Path.{refl}
use Rattle.test_replay.specs.Asked.{same_answer}
use Rattle.test_replay.proofs.same_answer.Goals as goal

pub returns : goal.returns
unfolding same_answer
returns c = refl
