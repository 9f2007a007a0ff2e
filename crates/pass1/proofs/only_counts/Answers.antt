-- `pass1::only_counts` meets its contract. Assumes nothing.
use Rattle.pass1.specs.Steps.{only_counts}
use Rattle.pass1.proofs.only_counts.Goals as goal

pub returns : goal.returns
unfolding only_counts
returns c = rw c.is_one_word-one.ensures
