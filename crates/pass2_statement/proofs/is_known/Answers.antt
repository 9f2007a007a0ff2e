-- `pass2_statement::is_known` meets its contract. Assumes nothing.
use Rattle.pass2_statement.specs.State.{known}
use Rattle.pass2_statement.proofs.is_known.Goals as goal

pub returns : goal.returns
unfolding known
returns c = rw c.is_one_word-one.ensures
