-- `object::lent_words` meets its contract. Assumes nothing.
use Rattle.rules.specs.Buffers.{lent_words}
use Rattle.object.proofs.Parts.{least-min}
use Rattle.object.proofs.lent_words.Goals as goal

pub returns : goal.returns
unfolding lent_words
returns c = simp least-min cc
