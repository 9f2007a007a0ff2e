-- `pass1_state::begin_block` meets its contract. Assumes nothing.
use Rattle.pass1_state.proofs.Counting.{begin-open, begin-new}
use Rattle.pass1_state.proofs.begin_block.Goals as goal

pub returns-then-o : goal.returns-then-o
returns-then-o c = λ s b p. begin-open _ c.requires.0 _ _ _ s b p c.if-o.true

pub returns : goal.returns
returns c = λ s b p. begin-new _ c.requires.0 _ _ _ s b p c.if-o.false c.requires.1 _ c.begin.ensures
