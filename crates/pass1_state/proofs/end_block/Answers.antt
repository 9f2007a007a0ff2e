-- `pass1_state::end_block` meets its contract. Assumes nothing.
use mathlib.Core.Path.{refl}
use Rattle.pass1_state.proofs.Counting.{end-dropped, end_more, end-stuck, end_none}
use Rattle.pass1_state.proofs.end_block.Goals as goal

pub returns-then-size-eq0 : goal.returns-then-size-eq0
returns-then-size-eq0 c = λ s p. end-dropped _ c.requires _ _ s p c.if-o.true _ refl c.if-size-eq0.true _ c.shut.ensures

pub returns-then-blocks-lt-BLOCKS : goal.returns-then-blocks-lt-BLOCKS
returns-then-blocks-lt-BLOCKS c = λ s p. end_more _ c.requires _ _ s p c.if-o.true _ refl c.if-size-eq0.false c.if-blocks-lt-BLOCKS.true _ c.shut-then-blocks-lt-BLOCKS.ensures

pub returns-then-o : goal.returns-then-o
returns-then-o c = λ s p. end-stuck _ c.requires _ _ s p c.if-o.true _ refl c.if-size-eq0.false c.if-blocks-lt-BLOCKS.false _ c.refused.ensures

pub returns : goal.returns
returns c = λ s p. end_none _ c.requires _ _ s p c.if-o.false _ c.refused-2.ensures
