-- `pass2_statement::finish_block` meets its contract. Assumes nothing.
use mathlib.Core.Path.{refl}
use borrow.Author.Rules.{rules}
use Rattle.pass2_statement.proofs.Closing.{finish-outside, finish-dropped, finish-placed}
use Rattle.pass2_statement.proofs.finish_block.Goals as goal

pub returns-then-size-eq0 : goal.returns-then-size-eq0
returns-then-size-eq0 c = finish-dropped _ _ _ _ _ c.requires c.if-t.true c.if-size-eq0.true _ c.shut.ensures

pub returns-then-t : goal.returns-then-t
returns-then-t c = finish-placed _ _ _ _ _ c.requires c.if-t.true c.if-size-eq0.false _ _ refl refl _ _ _ _ (search rules) (search rules) (search rules) (search rules) _ c.place_block-answer.ensures _ c.close_of.ensures

pub returns : goal.returns
returns c = finish-outside _ _ _ _ _ c.requires c.if-t.false
