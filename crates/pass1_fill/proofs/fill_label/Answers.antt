-- `pass1_fill::fill_label` meets its contract. Assumes nothing.
use mathlib.Core.Path.{refl}
use borrow.Author.Rules.{rules}
use Rattle.pass1_fill.proofs.Filling.{fill-noted, fill-21, fill-plain}
use Rattle.pass1_fill.proofs.fill_label.Goals as goal

pub returns-then-o : goal.returns-then-o
returns-then-o c = λ s t a n p. fill-noted _ _ _ _ c.requires.0 _ _ c.requires.1 _ _ refl refl _ c.is_external-outside.ensures _ _ s t a n p c.if-outside.true c.if-o.true _ (search rules) _ c.add_relocation-answer.ensures _ c.step_of.ensures

pub returns-then-outside : goal.returns-then-outside
returns-then-outside c = λ s t a n p. fill-21 _ _ _ _ c.requires.0 _ _ c.requires.1 _ _ refl refl _ c.is_external-outside.ensures _ _ s t a n p c.if-outside.true c.if-o.false _ c.refused.ensures

pub returns : goal.returns
returns c = λ s t a n p. fill-plain _ _ _ _ c.requires.0 _ _ c.requires.1 _ _ refl refl _ c.is_external-outside.ensures _ _ s t a n p c.if-outside.false
