-- `pass2_statement::emit_words` meets its contract. Assumes nothing.
use mathlib.Core.Path.{refl}
use borrow.Author.Rules.{rules}
use Rattle.pass2_statement.proofs.Emitting.{emit-none, emit-some}
use Rattle.pass2_statement.proofs.emit_words.Goals as goal

pub returns-then-t : goal.returns-then-t
returns-then-t c = λ bs os at s k f. emit-some _ _ _ _ _ _ _ c.requires bs os at s k f c.if-t.true _ _ (search rules) (search rules) _ _ refl c.from.ensures _ (c.write_words-answer.ensures at s f) _ c.step_of.ensures

pub returns : goal.returns
returns c = λ bs os at s k f. emit-none _ _ _ _ _ _ _ c.requires bs os at s k f c.if-t.false _ c.refused.ensures
