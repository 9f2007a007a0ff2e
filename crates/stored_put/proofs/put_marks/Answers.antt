-- `stored_put::put_marks` meets its contract. Assumes nothing.
use Rattle.stored_put.proofs.Words.{marked-all}
use Rattle.stored_put.proofs.put_marks.Goals as goal

pub returns : goal.returns
returns c = marked-all _ _ _ _ c.requires (c.fill.ensures.after (λ y e. e))
