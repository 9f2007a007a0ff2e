-- `view_refusal::put_meaning` meets its contract. Assumes nothing.
use Rattle.view_refusal.proofs.MeaningLaws.{meaning-put}
use borrow.Author.Rules.{rules}
use Rattle.view_refusal.proofs.put_meaning.Goals as goal

pub returns : goal.returns
returns c = search (rules, meaning-put)
