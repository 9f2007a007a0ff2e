-- `view_refusal::put_name` meets its contract. Assumes nothing.
use Rattle.view_refusal.proofs.MeaningLaws.{name-put}
use borrow.Author.Rules.{rules}
use Rattle.view_refusal.proofs.put_name.Goals as goal

pub returns : goal.returns
returns c = search (rules, name-put)
