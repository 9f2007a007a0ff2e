-- `view_text::put_decimal` meets its contract. Assumes nothing.
use borrow.Author.Rules.{rules}
use Rattle.view_text.proofs.Texts.{decimal-put}
use Rattle.view_text.proofs.put_decimal.Goals as goal

pub returns : goal.returns
returns c = search (rules, decimal-put)
