-- `view_text::put_hex2` meets its contract. Assumes nothing.
use borrow.Author.Rules.{rules}
use Rattle.view_text.proofs.Texts.{hex2-put}
use Rattle.view_text.proofs.put_hex2.Goals as goal

pub returns : goal.returns
returns c = search (rules, hex2-put)
