-- `view_text::put_hex` meets its contract. Assumes nothing.
use Rattle.view_text.proofs.Texts.{hex-put}
use borrow.Author.Rules.{rules}
use Rattle.view_text.proofs.put_hex.Goals as goal

pub returns : goal.returns
returns c = search (rules, hex-put)
