-- `view_text::hex_text` meets its contract. Assumes nothing.
use Rattle.view_text.proofs.Texts.{hex-all}
use borrow.Author.Rules.{rules}
use Rattle.view_text.proofs.hex_text.Goals as goal

pub returns : goal.returns
returns c = search (rules, hex-all)
