-- `view_text::put_byte` meets its contract. Assumes nothing.
use borrow.Author.Rules.{rules}
use Rattle.view_text.proofs.Putting.{byte-in, none-in}
use Rattle.view_text.proofs.put_byte.Goals as goal

pub returns-then-at-out : goal.returns-then-at-out
returns-then-at-out c = search (rules, byte-in)

pub returns : goal.returns
returns c = search (rules, none-in)
