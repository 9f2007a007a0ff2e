-- `list_lines::put_text` meets its contract. Assumes nothing.
use borrow.Author.Rules.{rules}
use Rattle.list_lines.proofs.Appending.{appended-put}
use Rattle.list_lines.proofs.put_text.Goals as goal

pub returns : goal.returns
returns c = search (rules, appended-put)
