-- `stored_fields::put_name` meets its contract. Assumes nothing.
use borrow.Author.Rules.{rules}
use Rattle.list_lines.proofs.Appending.{appended-put}
use Rattle.stored_fields.proofs.put_name.Goals as goal

pub returns : goal.returns
returns c = search (rules, appended-put)
