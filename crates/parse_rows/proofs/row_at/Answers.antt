-- `parse_rows::row_at` meets its contract. Assumes nothing.
use borrow.Author.Rules.{rules}
use Rattle.parse_rows.proofs.Table.{row_made}
use Rattle.parse_rows.proofs.row_at.Goals as goal

pub returns : goal.returns
returns c = search (rules, row_made)
