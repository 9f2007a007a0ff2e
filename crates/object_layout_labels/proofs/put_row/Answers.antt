-- `object_layout_labels::put_row` meets its contract. Assumes nothing.
use Rattle.object_layout_labels.proofs.Rows.{row_done}
use borrow.Author.Rules.{rules}
use Rattle.object_layout_labels.proofs.put_row.Goals as goal

pub returns : goal.returns
returns c = search (rules, row_done)
