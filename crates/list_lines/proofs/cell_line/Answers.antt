-- `list_lines::cell_line` meets its contract. Assumes nothing.
use borrow.Author.Rules.{rules}
use Rattle.list_lines.proofs.Lines.{cell-unset, cell_set}
use Rattle.list_lines.proofs.cell_line.Goals as goal

pub returns-then-mark-eq-UNSET : goal.returns-then-mark-eq-UNSET
returns-then-mark-eq-UNSET c = search (rules, cell-unset)

pub returns : goal.returns
returns c = search (rules, cell_set)
