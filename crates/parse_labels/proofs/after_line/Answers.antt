-- `parse_labels::after_line` meets its contract. Assumes nothing.
use borrow.Author.Rules.{rules}
use Rattle.parse_labels.proofs.Walking.{line-yes, line-no, line-none}
use Rattle.parse_labels.proofs.after_line.Goals as goal

pub returns-then-t-eq-NEWLINE : goal.returns-then-t-eq-NEWLINE
returns-then-t-eq-NEWLINE c = search (rules, line-yes)

pub returns-then-leads_line : goal.returns-then-leads_line
returns-then-leads_line c = search (rules, line-no)

pub returns : goal.returns
returns c = search (rules, line-none)
