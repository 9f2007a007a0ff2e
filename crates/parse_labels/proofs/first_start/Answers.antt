-- `parse_labels::first_start` meets its contract. Assumes nothing.
use borrow.Author.Rules.{rules}
use Rattle.parse_labels.proofs.Before.{first-here}
use Rattle.parse_labels.proofs.first_start.Goals as goal

pub returns-then-leads_line : goal.returns-then-leads_line
returns-then-leads_line c = cc

pub returns : goal.returns
returns c = search (rules, first-here)
