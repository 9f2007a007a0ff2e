-- `view_line::shown` meets its contract. Assumes nothing.
use Rattle.view_line.proofs.LineTexts.{shown-as-is, shown-hidden}
use borrow.Author.Rules.{rules}
use Rattle.view_line.proofs.shown.Goals as goal

pub returns-then-b : goal.returns-then-b
returns-then-b c = search (rules, shown-as-is)

pub returns : goal.returns
returns c = search (rules, shown-hidden)
