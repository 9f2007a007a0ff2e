-- `view_line::under` meets its contract. Assumes nothing.
use Rattle.view_line.proofs.LineTexts.{under-other, under-tab}
use borrow.Author.Rules.{rules}
use Rattle.view_line.proofs.under.Goals as goal

pub returns-then-b-eq9 : goal.returns-then-b-eq9
returns-then-b-eq9 c = search (rules, under-tab)

pub returns : goal.returns
returns c = search (rules, under-other)
