-- `parse::headless` meets its contract. Assumes nothing.
use Rattle.parse.proofs.Heads.{headless-long, headless-labels, headless-end, headless-unfit}
use borrow.Author.Rules.{rules}
use Rattle.parse.proofs.headless.Goals as goal

pub returns-then-t-eq-LABEL : goal.returns-then-t-eq-LABEL
returns-then-t-eq-LABEL c = search (rules, headless-long)

pub returns-then-labelled : goal.returns-then-labelled
returns-then-labelled c = search (rules, headless-labels)

pub returns-then-t-eq-END : goal.returns-then-t-eq-END
returns-then-t-eq-END c = search (rules, headless-end)

pub returns : goal.returns
returns c = search (rules, headless-unfit)
