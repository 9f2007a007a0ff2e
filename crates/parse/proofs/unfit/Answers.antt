-- `parse::unfit` meets its contract. Assumes nothing.
use Rattle.parse.proofs.Reading.{unfit-own, unfit-other}
use borrow.Author.Rules.{rules}
use Rattle.parse.proofs.unfit.Goals as goal

pub returns-then-t-eq-FAULT : goal.returns-then-t-eq-FAULT
returns-then-t-eq-FAULT c = search (rules, unfit-own)

pub returns : goal.returns
returns c = search (rules, unfit-other)
