-- `pass1::step` meets its contract. Assumes nothing.
use borrow.Author.Rules.{rules}
use Rattle.pass1.proofs.Steps.{step-bare}
use Rattle.pass1.proofs.step.Goals as goal

pub returns : goal.returns
returns c = search (rules, step-bare)
