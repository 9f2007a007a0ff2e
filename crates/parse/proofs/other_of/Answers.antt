-- `parse::other_of` meets its contract. Assumes nothing.
use Rattle.parse.proofs.Reading.{other-nop, other-any}
use borrow.Author.Rules.{rules}
use Rattle.parse.proofs.other_of.Goals as goal

pub returns-then-code-eq-NOP : goal.returns-then-code-eq-NOP
returns-then-code-eq-NOP c = search (rules, other-nop)

pub returns : goal.returns
returns c = search (rules, other-any)
