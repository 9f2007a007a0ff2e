-- `parse::is_bare` meets its contract. Assumes nothing.
use Rattle.parse.proofs.Reading.{bare-nop, bare-other}
use borrow.Author.Rules.{rules}
use Rattle.parse.proofs.is_bare.Goals as goal

pub returns-then-code-eq-NOP : goal.returns-then-code-eq-NOP
returns-then-code-eq-NOP c = search (rules, bare-nop)

pub returns : goal.returns
returns c = search (rules, bare-other)
