-- `lc3_input::status_of` meets its contract. Assumes nothing.
use borrow.Author.Rules.{rules}
use Rattle.lc3_input.proofs.Parts.{told-accepted, told-refused}
use Rattle.lc3_input.proofs.status_of.Goals as goal

pub returns-then-accepted : goal.returns-then-accepted
returns-then-accepted c = search (rules, told-accepted)

pub returns : goal.returns
returns c = search (rules, told-refused)
