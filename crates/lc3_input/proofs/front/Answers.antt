-- `lc3_input::front` meets its contract. Assumes nothing.
use borrow.Author.Rules.{rules}
use Rattle.lc3_input.proofs.Parts.{front-part}
use Rattle.lc3_input.proofs.front.Goals as goal

pub returns : goal.returns
returns c = search (rules, front-part)
