-- `link_blocks::first_next` tells which of two tables has the next block by start. Assumes nothing.
use Rattle.link_blocks.proofs.Filling.{none-next, only_next, lower-next}
use borrow.Author.Rules.{rules}
use Rattle.link_blocks.proofs.first_next.Goals as goal

pub returns-then-na-i : goal.returns-then-na-i
returns-then-na-i c = search (rules, none-next)

pub returns-then-nb-j : goal.returns-then-nb-j
returns-then-nb-j c = search (rules, only_next)

pub returns : goal.returns
returns c = search (rules, lower-next)
