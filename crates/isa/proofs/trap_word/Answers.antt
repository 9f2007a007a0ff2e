-- `trap_word` meets its contract. Assumes nothing.
use borrow.Author.Rules.{rules}
use Rattle.isa.proofs.Parts.{trap-in, trap-out}
use Rattle.isa.proofs.trap_word.Goals as goal

pub returns-then-vect-le-LAST_VECTOR : goal.returns-then-vect-le-LAST_VECTOR
returns-then-vect-le-LAST_VECTOR c = search (rules, trap-in)

pub returns-else-vect-le-LAST_VECTOR : goal.returns-else-vect-le-LAST_VECTOR
returns-else-vect-le-LAST_VECTOR c = search (rules, trap-out)
