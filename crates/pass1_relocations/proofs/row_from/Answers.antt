-- `pass1_relocations::row_from` meets its contract. Assumes nothing.
use Rattle.pass1_relocations.proofs.Halving.{between-up, between-down}
use borrow.Author.Rules.{rules}
use Rattle.pass1_relocations.proofs.row_from.Goals as goal

pub loop-lo-preserved : goal.loop-lo-preserved
loop-lo-preserved c = search (rules, between-down)

pub loop-lo-preserved-then-address_of-address : goal.loop-lo-preserved-then-address_of-address
loop-lo-preserved-then-address_of-address c = search (rules, between-up)
