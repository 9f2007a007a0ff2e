-- `link_relocations::put_open` meets its contract. Assumes nothing.
use Rattle.link_relocations.proofs.Sieved.{room_open, after-stays, after-goes, left-stays, left-goes}
use borrow.Author.Rules.{rules}
use Rattle.link_relocations.proofs.put_open.Goals as goal

pub row-requires : goal.row-requires
row-requires c = search (rules, room_open)

pub returns-then-is_open : goal.returns-then-is_open
returns-then-is_open c = record { value = search (rules, after-stays); out_after = search (rules, left-stays) }

pub returns : goal.returns
returns c = record { value = search (rules, after-goes); out_after = search (rules, left-goes) }
