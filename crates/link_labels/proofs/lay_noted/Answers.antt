-- `link_labels::lay_noted` meets its contract. Assumes nothing.
use Rattle.link_labels.proofs.Laying.{noted-room, put-open, put-defined}
use borrow.Author.Rules.{rules}
use Rattle.link_labels.proofs.lay_noted.Goals as goal

pub put_label-requires : goal.put_label-requires
put_label-requires c = search (rules, noted-room)

pub returns-then-address-eq-OPEN : goal.returns-then-address-eq-OPEN
returns-then-address-eq-OPEN c = search (rules, put-open)

pub put_label-requires-2 : goal.put_label-requires-2
put_label-requires-2 c = search (rules, noted-room)

pub returns : goal.returns
returns c = search (rules, put-defined)
