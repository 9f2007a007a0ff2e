-- `pass1_symbols::add_symbol` meets its contract. Assumes nothing.
use Rattle.pass1_symbols.proofs.Steps.{taken_in, free-at, add_kept, add-clash, add-full, add-new}
use borrow.Author.Rules.{rules}
use Rattle.pass1_symbols.proofs.add_symbol.Goals as goal

pub address_of-held-requires : goal.address_of-held-requires
address_of-held-requires c = search (rules, taken_in)

pub returns-then-held-address : goal.returns-then-held-address
returns-then-held-address c = search (rules, add_kept)

pub returns-then-n-ge-LABELS : goal.returns-then-n-ge-LABELS
returns-then-n-ge-LABELS c = search (rules, add-full)

pub insert_symbol-requires : goal.insert_symbol-requires
insert_symbol-requires c = search (rules, free-at)

pub returns-else-held-address : goal.returns-else-held-address
returns-else-held-address c = search (rules, add-clash)

pub returns-else-n-ge-LABELS : goal.returns-else-n-ge-LABELS
returns-else-n-ge-LABELS c = search (rules, add-new)
