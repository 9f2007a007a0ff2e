-- `pass2_encode::label_address` meets its contract. Assumes nothing.
use borrow.Author.Rules.{rules}
use Rattle.pass2_encode.proofs.Wording.{to-address, no_address}
use Rattle.pass2_encode.proofs.label_address.Goals as goal

pub returns-in-Some : goal.returns-in-Some
returns-in-Some c = search (rules, to-address)

pub returns-in-None : goal.returns-in-None
returns-in-None c = search (rules, no_address)
