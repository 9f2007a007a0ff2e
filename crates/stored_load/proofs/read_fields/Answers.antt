-- `stored_load::read_fields` meets its contract. Assumes nothing.
use Rattle.stored_load.proofs.Answering.{cleared-lent, cleared-clear, came-after}
use borrow.Author.Rules.{rules}
use Rattle.stored_load.proofs.read_fields.Goals as goal

pub fill-requires : goal.fill-requires
fill-requires c = search (rules, cleared-lent, cleared-clear)

pub returns : goal.returns
returns c = search (rules, came-after)
