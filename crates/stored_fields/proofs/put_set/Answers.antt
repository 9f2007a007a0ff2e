-- `stored_fields::put_set` meets its contract. Assumes nothing.
use borrow.Author.Rules.{rules}
use Rattle.stored_fields.proofs.Fields.{set-head, set_words, set-done}
use Rattle.stored_fields.proofs.put_set.Goals as goal

pub put_head-next-requires : goal.put_head-next-requires
put_head-next-requires c = search (rules, set-head)

pub put_words-requires : goal.put_words-requires
put_words-requires c = search (rules, set_words)

pub returns : goal.returns
returns c = search (rules, set-done)
