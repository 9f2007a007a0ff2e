-- `stored_fields::put_words` meets its contract. Assumes nothing.
use borrow.Author.Rules.{rules}
use Rattle.stored_fields.proofs.Bytes.{worded-none, worded-more}
use Rattle.stored_fields.proofs.put_words.Goals as goal

pub loop-word-init : goal.loop-word-init
loop-word-init c = search (rules, worded-none)

pub loop-word-preserved : goal.loop-word-preserved
loop-word-preserved c = search (rules, worded-more)
