-- `stored_fields::put_words` meets its contract. Assumes nothing.
use Rattle.stored_fields.proofs.Bytes.{Worded}
use Rattle.stored_fields.proofs.put_words.Given as goal

abbrev pub invariant-loop-word : goal.invariant-loop-word
invariant-loop-word l = Worded l.initial.out l.out l.at l.end l.words l.word-index
