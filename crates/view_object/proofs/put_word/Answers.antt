-- `view_object::put_word` meets its contract. Assumes nothing.
use Rattle.view_object.proofs.Lines.{word-unset, word_set}
use Rattle.std.proofs.Common.{rules}
use Rattle.view_object.proofs.put_word.Goals as goal

pub returns-then-mark-eq-UNSET : goal.returns-then-mark-eq-UNSET
returns-then-mark-eq-UNSET c = search (rules, word-unset)

pub returns : goal.returns
returns c = search (rules, word_set)
