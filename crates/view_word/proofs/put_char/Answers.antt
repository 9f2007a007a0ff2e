-- `view_word::put_char` meets its contract. Assumes nothing.
use Rattle.view_word.proofs.Lines.{char_below, char-above, char-put}
use Rattle.std.proofs.Common.{rules}
use Rattle.view_word.proofs.put_char.Goals as goal

pub returns-then-word-lt-FIRST_SHOWN : goal.returns-then-word-lt-FIRST_SHOWN
returns-then-word-lt-FIRST_SHOWN c = search (rules, char_below)

pub returns-then-word-lt-PAST_SHOWN : goal.returns-then-word-lt-PAST_SHOWN
returns-then-word-lt-PAST_SHOWN c = search (rules, char-put)

pub returns : goal.returns
returns c = search (rules, char-above)
