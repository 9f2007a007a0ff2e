-- `pass2_words::put_string` meets its contract. Assumes nothing.
use Rattle.pass2_words.proofs.Chars.{string-done}
use Rattle.pass2_words.proofs.put_string.Goals as goal

pub returns : goal.returns
returns c = string-done _ _ _ _ _ _ c.after_quote-at.ensures c.requires _ _ _ c.put_chars-end.ensures _ _ c.push.ensures
