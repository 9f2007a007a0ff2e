-- `parse_meaning::string_words` meets its contract. Assumes nothing.
use Rattle.parse_meaning.proofs.Sizes.{no-chars}
use Rattle.parse_meaning.proofs.string_words.Goals as goal

pub returns : goal.returns
returns c = no-chars _ _ c.if-quote-src.false
