-- `base_text::is_word` meets its contract. Assumes nothing.
use Rattle.rules.specs.Tokens.{wordy}
use Rattle.base_text.proofs.is_word.Goals as goal

pub returns : goal.returns
unfolding wordy
returns c = cc
