-- `lex_token::lex_unsigned_dec` meets its contract. Assumes nothing.
use Rattle.rules.specs.Tokens.{dec}
use Rattle.lex_token.specs.Coded.{signed_kind, form_of}
use Rattle.lex_token.proofs.lex_unsigned_dec.Goals as goal

pub returns : goal.returns
unfolding dec signed_kind form_of
returns c = c.lex_number.ensures
