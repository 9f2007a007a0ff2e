-- `lex_token::lex_unsigned_hex` meets its contract. Assumes nothing.
use Rattle.rules.specs.Tokens.{hex}
use Rattle.lex_token.specs.Coded.{signed_kind, form_of}
use Rattle.lex_token.proofs.lex_unsigned_hex.Goals as goal

pub returns : goal.returns
unfolding hex signed_kind form_of
returns c = c.lex_number.ensures
