-- `lex_token::lex_signed_dec` meets its contract. Assumes nothing.
use Rattle.rules.specs.Tokens.{dec_neg}
use Rattle.lex_token.specs.Coded.{signed_kind, form_of}
use Rattle.lex_token.proofs.lex_signed_dec.Goals as goal

pub returns : goal.returns
unfolding dec_neg signed_kind form_of
returns c = c.lex_number.ensures
