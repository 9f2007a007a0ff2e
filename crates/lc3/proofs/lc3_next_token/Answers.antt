-- `lc3::lc3_next_token` meets its contract. Assumes nothing.
use Rattle.rules.specs.Tokens.{next_token}
use Rattle.lex_token.specs.Coded.{coded}
use Rattle.lc3.proofs.Told.{next-put}
use Rattle.lc3.proofs.lc3_next_token.Goals as goal

pub returns : goal.returns
returns c = next-put c.put_answer.ensures (coded (next_token c.args.src.now c.args.at)) c.lexeme_at.ensures c.told_lexeme.ensures
