-- `lex_token::number_took` meets its contract. Assumes nothing.
use Rattle.lex_token.specs.Coded.{coded_as, signed_kind}
use Rattle.lex_token.proofs.number_took.Goals as goal

pub returns-then-signed : goal.returns-then-signed
unfolding coded_as signed_kind
returns-then-signed c = rw c.if-signed.true c.flat.ensures

pub returns : goal.returns
unfolding coded_as signed_kind
returns c = rw c.if-signed.false c.flat-2.ensures
