-- `lex::next_lexeme` meets its contract. Assumes nothing.
use Rattle.lex.proofs.Standing.{stands-flat}
use Rattle.lex.proofs.next_lexeme.Goals as goal

pub returns : goal.returns
returns c = stands-flat _ _ _ c.lexeme_at.ensures
