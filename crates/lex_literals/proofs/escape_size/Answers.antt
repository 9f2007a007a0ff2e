-- `lex_literals::escape_size` meets its contract. Assumes nothing.
use borrow.Author.Rules.{rules}
use Rattle.lex_literals.proofs.StringSteps.{size-one, size-two}
use Rattle.lex_literals.proofs.escape_size.Goals as goal

pub returns-then-is_escape : goal.returns-then-is_escape
returns-then-is_escape c = search (rules, size-one)

pub returns : goal.returns
returns c = search (rules, size-two)
