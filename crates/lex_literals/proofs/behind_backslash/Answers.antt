-- `lex_literals::behind_backslash` meets its contract. Assumes nothing.
use borrow.Author.Rules.{rules}
use Rattle.lex_literals.proofs.StringSteps.{behind-source, behind-line, behind-byte}
use Rattle.lex_literals.proofs.behind_backslash.Goals as goal

pub returns-then-src-i : goal.returns-then-src-i
returns-then-src-i c = search (rules, behind-source)

pub returns-then-line_stops : goal.returns-then-line_stops
returns-then-line_stops c = search (rules, behind-line)

pub returns : goal.returns
returns c = search (rules, behind-byte)
