-- `lex_literals::special_at` meets its contract. Assumes nothing.
use borrow.Author.Rules.{rules}
use Rattle.lex_literals.proofs.StringSteps.{ends-source, ends-line, ends-quote, ends-back, ends-other}
use Rattle.lex_literals.proofs.special_at.Goals as goal

pub returns-then-src-i : goal.returns-then-src-i
returns-then-src-i c = search (rules, ends-source)

pub returns-then-line_stops : goal.returns-then-line_stops
returns-then-line_stops c = search (rules, ends-line)

pub returns-then-b-eq34 : goal.returns-then-b-eq34
returns-then-b-eq34 c = search (rules, ends-quote)

pub returns-then-b-eq92 : goal.returns-then-b-eq92
returns-then-b-eq92 c = search (rules, ends-back)

pub returns : goal.returns
returns c = search (rules, ends-other)
