-- `parse::code_at` meets its contract. Assumes nothing.
use Rattle.parse.proofs.Heads.{code-word, code-dot, code-none}
use borrow.Author.Rules.{rules}
use Rattle.parse.proofs.code_at.Goals as goal

pub returns-then-t-eq-RESERVED : goal.returns-then-t-eq-RESERVED
returns-then-t-eq-RESERVED c = search (rules, code-word)

pub returns-then-t-eq-DIRECTIVE : goal.returns-then-t-eq-DIRECTIVE
returns-then-t-eq-DIRECTIVE c = search (rules, code-dot)

pub returns : goal.returns
returns c = search (rules, code-none)
