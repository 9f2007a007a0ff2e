-- `parse_rows::directive_code` meets its contract. Assumes nothing.
use Rattle.parse_rows.proofs.Names.{code-stringz, code-end, code-external, code-none}
use borrow.Author.Rules.{rules}
use Rattle.parse_rows.proofs.directive_code.Goals as goal

pub returns-then-same_name : goal.returns-then-same_name
returns-then-same_name c = search (rules, code-stringz)

pub returns-then-same_name-2 : goal.returns-then-same_name-2
returns-then-same_name-2 c = search (rules, code-end)

pub returns-then-same_name-3 : goal.returns-then-same_name-3
returns-then-same_name-3 c = search (rules, code-external)

pub returns : goal.returns
returns c = search (rules, code-none)
