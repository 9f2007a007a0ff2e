-- `parse_rows::four_letter_code` meets its contract. Assumes nothing.
use Rattle.parse_rows.proofs.Names.{code-fill, code-blkw, code-orig, four-none}
use borrow.Author.Rules.{rules}
use Rattle.parse_rows.proofs.four_letter_code.Goals as goal

pub returns-then-spells : goal.returns-then-spells
returns-then-spells c = search (rules, code-fill)

pub returns-then-spells-2 : goal.returns-then-spells-2
returns-then-spells-2 c = search (rules, code-blkw)

pub returns-then-spells-3 : goal.returns-then-spells-3
returns-then-spells-3 c = search (rules, code-orig)

pub returns : goal.returns
returns c = search (rules, four-none)
