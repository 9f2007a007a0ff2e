-- `parse::name_after` meets its contract. Assumes nothing.
use Rattle.parse.proofs.Heads.{name-past, name-rest, name-short, name-whole}
use borrow.Author.Rules.{rules}
use Rattle.parse.proofs.name_after.Goals as goal

pub returns-then-src-dot : goal.returns-then-src-dot
returns-then-src-dot c = search (rules, name-past)

pub returns-then-src-end : goal.returns-then-src-end
returns-then-src-end c = search (rules, name-rest)

pub returns-then-end-start : goal.returns-then-end-start
returns-then-end-start c = search (rules, name-short)

pub returns : goal.returns
returns c = search (rules, name-whole)
