-- `stored_read::field_at` meets its contract: a law for each return. Assumes nothing.
use mathlib.Core.Path.{◌∙◌}
use borrow.Author.Rules.{rules}
use Rattle.stored_read.proofs.Found.{told_over, told-short, told-cut, told-found}
use Rattle.stored_read.proofs.field_at.Goals as goal

pub returns-then-size-at : goal.returns-then-size-at
returns-then-size-at c = search (rules, told_over)

pub returns-then-size-at-lt-HEAD_BYTES : goal.returns-then-size-at-lt-HEAD_BYTES
returns-then-size-at-lt-HEAD_BYTES c = search (rules, told-short)

pub returns-then-size-start : goal.returns-then-size-start
returns-then-size-start c = let size = c.from-length.ensures ∙ c.number_at.ensures in search (rules, told-cut)

pub returns : goal.returns
returns c = let size = c.from-length.ensures ∙ c.number_at.ensures in search (rules, told-found)
