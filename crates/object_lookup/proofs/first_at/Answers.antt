-- `object_lookup::first_at` meets its contract. Assumes nothing.
use Rattle.object_lookup.proofs.Rows.{reached-row, reached-none}
use borrow.Author.Rules.{rules}
use Rattle.object_lookup.proofs.first_at.Goals as goal

pub returns : goal.returns
returns c = search (rules, reached-none)

pub returns-then-labels-k : goal.returns-then-labels-k
returns-then-labels-k c = search (rules, reached-row)
