-- `stored_write_labels::put_label` meets its contract. Assumes nothing.
use borrow.Author.Rules.{rules}
use Rattle.stored_write_labels.proofs.Rows.{name-short, defined-fits, defined-done, outer-fits, outer-done}
use Rattle.stored_write_labels.proofs.put_label.Goals as goal

pub put_addressed-requires : goal.put_addressed-requires
put_addressed-requires c = search (rules, name-short, defined-fits)

pub returns-then-labels-i-eq-DEFINED : goal.returns-then-labels-i-eq-DEFINED
returns-then-labels-i-eq-DEFINED c = search (rules, defined-done)

pub put_named-requires : goal.put_named-requires
put_named-requires c = search (rules, name-short, outer-fits)

pub returns : goal.returns
returns c = search (rules, outer-done)
