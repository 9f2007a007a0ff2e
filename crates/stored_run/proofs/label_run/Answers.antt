-- `stored_run::label_run` meets its contract. Assumes nothing.
use borrow.Author.Rules.{rules}
use Rattle.stored_run.proofs.Running.{all-zero}
use Rattle.stored_run.proofs.label_run.Goals as goal

pub run_from-requires : goal.run_from-requires
run_from-requires c = record { going = search rules; labels_value = all-zero c.if-w.true }
