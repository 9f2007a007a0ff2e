-- `stored_put_labels::put_run` meets its contract. Assumes nothing.
use borrow.Author.Rules.{rules}
use Rattle.stored_run.proofs.Running.{all-zero}
use Rattle.stored_put_labels.proofs.Rows.{put-none}
use Rattle.stored_put_labels.proofs.put_run.Goals as goal

pub put_from-requires : goal.put_from-requires
put_from-requires c = record { going = search rules; labels_value = all-zero c.if-w.true; roomy = search rules }

pub returns-then-w-room : goal.returns-then-w-room
returns-then-w-room c = put-none

pub returns : goal.returns
returns c = put-none
