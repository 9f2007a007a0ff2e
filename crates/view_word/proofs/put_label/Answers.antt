-- `view_word::put_label` meets its contract. Assumes nothing.
use Rattle.view_word.proofs.Lines.{label-put}
use Rattle.std.proofs.Common.{rules}
use Rattle.view_word.proofs.put_label.Goals as goal

pub returns : goal.returns
returns c = search (rules, label-put)
