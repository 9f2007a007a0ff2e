-- `view_word::put_unset` meets its contract. Assumes nothing.
use Rattle.view_word.proofs.Lines.{unset-put}
use Rattle.std.proofs.Common.{rules}
use Rattle.view_word.proofs.put_unset.Goals as goal

pub returns : goal.returns
returns c = search (rules, unset-put)
