-- `view_word::put_behind` meets its contract. Assumes nothing.
use Rattle.view_word.proofs.Lines.{behind-put, behind-none}
use Rattle.std.proofs.Common.{rules}
use Rattle.view_word.proofs.put_behind.Goals as goal

pub returns-then-k-n : goal.returns-then-k-n
returns-then-k-n c = search (rules, behind-put)

pub returns : goal.returns
returns c = search (rules, behind-none)
