-- `view_word::name_of` meets its contract. Assumes nothing.
use Rattle.view_word.proofs.Rows.{name_in_lem, name_out}
use Rattle.std.proofs.Common.{rules}
use Rattle.view_word.proofs.name_of.Goals as goal

pub returns-then-k-n : goal.returns-then-k-n
returns-then-k-n c = search (rules, name_in_lem)

pub returns : goal.returns
returns c = search (rules, name_out)
