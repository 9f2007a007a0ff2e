-- `view_word::is_defined` meets its contract. Assumes nothing.
use Rattle.view_word.proofs.Rows.{defined-row}
use Rattle.std.proofs.Common.{rules}
use Rattle.view_word.proofs.is_defined.Goals as goal

pub returns : goal.returns
returns c = search (rules, defined-row)
