-- `view_object::has_word` meets its contract. Assumes nothing.
use Rattle.view_object.proofs.Rows.{has_word_lem}
use Rattle.std.proofs.Common.{rules}
use Rattle.view_object.proofs.has_word.Goals as goal

pub returns : goal.returns
returns c = search (rules, has_word_lem)
