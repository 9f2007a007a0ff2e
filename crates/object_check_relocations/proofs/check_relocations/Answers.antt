-- `object_check_relocations::check_relocations` meets its contract. Assumes nothing.
use Rattle.object_check_relocations.proofs.Rows.{relocs-more, relocs-all}
use borrow.Author.Rules.{rules}
use Rattle.object_check_relocations.proofs.check_relocations.Goals as goal

pub loop-k-preserved : goal.loop-k-preserved
loop-k-preserved c = search (rules, relocs-more)

pub returns : goal.returns
returns c = search (rules, relocs-all)
