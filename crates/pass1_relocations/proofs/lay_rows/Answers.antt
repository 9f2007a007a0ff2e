-- `pass1_relocations::lay_rows` meets its contract. Assumes nothing.
use Rattle.pass1_relocations.proofs.Laid.{writing_more, writing-all}
use borrow.Author.Rules.{rules}
use Rattle.pass1_relocations.proofs.lay_rows.Goals as goal

pub loop-k-preserved : goal.loop-k-preserved
loop-k-preserved c = search (rules, writing_more)

pub returns : goal.returns
returns c = search (rules, writing-all)
