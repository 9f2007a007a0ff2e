-- `offset9_of` meets its contract. Assumes nothing.
use Rattle.rules.specs.Words.{extend}
use Rattle.isa.proofs.disassembly.offset9_of.Goals as goal

pub returns : goal.returns
unfolding extend
returns c = c.sign_extend.ensures
