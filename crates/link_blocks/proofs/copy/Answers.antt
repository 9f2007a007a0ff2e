-- `link_blocks::copy` copies a part of a slice into another. Assumes nothing.
use Rattle.std.proofs.Common.{refl}
use Rattle.link_blocks.proofs.Filled.{copied}
use Rattle.link_blocks.proofs.copy.Goals as goal

pub returns : goal.returns
returns g c = copied _ _ _ _ _ _ _ refl c.requires.0 c.put.ensures
