-- The code's counts and labels as the rules'. Assumes nothing.
use Rattle.rules.specs.Objects as Objects
use Rattle.rules.specs.Objects.{Lab, outer, defined}
use Rattle.object.specs.declared.Counts.{Counts}
use Rattle.object.specs.declared.Label.{Label}
use Rattle.object.specs.declared.Label.TheVariants.{Defined, External}

abbrev pub counts : Counts → Objects.Counts
counts c = record { blocks = c.blocks; words = c.words; labels = c.labels; relocs = c.relocations }

abbrev pub lab : Label → Lab
lab (Defined a) = defined a
lab External = outer
