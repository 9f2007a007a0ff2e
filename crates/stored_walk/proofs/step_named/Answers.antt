-- `stored_walk::step_named` meets its contract: a law for each return. Assumes nothing.
use Rattle.stored_walk.proofs.Relocations.{relocs-less, reloc-listed, word-refused, reloc-taken, name-refused}
use Rattle.stored_walk.proofs.step_named.Goals as goal

pub seek_near-requires : goal.seek_near-requires
seek_near-requires c = reloc-listed _ _ _ c.requires.going

pub relocated-requires : goal.relocated-requires
relocated-requires c = relocs-less _ _ c.requires.wanted_value

pub returns-in-Some : goal.returns-in-Some
returns-in-Some c = reloc-taken _ _ _ _ _ _ c.requires.reloc_at c.requires.wanted_value _ c.seek_word-word.ensures c.if-word.true _ c.part_of-name.ensures _ c.seek_near.ensures _ c.in-Some.is _ c.relocated.ensures

pub returns-in-None : goal.returns-in-None
returns-in-None c = name-refused _ _ _ _ _ _ c.requires.reloc_at c.requires.wanted_value _ c.seek_word-word.ensures c.if-word.true _ c.part_of-name.ensures _ c.seek_near.ensures c.in-None.is

pub returns : goal.returns
returns c = word-refused _ _ _ _ _ _ c.requires.reloc_at c.requires.wanted_value _ c.seek_word-word.ensures c.if-word.false
