-- `parse_meaning::word_len` meets its contract. Assumes nothing.
use Rattle.parse_meaning.proofs.Sizes.{size-instr, size-fill, size-blkw, size-stringz, size-orig, size-end, size-external}
use Rattle.parse_meaning.proofs.word_len.Goals as goal

pub returns-in-Instr : goal.returns-in-Instr
returns-in-Instr c = size-instr _ _ c.in-Instr.is

pub returns-in-Fill : goal.returns-in-Fill
returns-in-Fill c = size-fill _ _ c.in-Fill.is

pub returns-in-Blkw : goal.returns-in-Blkw
returns-in-Blkw c = size-blkw _ _ c.in-Blkw.is c.requires.1

pub returns-in-Stringz : goal.returns-in-Stringz
returns-in-Stringz c = size-stringz _ _ c.in-Stringz.is _ c.string_words.ensures.0 c.string_words.ensures.1

pub returns-in-Orig : goal.returns-in-Orig
returns-in-Orig c = size-orig _ _ c.in-Orig.is

pub returns-in-End : goal.returns-in-End
returns-in-End c = size-end _ _ c.in-End.is

pub returns-in-External : goal.returns-in-External
returns-in-External c = size-external _ _ c.in-External.is
