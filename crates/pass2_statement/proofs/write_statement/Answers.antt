-- `pass2_statement::write_statement` meets its contract. Assumes nothing.
use Rattle.pass2_statement.proofs.ByKind.{instr-written, fill-written, blkw-written, string-written, orig-written, end-written, external-written}
use Rattle.pass2_statement.proofs.write_statement.Goals as goal

pub returns-in-Instr : goal.returns-in-Instr
returns-in-Instr c = λ at s f. instr-written _ _ _ _ _ _ _ _ _ c.requires at s f _ _ _ (c.emit_words.ensures _ _ at s c.requires.standing f) c.in-Instr.is

pub returns-in-Fill : goal.returns-in-Fill
returns-in-Fill c = λ at s f. fill-written _ _ _ _ _ _ _ _ _ c.requires at s f _ _ _ (c.emit_words-in-Fill.ensures _ _ at s c.requires.standing f) c.in-Fill.is

pub returns-in-Blkw : goal.returns-in-Blkw
returns-in-Blkw c = λ at s f. blkw-written _ _ _ _ _ _ _ _ _ c.requires at s f _ _ _ (c.emit_words-in-Blkw.ensures _ _ at s c.requires.standing f) c.in-Blkw.is

pub returns-in-Stringz : goal.returns-in-Stringz
returns-in-Stringz c = λ at s f. string-written _ _ _ _ _ _ _ _ _ c.requires at s f _ _ _ (c.emit_words-in-Stringz.ensures _ _ at s c.requires.standing f) c.in-Stringz.is

pub returns-in-Orig : goal.returns-in-Orig
returns-in-Orig c = λ at s f. orig-written _ _ _ _ _ _ _ _ _ c.requires at s f c.in-Orig.is _ c.begin_block.ensures

pub returns-in-End : goal.returns-in-End
returns-in-End c = λ at s f. end-written _ _ _ _ _ _ _ _ _ c.requires at s f c.in-End.is _ _ _ _ _ c.finish_block.ensures

pub returns-in-External : goal.returns-in-External
returns-in-External c = λ at s f. external-written _ _ _ _ _ _ _ _ _ c.requires at s f c.in-External.is
