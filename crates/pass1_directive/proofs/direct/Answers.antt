-- `pass1_directive::direct` meets its contract. Assumes nothing.
use Rattle.pass1_directive.proofs.Directing.{direct-instr, direct-orig, direct-fill, direct-blkw, direct-stringz, direct-end, direct-external}
use Rattle.pass1_directive.proofs.direct.Goals as goal

pub returns-in-Instr : goal.returns-in-Instr
returns-in-Instr c = direct-instr _ _ _ _ c.requires.0 _ c.in-Instr.is

pub returns-in-Orig : goal.returns-in-Orig
returns-in-Orig c = direct-orig _ _ _ _ c.requires.0 _ c.in-Orig.is _ c.begin_block.ensures

pub returns-in-Fill : goal.returns-in-Fill
returns-in-Fill c = direct-fill _ _ _ _ c.requires.0 _ c.in-Fill.is _ _ c.fill.ensures

pub returns-in-Blkw : goal.returns-in-Blkw
returns-in-Blkw c = direct-blkw _ _ _ _ c.requires.0 _ c.in-Blkw.is

pub returns-in-Stringz : goal.returns-in-Stringz
returns-in-Stringz c = direct-stringz _ _ _ _ c.requires.0 _ c.in-Stringz.is

pub returns-in-End : goal.returns-in-End
returns-in-End c = direct-end _ _ _ _ c.requires.0 _ c.in-End.is _ c.end_block.ensures

pub returns-in-External : goal.returns-in-External
returns-in-External c = direct-external _ _ _ _ c.requires.0 _ c.in-External.is _ _ c.external.ensures
