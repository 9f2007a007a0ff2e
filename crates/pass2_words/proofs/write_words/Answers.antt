-- `pass2_words::write_words` meets its contract. Assumes nothing.
use mathlib.Core.Path.{refl}
use borrow.Author.Rules.{rules}
use Rattle.pass2_words.proofs.Statements.{instr-room, instr-low, fill-room, string-fits, wrote-blkw, wrote-string, wrote-orig, wrote-end, wrote-external}
use Rattle.pass2_words.proofs.write_words.Goals as goal

pub instr_word-answer-requires : goal.instr_word-answer-requires
instr_word-answer-requires c = search (rules, instr-low)

pub put_answer-requires : goal.put_answer-requires
put_answer-requires c = search (rules, instr-room)

pub put_answer-requires-in-Fill : goal.put_answer-requires-in-Fill
put_answer-requires-in-Fill c = search (rules, fill-room)

pub put_string-requires : goal.put_string-requires
put_string-requires c = search (rules, string-fits)

pub returns-in-Blkw : goal.returns-in-Blkw
returns-in-Blkw c = λ at s f. wrote-blkw _ _ _ _ _ _ _ _ c.requires at s f c.in-Blkw.is _ refl

pub returns-in-Stringz : goal.returns-in-Stringz
returns-in-Stringz c = λ at s f. wrote-string _ _ _ _ _ _ _ _ c.requires at s f c.in-Stringz.is _ _ _ c.put_string.ensures

pub returns-in-Orig : goal.returns-in-Orig
returns-in-Orig c = λ at s f. wrote-orig _ _ _ _ _ _ _ _ c.requires at s f c.in-Orig.is

pub returns-in-End : goal.returns-in-End
returns-in-End c = λ at s f. wrote-end _ _ _ _ _ _ _ _ c.requires at s f c.in-End.is

pub returns-in-External : goal.returns-in-External
returns-in-External c = λ at s f. wrote-external _ _ _ _ _ _ _ _ c.requires at s f c.in-External.is
