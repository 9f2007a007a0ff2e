-- `pass2_encode::offset_word` meets its contract. Assumes nothing.
use borrow.Author.Rules.{rules}
use Rattle.pass2_encode.proofs.Wording.{near_word, near-refused, far-word, far-refused}
use Rattle.pass2_encode.proofs.offset_word.Goals as goal

pub returns-in-Ok : goal.returns-in-Ok
returns-in-Ok c = search (rules, near_word)

pub returns-in-Err : goal.returns-in-Err
returns-in-Err c = search (rules, near-refused)

pub returns-in-Ok-replace_pc_offset11 : goal.returns-in-Ok-replace_pc_offset11
returns-in-Ok-replace_pc_offset11 c = search (rules, far-word)

pub returns-in-Err-replace_pc_offset11 : goal.returns-in-Err-replace_pc_offset11
returns-in-Err-replace_pc_offset11 c = search (rules, far-refused)
