-- `list_print::list_whole` meets its contract. Assumes nothing.
use Rattle.list_print.proofs.Program.{call-tellable, call-wrote}
use Rattle.list_print.proofs.list_whole.Goals as goal

pub write_answer-requires : goal.write_answer-requires
write_answer-requires c = call-tellable _ _ _ c.assemble-answer.ensures _ c.requires.in_bounds

pub returns : goal.returns
returns c = call-wrote _ _ _ c.assemble-answer.ensures _ c.requires.in_bounds c.requires.src_len_bound _ _ c.write_answer.ensures
