-- `lc3::lc3_disassemble` meets its contract. Assumes nothing.
use Rattle.lc3.proofs.Told.{line-put}
use Rattle.lc3.proofs.lc3_disassemble.Goals as goal

pub returns : goal.returns
returns c = line-put c.put_answer.ensures c.disassemble_line.ensures c.told_line.ensures
