-- `view_word::put_set` meets its contract. Assumes nothing.
use Rattle.view_word.proofs.Lines.{set-put}
use Rattle.view_word.proofs.put_set.Goals as goal

pub returns : goal.returns
returns c = set-put _ _ _ _ _ _ _ _ _ _ c.hex_text-shown.ensures c.name_of.ensures c.disassemble_line-line.ensures c.line_reach-reach.ensures c.put_front-a.ensures c.put_line-b.ensures c.put_note-c.ensures c.put_byte.ensures
