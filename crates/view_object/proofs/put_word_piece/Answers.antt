-- `view_object::put_word_piece` meets its contract. Assumes nothing.
use Rattle.view_object.proofs.Lines.{word_in, word_out}
use Rattle.view_object.proofs.put_word_piece.Goals as goal

pub returns-in-Some : goal.returns-in-Some
returns-in-Some c = word_in _ _ _ _ c.in-Some.is c.place_of.ensures c.word_at-word.ensures c.byte_at-mark.ensures c.put_placed.ensures

pub returns-in-None : goal.returns-in-None
returns-in-None c = word_out _ _ _ c.in-None.is c.place_of.ensures
