-- `view_note::put_number` meets its contract. Assumes nothing.
use Rattle.view_note.proofs.NoteTexts.{negative-put, number-none, number_put}
use Rattle.view_note.proofs.put_number.Goals as goal

pub returns-then-t-eq-NUMBER : goal.returns-then-t-eq-NUMBER
returns-then-t-eq-NUMBER c = number_put _ _ _ c.next_lexeme-t.ensures c.if-t-eq-NUMBER.true c.from.ensures c.put_decimal.ensures

pub returns-then-t-eq-NEGATIVE : goal.returns-then-t-eq-NEGATIVE
returns-then-t-eq-NEGATIVE c = negative-put _ _ _ c.next_lexeme-t.ensures c.if-t-eq-NEGATIVE.true c.from-then-t-eq-NEGATIVE.ensures c.put_byte-next.ensures c.put_decimal-then-t-eq-NEGATIVE.ensures

pub returns : goal.returns
returns c = number-none _ _ _ c.next_lexeme-t.ensures _ _ c.if-t-eq-NUMBER.false c.if-t-eq-NEGATIVE.false
