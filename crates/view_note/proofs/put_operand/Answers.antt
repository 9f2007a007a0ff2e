-- `view_note::put_operand` meets its contract. Assumes nothing.
use Rattle.view_note.proofs.NoteTexts.{operand-kind, operand-range}
use Rattle.view_note.proofs.put_operand.Goals as goal

pub returns-then-number-eq-OPERAND_RANGE : goal.returns-then-number-eq-OPERAND_RANGE
returns-then-number-eq-OPERAND_RANGE c = operand-range _ _ _ _ c.if-number-eq-OPERAND_RANGE.true c.put_takes.ensures

pub returns : goal.returns
returns c = operand-kind _ _ _ _ c.if-number-eq-OPERAND_RANGE.false c.put_field-next.ensures c.put.ensures
