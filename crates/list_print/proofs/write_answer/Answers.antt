-- `list_print::write_answer` meets its contract. Assumes nothing.
use Rattle.list_print.proofs.Telling.{answer-valid, answer-fits, tells-object, tells-refused}
use Rattle.list_print.proofs.write_answer.Goals as goal

pub write_object-requires : goal.write_object-requires
write_object-requires c = record { valid = answer-valid _ _ _ c.if-answer-eq0.true _ c.counts_of-c.ensures c.requires; names_value = c.requires.long c.if-answer-eq0.true; names_in_bounds = answer-fits _ _ _ c.if-answer-eq0.true _ c.counts_of-c.ensures c.requires }

pub returns-then-answer-eq0 : goal.returns-then-answer-eq0
returns-then-answer-eq0 c = tells-object _ _ _ c.if-answer-eq0.true _ c.counts_of-c.ensures _ _ c.write_object.ensures

pub returns : goal.returns
returns c = tells-refused _ _ _ _ _ c.if-answer-eq0.false c.write_refused.ensures
