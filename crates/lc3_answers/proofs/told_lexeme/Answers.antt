-- `lc3_answers::told_lexeme` meets its contract. Assumes nothing.
use Rattle.lc3_answers.proofs.Lexemes.{fault-told, good-told}
use Rattle.lc3_answers.proofs.told_lexeme.Goals as goal

pub returns-then-t-eq-FAULT : goal.returns-then-t-eq-FAULT
returns-then-t-eq-FAULT c = fault-told _ c.from.ensures c.if-t-eq-FAULT.true c.refused.ensures

pub returns : goal.returns
returns c = good-told _ c.from-3.ensures c.if-t-eq-FAULT.false c.from-2.ensures c.told_token.ensures
