-- `list_print::put_decimal` meets its contract. Assumes nothing.
use Rattle.list_print.proofs.Lines.{one-appended, two-appended}
use Rattle.list_print.proofs.put_decimal.Goals as goal

pub returns-then-number-lt10 : goal.returns-then-number-lt10
returns-then-number-lt10 c = one-appended _ _ _ _ _ _ c.if-number-lt10.true c.digit.ensures c.put_text.ensures

pub returns : goal.returns
returns c = two-appended _ _ _ _ _ _ _ c.if-number-lt10.false c.digit-2.ensures c.digit-3.ensures c.put_text-2.ensures
