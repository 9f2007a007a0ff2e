-- `view_line::put_carets` meets its contract. Assumes nothing.
use Rattle.view_line.proofs.LineTexts.{carets-one, carets-some}
use borrow.Author.Rules.{rules}
use Rattle.view_line.proofs.put_carets.Goals as goal

pub returns-then-place-stop : goal.returns-then-place-stop
returns-then-place-stop c = search (rules, carets-some)

pub returns : goal.returns
returns c = search (rules, carets-one)
