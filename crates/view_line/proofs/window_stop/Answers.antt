-- `view_line::window_stop` meets its contract. Assumes nothing.
use Rattle.view_line.proofs.LineTexts.{window-stops}
use borrow.Author.Rules.{rules}
use Rattle.view_line.proofs.window_stop.Goals as goal

pub returns : goal.returns
returns c = search (rules, window-stops)
