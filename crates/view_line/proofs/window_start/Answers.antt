-- `view_line::window_start` meets its contract. Assumes nothing.
use Rattle.view_line.proofs.LineTexts.{window-part, window-whole}
use borrow.Author.Rules.{rules}
use Rattle.view_line.proofs.window_start.Goals as goal

pub returns-then-saturating_sub-le-SHOWN_BYTES : goal.returns-then-saturating_sub-le-SHOWN_BYTES
returns-then-saturating_sub-le-SHOWN_BYTES c = search (rules, window-whole)

pub returns : goal.returns
returns c = search (rules, window-part)
