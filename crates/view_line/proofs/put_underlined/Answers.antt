-- `view_line::put_underlined` meets its contract. Assumes nothing.
use Rattle.view_line.proofs.LineTexts.{least-in, underlined-put, window-in, window_on}
use borrow.Author.Rules.{rules}
use Rattle.view_line.proofs.put_underlined.Goals as goal

pub put_line-next-requires : goal.put_line-next-requires
put_line-next-requires c = (window_on _ _ c.window_stop-to.ensures, window-in _ _ _ c.window_stop-to.ensures (search rules) (search rules))

pub put_caret_line-requires : goal.put_caret_line-requires
put_caret_line-requires c = (search rules, search rules, least-in _ c.min.ensures (window-in _ _ _ c.window_stop-to.ensures (search rules) (search rules)))

pub returns : goal.returns
returns c = search (rules, underlined-put)
