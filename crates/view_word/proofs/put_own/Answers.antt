-- `view_word::put_own` meets its contract. Assumes nothing.
use Rattle.view_word.proofs.Rows.{own_line_lem, own-shown, own-other}
use Rattle.std.proofs.Common.{rules}
use Rattle.view_word.proofs.put_own.Goals as goal

pub returns-then-k-shown : goal.returns-then-k-shown
returns-then-k-shown c = search (rules, own-shown)

pub returns-then-stands_at : goal.returns-then-stands_at
returns-then-stands_at c = search (rules, own_line_lem)

pub returns : goal.returns
returns c = search (rules, own-other)
