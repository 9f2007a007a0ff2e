-- `list_lines::put_line` meets its contract. Assumes nothing.
use borrow.Author.Rules.{rules}
use Rattle.list_lines.proofs.Lines.{line-done}
use Rattle.list_lines.proofs.put_line.Goals as goal

pub returns : goal.returns
returns c = search (rules, line-done)
