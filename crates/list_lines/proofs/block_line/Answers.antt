-- `list_lines::block_line` meets its contract. Assumes nothing.
use borrow.Author.Rules.{rules}
use Rattle.list_lines.proofs.Lines.{head}
use Rattle.list_lines.proofs.block_line.Goals as goal

pub returns : goal.returns
returns c = search (rules, head)
