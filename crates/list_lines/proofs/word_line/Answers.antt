-- `list_lines::word_line` meets its contract. Assumes nothing.
use borrow.Author.Rules.{rules}
use Rattle.list_lines.proofs.Digits.{line}
use Rattle.list_lines.proofs.word_line.Goals as goal

pub returns : goal.returns
returns c = search (rules, line)
