-- `list_lines::hex_digit` meets its contract. Assumes nothing.
use borrow.Author.Rules.{rules}
use Rattle.list_lines.proofs.Digits.{digit_low, digit-high}
use Rattle.list_lines.proofs.hex_digit.Goals as goal

pub returns-then-n-lt10 : goal.returns-then-n-lt10
returns-then-n-lt10 c = search (rules, digit_low)

pub returns : goal.returns
returns c = search (rules, digit-high)
