-- `parse::check_bytes` meets its contract. Assumes nothing.
use Rattle.parse.proofs.All.{bytes_high, bytes_low}
use borrow.Author.Rules.{rules}
use Rattle.parse.proofs.check_bytes.Goals as goal

pub returns-then-high-src : goal.returns-then-high-src
returns-then-high-src c = search (rules, bytes_high)

pub returns : goal.returns
returns c = search (rules, bytes_low)
