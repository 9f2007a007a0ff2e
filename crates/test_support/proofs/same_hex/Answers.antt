-- `test_support::same_hex` meets its contract. Assumes nothing.
use borrow.Author.Rules.{rules}
use Rattle.test_support.proofs.Reading.{alike-length, alike-start, alike-more, alike-differs, alike_end}
use Rattle.test_support.proofs.same_hex.Goals as goal

pub returns-then-text-digits : goal.returns-then-text-digits
returns-then-text-digits c = search (rules, alike-length)

pub loop-i-init : goal.loop-i-init
loop-i-init c = search (rules, alike-start)

pub loop-i-preserved : goal.loop-i-preserved
loop-i-preserved c = search (rules, alike-more)

pub returns : goal.returns
returns c = search (rules, alike_end)

pub returns-then-b-pair : goal.returns-then-b-pair
returns-then-b-pair c = search (rules, alike-differs)
