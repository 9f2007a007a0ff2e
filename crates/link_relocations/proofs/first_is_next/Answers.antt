-- `link_relocations::first_is_next` meets its contract. Assumes nothing.
use Rattle.std.proofs.Common.{rules, arith}
use Rattle.link_relocations.proofs.Merging.{next-by, next_last, next-none}
use Rattle.link_relocations.proofs.first_is_next.Goals as goal

pub returns-then-n-i : goal.returns-then-n-i
returns-then-n-i c = search (rules, next-none)

pub returns-then-m-j : goal.returns-then-m-j
returns-then-m-j c = search (rules, next_last)

pub returns : goal.returns
returns c = next-by (omega arith) (omega arith)
