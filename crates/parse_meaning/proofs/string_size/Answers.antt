-- `parse_meaning::string_size` meets its contract. Assumes nothing.
use Prim.Native.Nat.{◌-◌}
use borrow.Author.Rules.{rules}
use Rattle.parse_meaning.proofs.Chars.{run-after, counted_start, counted-run, counted-fits, counted-less, counted-more, counted-all}
use Rattle.parse_meaning.proofs.string_size.Goals as goal

pub loop-next-init : goal.loop-next-init
loop-next-init c = search (rules, counted_start)

pub overflow_sub-count : goal.overflow_sub-count
overflow_sub-count c = search (rules, run-after)

pub overflow_add-count : goal.overflow_add-count
overflow_add-count c = let h = counted-run _ _ c.loop-next.invariant c.plain_end-stop.ensures in search rules

pub overflow_add-count-in-Char : goal.overflow_add-count-in-Char
overflow_add-count-in-Char c = let h = counted-fits _ _ c.loop-next.invariant c.plain_end-stop.ensures c.string_char.ensures c.in-Char.is in search rules

pub loop-next-smaller : goal.loop-next-smaller
loop-next-smaller c = search (rules, counted-less)

pub loop-next-preserved : goal.loop-next-preserved
loop-next-preserved c = search (rules, counted-more)

pub returns-in-Done : goal.returns-in-Done
returns-in-Done c = (search (rules, counted-all), counted-run _ _ c.loop-next.invariant c.plain_end-stop.ensures)
