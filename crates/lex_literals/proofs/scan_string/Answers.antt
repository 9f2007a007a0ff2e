-- `lex_literals::scan_string` meets its contract. Assumes nothing.
use borrow.Author.Rules.{rules}
use Prim.Native.Nat.{◌-◌}
use Rattle.lex_literals.proofs.Scanning.{scanning-start, run-after, run_fits, scanning-ends, scanning-quote, quote-inside, adds_fit, scanning-on, scanning-less}
use Rattle.lex_literals.proofs.scan_string.Goals as goal

pub loop-end-init : goal.loop-end-init
loop-end-init c = search (rules, scanning-start)

pub overflow_sub-count : goal.overflow_sub-count
overflow_sub-count c = search (rules, run-after)

pub overflow_add-count : goal.overflow_add-count
overflow_add-count c = let h = run_fits _ _ c.loop-end.invariant c.plain_end-stop.ensures in search rules

pub returns-in-Ends : goal.returns-in-Ends
returns-in-Ends c = search (rules, scanning-ends)

pub overflow_add-result : goal.overflow_add-result
overflow_add-result c = let h = quote-inside _ _ c.loop-end.invariant c.plain_end-stop.ensures c.special_at.ensures c.in-Quote.is in search rules

pub returns-in-Quote : goal.returns-in-Quote
returns-in-Quote c = search (rules, scanning-quote)

pub overflow_add-count-in-Adds : goal.overflow_add-count-in-Adds
overflow_add-count-in-Adds c = let h = adds_fit _ _ c.loop-end.invariant c.plain_end-stop.ensures c.special_at.ensures c.in-Adds.is in search rules

pub loop-end-smaller : goal.loop-end-smaller
loop-end-smaller c = search (rules, scanning-less)

pub loop-end-preserved : goal.loop-end-preserved
loop-end-preserved c = search (rules, scanning-on)
