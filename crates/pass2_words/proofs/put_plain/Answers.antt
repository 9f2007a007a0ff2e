-- `pass2_words::put_plain` meets its contract. Assumes nothing.
use borrow.Author.Rules.{rules}
use Rattle.pass2_words.proofs.Chars.{writing-inside, writing_start, writing-on}
use Rattle.pass2_words.proofs.put_plain.Goals as goal

pub loop-j-init : goal.loop-j-init
loop-j-init c = search (rules, writing_start)

pub loop-j-preserved : goal.loop-j-preserved
loop-j-preserved c = search (rules, writing-on)

pub overflow_add-i : goal.overflow_add-i
overflow_add-i c = let h = writing-inside _ _ _ _ _ _ _ _ _ c.loop-j.invariant c.loop-j-test.true in search rules

pub bounds-src-i : goal.bounds-src-i
bounds-src-i c = search (rules, writing-inside)
