-- `pass2_words::put_plain` meets its contract. Assumes nothing.
use Rattle.pass2_words.proofs.Chars.{Writing}
use Rattle.pass2_words.proofs.put_plain.Given as goal

abbrev pub invariant-loop-j : goal.invariant-loop-j
invariant-loop-j l = Writing l.src l.initial.words l.initial.marks l.words l.marks l.i l.n l.used l.j
