-- `pass1_relocations::lay_rows` meets its contract. Assumes nothing.
use Rattle.pass1_relocations.proofs.Laid.{Writing}
use Rattle.pass1_relocations.proofs.lay_rows.Given as goal

abbrev pub invariant-loop-k : goal.invariant-loop-k
invariant-loop-k l = Writing l.rows l.src l.symbols l.n l.m l.initial.relocations l.relocations l.k
