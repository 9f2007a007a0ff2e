-- `link_words::settle_words` settles relocations by one walk over them and the blocks. Assumes nothing.
use Prim.Native.Nat.{◌+◌, ◌-◌}
use Rattle.link_words.proofs.Settling.{SettleTo}
use Rattle.link_words.proofs.settle_words.Given as goal

abbrev pub invariant-loop-k : goal.invariant-loop-k
invariant-loop-k l = SettleTo l.n l.relocations l.notes l.nb l.blocks l.initial.words l.words l.k l.row l.passed

abbrev pub decreases-loop-k : goal.decreases-loop-k
decreases-loop-k l = (l.n - l.k) + (l.nb - l.row)
