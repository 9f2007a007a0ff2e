-- `link_relocations::count_open` meets its contract. Assumes nothing.
use Prim.Native.Nat.{◌-◌}
use Rattle.link_relocations.proofs.Counting.{counting-none, counting-stays, counting-goes, counting-all, row-in, note-in}
use borrow.Author.Rules.{rules}
use Rattle.link_relocations.proofs.count_open.Goals as goal
use Rattle.link_relocations.proofs.count_open.Goals.{then-is_open, else-is_open}

pub loop-k-init : goal.loop-k-init
loop-k-init c = search (rules, counting-none)

pub is_open-requires : goal.is_open-requires
is_open-requires c = (search (rules, row-in), search (rules, note-in))

pub loop-k-preserved : goal.loop-k-preserved
loop-k-preserved c =
    elim c.if-is_open.branch [
      | then-is_open w ↦ rw w.count-is (counting-stays c.loop-k.invariant c.loop-k-test.true c.is_open.ensures w.if-is_open.true)
      | else-is_open w ↦ rw w.count-is (counting-goes c.loop-k.invariant c.loop-k-test.true c.is_open.ensures w.if-is_open.false)
    ]

pub returns : goal.returns
returns c = record { value = search (rules, counting-all); upper_bound = search rules }
