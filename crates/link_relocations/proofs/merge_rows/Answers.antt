-- `link_relocations::merge_rows` meets its contract. Assumes nothing.
use Prim.Native.Nat.{◌-◌}
use Rattle.link_relocations.proofs.Merging.{merging-none, first-placed, merging-first, second-placed, merging-second, merging-all}
use borrow.Author.Rules.{rules}
use Rattle.link_relocations.proofs.merge_rows.Goals as goal

pub loop-i-init : goal.loop-i-init
loop-i-init c = search (rules, merging-none)

pub put_open-k-requires : goal.put_open-k-requires
put_open-k-requires c = search (rules, first-placed)

pub loop-i-preserved-then-first_is_next : goal.loop-i-preserved-then-first_is_next
loop-i-preserved-then-first_is_next c =
    merging-first c.loop-i.invariant c.first_is_next.ensures
    c.if-first_is_next.true c.put_open-k.ensures.value c.put_open-k.ensures.out_after

pub put_open-k-requires-else-first_is_next : goal.put_open-k-requires-else-first_is_next
put_open-k-requires-else-first_is_next c = search (rules, second-placed)

pub loop-i-preserved : goal.loop-i-preserved
loop-i-preserved c =
    merging-second c.loop-i.invariant c.first_is_next.ensures
    c.loop-i-test.true c.if-first_is_next.false c.put_open-k-else-first_is_next.ensures.value
    c.put_open-k-else-first_is_next.ensures.out_after

pub returns : goal.returns
returns c = search (rules, merging-all)
