-- `link_blocks::fill_marks` lays the marks of two tables of blocks by start. Assumes nothing.
use Prim.Native.Nat.{◌+◌, ◌≤◌}
use native.Mathlib.Omega.{arith}
use lib.ListN.{length}
use Rattle.link_blocks.proofs.Filled.{parts_none, part-row, part_held, part_room, other-part-row, other-part-held, other-part-room, parts_first, parts-second, parts_all}
use borrow.Author.Rules.{rules}
use Rattle.link_blocks.proofs.fill_marks.Goals as goal

pub loop-i-init : goal.loop-i-init
loop-i-init c = search (rules, parts_none)

pub size_at-n-requires : goal.size_at-n-requires
size_at-n-requires c = search (rules, part-row)

pub copy-requires : goal.copy-requires
copy-requires c =
    let held : c.loop-i.p + c.size_at-n.result ≤ length c.args.a_marks.now = search (rules, part_held) in
    (omega (arith, held), search (rules, part_room))

pub loop-i-preserved-then-first_next : goal.loop-i-preserved-then-first_next
loop-i-preserved-then-first_next c = search (rules, parts_first)

pub size_at-n-requires-in-loop-i : goal.size_at-n-requires-in-loop-i
size_at-n-requires-in-loop-i c = search (rules, other-part-row)

pub copy-requires-in-loop-i : goal.copy-requires-in-loop-i
copy-requires-in-loop-i c =
    let held : c.loop-i.q + c.size_at-n-in-loop-i.result ≤ length c.args.b_marks.now = search (rules, other-part-held) in
    (omega (arith, held), search (rules, other-part-room))

pub loop-i-preserved : goal.loop-i-preserved
loop-i-preserved c = search (rules, parts-second)

pub returns : goal.returns
returns c = search (rules, parts_all)
