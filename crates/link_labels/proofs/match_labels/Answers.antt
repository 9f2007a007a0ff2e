-- `link_labels::match_labels` meets its contract. Assumes nothing.
use Prim.Native.Nat.{◌-◌}
use Rattle.link_labels.proofs.Siding.{less-first, less-second, less_both}
use Rattle.link_labels.proofs.Matching.{match_none, few-rows, first-row, first-note, match-first, second-row, second-note, match-second, both-row-first, both-row-second, both-note-first, both-note-second, match-both, match-apart, match-all}
use borrow.Author.Rules.{rules}
use Rattle.link_labels.proofs.match_labels.Goals as goal

pub loop-notes1-init : goal.loop-notes1-init
loop-notes1-init c = search (rules, match_none)

pub returns-in-Over : goal.returns-in-Over
returns-in-Over c = search (rules, match-all)

pub note_own-requires : goal.note_own-requires
note_own-requires c = search (rules, first-row, first-note, few-rows)

pub loop-notes1-smaller-in-First : goal.loop-notes1-smaller-in-First
loop-notes1-smaller-in-First c = less-first c.next_side.ensures c.in-First.is

pub loop-notes1-preserved-in-First : goal.loop-notes1-preserved-in-First
loop-notes1-preserved-in-First c = match-first c.requires c.loop-notes1.invariant c.next_side.ensures c.in-First.is c.note_own.ensures

pub note_own-requires-in-Second : goal.note_own-requires-in-Second
note_own-requires-in-Second c = search (rules, second-row, second-note, few-rows)

pub loop-notes1-smaller-in-Second : goal.loop-notes1-smaller-in-Second
loop-notes1-smaller-in-Second c = less-second c.next_side.ensures c.in-Second.is

pub loop-notes1-preserved-in-Second : goal.loop-notes1-preserved-in-Second
loop-notes1-preserved-in-Second c = match-second c.requires c.loop-notes1.invariant c.next_side.ensures c.in-Second.is c.note_own-in-Second.ensures

pub join_rows-requires : goal.join_rows-requires
join_rows-requires c = (both-row-first c.requires c.loop-notes1.invariant c.next_side.ensures c.in-Both.is, both-row-second c.requires c.loop-notes1.invariant c.next_side.ensures c.in-Both.is)

pub returns-in-None : goal.returns-in-None
returns-in-None c = match-apart c.requires c.loop-notes1.invariant c.next_side.ensures c.in-Both.is c.join_rows.ensures c.in-None.is

pub note-requires : goal.note-requires
note-requires c = search (rules, both-note-first, few-rows)

pub note-requires-in-Some : goal.note-requires-in-Some
note-requires-in-Some c = search (rules, both-note-second, few-rows)

pub loop-notes1-smaller : goal.loop-notes1-smaller
loop-notes1-smaller c = less_both c.next_side.ensures c.in-Both.is

pub loop-notes1-preserved : goal.loop-notes1-preserved
loop-notes1-preserved c = match-both c.requires c.loop-notes1.invariant c.next_side.ensures c.in-Both.is c.join_rows.ensures (search rules) c.note.ensures c.note-in-Some.ensures
