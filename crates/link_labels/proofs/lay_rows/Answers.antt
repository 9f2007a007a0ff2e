-- `link_labels::lay_rows` meets its contract. Assumes nothing.
use Prim.Native.Nat.{◌-◌}
use Rattle.link_labels.proofs.Laying.{lay-none, first-less, first-room, lay-first, second-less, second-room, lay-second, both-less, both-room, lay-both, lay-all}
use Rattle.link_labels.proofs.lay_rows.Goals as goal

pub loop-labels-init : goal.loop-labels-init
loop-labels-init c = lay-none c.requires.0 c.requires.1 c.requires.2

pub next_due-requires : goal.next_due-requires
next_due-requires c = (c.requires.0.first_notes.room, c.requires.0.second_notes.room)

pub returns-in-Over : goal.returns-in-Over
returns-in-Over c = lay-all c.requires.0 c.loop-labels.invariant c.next_due.ensures c.in-Over.is

pub lay_noted-at-requires : goal.lay_noted-at-requires
lay_noted-at-requires c = first-room c.requires.0 c.loop-labels.invariant c.next_due.ensures c.in-First.is

pub loop-labels-smaller-in-First : goal.loop-labels-smaller-in-First
loop-labels-smaller-in-First c = first-less c.requires.0 c.loop-labels.invariant c.next_due.ensures c.in-First.is

pub loop-labels-preserved-in-First : goal.loop-labels-preserved-in-First
loop-labels-preserved-in-First c = lay-first c.requires.0 c.loop-labels.invariant c.next_due.ensures c.in-First.is c.lay_noted-at.ensures

pub lay_noted-at-requires-in-Second : goal.lay_noted-at-requires-in-Second
lay_noted-at-requires-in-Second c = second-room c.requires.0 c.loop-labels.invariant c.next_due.ensures c.in-Second.is

pub loop-labels-smaller-in-Second : goal.loop-labels-smaller-in-Second
loop-labels-smaller-in-Second c = second-less c.requires.0 c.loop-labels.invariant c.next_due.ensures c.in-Second.is

pub loop-labels-preserved-in-Second : goal.loop-labels-preserved-in-Second
loop-labels-preserved-in-Second c = lay-second c.requires.0 c.loop-labels.invariant c.next_due.ensures c.in-Second.is c.lay_noted-at-in-Second.ensures

pub lay_noted-at-requires-in-Both : goal.lay_noted-at-requires-in-Both
lay_noted-at-requires-in-Both c = both-room c.requires.0 c.loop-labels.invariant c.next_due.ensures c.in-Both.is

pub loop-labels-smaller : goal.loop-labels-smaller
loop-labels-smaller c = both-less c.requires.0 c.loop-labels.invariant c.next_due.ensures c.in-Both.is

pub loop-labels-preserved : goal.loop-labels-preserved
loop-labels-preserved c = lay-both c.requires.0 c.loop-labels.invariant c.next_due.ensures c.in-Both.is c.lay_noted-at-in-Both.ensures
