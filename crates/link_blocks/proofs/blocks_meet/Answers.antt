-- `link_blocks::blocks_meet` tests whether two tables of blocks share an address. Assumes nothing.
use Rattle.link_blocks.proofs.Walk.{left-all, left-none, left-none-other, left-first, left-second, left-met}
use borrow.Author.Rules.{rules}
use Rattle.link_blocks.proofs.blocks_meet.Goals as goal

pub loop-i-init : goal.loop-i-init
loop-i-init c = search (rules, left-all)

pub returns-then-na-i : goal.returns-then-na-i
returns-then-na-i c = search (rules, left-none)

pub returns-then-nb-j : goal.returns-then-nb-j
returns-then-nb-j c = search (rules, left-none-other)

pub loop-i-preserved-then-lies_before : goal.loop-i-preserved-then-lies_before
loop-i-preserved-then-lies_before c = search (rules, left-first)

pub loop-i-preserved : goal.loop-i-preserved
loop-i-preserved c = search (rules, left-second)

pub returns-in-loop-i : goal.returns-in-loop-i
returns-in-loop-i c = search (rules, left-met)
