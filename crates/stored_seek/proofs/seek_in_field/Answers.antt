-- `stored_seek::seek_in_field` meets its contract: a law for each return. Assumes nothing.
use native.Mathlib.Omega.{arith}
use borrow.Author.Rules.{rules}
use Rattle.stored_read.proofs.Found.{says-found}
use Rattle.stored_seek.proofs.Words.{pace-below, pace-over, pace-short, pace-block, pace-sets, pace-word, pace-gap, pace-unset, pace-other}
use Rattle.stored_seek.proofs.seek_in_field.Goals as goal

pub returns-then-wanted-here : goal.returns-then-wanted-here
returns-then-wanted-here c = search (rules, pace-below)

pub returns-then-tag-eq-BLOCK : goal.returns-then-tag-eq-BLOCK
returns-then-tag-eq-BLOCK c = search (rules, pace-block)

pub overflow_sub-size : goal.overflow_sub-size
overflow_sub-size c = (says-found _ _ _ c.field_at.ensures _ _ _ c.in-Found.is).ends

pub number_at-requires : goal.number_at-requires
number_at-requires c = let x = says-found _ _ _ c.field_at.ensures _ _ _ c.in-Found.is in omega (arith, x.within, c.if-k-size.true)

pub returns-then-k-size : goal.returns-then-k-size
returns-then-k-size c = search (rules, pace-word)

pub returns-then-tag-eq-SET_WORDS : goal.returns-then-tag-eq-SET_WORDS
returns-then-tag-eq-SET_WORDS c = search (rules, pace-sets)

pub returns-then-k-size-2 : goal.returns-then-k-size-2
returns-then-k-size-2 c = search (rules, pace-unset)

pub returns-then-tag-eq-UNSET_WORDS : goal.returns-then-tag-eq-UNSET_WORDS
returns-then-tag-eq-UNSET_WORDS c = search (rules, pace-gap)

pub returns-in-Over : goal.returns-in-Over
returns-in-Over c = search (rules, pace-over)

pub returns-in-CutShort : goal.returns-in-CutShort
returns-in-CutShort c = search (rules, pace-short)

pub returns-else-tag-eq-UNSET_WORDS : goal.returns-else-tag-eq-UNSET_WORDS
returns-else-tag-eq-UNSET_WORDS c = search (rules, pace-other)
