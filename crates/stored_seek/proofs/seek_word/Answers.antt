-- `stored_seek::seek_word` meets its contract. The loop's invariant: the search may go on where it stands. Assumes nothing.
use borrow.Author.Rules.{rules}
use Rattle.stored_seek.proofs.Words.{searching-start, searching-less, searching-more, searching-found, searching-none}
use Rattle.stored_seek.proofs.seek_word.Goals as goal

pub loop-at-init : goal.loop-at-init
loop-at-init c = search (rules, searching-start)

pub loop-at-smaller : goal.loop-at-smaller
loop-at-smaller c = search (rules, searching-less)

pub loop-at-preserved : goal.loop-at-preserved
loop-at-preserved c = search (rules, searching-more)

pub returns-in-Here : goal.returns-in-Here
returns-in-Here c = search (rules, searching-found)

pub returns : goal.returns
returns c = search (rules, searching-none)
