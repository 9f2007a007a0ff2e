-- `link_decide::both_checked` meets its contract. Assumes nothing.
use Rattle.link_decide.proofs.Steps.{given-short, given-first, given-second, given-late, given-bad, given_both}
use borrow.Author.Rules.{rules}
use Rattle.link_decide.proofs.both_checked.Goals as goal

pub returns-then-short : goal.returns-then-short
returns-then-short c = search (rules, given-short)

pub returns-in-Err-ShortBuffer : goal.returns-in-Err-ShortBuffer
returns-in-Err-ShortBuffer c = search (rules, given-first)

pub returns-in-Ok : goal.returns-in-Ok
returns-in-Ok c = search (rules, given-second)

pub returns-in-Err-ShortBuffer-second : goal.returns-in-Err-ShortBuffer-second
returns-in-Err-ShortBuffer-second c = search (rules, given-late)

pub returns-in-Ok-second : goal.returns-in-Ok-second
returns-in-Ok-second c = search (rules, given-bad)

pub returns-in-Err-BadObject-second : goal.returns-in-Err-BadObject-second
returns-in-Err-BadObject-second c = search (rules, given_both)
