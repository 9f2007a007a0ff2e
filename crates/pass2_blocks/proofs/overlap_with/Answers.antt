-- `pass2_blocks::overlap_with` gives both places, the earlier first. Assumes nothing.
use borrow.Author.Rules.{rules}
use Rattle.pass2_blocks.proofs.Answers.{clash-first, clash-second}
use Rattle.pass2_blocks.proofs.overlap_with.Goals as goal

pub returns-then-from-other_start : goal.returns-then-from-other_start
returns-then-from-other_start c = search (rules, clash-first)

pub returns : goal.returns
returns c = search (rules, clash-second)
