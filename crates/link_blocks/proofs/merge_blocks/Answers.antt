-- `link_blocks::merge_blocks` lays the blocks of two objects. Assumes nothing.
use Rattle.link_blocks.proofs.Parts.{rows-ready, words-ready, marks-ready, laid-rows, laid-words, laid-marks}
use borrow.Author.Rules.{rules}
use Rattle.link_blocks.proofs.merge_blocks.Goals as goal

pub fill_rows-requires : goal.fill_rows-requires
fill_rows-requires c = search (rules, rows-ready)

pub fill_words-requires : goal.fill_words-requires
fill_words-requires c = search (rules, words-ready)

pub fill_marks-requires : goal.fill_marks-requires
fill_marks-requires c = search (rules, marks-ready)

pub returns : goal.returns
returns c = record { blocks = search (rules, laid-rows); words = search (rules, laid-words); marks = search (rules, laid-marks) }
