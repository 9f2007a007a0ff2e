-- `object_check::is_object` meets its contract. Assumes nothing.
use Rattle.object_check.proofs.Whole.{no_blocks, no_words, no-labels, all_but, grounds}
use borrow.Author.Rules.{rules}
use Rattle.object_check.proofs.is_object.Goals as goal

pub check_relocations-requires : goal.check_relocations-requires
check_relocations-requires c = search (rules, grounds)

pub returns-then-good_labels : goal.returns-then-good_labels
returns-then-good_labels c = search (rules, all_but)

pub returns-else-good_labels : goal.returns-else-good_labels
returns-else-good_labels c = search (rules, no-labels)

pub returns-else-good_words : goal.returns-else-good_words
returns-else-good_words c = search (rules, no_words)

pub returns-else-good_blocks : goal.returns-else-good_blocks
returns-else-good_blocks c = search (rules, no_blocks)
