-- `stored_put::put_field` meets its contract: a law for each tag. Assumes nothing.
use Rattle.stored_put.proofs.Meeting.{tag_in, block_in, block-fits, sets-up, sets-fit, defined-in, defined-fits, external-fits, reloc-in, reloc-fits, reloc-small, puts-block, puts-sets, puts-defined, puts-external, puts-reloc, puts-gap}
use borrow.Author.Rules.{rules}
use Rattle.stored_put.proofs.put_field.Goals as goal

pub bounds-bytes-at : goal.bounds-bytes-at
bounds-bytes-at c = search (rules, tag_in)

pub put_block-requires : goal.put_block-requires
put_block-requires c = search (rules, block_in, block-fits)

pub overflow_sub-next : goal.overflow_sub-next
overflow_sub-next c = search (rules, sets-up)

pub put_words-requires : goal.put_words-requires
put_words-requires c = search (rules, sets-fit)

pub put_defined-requires : goal.put_defined-requires
put_defined-requires c = search (rules, defined-in, defined-fits)

pub put_external-requires : goal.put_external-requires
put_external-requires c = search (rules, external-fits)

pub put_relocation-requires : goal.put_relocation-requires
put_relocation-requires c = search (rules, reloc-in, reloc-fits, reloc-small)

pub returns-in-1 : goal.returns-in-1
returns-in-1 c = search (rules, puts-block)

pub returns-in-2 : goal.returns-in-2
returns-in-2 c = search (rules, puts-sets)

pub returns-in-4 : goal.returns-in-4
returns-in-4 c = search (rules, puts-defined)

pub returns-in-5 : goal.returns-in-5
returns-in-5 c = search (rules, puts-external)

pub returns-in-6 : goal.returns-in-6
returns-in-6 c = search (rules, puts-reloc)

pub returns-in_default : goal.returns-in_default
returns-in_default c = search (rules, puts-gap)
