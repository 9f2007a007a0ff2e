-- `list::listing_size` meets its contract. Assumes nothing.
use borrow.Author.Rules.{rules}
use mathlib.Core.List.{[]}
use Rattle.list.proofs.Length.{few_words, listing-size, relocs-named}
use Rattle.list.proofs.listing_size.Goals as goal

pub relocations_size-b-requires : goal.relocations_size-b-requires
relocations_size-b-requires c = relocs-named _ _ c.requires

pub overflow_mul-result-2 : goal.overflow_mul-result-2
overflow_mul-result-2 c =
    let few = few_words _ _ _ [] [] c.requires.blocks in
    search rules

pub overflow_add-result : goal.overflow_add-result
overflow_add-result c =
    let few = few_words _ _ _ [] [] c.requires.blocks in
    search rules

pub overflow_add-result-2 : goal.overflow_add-result-2
overflow_add-result-2 c =
    let few = few_words _ _ _ [] [] c.requires.blocks in
    search rules

pub overflow_add-result-3 : goal.overflow_add-result-3
overflow_add-result-3 c =
    let few = few_words _ _ _ [] [] c.requires.blocks in
    search rules

pub returns : goal.returns
returns c = listing-size _ _ _ _ c.requires c.labels_size-a.ensures c.relocations_size-b.ensures
