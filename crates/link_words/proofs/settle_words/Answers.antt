-- `link_words::settle_words` settles relocations by one walk over them and the blocks. Assumes nothing.
use Prim.Native.Nat.{◌-◌}
use Rattle.link_words.proofs.Settling.{settle-none, fewer-left, row-there, relocation-there, note-there, target-low, settle-on, word_in, word-there, settle-more, settle-all}
use borrow.Author.Rules.{rules}
use Rattle.link_words.proofs.settle_words.Goals as goal

pub loop-k-init : goal.loop-k-init
loop-k-init c = search (rules, settle-none)

pub ends_before-requires : goal.ends_before-requires
ends_before-requires c = (search (rules, row-there), search (rules, relocation-there))

pub size_at-passed-requires : goal.size_at-passed-requires
size_at-passed-requires c = search (rules, row-there)

pub loop-k-smaller-then-ends_before : goal.loop-k-smaller-then-ends_before
loop-k-smaller-then-ends_before c = search (rules, fewer-left)

pub loop-k-preserved-then-ends_before : goal.loop-k-preserved-then-ends_before
loop-k-preserved-then-ends_before c = search (rules, settle-on)

pub word_at-p-requires : goal.word_at-p-requires
word_at-p-requires c = search (rules, word_in)

pub target_at-requires : goal.target_at-requires
target_at-requires c = (search (rules, relocation-there), search (rules, note-there))

pub settle_word-requires : goal.settle_word-requires
settle_word-requires c = (search (rules, word-there), search (rules, target-low))

pub loop-k-preserved : goal.loop-k-preserved
loop-k-preserved c = search (rules, settle-more)

pub returns : goal.returns
returns c = search (rules, settle-all)
