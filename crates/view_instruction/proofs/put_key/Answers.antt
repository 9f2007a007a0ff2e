-- `view_instruction::put_key` meets its contract. Assumes nothing.
use Rattle.view_instruction.proofs.Keys.{key-short, key-count, key-put}
use borrow.Author.Rules.{rules}
use Rattle.view_instruction.proofs.put_key.Goals as goal

pub slice_bounds-key-end : goal.slice_bounds-key-end
slice_bounds-key-end c = search (rules, key-short)

pub slice_bounds-put-end : goal.slice_bounds-put-end
slice_bounds-put-end c = search (rules, key-count)

pub returns : goal.returns
returns c = search (rules, key-put)
