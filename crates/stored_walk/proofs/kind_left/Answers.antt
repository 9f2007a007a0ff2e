-- `stored_walk::kind_left` meets its contract: at a block's end by its test, before it by a law. Assumes nothing.
use borrow.Author.Rules.{rules}
use Rattle.stored_walk.proofs.Runs.{kind-kept}
use Rattle.stored_walk.proofs.kind_left.Goals as goal

pub returns : goal.returns
returns c = search (rules, kind-kept)
