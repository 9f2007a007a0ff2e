-- `stored_walk::set_kind` meets its contract: a law for each return. Assumes nothing.
use borrow.Author.Rules.{rules}
use Rattle.stored_walk.proofs.Runs.{set_full, set-short}
use Rattle.stored_walk.proofs.set_kind.Goals as goal

pub returns-then-size-eq-RUN_WORDS : goal.returns-then-size-eq-RUN_WORDS
returns-then-size-eq-RUN_WORDS c = search (rules, set_full)

pub returns : goal.returns
returns c = search (rules, set-short)
