-- `stored_run::name_start` meets its contract. Assumes nothing.
use borrow.Author.Rules.{rules}
use Rattle.stored_run.proofs.Names.{start-defined, start-other}
use Rattle.stored_run.proofs.name_start.Goals as goal

pub returns-then-bytes-at-eq-DEFINED_LABEL : goal.returns-then-bytes-at-eq-DEFINED_LABEL
returns-then-bytes-at-eq-DEFINED_LABEL c = search (rules, start-defined)

pub returns : goal.returns
returns c = search (rules, start-other)
