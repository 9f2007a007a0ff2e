-- `stored_run::field_end` meets its contract: a law for each tag. Assumes nothing.
use borrow.Author.Rules.{rules}
use Rattle.stored_run.proofs.Names.{ends-none, ends-outer, ends-defined}
use Rattle.stored_run.proofs.field_end.Goals as goal

pub returns-then-tag-eq-EXTERNAL_LABEL : goal.returns-then-tag-eq-EXTERNAL_LABEL
returns-then-tag-eq-EXTERNAL_LABEL c = search (rules, ends-outer)

pub returns-then-end-start-lt-NUMBER_BYTES : goal.returns-then-end-start-lt-NUMBER_BYTES
returns-then-end-start-lt-NUMBER_BYTES c = ends-none

pub returns-then-tag-eq-DEFINED_LABEL : goal.returns-then-tag-eq-DEFINED_LABEL
returns-then-tag-eq-DEFINED_LABEL c = search (rules, ends-defined)

pub returns : goal.returns
returns c = ends-none
