-- `list_sections::label_size` meets its contract. Assumes nothing.
use borrow.Author.Rules.{rules}
use Rattle.list_sections.proofs.Sizes.{sized-defined, sized-outer}
use Rattle.list_sections.proofs.label_size.Goals as goal

pub returns-then-labels-i-eq-DEFINED : goal.returns-then-labels-i-eq-DEFINED
returns-then-labels-i-eq-DEFINED c = search (rules, sized-defined)

pub returns : goal.returns
returns c = search (rules, sized-outer)
