-- `link_decide::weigh` meets its contract. Assumes nothing.
use mathlib.Core.Path.{◌∙◌}
use Rattle.link_decide.proofs.Steps.{weigh-blocks, weigh-labels, weigh-relocations, weigh-words, weigh-fits}
use borrow.Author.Rules.{rules}
use Rattle.link_decide.proofs.weigh.Goals as goal

pub returns-then-c-gt-BLOCKS : goal.returns-then-c-gt-BLOCKS
returns-then-c-gt-BLOCKS c = c.placeless.ensures ∙ weigh-blocks _ _ c.if-c-gt-BLOCKS.true

pub returns-then-c-gt-LABELS : goal.returns-then-c-gt-LABELS
returns-then-c-gt-LABELS c = c.placeless-then-c-gt-LABELS.ensures ∙ weigh-labels _ _ (search rules) c.if-c-gt-LABELS.true

pub returns-then-c-gt-RELOCATIONS : goal.returns-then-c-gt-RELOCATIONS
returns-then-c-gt-RELOCATIONS c = c.placeless-then-c-gt-RELOCATIONS.ensures ∙ weigh-relocations _ _ (search rules) (search rules) c.if-c-gt-RELOCATIONS.true

pub returns-then-room-c : goal.returns-then-room-c
returns-then-room-c c = c.placeless-then-room-c.ensures ∙ weigh-words _ _ (search rules) (search rules) (search rules) c.if-room-c.true

pub returns : goal.returns
returns c = search (rules, weigh-fits)
