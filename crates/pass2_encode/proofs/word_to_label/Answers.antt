-- `pass2_encode::word_to_label` meets its contract. Assumes nothing.
use mathlib.Core.Path.{refl}
use borrow.Author.Rules.{rules}
use Rattle.pass2_encode.proofs.Wording.{to-label, to-external, to-nothing}
use Rattle.pass2_encode.proofs.word_to_label.Goals as goal

pub returns-then-flag-eq-DEFINED : goal.returns-then-flag-eq-DEFINED
returns-then-flag-eq-DEFINED c = to-label _ _ _ _ c.requires.0 _ c.label_row.ensures _ c.in-Some.is _ _ _ c.cell-flag.ensures c.if-flag-eq-DEFINED.true c.cell-label.ensures _ refl _ refl _ c.offset_word.ensures

pub returns-else-flag-eq-DEFINED : goal.returns-else-flag-eq-DEFINED
returns-else-flag-eq-DEFINED c = search (rules, to-external)

pub returns-in-None : goal.returns-in-None
returns-in-None c = search (rules, to-nothing)
