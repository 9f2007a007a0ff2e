-- `view_due::last_label` meets its contract. Assumes nothing.
use mathlib.Core.Path.{refl}
use Rattle.view_due.proofs.Dues.{label-done, label-less, label-more}
use borrow.Author.Rules.{rules}
use Rattle.view_due.proofs.last_label.Goals as goal

pub loop-from-init : goal.loop-from-init
loop-from-init c = refl

pub loop-from-smaller : goal.loop-from-smaller
loop-from-smaller c = search (rules, label-less)

pub loop-from-preserved : goal.loop-from-preserved
loop-from-preserved c = search (rules, label-more)

pub returns-in-Done : goal.returns-in-Done
returns-in-Done c = search (rules, label-done)
