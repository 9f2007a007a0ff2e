-- `view_far::is_sought` meets its contract. Assumes nothing.
use Rattle.view_far.proofs.Naming.{sought-operand, sought-label}
use Rattle.view_far.proofs.is_sought.Goals as goal

pub returns-in-Operand : goal.returns-in-Operand
returns-in-Operand c = sought-operand _ _ _ _ _ c.in-Operand.is c.aims_at.ensures

pub returns-in-Label : goal.returns-in-Label
returns-in-Label c = sought-label _ _ _ _ _ _ c.in-Label.is c.has_label.ensures
