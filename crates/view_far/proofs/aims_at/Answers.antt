-- `view_far::aims_at` meets its contract. Assumes nothing.
use Rattle.view_far.proofs.Naming.{aims-tested}
use Rattle.view_far.proofs.aims_at.Goals as goal

pub returns : goal.returns
returns c = λ src at s f. aims-tested _ _ src at s f c.is_instr-instr.ensures
