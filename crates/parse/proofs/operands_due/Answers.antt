-- `parse::operands_due` meets its contract. Assumes nothing.
use Rattle.rules.specs.Base.{when◌then◌else◌}
use Rattle.parse.specs.Coded.{count_due}
use Rattle.parse.proofs.operands_due.Goals as goal

pub returns-then-bare : goal.returns-then-bare
unfolding count_due when◌then◌else◌
returns-then-bare c = rw c.if-bare.true

pub returns : goal.returns
unfolding count_due when◌then◌else◌
returns c = rw c.if-bare.false
