-- `object_names::is_upper` meets its contract. Assumes nothing.
use Rattle.std.proofs.Common.{rules}
use Rattle.object_names.proofs.Upper.{upper-told}
use Rattle.object_names.proofs.is_upper.Goals as goal

pub returns : goal.returns
returns c = upper-told c.args.name.now c.all.result (search rules)
