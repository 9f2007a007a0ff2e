-- `stored_seek::is_external` meets its contract: a law for the row that is, nothing for the others. Assumes nothing.
use mathlib.Core.Path.{◌≡◌}
use borrow.Author.Tests.{eqb-true}
use Rattle.rules.proofs.Bools.{never}
use Rattle.std.specs.declared.cmp.Ordering.TheVariants.{Equal}
use Rattle.stored_seek.proofs.Externals.{row-place, row-external}
use Rattle.stored_seek.proofs.is_external.Goals as goal
use Rattle.stored_seek.proofs.is_external.Goals.{in-Equal, in_default}

pub bounds-bytes-at : goal.bounds-bytes-at
bounds-bytes-at c = row-place _ _ _ _ c.if-n-k.false c.requires

pub returns-then-matches : goal.returns-then-matches
returns-then-matches c s end h e =
    let same : c.compare_bytes-order.result ≡ Equal = elim c.match-matches.branch [ in-Equal w ↦ (cc) | in_default w ↦ never cc ] in
    row-external _ _ _ _ c.if-n-k.false (eqb-true _ _ e) _ _ c.label_name.ensures _ c.compare_bytes-order.ensures same s end h
