-- `stored_run::end_above` meets its contract: a name that may follow ends where it does. Assumes nothing.
use mathlib.Core.Path.{◌≡◌}
use Rattle.rules.proofs.Bools.{never}
use Rattle.std.specs.declared.cmp.Ordering.TheVariants.{Less}
use Rattle.stored_run.proofs.Names.{above-taken}
use Rattle.stored_run.proofs.end_above.Goals as goal
use Rattle.stored_run.proofs.end_above.Goals.{in-Less, in_default}

pub returns-then-is_label : goal.returns-then-is_label
returns-then-is_label c =
    let less : c.compare_bytes-order.result ≡ Less = elim c.match-matches.branch [ in-Less w ↦ (cc) | in_default w ↦ never cc ] in
    above-taken c.compare_bytes-order.ensures less c.is_label.ensures c.if-is_label.true
