-- `stored_walk::name_follows` meets its contract: a law for each return. Assumes nothing.
use mathlib.Core.Path.{◌≡◌, ◌∙◌}
use Rattle.rules.proofs.Bools.{never}
use Rattle.std.specs.declared.cmp.Ordering.TheVariants.{Less}
use Rattle.stored_walk.proofs.Labels.{first-name, name-above, name-not}
use Rattle.stored_walk.proofs.name_follows.Goals as goal
use Rattle.stored_walk.proofs.name_follows.Goals.{in-Less, in_default}

pub returns-then-n-eq0 : goal.returns-then-n-eq0
returns-then-n-eq0 c s end h = first-name _ _ _ _ _ c.if-n-eq0.true c.is_label.ensures s end h

pub returns-then-matches : goal.returns-then-matches
returns-then-matches c s end h =
    let less : c.compare_bytes-order.result ≡ Less = elim c.match-matches.branch [ in-Less w ↦ (cc) | in_default w ↦ never cc ] in
    name-above _ _ _ _ c.if-n-eq0.false _ c.label_name.ensures _ c.compare_bytes-order.ensures s end h _ less c.is_label-then-matches.ensures

pub returns-else-matches : goal.returns-else-matches
returns-else-matches c s end h =
    let other : c.compare_bytes-order.result ≡ Less → ⊥ = elim c.match-matches.branch [ in-Less w ↦ never cc | in_default w ↦ w.in_default.not-Less ] in
    c.if-matches.false ∙ name-not _ _ _ _ c.if-n-eq0.false _ c.label_name.ensures _ c.compare_bytes-order.ensures s end h other
