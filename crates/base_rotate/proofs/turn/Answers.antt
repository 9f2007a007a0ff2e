-- `base_rotate::turn` exchanges two ranges by three reversals. Assumes nothing.
use Rattle.std.proofs.Common.{rules, ◌≤◌, arith}
use Rattle.base_rotate.proofs.Reversals.{reversed_back, turns, turn-first-empty, turn-second-empty}
use Rattle.base_rotate.proofs.turn.Goals as goal
use Rattle.base_rotate.proofs.turn.Goals.{then-lo-mid-via-then-lo-mid, then-lo-mid-via-else-lo-mid+then-mid-hi}

pub returns-then-lo-mid : goal.returns-then-lo-mid
returns-then-lo-mid g c = elim c.then-lo-mid.branch [
  | then-lo-mid-via-then-lo-mid w ↦ search (rules, turn-first-empty)
  | then-lo-mid-via-else-lo-mid+then-mid-hi w ↦ search (rules, turn-second-empty)
]

pub returns : goal.returns
returns g c =
    let whole : c.args.lo ≤ c.args.hi = omega (arith, c.requires) in
    turns _ _ _ _ _ _ _ c.requires.0 c.requires.1.0 c.requires.1.1
    (reversed_back _ _ _ _ c.requires.0 c.reverse.ensures.after)
    (reversed_back _ _ _ _ c.requires.1.0 c.reverse-2.ensures.after)
    (reversed_back _ _ _ _ whole c.reverse-3.ensures.after)
