-- The numbers of the answers. Assumes nothing.
use Rattle.std.specs.Prelude.{◌≡◌, refl, ℕ}
use Rattle.std.proofs.Common.{ap, arith}
use Rattle.rules.specs.Base.{Outcome, ok, refused, refuse, nowhere}
use Rattle.rules.specs.Objects.{Counts}
use Rattle.rules.specs.Buffers.{Buffers}
use Rattle.rules.specs.Calls.{OfObject}
use Rattle.rules.proofs.Bools.{never}
use Rattle.rules.proofs.Calls.{answered-once}
use Rattle.std.specs.declared.result.Result.{Result}
use Rattle.std.specs.declared.result.Result.TheVariants.{Ok, Err}
use Rattle.object_check.specs.declared.ObjectErr.{ObjectErr}
use Rattle.object_check.specs.declared.ObjectErr.TheVariants.{ShortBuffer, BadObject}

abbrev pub outcome : Result (Unit {0}) ObjectErr → Outcome (Unit {0})
outcome (Ok u) = ok tt
outcome (Err ShortBuffer) = refuse 42 nowhere
outcome (Err BadObject) = refuse 43 nowhere

-- the number of an outcome, 0 where it is accepted
abbrev number_of : Outcome (Unit {0}) → ℕ
number_of (ok a) = 0
number_of (refused r) = r.number

-- different answers are different outcomes
pub outcome-one : (r s : Result (Unit {0}) ObjectErr) → outcome r ≡ outcome s → r ≡ s
outcome-one (Ok u) (Ok v) e = refl
outcome-one (Ok u) (Err ShortBuffer) e = never cc
outcome-one (Ok u) (Err BadObject) e = never cc
outcome-one (Err ShortBuffer) (Ok u) e = never cc
outcome-one (Err ShortBuffer) (Err ShortBuffer) e = refl
outcome-one (Err ShortBuffer) (Err BadObject) e = absurd (omega (arith, ap number_of e))
outcome-one (Err BadObject) (Ok u) e = never cc
outcome-one (Err BadObject) (Err ShortBuffer) e = absurd (omega (arith, ap number_of e))
outcome-one (Err BadObject) (Err BadObject) e = refl

-- two answers of `check_object` that its contract allows are equal
pub checked-once : (c : Counts) (b : Buffers) (r s : Result (Unit {0}) ObjectErr) → OfObject c b (ok tt) (outcome r) → OfObject c b (ok tt) (outcome s) → r ≡ s
checked-once c b r s l m = outcome-one r s (answered-once l m)
