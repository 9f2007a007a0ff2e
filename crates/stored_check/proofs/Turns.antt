-- Checking as a loop over fields: it begins, goes on, and answers as the rule does. Assumes nothing.
use mathlib.Core.Path.{◌≡◌, refl, ◌∙◌, ap}
use mathlib.Core.List.{List}
use Prim.Native.Nat.{ℕ, ◌-◌, ◌≤◌, ◌<◌}
use native.Mathlib.Omega.{arith}
use lib.ListN.{length}
use Rattle.rules.specs.Answers.{accepted, answer}
use Rattle.rules.specs.Stored.{State, check}
use Rattle.laws_stored.specs.Beginnings.{AreBytes}
use Rattle.object.specs.declared.Counts.{Counts}
use Rattle.object_answer.specs.declared.Answer.{Answer}
use Rattle.object_answer.specs.Meant.{meant, accepting, refusing}
use Rattle.stored_walk.specs.Walking.{begun, Tells, Going, Steps}
use Rattle.stored_walk.specs.declared.Walk.{Walk}
use Rattle.stored_walk.specs.declared.Walked.{Walked}
use Rattle.stored_walk.specs.declared.Walked.TheVariants.{On, Ended, Broken}
use Rattle.stored_run.specs.Following.{Runs}
use Rattle.stored_walk.proofs.Starting.{going_start, step-further, step-within}

-- WHAT THE LOOP KEEPS: the walk tells what was read
pub record Turning (b old places : List ℕ) (w : Walk) : Type 0 where
  pub size : length places ≡ length old
  pub going : Going b places w

-- before the first field
pub turning-start : (b places : List ℕ) (w : Walk) → AreBytes b → 1024 ≤ length places → w ≡ begun → Turning b places places w
turning-start b places w h l e = record { size = refl; going = rw e (going_start b places h l) }

-- a turn that leaves the places y where x was
module _ (b old x y : List ℕ) (w : Walk) (t : Turning b old x w) (r : Walked) (n : length y ≡ length x) (m : (s : State) → Tells b x w s → Steps b y w s r) where
  steps : Steps b y w t.going.state r
  steps = m t.going.state t.going.tells

  -- a field that may follow
  module _ (v : Walk) (e : r ≡ On v) where
    pub turned_more : Turning b old y v
    unfolding Steps
    turned_more = let o = rw e at steps in record { size = n ∙ t.size; going = record { state = _; tells = o.tells } }

    -- and the labels behind it
    module _ {z : List ℕ} {u : Walk} (k : Runs b y z v u) where
      pub turned-run : Turning b old z u
      turned-run = record { size = k.size ∙ turned_more.size; going = k.going }

      pub turned-less : length b - u.at < length b - w.at
      unfolding Steps
      turned-less = let o = rw e at steps in omega (arith, k.further, step-further b y w t.going.state v o, step-within b y w t.going.state v o)

  -- the end of an object
  pub turned-whole : (c : Counts) → r ≡ Ended c → (a : Answer) → a ≡ accepting c → meant a ≡ answer (check b)
  unfolding Steps answer
  turned-whole c e a q = let o = rw e at steps in rw (q, o.checked) (ap accepted o.counted)

  -- or 50
  pub turned-broken : (k : ℕ) → r ≡ Broken k → (a : Answer) → a ≡ refusing 50 k k 0 0 → meant a ≡ answer (check b)
  unfolding Steps answer
  turned-broken k e a q = let o = rw e at steps in rw (q, o) refl
