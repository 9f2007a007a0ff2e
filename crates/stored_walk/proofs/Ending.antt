-- The field that ends the bytes. Assumes nothing.
use mathlib.Core.Path.{◌≡◌, refl, sym, ◌∙◌}
use mathlib.Core.Bool.{Bool, true, false, ◌&&◌}
use mathlib.Core.List.{List}
use Prim.Native.Nat.{ℕ}
use native.Mathlib.Omega.{arith}
use lib.ListN.{length}
use lib.Dec.{eqb}
use borrow.Author.Tests.{eqb-true, eqb-false}
use Rattle.rules.specs.Objects.{flat, counts_of}
use Rattle.rules.specs.Stored.{fin, State, held, may}
use Rattle.rules.proofs.Bools.{never, and_left, and_right}
use Rattle.laws_stored.proofs.Accepted.{Finds}
use Rattle.laws_stored.proofs.Taken.{fin-may}
use Rattle.laws_stored.proofs.Checking.{checks-end, checks-behind}
use Rattle.object.specs.declared.Counts.{Counts}
use Rattle.object.specs.Meaning.{counts}
use Rattle.stored_read.proofs.Found.{Stands}
use Rattle.stored_walk.specs.declared.Walk.{Walk}
use Rattle.stored_walk.specs.declared.Walked.TheVariants.{Ended, Broken}
use Rattle.stored_walk.specs.Walking.{Tells, Steps, Stepped}
use Rattle.stored_walk.proofs.Standing.{stands-fin, stands-fin-long}
use Rattle.stored_walk.proofs.Blocks.{breaks, silent}

-- the counts are the object's
abbrev counts_in : Walk → Counts
counts_in w = record { blocks = w.blocks; words = w.words; labels = w.labels; relocations = w.relocations }

counted : (b places : List ℕ) (w : Walk) (s : State) → Tells b places w s → s.owed ≡ 0 → counts (counts_in w) ≡ counts_of (held s)
counted b places w s t o =
    let p : w.blocks ≡ length s.blocks = rw o at t.blocks in
    let q : w.words ≡ length (flat s.blocks) = rw (t.shut o) at t.words ∙ omega arith in
    rw (p, q, t.labels, t.relocations) refl

module _ (b : List ℕ) (w : Walk) (start end : ℕ) (f : Stands b w.at 0 start end) where
  module _ (y : (eqb start end && eqb w.owed 0) ≡ true) where
    found : Finds b w.at fin end
    found = stands-fin b w.at start end f (eqb-true start end (and_left (eqb start end) (eqb w.owed 0) y))

    closed : (places : List ℕ) (s : State) → Tells b places w s → s.owed ≡ 0
    closed places s t = sym t.owed ∙ eqb-true w.owed 0 (and_right (eqb start end) (eqb w.owed 0) y)

    pub end_whole : end ≡ length b → Stepped b w (Ended (counts_in w))
    unfolding Steps
    end_whole l = record {
      steps = λ places s t. record {
        closed = closed places s t;
        checked = checks-end b s w.at end t.checks found (fin-may s (closed places s t)) l;
        counted = counted b places w s t (closed places s t);
      };
    }

    pub end-behind : (end ≡ length b → ⊥) → Stepped b w (Broken end)
    unfolding Steps
    end-behind l = record {
      steps = λ places s t. checks-behind b s w.at end t.checks found (fin-may s (closed places s t)) (omega (arith, l, f.within));
    }

  pub end_refused : (eqb start end && eqb w.owed 0) ≡ false → Stepped b w (Broken w.at)
  unfolding may
  end_refused y = record { steps = λ places s t. go places s t (eqb start end) refl (eqb w.owed 0) refl y }
    where
      go : (places : List ℕ) (s : State) → Tells b places w s → (x : Bool) → eqb start end ≡ x → (z : Bool) → eqb w.owed 0 ≡ z → (x && z) ≡ false → Steps b places w s (Broken w.at)
      go places s t true p true q h = never cc
      go places s t true p false q h =
          breaks b places places w s t fin end (stands-fin b w.at start end f (eqb-true start end p)) (rw t.owed at q)
      go places s t false p z q h = silent b places places w s t (stands-fin-long b w.at start end f (eqb-false start end p))
