-- A field by its tag, and a step over whatever stands at a position. Assumes nothing.
use mathlib.Core.Path.{◌≡◌, refl, ◌∙◌}
use mathlib.Core.List.{List}
use Prim.Native.Nat.{ℕ, suc, ◌≤◌, zero-le}
use native.Mathlib.Omega.{arith}
use lib.ListN.{length}
use Rattle.rules.specs.Stored.{field_at, State}
use Rattle.laws_stored.proofs.Accepted.{read-over, read_short}
use Rattle.stored_read.specs.declared.Field.{Field}
use Rattle.stored_read.specs.declared.Field.TheVariants.{Over, CutShort}
use Rattle.stored_read.specs.Told.{told}
use Rattle.stored_read.proofs.Found.{Stands, says-over, says-short}
use Rattle.stored_walk.specs.declared.Walk.{Walk}
use Rattle.stored_walk.specs.declared.Walked.{Walked}
use Rattle.stored_walk.specs.declared.Walked.TheVariants.{Broken}
use Rattle.stored_walk.specs.Walking.{Tells, Steps, Stepped, Moves}
use Rattle.stored_walk.proofs.Standing.{stands-other}
use Rattle.stored_walk.proofs.Blocks.{silent}

-- BY ITS TAG

pub tagged : {b : List ℕ} {at t u s e : ℕ} → t ≡ u → Stands b at t s e → Stands b at u s e
tagged h f = rw h at f

-- a field that writes no place
pub stepped-moves : {b : List ℕ} {places : List ℕ} {w : Walk} {r : Walked} → Stepped b w r → Moves b places places w r
stepped-moves {b} {places} h = record { size = refl; steps = h.steps places }

past : (k t : ℕ) → k ≤ t → (t ≡ k → ⊥) → suc k ≤ t
past k t l n = omega arith

-- other tags
pub other_tag : (b places : List ℕ) (w : Walk) (t start end : ℕ) → Stands b w.at t start end
    → (t ≡ 0 → ⊥) → (t ≡ 1 → ⊥) → (t ≡ 2 → ⊥) → (t ≡ 3 → ⊥) → (t ≡ 4 → ⊥) → (t ≡ 5 → ⊥) → (t ≡ 6 → ⊥) → Moves b places places w (Broken w.at)
other_tag b places w t start end f n0 n1 n2 n3 n4 n5 n6 = record {
  size = refl;
  steps = λ s k. silent b places places w s k (stands-other b w.at start end t f (past 6 t (past 5 t (past 4 t (past 3 t (past 2 t (past 1 t (past 0 t zero-le n0) n1) n2) n3) n4) n5) n6));
}

-- NO FIELD

module _ (b places : List ℕ) (w : Walk) (f : Field) (h : f ≡ told w.at (field_at b w.at)) where
  pub step-over : f ≡ Over → (s : State) → Tells b places w s → Steps b places w s (Broken w.at)
  unfolding Steps
  step-over k s t = t.checks.same ∙ read-over b (length b) s w.at (says-over b w.at f h k)

  pub step-short : f ≡ CutShort → (s : State) → Tells b places w s → Steps b places w s (Broken w.at)
  unfolding Steps
  step-short k s t = t.checks.same ∙ read_short b (length b) s w.at (says-short b w.at f h k)
