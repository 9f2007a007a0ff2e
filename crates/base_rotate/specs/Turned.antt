-- The two parts of a range of a list exchanged. Assumes nothing.
use Rattle.std.specs.Prelude.{ℕ, List, ◌++◌, take, drop}
use Rattle.std.proofs.Math.Seq.{slice}

-- b with what stands from mid to hi before what stands from lo to mid
unfoldable pub turned : {A : Type 0} → ℕ → ℕ → ℕ → List A → List A
turned lo mid hi b = take lo b ++ (slice mid hi b ++ (slice lo mid b ++ drop hi b))
