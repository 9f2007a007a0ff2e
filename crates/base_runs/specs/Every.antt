-- Every byte of a list is of a class. Assumes nothing.
use Rattle.std.specs.Prelude.{ℕ, Bool, true, ◌&&◌, List, [], ◌∷◌}
use Rattle.base_text.specs.Runs.{in_class}
use Rattle.base_text.specs.declared.Class.{Class}

unfoldable pub every : Class → List ℕ → Bool
every k [] = true
every k (b ∷ s) = in_class k b && every k s
