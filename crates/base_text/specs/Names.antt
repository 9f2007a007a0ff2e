-- Names in order, bytewise; a name goes before a longer one that it begins. Assumes nothing.
use Rattle.std.specs.Prelude.{ℕ, List, [], ◌∷◌, ltb}
use Rattle.rules.specs.Base.{when◌then◌else◌}
use Rattle.std.specs.declared.cmp.Ordering.{Ordering}
use Rattle.std.specs.declared.cmp.Ordering.TheVariants.{Less, Equal, Greater}

unfoldable pub ordered : List ℕ → List ℕ → Ordering
ordered [] [] = Equal
ordered [] (y ∷ ys) = Less
ordered (x ∷ xs) [] = Greater
ordered (x ∷ xs) (y ∷ ys) = when ltb x y then Less else when ltb y x then Greater else ordered xs ys
