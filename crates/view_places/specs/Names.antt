-- The names of refusals in document 01's table, by their numbers. Assumes nothing.
use Rattle.std.specs.Prelude.{ℕ, zero, suc, List, [], ◌∷◌, map, get_or}
use Rattle.rules.specs.Answers.{refusal_name}
use Rattle.rules.specs.Buffers.{tab}

-- from 0 on, as the rules' table has them; a number that is none has no name
unfoldable pub names : List (List ℕ)
names = tab 52 refusal_name

-- filled up with spaces to so many bytes
unfoldable pub filled : ℕ → List ℕ → List ℕ
filled zero s = []
filled (suc n) [] = 32 ∷ filled n []
filled (suc n) (b ∷ bs) = b ∷ filled n bs

-- as rows of a table
unfoldable pub rows : List (List ℕ)
rows = map (filled 17) names

unfoldable pub name_row : ℕ → List ℕ
name_row n = get_or rows n (filled 17 [])
