-- A row of two cells. Assumes nothing.
use Rattle.std.specs.Prelude.{ℕ, ◌+◌, ◌*◌, List, set}

-- the table t with a and b as its row k
abbrev pub with_row : {A : Type 0} → List A → ℕ → A → A → List A
with_row t k a b = set (set t (k * 2) a) (k * 2 + 1) b
