-- A table with a row put in. Assumes nothing.
use Rattle.std.specs.Prelude.{ℕ, ◌+◌, ◌-◌, List, ◌++◌, length, take, drop}

-- t, whose first n are in use, with the row vs inserted at k
abbrev pub inserted : {A : Type 0} → List A → ℕ → ℕ → List A → List A
inserted t n k vs = take k t ++ vs ++ (take (n - k) (drop k t) ++ drop (n + length vs) t)
