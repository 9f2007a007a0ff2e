-- A list copied into another eight bytes at a time. Assumes nothing.
use Rattle.std.specs.Prelude.{◌≡◌, List, ℕ, ◌+◌, length, set, get_or}
use Rattle.std.proofs.Math.Seq.{paste}

-- d with the eight elements from index i of s on, where they stand if s stands at `at`
unfoldable pub with_eight : List ℕ → ℕ → List ℕ → ℕ → List ℕ
with_eight d at s i = set (set (set (set (set (set (set (set d (at + i) (get_or s i 0)) (at + (i + 1)) (get_or s (i + 1) 0)) (at + (i + 2)) (get_or s (i + 2) 0)) (at + (i + 3)) (get_or s (i + 3) 0)) (at + (i + 4)) (get_or s (i + 4) 0)) (at + (i + 5)) (get_or s (i + 5) 0)) (at + (i + 6)) (get_or s (i + 6) 0)) (at + (i + 7)) (get_or s (i + 7) 0)

-- where the first i elements of s stood at `at` in d, all of s stands there in e
pub record PutRest (d e : List ℕ) (at : ℕ) (s : List ℕ) (i : ℕ) : Type 0 where
  pub all : (d₀ : List ℕ) → length d ≡ length d₀ → d ≡ paste d₀ at s i → e ≡ paste d₀ at s (length s)
