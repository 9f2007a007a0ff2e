-- Where a block belongs among those closed. Assumes nothing.
use Rattle.std.specs.Prelude.{◌≡◌, Bool, true, false, List, ℕ, ◌+◌, ◌*◌, ◌≤◌, ◌<◌, length, get_or, ltb}
use Rattle.rules.specs.Passes.{ranges_overlap}
use Rattle.rules.specs.Buffers.{head_row, sum_of}
use Rattle.std.specs.declared.result.Result.{Result}
use Rattle.std.specs.declared.result.Result.TheVariants.{Ok, Err}

-- whether a block of s words at a overlaps row i, and starts before it
abbrev pub hits : List ℕ → (a s i : ℕ) → Bool
hits bs a s i = ranges_overlap a s (get_or bs (i * 2) 0) (get_or bs (i * 2 + 1) 0)

abbrev pub ahead : List ℕ → (a i : ℕ) → Bool
ahead bs a i = ltb a (get_or bs (i * 2) 0)

-- the block lies behind row i
pub record Behind (bs : List ℕ) (a s i : ℕ) : Type 0 where
  pub clear : hits bs a s i ≡ false
  pub later : ahead bs a i ≡ false

-- it lies behind the first k of n rows, whose words are `at` together
pub record Passed (bs : List ℕ) (n a s k at : ℕ) : Type 0 where
  pub within : k ≤ n
  pub few : n ≤ 64
  pub room : n * 2 ≤ length bs
  pub sum : at ≡ sum_of (head_row bs) k
  pub small : at ≤ k * 65535
  pub behind : (i : ℕ) → i < k → Behind bs a s i

-- row k is the first that it overlaps
pub record ClashAt (bs : List ℕ) (n a s k : ℕ) : Type 0 where
  pub row : k < n
  pub behind : (i : ℕ) → i < k → Behind bs a s i
  pub hit : hits bs a s k ≡ true

-- it belongs before row k, if there is one, and its words at `at`
pub record FreeAt (bs : List ℕ) (n a s k at : ℕ) : Type 0 where
  pub within : k ≤ n
  pub sum : at ≡ sum_of (head_row bs) k
  pub behind : (i : ℕ) → i < k → Behind bs a s i
  pub clear : k < n → hits bs a s k ≡ false
  pub before : k < n → ahead bs a k ≡ true

abbrev pub Spotted : List ℕ → (n a s : ℕ) → Result (ℕ × ℕ) ℕ → Type 0
Spotted bs n a s (Err k) = ClashAt bs n a s k
Spotted bs n a s (Ok (k, at)) = FreeAt bs n a s k at
