-- Where the word of an address stands, and what a word and its mark keep. Assumes nothing.
use Rattle.std.specs.declared.option.Option as O
use Rattle.std.specs.declared.option.Option.TheVariants.{Some, None}
use Rattle.std.specs.Prelude.{◌≡◌, List, ℕ, ◌+◌, ◌≤◌, ◌<◌, get_or}
use Rattle.rules.specs.Objects.{word}
use Rattle.rules.specs.Buffers.{tab, head_row, cell_row}
use Rattle.rules.proofs.Chains.{Spot}

-- block k has the address
abbrev pub Inside : (ℕ → ℕ × ℕ) → ℕ → ℕ → Type 0
Inside h x k = ((h k).0 ≤ x) × (x < (h k).0 + (h k).1)

-- the place of the address, or no block has it
pub record Placed (n w : ℕ) (bs : List ℕ) (x : ℕ) (r : O.Option ℕ) : Type 0 where
  pub hit : (p : ℕ) → r ≡ Some p → (p < w) × Spot x (tab n (head_row bs)) p
  pub miss : r ≡ None → (k : ℕ) → k < n → Inside (head_row bs) x k → ⊥

-- word p is set, and 0
pub record ZeroCell (ws ms : List ℕ) (p : ℕ) : Type 0 where
  pub cell : cell_row ws ms p ≡ word 0

-- a word and its mark
pub record Celled (w m : ℕ) : Type 0 where
  pub mark : m ≤ 1
  pub clear : m ≡ 0 → w ≡ 0

-- what holds of each index from one up to another
pub record Part (P : ℕ → Type 0) (at stop : ℕ) : Type 0 where
  pub each : (j : ℕ) → at ≤ j → j < stop → P j

-- word j is set
pub record Marked (ms : List ℕ) (j : ℕ) : Type 0 where
  pub mark : get_or ms j 0 ≡ 1
