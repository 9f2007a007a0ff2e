-- Label rows in order of their names in upper case, and a name's place among them. Assumes nothing.
use Rattle.std.specs.declared.result.Result.{Result}
use Rattle.std.specs.declared.result.Result.TheVariants.{Ok, Err}
use Rattle.std.specs.Prelude.{◌≡◌, List, map, ℕ, ◌≤◌, ◌<◌}
use Rattle.rules.specs.Tokens.{upper}
use Rattle.rules.specs.Tables.{Before, name_order}
use Rattle.rules.specs.Objects.{Lab, Name}
use Rattle.rules.specs.Buffers.{name_row, lab_row, Up}

-- the name of row k, in upper case
abbrev pub upper_name : List ℕ → List ℕ → ℕ → Name
upper_name ls ns k = map upper (name_row ls ns k)

abbrev pub upper_row : List ℕ → List ℕ → ℕ → Name × Lab
upper_row ls ns k = (upper_name ls ns k, lab_row ls k)

-- the first n rows rise by name in upper case
pub record Rising (ls ns : List ℕ) (n : ℕ) : Type 0 where
  pub up : Up name_order n (upper_row ls ns)

-- the name's row, or where it belongs
pub record Slotted (ls ns : List ℕ) (n : ℕ) (x : Name) (r : Result ℕ ℕ) : Type 0 where
  pub taken : (k : ℕ) → r ≡ Ok k → (k < n) × (upper_name ls ns k ≡ x)
  pub within : (p : ℕ) → r ≡ Err p → p ≤ n
  pub below : (p : ℕ) → r ≡ Err p → (k : ℕ) → k < p → Before (upper_name ls ns k) x
  pub above : (p : ℕ) → r ≡ Err p → (k : ℕ) → p ≤ k → k < n → Before x (upper_name ls ns k)
