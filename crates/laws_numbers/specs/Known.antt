-- The numbers that the table of refusals has. Assumes nothing.
use Rattle.std.specs.Prelude.{ℕ, ◌≡◌, Bool, true, false, ◌||◌, List, [], ◌∷◌, eqb}
use Prim.Native.String.{String}
use Rattle.rules.specs.Base.{Outcome, refused, Refusal}
use Rattle.rules.specs.Answers.{refusals}

unfoldable pub in_table : List (ℕ × String) → ℕ → Bool
in_table [] n = false
in_table (r ∷ rs) n = eqb r.0 n || in_table rs n

unfoldable pub known : ℕ → Bool
known n = in_table refusals n

-- an outcome that is no refusal, or one with a number of the table
pub record Numbered {A : Type 0} (o : Outcome A) : Type 0 where
  pub number : (r : Refusal) → o ≡ refused r → known r.number ≡ true
