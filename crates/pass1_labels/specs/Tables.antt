-- A step of pass one that may add symbols. Assumes nothing.
use Rattle.base_refusals.specs.declared.Refusal.{Refusal}
use Rattle.std.specs.declared.result.Result.{Result}
use Rattle.std.specs.declared.result.Result.TheVariants.{Ok, Err}
use Rattle.std.specs.Prelude.{◌≡◌, List, ℕ, ◌≤◌, length}
use Rattle.rules.specs.Base.{Outcome}
use Rattle.rules.specs.Tables.{Table}
use Rattle.rules.specs.Objects.{Name}
use Rattle.rules.specs.Passes as rule
use Rattle.pass1_symbols.specs.Symbols.{symbols, Growing}
use Rattle.pass1_state.specs.declared.Pass1State.{Pass1State}
use Rattle.pass1_state.specs.State.{view_pass1, told, Steady, with_labels}

abbrev pub step_of : Pass1State → Result ℕ Refusal → Result Pass1State Refusal
step_of o (Ok n) = Ok (with_labels o n)
step_of o (Err f) = Err f

-- the symbols of a state, in rows over a source that fits
pub record Lent (rs src : List ℕ) (o : Pass1State) : Type 0 where
  pub steady : Steady o
  pub table : Growing rs src o.labels
  pub size : length src ≤ 262144

-- what such a step keeps
pub record Kept (rs' src : List ℕ) (o o' : Pass1State) : Type 0 where
  pub lent : Lent rs' src o'
  pub relocations : o'.relocations ≡ o.relocations

-- a step from o by a rule that adds symbols, whatever the relocations are
pub record Stepping (rs src rs' : List ℕ) (o : Pass1State) (f : rule.Pass1State → Outcome rule.Pass1State) (r : Result Pass1State Refusal) : Type 0 where
  pub rule : (y : ℕ → Table ℕ Name) → told (λ n. symbols n rs' src) y r ≡ f (view_pass1 (λ n. symbols n rs src) y o)
  pub kept : (o' : Pass1State) → r ≡ Ok o' → Kept rs' src o o'
