-- The call that assembles, up to pass two. Assumes nothing.
use Rattle.std.specs.declared.result.Result.{Result}
use Rattle.std.specs.declared.result.Result.TheVariants.{Ok, Err}
use Rattle.std.specs.Prelude.{◌≡◌, Bool, false, List, ℕ, ◌≤◌}
use Rattle.rules.specs.Base.{when◌then◌else◌, Outcome, refuse, nowhere}
use Rattle.rules.specs.Objects.{Object}
use Rattle.rules.specs.Passes.{assemble}
use Rattle.base_refusals.specs.Refusals.{refused_by}
use Rattle.base_refusals.specs.declared.Refusal.{Refusal}
use Rattle.pass1_state.specs.declared.Pass1State.{Pass1State}
use Rattle.asm_first_half.specs.Tabled.{Begun}

-- the call of buffers that are too small or not, with so many lent words
abbrev pub calling : Bool → ℕ → List ℕ → Outcome Object
calling small room s = when small then refuse 42 nowhere else assemble room s

-- the call up to pass two: a source whose tables pass one has left and whose words the lent ones hold, or the call's refusal
pub record Started (small : Bool) (room : ℕ) (rs qs s : List ℕ) (r : Result Pass1State Refusal) : Type 0 where
  pub long : (o : Pass1State) → r ≡ Ok o → small ≡ false
  pub went : (o : Pass1State) → r ≡ Ok o → Begun rs qs s o
  pub fits : (o : Pass1State) → r ≡ Ok o → o.words ≤ room
  pub stopped : (f : Refusal) → r ≡ Err f → calling small room s ≡ refused_by f
