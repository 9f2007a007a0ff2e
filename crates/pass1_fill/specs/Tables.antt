-- A step of pass one over both of its tables. Assumes nothing.
use Rattle.base_refusals.specs.declared.Refusal.{Refusal}
use Rattle.std.specs.declared.result.Result.{Result}
use Rattle.std.specs.declared.result.Result.TheVariants.{Ok, Err}
use Rattle.std.specs.declared.option.Option as O
use Rattle.std.specs.declared.option.Option.TheVariants.{Some, None}
use Rattle.std.specs.Prelude.{◌≡◌, Bool, true, false, List, ℕ, ◌≤◌, length}
use Rattle.std.proofs.Math.Option.{Option, none, some}
use Rattle.rules.specs.Base.{Outcome}
use Rattle.rules.specs.Objects.{Lab, outer, defined}
use Rattle.rules.specs.Passes.{Symbol}
use Rattle.rules.specs.Passes as rule
use Rattle.base_refusals.specs.Refusals.{refusal_at}
use Rattle.pass1_symbols.specs.Symbols.{symbols}
use Rattle.pass1_relocations.specs.Pending.{notes, Pending}
use Rattle.pass1_state.specs.declared.Pass1State.{Pass1State}
use Rattle.pass1_state.specs.State.{view_pass1, told, with_relocations}
use Rattle.pass1_labels.specs.Tables.{Lent}

-- what a relocation noted or not makes of a state, for a statement from a up to e
abbrev pub step_of : Pass1State → (a e : ℕ) → O.Option ℕ → Result Pass1State Refusal
step_of o a e (Some n) = Ok (with_relocations o n)
step_of o a e None = Err (refusal_at 40 a e)

abbrev pub outer_lab : Lab → Bool
outer_lab outer = true
outer_lab (defined a) = false

-- what the table says is an external
abbrev pub is_outer : Option Symbol → Bool
is_outer none = false
is_outer (some s) = outer_lab s.lab

-- the rules' state: symbols in rows rs, relocations in rows qs
abbrev pub seen : (rs qs src : List ℕ) → Pass1State → rule.Pass1State
seen rs qs src o = view_pass1 (λ n. symbols n rs src) (λ n. notes n qs src) o

-- a state with both tables, each with room for every row
pub record Held (rs qs src : List ℕ) (o : Pass1State) : Type 0 where
  pub lent : Lent rs src o
  pub table : Pending qs src o.relocations
  pub room : 4096 ≤ length qs

-- a step from o by a rule, with the rows afterwards
pub record Stepping (rs qs src rs' qs' : List ℕ) (o : Pass1State) (f : rule.Pass1State → Outcome rule.Pass1State) (r : Result Pass1State Refusal) : Type 0 where
  pub rule : told (λ n. symbols n rs' src) (λ n. notes n qs' src) r ≡ f (seen rs qs src o)
  pub kept : (o' : Pass1State) → r ≡ Ok o' → Held rs' qs' src o'
