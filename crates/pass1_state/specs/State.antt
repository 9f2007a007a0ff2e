-- The rules' state of pass one that the code's state stands for. Assumes nothing.
use Rattle.base_refusals.specs.declared.Refusal.{Refusal}
use Rattle.std.specs.declared.result.Result.{Result}
use Rattle.std.specs.declared.result.Result.TheVariants.{Ok, Err}
use Rattle.std.specs.Prelude.{◌≡◌, Bool, true, false, ℕ, ◌*◌, ◌≤◌, ◌<◌}
use Rattle.std.proofs.Math.Option.{Option, none, some}
use Rattle.rules.specs.Base.{Outcome, ok, Span, span}
use Rattle.rules.specs.Tables.{Table}
use Rattle.rules.specs.Objects.{Name}
use Rattle.rules.specs.Passes.{Symbol, Cursor, pass1_state}
use Rattle.rules.specs.Passes as rule
use Rattle.base_refusals.specs.Refusals.{refused_by}
use Rattle.pass1_state.specs.declared.Pass1State.{Pass1State}

abbrev pub cursor : (start counter : ℕ) → Span → Cursor
cursor s c p = record { start = s; counter = c; place = p }

abbrev pub cursor_of : Bool → Cursor → Option Cursor
cursor_of true c = some c
cursor_of false c = none

-- the state, over tables that are known by how many rows they have
abbrev pub view_pass1 : (ℕ → Table Name Symbol) → (ℕ → Table ℕ Name) → Pass1State → rule.Pass1State
view_pass1 x y o = pass1_state (cursor_of o.inside (cursor o.start o.counter (span o.orig_start o.orig_end))) (x o.labels) (y o.relocations) o.blocks o.words

-- what a step's answer stands for
abbrev pub told : (ℕ → Table Name Symbol) → (ℕ → Table ℕ Name) → Result Pass1State Refusal → Outcome rule.Pass1State
told x y (Ok o) = ok (view_pass1 x y o)
told x y (Err f) = refused_by f

-- what always holds of the state: addresses of two bytes, and sums that fit
pub record Steady (o : Pass1State) : Type 0 where
  pub rising : o.start ≤ o.counter
  pub address : o.counter < 65536
  pub few : o.blocks ≤ 64
  pub sum : o.words ≤ o.blocks * 65536

-- and what a step that changes no table keeps
pub record Kept (o o' : Pass1State) : Type 0 where
  pub steady : Steady o'
  pub labels : o'.labels ≡ o.labels
  pub relocations : o'.relocations ≡ o.relocations

-- a step from o that changes no table, whatever the tables are
pub record Stepping (o : Pass1State) (f : (ℕ → Table Name Symbol) → (ℕ → Table ℕ Name) → Outcome rule.Pass1State) (r : Result Pass1State Refusal) : Type 0 where
  pub rule : (x : ℕ → Table Name Symbol) (y : ℕ → Table ℕ Name) → told x y r ≡ f x y
  pub kept : (o' : Pass1State) → r ≡ Ok o' → Kept o o'

-- pass one before the first statement
abbrev pub fresh : Pass1State
fresh = record { inside = false; start = 0; counter = 0; orig_start = 0; orig_end = 0; labels = 0; relocations = 0; blocks = 0; words = 0 }

-- the state with so many rows of symbols
abbrev pub with_labels : Pass1State → ℕ → Pass1State
with_labels o n = record { inside = o.inside; start = o.start; counter = o.counter; orig_start = o.orig_start; orig_end = o.orig_end; labels = n; relocations = o.relocations; blocks = o.blocks; words = o.words }

-- the state with so many rows of relocations
abbrev pub with_relocations : Pass1State → ℕ → Pass1State
with_relocations o n = record { inside = o.inside; start = o.start; counter = o.counter; orig_start = o.orig_start; orig_end = o.orig_end; labels = o.labels; relocations = n; blocks = o.blocks; words = o.words }

-- the states that the steps make
abbrev pub counting : Pass1State → ℕ → Pass1State
counting o n = record { inside = true; start = o.start; counter = n; orig_start = o.orig_start; orig_end = o.orig_end; labels = o.labels; relocations = o.relocations; blocks = o.blocks; words = o.words }

abbrev pub opening : Pass1State → ℕ → ℕ → ℕ → Pass1State
opening o n a e = record { inside = true; start = n; counter = n; orig_start = a; orig_end = e; labels = o.labels; relocations = o.relocations; blocks = o.blocks; words = o.words }

abbrev pub closing : Pass1State → ℕ → ℕ → Pass1State
closing o b w = record { inside = false; start = o.start; counter = o.counter; orig_start = o.orig_start; orig_end = o.orig_end; labels = o.labels; relocations = o.relocations; blocks = b; words = w }
