-- The relocations that stand in rows of address, 0, and the name's start and length in the source. Assumes nothing.
use Rattle.std.specs.declared.option.Option as O
use Rattle.std.specs.declared.option.Option.TheVariants.{Some, None}
use Rattle.std.specs.Prelude.{◌≡◌, List, ℕ, ◌+◌, ◌*◌, ◌≤◌, ◌<◌, length, get_or}
use Rattle.rules.specs.Base.{Outcome, ok, refuse, ◌>>=◌, Span}
use Rattle.rules.specs.Tables.{Table, nat_order}
use Rattle.rules.specs.Objects.{Name}
use Rattle.rules.specs.Passes.{Pass1State, with_relocs, relocated}
use Rattle.rules.specs.Buffers.{tab, Up}
use Rattle.parse_labels.specs.Names.{name_from}

abbrev pub note : List ℕ → (address zero start size : ℕ) → ℕ × Name
note src a z s l = (a, name_from src s l)

abbrev pub note_row : List ℕ → List ℕ → ℕ → ℕ × Name
note_row rs src k = note src (get_or rs (k * 4) 0) (get_or rs (k * 4 + 1) 0) (get_or rs (k * 4 + 2) 0) (get_or rs (k * 4 + 3) 0)

unfoldable pub notes : ℕ → List ℕ → List ℕ → Table ℕ Name
notes n rs src = tab n (note_row rs src)

-- a name of at most 64 bytes inside the source
pub record Within (src : List ℕ) (a z s l : ℕ) : Type 0 where
  pub place : s + l ≤ length src
  pub small : l ≤ 64

-- n rows by address
pub record Pending (rs src : List ℕ) (n : ℕ) : Type 0 where
  pub few : n ≤ 1024
  pub room : n * 4 ≤ length rs
  pub rows : (k : ℕ) → k < n → Within src (get_or rs (k * 4) 0) (get_or rs (k * 4 + 1) 0) (get_or rs (k * 4 + 2) 0) (get_or rs (k * 4 + 3) 0)
  pub up : Up nat_order n (note_row rs src)

-- the rows below r are below the address, and no other
pub record Bound (rs : List ℕ) (n a r : ℕ) : Type 0 where
  pub within : r ≤ n
  pub below : (k : ℕ) → k < r → get_or rs (k * 4) 0 < a
  pub above : (k : ℕ) → r ≤ k → k < n → a ≤ get_or rs (k * 4) 0

-- a table with room for a row, and a name for it
pub record Ready (rs src : List ℕ) (n s l : ℕ) : Type 0 where
  pub table : Pending rs src n
  pub room : 4096 ≤ length rs
  pub name : Within src 0 0 s l

-- row k is one of n, and at the address
pub record AtAddress (rs : List ℕ) (n k a : ℕ) : Type 0 where
  pub row : k < n
  pub same : get_or rs (k * 4) 0 ≡ a

abbrev pub outcome : List ℕ → List ℕ → Span → O.Option ℕ → Outcome (Table ℕ Name)
outcome rs' src p (Some m) = ok (notes m rs' src)
outcome rs' src p None = refuse 40 p

-- the state of pass one, with these relocations
abbrev pub noting : Pass1State → Table ℕ Name → Outcome Pass1State
noting o t = ok (with_relocs t o)

-- in every state that has these relocations, a statement at p adds one as the rule has it
pub record Adding (rs src rs' : List ℕ) (n a s l : ℕ) (r : O.Option ℕ) : Type 0 where
  pub rule : (p : Span) (o : Pass1State) → o.relocs ≡ notes n rs src → (outcome rs' src p r >>= noting o) ≡ relocated a (name_from src s l) p o
  pub table : (m : ℕ) → r ≡ Some m → Pending rs' src m
