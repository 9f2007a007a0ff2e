-- A name at an address is added as the rules' `add_label` adds it. Assumes nothing.
use Rattle.std.specs.declared.result.Result.{Result}
use Rattle.std.specs.declared.result.Result.TheVariants.{Ok, Err}
use Rattle.std.specs.declared.option.Option as O
use Rattle.std.specs.declared.option.Option.TheVariants.{Some, None}
use Rattle.std.specs.Prelude.{◌≡◌, List, ℕ, ◌+◌, ◌<◌}
use Rattle.std.proofs.Math.Option.{Option, none, some}
use Rattle.rules.specs.Base.{Outcome, ok, refuse, refuse2, Span, span}
use Rattle.rules.specs.Tables.{Table, look, name_order}
use Rattle.rules.specs.Objects.{Name}
use Rattle.rules.specs.Statements as S
use Rattle.rules.specs.Passes.{Symbol, add_label}
use Rattle.rules.specs.Buffers.{lab_from}
use Rattle.parse_labels.specs.Names.{name_from}
use Rattle.pass1_symbols.specs.Symbols.{symbol_row, symbols, Cells, Growing}
use Rattle.pass1_symbols.specs.declared.AddErr.{AddErr}
use Rattle.pass1_symbols.specs.declared.AddErr.TheVariants.{Clash, Full}

-- the name as a statement has it
abbrev pub named_at : List ℕ → ℕ → ℕ → S.Name
named_at src s l = record { text = name_from src s l; place = span s (s + l) }

-- what the answer says of a name at s, in a statement at p
abbrev pub outcome : (rs src rs' : List ℕ) (s l : ℕ) → Span → Result ℕ AddErr → Outcome (Table Name Symbol)
outcome rs src rs' s l p (Ok m) = ok (symbols m rs' src)
outcome rs src rs' s l p (Err (Clash k)) = refuse2 25 (symbol_row rs src k).1.place (span s (s + l))
outcome rs src rs' s l p (Err Full) = refuse 40 p

-- a table, and a name for it
pub record Ready (rs src : List ℕ) (n a f s l : ℕ) : Type 0 where
  pub table : Growing rs src n
  pub row : Cells src a f s l

pub record Adding (rs src rs' : List ℕ) (n a f s l : ℕ) (r : Result ℕ AddErr) : Type 0 where
  pub rule : (p : Span) → outcome rs src rs' s l p r ≡ add_label (lab_from a f) p (named_at src s l) (symbols n rs src)
  pub table : (m : ℕ) → r ≡ Ok m → Growing rs' src m
  pub clash : (k : ℕ) → r ≡ Err (Clash k) → (k < n) × (rs' ≡ rs)

-- the symbol of a row
abbrev pub found : (rs src : List ℕ) → O.Option ℕ → Option Symbol
found rs src (Some k) = some (symbol_row rs src k).1
found rs src None = none

-- what the table says of a name, and the row that has it
pub record Found (n : ℕ) (rs src : List ℕ) (x : Name) (r : O.Option ℕ) : Type 0 where
  pub says : found rs src r ≡ look name_order (symbols n rs src) x
  pub row : (k : ℕ) → r ≡ Some k → (k < n) × ((symbol_row rs src k).0 ≡ x)
