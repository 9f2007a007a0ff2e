-- Names are added as the rules' `add_label` and `add_labels` add them. Assumes nothing.
use Rattle.base_refusals.specs.declared.Refusal.{Refusal}
use Rattle.std.specs.declared.result.Result.{Result}
use Rattle.std.specs.declared.result.Result.TheVariants.{Ok, Err}
use Rattle.std.specs.Prelude.{◌≡◌, List, ℕ, ◌-◌, ◌≤◌, ◌<◌, length}
use Rattle.rules.specs.Base.{Outcome, ok, Span}
use Rattle.rules.specs.Tables.{Table}
use Rattle.rules.specs.Objects.{Name}
use Rattle.rules.specs.Statements.{labels_at}
use Rattle.rules.specs.Passes.{Symbol, add_label, add_labels}
use Rattle.rules.specs.Buffers.{lab_from}
use Rattle.base_refusals.specs.Refusals.{refused_by}
use Rattle.parse_labels.specs.Names.{name_between}
use Rattle.pass1_symbols.specs.Symbols.{symbols, Cells, Growing}

-- what an answer stands for, with the rows afterwards
abbrev pub told : (rs' src : List ℕ) → Result ℕ Refusal → Outcome (Table Name Symbol)
told rs' src (Ok m) = ok (symbols m rs' src)
told rs' src (Err f) = refused_by f

-- a table over a source that fits
pub record NamesReady (rs src : List ℕ) (n a : ℕ) : Type 0 where
  pub table : Growing rs src n
  pub size : length src ≤ 262144
  pub address : a < 65536

-- and a name for it
pub record NameReady (rs src : List ℕ) (n a f b e : ℕ) : Type 0 where
  pub table : Growing rs src n
  pub size : length src ≤ 262144
  pub rising : b ≤ e
  pub row : Cells src a f b (e - b)

pub record NameAdded (rs src rs' : List ℕ) (n a f b e : ℕ) (p : Span) (r : Result ℕ Refusal) : Type 0 where
  pub rule : told rs' src r ≡ add_label (lab_from a f) p (name_between src b e) (symbols n rs src)
  pub table : (m : ℕ) → r ≡ Ok m → Growing rs' src m

pub record NamesAdded (rs src rs' : List ℕ) (at n a : ℕ) (p : Span) (r : Result ℕ Refusal) : Type 0 where
  pub rule : told rs' src r ≡ add_labels a p (labels_at src at) (symbols n rs src)
  pub table : (m : ℕ) → r ≡ Ok m → Growing rs' src m
