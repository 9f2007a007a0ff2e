-- Relocations whose names the symbol table has. Assumes nothing.
use Rattle.std.specs.Prelude.{◌≡◌, List, ℕ, ◌<◌}
use Rattle.std.proofs.Math.Option.{none}
use Rattle.rules.specs.Tables.{Table, look, map_t, name_order}
use Rattle.rules.specs.Objects.{Lab, Name}
use Rattle.pass1_symbols.specs.Symbols.{symbols, Growing}
use Rattle.pass1_relocations.specs.Pending.{note_row, Pending}

-- the labels of m symbols
abbrev pub labels_of : ℕ → List ℕ → List ℕ → Table Name Lab
labels_of m ss src = map_t (λ n s. s.lab) (symbols m ss src)

pub record Resolved (rs src : List ℕ) (n : ℕ) (ss : List ℕ) (m : ℕ) : Type 0 where
  pub table : Pending rs src n
  pub names : Growing ss src m
  pub known : (k : ℕ) → k < n → look name_order (symbols m ss src) (note_row rs src k).1 ≡ none → ⊥
