-- What a link notes for each label row of an object that goes into it: the row of that name in the result, and the address that it has there, if any. Assumes nothing.
use Rattle.std.specs.Prelude.{◌≡◌, List, ℕ, ◌+◌, ◌*◌, ◌≤◌, ◌<◌, length, get_or}
use Rattle.std.proofs.Math.Option.{Option, none, some}
use Rattle.rules.specs.Tables.{Table, name_order, look}
use Rattle.rules.specs.Objects.{Lab, outer, defined, Name}
use Rattle.rules.specs.Buffers.{tab, name_row, row_of}

-- what stands for an address where there is none: the name is external in the result
abbrev pub open_mark : ℕ
open_mark = 65536

abbrev pub address_in : Option Lab → ℕ
address_in none = open_mark
address_in (some outer) = open_mark
address_in (some (defined a)) = a

-- note k: a row of the result, an address
abbrev pub note_row : List ℕ → ℕ → ℕ × ℕ
note_row ns k = (get_or ns (k * 2) 0, get_or ns (k * 2 + 1) 0)

-- what is to be noted of a name, where `all` are the labels of the result
abbrev pub note_of : Table Name Lab → Name → ℕ × ℕ
note_of all n = (row_of all n, address_in (look name_order all n))

-- ns has the notes of the first n label rows
pub record Noted (all : Table Name Lab) (ls names : List ℕ) (n : ℕ) (ns : List ℕ) : Type 0 where
  pub room : n * 2 ≤ length ns
  pub row : (k : ℕ) → k < n → get_or ns (k * 2) 0 ≡ row_of all (name_row ls names k)
  pub address : (k : ℕ) → k < n → get_or ns (k * 2 + 1) 0 ≡ address_in (look name_order all (name_row ls names k))

-- relocation k beside the note of its label
abbrev pub carried : List ℕ → List ℕ → ℕ → ℕ × (ℕ × ℕ)
carried rs ns k = (get_or rs (k * 2) 0, note_row ns (get_or rs (k * 2 + 1) 0))

-- n relocations beside their notes
unfoldable pub carried_rows : ℕ → List ℕ → List ℕ → Table ℕ (ℕ × ℕ)
carried_rows n rs ns = tab n (carried rs ns)
