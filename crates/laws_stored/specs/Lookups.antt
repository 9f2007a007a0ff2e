-- What fields say of an address and of a name, looked through in their order. Assumes nothing.
use Rattle.std.specs.Prelude.{true, false, ◌&&◌, List, [], ◌∷◌, ℕ, ◌+◌, ◌-◌, get_or, leb, ltb}
use Rattle.std.proofs.Math.Option.{Option, none, some}
use Rattle.rules.specs.Base.{same}
use Rattle.rules.specs.Objects.{Cell, unset, word, Lab, Name}
use Rattle.rules.specs.Stored.{Run, sets, gap, size, Item, fin, block, run, label, reloc}

-- the word at place k of a run
abbrev pub cell_of : Run → ℕ → Cell
cell_of (sets ws) k = word (get_or ws k 0)
cell_of (gap n) k = unset

-- the word at address a, where p is the address of the next word
unfoldable pub word_in : ℕ → List Item → ℕ → Option Cell
word_in p [] a = none
word_in p (fin ∷ is) a = word_in p is a
word_in p (block s n ∷ is) a = word_in s is a
word_in p (run r ∷ is) a = elim (leb p a && ltb a (p + size r)) [ true ↦ some (cell_of r (a - p)) | false ↦ word_in (p + size r) is a ]
word_in p (label n v ∷ is) a = word_in p is a
word_in p (reloc x n ∷ is) a = word_in p is a

-- the label of a name
unfoldable pub label_in : List Item → Name → Option Lab
label_in [] n = none
label_in (fin ∷ is) n = label_in is n
label_in (block s k ∷ is) n = label_in is n
label_in (run r ∷ is) n = label_in is n
label_in (label m v ∷ is) n = elim (same m n) [ true ↦ some v | false ↦ label_in is n ]
label_in (reloc x m ∷ is) n = label_in is n
