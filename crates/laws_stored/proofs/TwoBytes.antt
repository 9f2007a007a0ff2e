-- The words and addresses of an object that is stored in bytes are two bytes. Assumes nothing.
use mathlib.Core.Path.{◌≡◌}
use mathlib.Core.List.{List, [], ◌∷◌, ◌++◌, append_assoc}
use Prim.Native.Nat.{ℕ, zero, suc, ◌<◌}
use native.Mathlib.Omega.{arith}
use Rattle.rules.specs.Tables.{Table}
use Rattle.rules.specs.Objects.{Cell, unset, word, Lab, outer, defined, Name, Object, cells_from, cells}
use Rattle.rules.specs.Stored.{Run, sets, gap, Item, fin, content, pairs, spell, runs_of, run_items, block_items, label_items, reloc_items, stored, words_then, unset_then, flatten}
use Rattle.rules.proofs.Bools.{never}
use Rattle.laws_stored.proofs.Cut.{flatten_runs}
use Rattle.laws_stored.proofs.Framed.{Bytes, bytes-right}
use Rattle.laws_stored.proofs.Ordered.{Each, Worded, Addressed}

pub bytes_after : (is js : List Item) → Bytes (spell (is ++ js)) → Bytes (spell js)
bytes_after [] js h = h
bytes_after (i ∷ is) js h = bytes_after is js (bytes-right (content i) (spell (is ++ js)) h.1.1.1)

-- WORDS

abbrev Words : List Cell → Type 0
Words [] = Unit {0}
Words (unset ∷ cs) = Words cs
Words (word w ∷ cs) = (w < 65536) × Words cs

words_low : (ws : List ℕ) (c : List ℕ) (cs : List Cell) → Bytes (pairs ws ++ c) → Words cs → Words (words_then ws cs)
words_low [] c cs h k = k
words_low (w ∷ ws) c cs h k = (omega (arith, h.0), words_low ws c cs h.1.1 k)

unset-low : (n : ℕ) (cs : List Cell) → Words cs → Words (unset_then n cs)
unset-low zero cs k = k
unset-low (suc n) cs k = unset-low n cs k

runs-low : (rs : List Run) (is : List Item) → Bytes (spell (run_items rs ++ is)) → Words (flatten rs)
runs-low [] is h = tt
runs-low (sets ws ∷ rs) is h =
    words_low ws (spell (run_items rs ++ is)) (flatten rs) h.1.1.1 (runs-low rs is (bytes-right (pairs ws) (spell (run_items rs ++ is)) h.1.1.1))
runs-low (gap n ∷ rs) is h = unset-low n (flatten rs) (runs-low rs is h.1.1.1.1.1)

cells_low : (s : ℕ) (cs : List Cell) (t : Table ℕ Cell) → Words cs → Each Worded t → Each Worded (cells_from s cs ++ t)
cells_low s [] t h k = k
cells_low s (unset ∷ cs) t h k = ((λ w e. never cc), cells_low (suc s) cs t h k)
cells_low s (word v ∷ cs) t h k = ((λ w e. let z : v ≡ w = cc in omega (arith, h.0)), cells_low (suc s) cs t h.1 k)

pub blocks-low : (bs : Table ℕ (List Cell)) (is : List Item) → Bytes (spell (block_items bs ++ is)) → Each Worded (cells bs)
blocks-low [] is h = tt
blocks-low (b ∷ bs) is h =
    let k : Bytes (spell (run_items (runs_of b.1) ++ (block_items bs ++ is))) = rw (append_assoc (run_items (runs_of b.1)) (block_items bs) is) at h.1.1.1.1.1.1.1 in
    cells_low b.0 b.1 (cells bs) (rw (flatten_runs b.1) at (runs-low (runs_of b.1) (block_items bs ++ is) k))
    (blocks-low bs is (bytes_after (run_items (runs_of b.1)) (block_items bs ++ is) k))

-- ADDRESSES

pub labels_low : (t : Table Name Lab) (is : List Item) → Bytes (spell (label_items t ++ is)) → Each Addressed t
labels_low [] is h = tt
labels_low ((n, outer) ∷ t) is h = ((λ a e. never cc), labels_low t is (bytes-right n (spell (label_items t ++ is)) h.1.1.1))
labels_low ((n, defined b) ∷ t) is h =
    ((λ a e. let z : b ≡ a = cc in omega (arith, h.1.1.1.0)), labels_low t is (bytes-right n (spell (label_items t ++ is)) h.1.1.1.1.1))

pub record Low (o : Object) : Type 0 where
  pub words : Each Worded (cells o.blocks)
  pub addresses : Each Addressed o.labels

pub stored_low : (o : Object) → Bytes (stored o) → Low o
unfolding stored
stored_low o h =
    let rest = reloc_items o.relocs ++ (fin ∷ []) in
    record {
      words = blocks-low o.blocks (label_items o.labels ++ rest) h;
      addresses = labels_low o.labels rest (bytes_after (block_items o.blocks) (label_items o.labels ++ rest) h);
    }
