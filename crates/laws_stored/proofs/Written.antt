-- Storing field by field: the items of one more run, block, label and relocation, and their bytes behind those written before. Assumes nothing.
use mathlib.Core.Path.{◌≡◌, refl, ◌∙◌, ap}
use mathlib.Core.List.{List, [], ◌∷◌, ◌++◌, append_assoc, append-nil}
use Prim.Native.Nat.{ℕ, zero, suc, ◌+◌}
use native.Mathlib.Omega.{arith}
use lib.ListN.{length}
use Rattle.rules.specs.Tables.{Table}
use Rattle.rules.specs.Objects.{Cell, Lab, Name}
use Rattle.rules.specs.Stored.{Run, sets, gap, Item, block, run, label, reloc, runs_of, run_items, block_items, label_items, reloc_items, size, words_then, unset_then, flatten}

-- ITEMS: one more at the end

pub runs-more : (rs : List Run) (r : Run) → run_items (rs ++ (r ∷ [])) ≡ run_items rs ++ (run r ∷ [])
runs-more [] r = refl
runs-more (q ∷ rs) r = ap (λ (l : List Item). run q ∷ l) (runs-more rs r)

pub blocks_more : (t : Table ℕ (List Cell)) (b : ℕ × List Cell) → block_items (t ++ (b ∷ [])) ≡ block_items t ++ (block b.0 (length b.1) ∷ run_items (runs_of b.1))
blocks_more [] b = simp append-nil
blocks_more (e ∷ t) b = rw (blocks_more t b) (simp append_assoc)

pub labels-more : (t : Table Name Lab) (n : Name) (v : Lab) → label_items (t ++ ((n, v) ∷ [])) ≡ label_items t ++ (label n v ∷ [])
labels-more [] n v = refl
labels-more (e ∷ t) n v = ap (λ (l : List Item). label e.0 e.1 ∷ l) (labels-more t n v)

pub relocs-more : (t : Table ℕ Name) (a : ℕ) (n : Name) → reloc_items (t ++ ((a, n) ∷ [])) ≡ reloc_items t ++ (reloc a n ∷ [])
relocs-more [] a n = refl
relocs-more (e ∷ t) a n = ap (λ (l : List Item). reloc e.0 e.1 ∷ l) (relocs-more t a n)

-- WORDS OF RUNS, counted

length-words : (ws : List ℕ) (cs : List Cell) → length (words_then ws cs) ≡ length ws + length cs
length-words [] cs = omega arith
length-words (w ∷ ws) cs = let e = length-words ws cs in omega arith

length-unset : (n : ℕ) (cs : List Cell) → length (unset_then n cs) ≡ n + length cs
length-unset zero cs = omega arith
length-unset (suc n) cs = let e = length-unset n cs in omega arith

pub flatten-one : (r : Run) (rs : List Run) → length (flatten (r ∷ rs)) ≡ size r + length (flatten rs)
flatten-one (sets ws) rs = length-words ws (flatten rs)
flatten-one (gap n) rs = length-unset n (flatten rs)

pub flatten-more : (rs : List Run) (r : Run) → length (flatten (rs ++ (r ∷ []))) ≡ length (flatten rs) + size r
flatten-more [] r = flatten-one r [] ∙ omega arith
flatten-more (q ∷ rs) r = let e = flatten-more rs r in omega (arith, flatten-one q rs, flatten-one q (rs ++ (r ∷ [])))
