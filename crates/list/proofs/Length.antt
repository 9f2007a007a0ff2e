-- How long a listing is. Assumes nothing.
use Prim.Native.Nat.{ℕ, zero, suc, ◌+◌, ◌-◌, ◌*◌, ◌≤◌, ◌<◌}
use mathlib.Core.Path.{◌≡◌, refl, ◌∙◌, ap}
use mathlib.Core.List.{List, [], ◌∷◌, ◌++◌, flat_map}
use native.Mathlib.Omega.{arith}
use lib.ListN.{length, drop, length-append, length-drop}
use lib.Seq.{length-take-le}
use Rattle.rules.specs.Base.{bytes}
use Rattle.rules.specs.Objects.{Cell, unset, word, Counts}
use Rattle.rules.specs.Buffers.{Buffers, tab, sum_of, head_row, cell_row, view_blocks, view_labels, view_relocs, view, BlocksOk, Valid}
use Rattle.rules.specs.Listing.{hex4, lf, cell_text, word_lines, block_lines, label_line, reloc_line, listing}
use Rattle.rules.proofs.Rows.{length-tab}
use Rattle.rules.proofs.Sound.{blocks-good}
use Rattle.list_lines.proofs.Appending.{rows-suc}
use Rattle.list_sections.specs.Low.{RelocsLow, RelocsNamed}
use Rattle.list_sections.specs.Sizes.{SizedAll}
use Rattle.list_sections.proofs.Blocks.{block_row, carve-tab, sum-grows}
use Rattle.list_sections.proofs.Sizes.{label-short}

pub hex-size : (v : ℕ) → length (hex4 v) ≡ 4
unfolding hex4
hex-size v = refl

cell-size : (c : Cell) → length (cell_text c) ≡ 4
unfolding cell_text
cell-size unset = refl
cell-size (word w) = hex-size w

words_size : (a : ℕ) (cs : List Cell) → length (word_lines a cs) ≡ length cs * 10
unfolding word_lines
words_size a [] = refl
words_size a (c ∷ cs) =
    let t = words_size (a + 1) cs in
    let p = length-append (hex4 a ++ bytes " " ++ cell_text c ++ lf) (word_lines (a + 1) cs) in
    let q = length-append (hex4 a ++ bytes " " ++ cell_text c) lf in
    let r = length-append (hex4 a ++ bytes " ") (cell_text c) in
    let s = length-append (hex4 a) (bytes " ") in
    omega (arith, hex-size a, cell-size c)

pub block_size : (b : ℕ × List Cell) → length (block_lines b) ≡ 16 + length b.1 * 10
unfolding block_lines
block_size b =
    let p = length-append (bytes "BLOCK " ++ hex4 b.0 ++ bytes " " ++ hex4 (length b.1) ++ lf) (word_lines b.0 b.1) in
    let q = length-append (bytes "BLOCK " ++ hex4 b.0 ++ bytes " " ++ hex4 (length b.1)) lf in
    let r = length-append (bytes "BLOCK " ++ hex4 b.0 ++ bytes " ") (hex4 (length b.1)) in
    let s = length-append (bytes "BLOCK " ++ hex4 b.0) (bytes " ") in
    let t = length-append (bytes "BLOCK ") (hex4 b.0) in
    omega (arith, hex-size b.0, hex-size (length b.1), words_size b.0 b.1)

-- the first k blocks
module _ (n w : ℕ) (bs ws ms : List ℕ) (ok : BlocksOk n w bs) where
  abbrev g : ℕ → ℕ × List Cell
  g = block_row (head_row bs) (tab w (cell_row ws ms))

  row-size : (k : ℕ) → k < n → length (g k).1 ≡ (head_row bs k).1
  row-size k l = length-take-le (head_row bs k).1 (drop (sum_of (head_row bs) k) (tab w (cell_row ws ms))) (omega (arith, length-drop (sum_of (head_row bs) k) (tab w (cell_row ws ms)), length-tab w (cell_row ws ms), sum-grows (head_row bs) k n l, ok.sum))

  first-size : (k : ℕ) → k ≤ n → length (flat_map block_lines (tab k g)) ≡ k * 16 + sum_of (head_row bs) k * 10
  unfolding flat_map
  first-size zero l = refl
  first-size (suc k) l =
      let t = first-size k (omega arith) in
      let e : flat_map block_lines (tab (suc k) g) ≡ flat_map block_lines (tab k g) ++ block_lines (g k) = rows-suc block_lines g k in
      omega (arith, ap length e, length-append (flat_map block_lines (tab k g)) (block_lines (g k)), block_size (g k), row-size k (omega arith))

  pub blocks-size : length (flat_map block_lines (view_blocks n w bs ws ms)) ≡ n * 16 + w * 10
  unfolding view_blocks
  blocks-size = rw (carve-tab n (head_row bs) (tab w (cell_row ws ms))) (first-size n (omega arith) ∙ ap (λ (x : ℕ). n * 16 + x * 10) ok.sum)

  few : (k : ℕ) → k ≤ n → sum_of (head_row bs) k ≤ k * 65024
  few zero l = omega arith
  few (suc k) l = omega (arith, few k (omega arith), (ok.rows k (omega arith)).low)

  pub few_words : w ≤ n * 65024
  few_words = rw ok.sum at (few n (omega arith))

-- THE WHOLE
pub listing-size : (c : Counts) (b : Buffers) (x y : ℕ) → Valid c b → SizedAll 1024 x (flat_map label_line (view_labels c.labels b.labels b.names)) → SizedAll 1024 y (flat_map reloc_line (view_relocs c.relocs b.relocs b.labels b.names))
    → c.blocks * 16 + c.words * 10 + x + y ≡ length (listing (view c b))
unfolding listing
listing-size c b x y v p q =
    let s = blocks-size c.blocks c.words b.blocks b.words b.marks v.blocks in
    let t = length-append (flat_map block_lines (view c b).blocks) (flat_map label_line (view c b).labels) in
    let u = length-append (flat_map block_lines (view c b).blocks ++ flat_map label_line (view c b).labels) (flat_map reloc_line (view c b).relocs) in
    omega (arith, p.size, q.size)

pub relocs-low : (c : Counts) (b : Buffers) → Valid c b → RelocsLow c.relocs b.relocs
relocs-low c b v = record { room = v.relocs.room; low = λ k l. (let u = (blocks-good c.blocks c.words b.blocks b.words b.marks v.blocks).low _ _ (v.relocs.rows k l).zero.at in omega (arith, u)) }

pub relocs-named : (c : Counts) (b : Buffers) → Valid c b → RelocsNamed c.relocs b.relocs b.labels b.names
relocs-named c b v = record { few = v.relocs.few; room = v.relocs.room; short = λ k l. label-short c.labels b.labels b.names v.labels _ (v.relocs.rows k l).row }
