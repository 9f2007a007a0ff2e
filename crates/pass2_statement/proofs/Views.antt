-- The blocks that buffers stand for, after words were written behind them. Assumes nothing.
use mathlib.Core.Path.{◌≡◌, sym, ◌∙◌, ap}
use mathlib.Core.List.{List, ◌++◌}
use Prim.Native.Nat.{ℕ, suc, ◌+◌, ◌-◌, ◌*◌, ◌≤◌, ◌<◌}
use native.Mathlib.Omega.{arith}
use native.Mathlib.Decide.{dec_lt}
use lib.ListN.{length, get_or}
use Rattle.rules.specs.Objects.{Cell}
use Rattle.rules.specs.Passes.{obj_block}
use Rattle.rules.specs.Buffers.{head_row, sum_of, WordRow}
use Rattle.rules.proofs.Rows.{tab-ext}
use Rattle.pass2_blocks.specs.Rows.{cells_at, orig_row, block_row, view_obj_blocks}
use Rattle.pass2_blocks.proofs.Placed.{cells-moved}
use Rattle.pass2_blocks.proofs.Inserted.{sum-rise}
use Rattle.pass2_words.specs.Writing.{Clear, Wrote}
use Rattle.pass2_words.proofs.Cells.{cells-split}

module _ (ws ms ws' ms' : List ℕ) (used : ℕ) (a : (i : ℕ) → i < used → get_or ws' i 0 ≡ get_or ws i 0) (b : (i : ℕ) → i < used → get_or ms' i 0 ≡ get_or ms i 0) where
  pub cells_same : (lo n : ℕ) → lo + n ≤ used → cells_at ws' ms' lo n ≡ cells_at ws ms lo n
  cells_same lo n h = cells-moved ws ms ws' ms' lo lo n (λ j l. a (lo + j) (omega arith)) (λ j l. b (lo + j) (omega arith))

  -- blocks below what is written
  pub view-same : (bs os : List ℕ) (n : ℕ) → sum_of (head_row bs) n ≤ used → view_obj_blocks n bs os ws' ms' ≡ view_obj_blocks n bs os ws ms
  unfolding view_obj_blocks
  view-same bs os n h =
      tab-ext n (block_row bs os ws' ms') (block_row bs os ws ms)
      (λ k l. (let r = sum-rise (head_row bs) (suc k) n l in ap (λ (c : List Cell). obj_block (get_or bs (k * 2) 0) c (orig_row os k)) (cells_same (sum_of (head_row bs) k) (get_or bs (k * 2 + 1) 0) (omega arith))))

-- WORDS WRITTEN BEHIND
module _ (ws ms ws' ms' : List ℕ) (used : ℕ) (cs : List Cell) (w : Wrote ws ms ws' ms' used cs) where
  pub cells-behind : (base u : ℕ) → base ≤ used → u ≡ used + length cs → cells_at ws' ms' base (u - base) ≡ cells_at ws ms base (used - base) ++ cs
  cells-behind base u h e =
      let l : u - base ≡ (used - base) + length cs = omega arith in
      let m : base + (used - base) ≡ used = omega arith in
      ap (cells_at ws' ms' base) l
      ∙ (cells-split ws' ms' base (used - base) (length cs)
      ∙ (λ v. cells_same ws ms ws' ms' used w.words_before w.marks_before base (used - base) (omega arith) v ++ (ap (λ (x : ℕ). cells_at ws' ms' x (length cs)) m ∙ w.cells) v))

  pub rows_behind : (u : ℕ) → u ≡ used + length cs → ((i : ℕ) → i < used → WordRow ws ms i) → (i : ℕ) → i < u → WordRow ws' ms' i
  rows_behind u e r i l = elim (dec_lt i used) [
    | yes y ↦ (let o = r i y in let a = w.words_before i y in let b = w.marks_before i y in record { mark = omega (arith, o.mark); clear = λ z. a ∙ o.clear (sym b ∙ z) })
    | no y ↦ w.clean i (omega arith) (omega arith)
  ]

  pub clear_behind : (u : ℕ) → u ≡ used + length cs → Clear ws ms used → Clear ws' ms' u
  clear_behind u e c = record {
    words = λ i h. w.words_after i (omega arith) ∙ c.words i (omega arith);
    marks = λ i h. w.marks_after i (omega arith) ∙ c.marks i (omega arith);
  }
