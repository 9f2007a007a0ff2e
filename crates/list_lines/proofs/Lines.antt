-- The bytes of each line, and what a loop over a block's words keeps. Assumes nothing.
use Prim.Native.Nat.{ℕ, zero, suc, ◌+◌, ◌≤◌, ◌<◌}
use mathlib.Core.Path.{◌≡◌, refl, ◌∙◌, ap}
use mathlib.Core.List.{List, [], ◌∷◌, ◌++◌, flat_map}
use native.Mathlib.Omega.{arith}
use lib.ListN.{length, get_or}
use Rattle.rules.specs.Base.{when◌then◌else◌, bytes}
use Rattle.rules.specs.Buffers.{cell_of, cell_row}
use Rattle.rules.specs.Listing.{hex_digit, hex4, cell_text, lf}
use Rattle.list_lines.specs.Appended.{Appended}
use Rattle.list_lines.specs.Lines.{cell_line, cell_from, cell_lines, head_line}
use Rattle.list_lines.proofs.Appending.{appended-none, appended-more, rows_more, rows_fit}

pub head : (x y : ℕ) (a w : List ℕ) → a ≡ hex4 x → w ≡ hex4 y
    → 66 ∷ 76 ∷ 79 ∷ 67 ∷ 75 ∷ 32 ∷ get_or a 0 0 ∷ get_or a 1 0 ∷ get_or a 2 0 ∷ get_or a 3 0 ∷ 32 ∷ get_or w 0 0 ∷ get_or w 1 0 ∷ get_or w 2 0 ∷ get_or w 3 0 ∷ 10 ∷ [] ≡ head_line x y
unfolding hex4 head_line
head x y a w p q = rw (p, q)

pub cell-unset : (a w m : ℕ) (r : List ℕ) → m ≡ 0 → r ≡ hex4 a ++ bytes " " ++ hex4 0 ++ lf → r ≡ cell_line (a, cell_of w m)
unfolding cell_line cell_text hex4 hex_digit when◌then◌else◌
cell-unset a w m r e q = rw e q

pub cell_set : (a w m : ℕ) (r : List ℕ) → (m ≡ 0 → ⊥) → r ≡ hex4 a ++ bytes " " ++ hex4 w ++ lf → r ≡ cell_line (a, cell_of w m)
unfolding cell_line cell_text
cell_set a w zero r e q = absurd (e refl)
cell_set a w (suc m) r e q = q

-- a front, a name and the line's end
pub line-done : {b₀ b c d : List ℕ} {at m n e : ℕ} {u v : List ℕ} → Appended b₀ b at m u → Appended b c m n v → Appended c d n e lf → Appended b₀ d at e ((u ++ v) ++ lf)
line-done p q r = appended-more (appended-more p q) r

-- A BLOCK'S WORDS
pub record Listed (b₀ b : List ℕ) (at end start : ℕ) (ws ms : List ℕ) (i address : ℕ) : Type 0 where
  pub lines : Appended b₀ b at end (cell_lines start ws ms i)
  pub within : i ≤ length ws
  pub next : address ≡ start + i

module _ {b₀ : List ℕ} {at start : ℕ} {ws ms : List ℕ} where
  pub listed-none : at + length (cell_lines start ws ms (length ws)) ≤ length b₀ → Listed b₀ b₀ at at start ws ms 0 start
  unfolding cell_lines flat_map
  listed-none h = record { lines = appended-none b₀ at (omega arith); within = omega arith; next = omega arith }

  pub listed-fits : {b : List ℕ} {end i address : ℕ} {l : List ℕ} → Listed b₀ b at end start ws ms i address → at + length (cell_lines start ws ms (length ws)) ≤ length b₀ → i < length ws
      → l ≡ cell_line (address, cell_of (get_or ws i 0) (get_or ms i 0)) → end + length l ≤ length b
  unfolding cell_lines
  listed-fits {b} {end} {i} {address} {l} p h k e =
      let f = rows_fit cell_line (cell_from start ws ms) i (length ws) k in
      let n : length l ≡ length (cell_line (cell_from start ws ms i)) = ap length (e ∙ ap (λ (x : ℕ). cell_line (x, cell_row ws ms i)) p.next) in
      omega (arith, p.lines.stop, p.lines.size)

  pub listed_more : {b c : List ℕ} {end e i address : ℕ} {l : List ℕ} → Listed b₀ b at end start ws ms i address → i < length ws → l ≡ cell_line (address, cell_of (get_or ws i 0) (get_or ms i 0)) → Appended b c end e l
      → Listed b₀ c at e start ws ms (i + 1) (address + 1)
  unfolding cell_lines
  listed_more {b} {c} {end} {e} {i} {address} {l} p k q a =
      let n : l ≡ cell_line (cell_from start ws ms i) = q ∙ ap (λ (x : ℕ). cell_line (x, cell_row ws ms i)) p.next in
      record {
        lines = rw (rows_more cell_line (cell_from start ws ms) i) (appended-more p.lines (rw n at a));
        within = omega arith;
        next = omega (arith, p.next);
      }
