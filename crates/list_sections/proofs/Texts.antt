-- The texts of blocks and labels, and what loops over them keep. Assumes nothing.
use Prim.Native.Nat.{ℕ, zero, suc, ◌+◌, ◌*◌, ◌≤◌, ◌<◌}
use mathlib.Core.Path.{◌≡◌, refl, ◌∙◌, ap}
use mathlib.Core.List.{List, [], ◌∷◌, ◌++◌, flat_map}
use native.Mathlib.Omega.{arith}
use lib.ListN.{length, get_or, length-append}
use Rattle.rules.specs.Base.{bytes}
use Rattle.rules.specs.Buffers.{tab, lab_from, name_row, label_row, LabelsOk}
use Rattle.rules.specs.Listing.{hex4, lf, label_line}
use Rattle.list_lines.specs.Appended.{Appended}
use Rattle.list_lines.specs.Lines.{cell_lines, head_line}
use Rattle.list_lines.proofs.Appending.{appended-none, appended-more, rows_more, rows_fit}
use Rattle.list_sections.specs.Fronts.{label_front, reloc_front, block_text}

pub front-label : (x : ℕ) (a : List ℕ) → a ≡ hex4 x → 76 ∷ 65 ∷ 66 ∷ 69 ∷ 76 ∷ 32 ∷ get_or a 0 0 ∷ get_or a 1 0 ∷ get_or a 2 0 ∷ get_or a 3 0 ∷ 32 ∷ [] ≡ label_front x
unfolding hex4 label_front
front-label x a e = rw e

pub front-reloc : (x : ℕ) (a : List ℕ) → a ≡ hex4 x → 82 ∷ 69 ∷ 76 ∷ 32 ∷ get_or a 0 0 ∷ get_or a 1 0 ∷ get_or a 2 0 ∷ get_or a 3 0 ∷ 32 ∷ [] ≡ reloc_front x
unfolding hex4 reloc_front
front-reloc x a e = rw e

-- A BLOCK
module _ (start at : ℕ) (ws ms : List ℕ) where
  pub head-fits : (b l : List ℕ) → l ≡ head_line start (length ws) → at + length (block_text start ws ms) ≤ length b → at + length l ≤ length b
  unfolding block_text
  head-fits b l e h = omega (arith, ap length e, length-append (head_line start (length ws)) (cell_lines start ws ms (length ws)))

  pub cells_fit : (b₀ b l : List ℕ) (m : ℕ) → Appended b₀ b at m l → l ≡ head_line start (length ws) → at + length (block_text start ws ms) ≤ length b₀ → m + length (cell_lines start ws ms (length ws)) ≤ length b
  unfolding block_text
  cells_fit b₀ b l m p e h = omega (arith, p.stop, p.size, ap length e, length-append (head_line start (length ws)) (cell_lines start ws ms (length ws)))

  pub block-done : (b₀ b c l : List ℕ) (m e : ℕ) → Appended b₀ b at m l → l ≡ head_line start (length ws) → Appended b c m e (cell_lines start ws ms (length ws)) → Appended b₀ c at e (block_text start ws ms)
  unfolding block_text
  block-done b₀ b c l m x p e q = rw (← e) (appended-more p q)

-- A LABEL
module _ (ls ns : List ℕ) (k : ℕ) where
  pub line_defined : get_or ls (k * 4 + 1) 0 ≡ 0 → label_line (label_row ls ns k) ≡ (label_front (get_or ls (k * 4) 0) ++ name_row ls ns k) ++ lf
  unfolding label_line label_front
  line_defined e = rw e

  pub line-outer : (get_or ls (k * 4 + 1) 0 ≡ 0 → ⊥) → label_line (label_row ls ns k) ≡ (bytes "EXTERN " ++ name_row ls ns k) ++ lf
  unfolding label_line
  line-outer h = go (get_or ls (k * 4 + 1) 0) h
    where
      go : (f : ℕ) → (f ≡ 0 → ⊥) → label_line (name_row ls ns k, lab_from (get_or ls (k * 4) 0) f) ≡ (bytes "EXTERN " ++ name_row ls ns k) ++ lf
      go zero h = absurd (h refl)
      go (suc f) h = refl

pub label-low : (n : ℕ) (ls ns : List ℕ) (k : ℕ) → LabelsOk n ls ns → k < n → get_or ls (k * 4) 0 < 65536
label-low n ls ns k v h = (v.rows k h).address

length-line : (u v : List ℕ) → length ((u ++ v) ++ lf) ≡ length u + (length v + 1)
length-line u v = length-append (u ++ v) lf ∙ (ap (λ (n : ℕ). n + 1) (length-append u v) ∙ (let e : length u + length v + 1 ≡ length u + (length v + 1) = omega arith in e))

module _ (ls ns : List ℕ) (k : ℕ) where
  pub fits-defined : (a at : ℕ) (b f n : List ℕ) → get_or ls (k * 4 + 1) 0 ≡ 0 → at + length (label_line (label_row ls ns k)) ≤ length b → a ≡ get_or ls (k * 4) 0 → f ≡ label_front a → n ≡ name_row ls ns k → at + (length f + (length n + 1)) ≤ length b
  fits-defined a at b f n z h p q r =
      let e : length (label_line (label_row ls ns k)) ≡ length f + (length n + 1) = ap length (line_defined ls ns k z) ∙ (rw (q, p, r) (length-line (label_front (get_or ls (k * 4) 0)) (name_row ls ns k))) in
      omega arith

  pub fits-outer : (at : ℕ) (b n : List ℕ) → (get_or ls (k * 4 + 1) 0 ≡ 0 → ⊥) → at + length (label_line (label_row ls ns k)) ≤ length b → n ≡ name_row ls ns k → at + (7 + (length n + 1)) ≤ length b
  fits-outer at b n z h r =
      let e : length (label_line (label_row ls ns k)) ≡ 7 + (length n + 1) = ap length (line-outer ls ns k z) ∙ (rw r (length-line (bytes "EXTERN ") (name_row ls ns k))) in
      omega arith

  pub done-defined : (a at e : ℕ) (b c f n : List ℕ) → get_or ls (k * 4 + 1) 0 ≡ 0 → a ≡ get_or ls (k * 4) 0 → f ≡ label_front a → n ≡ name_row ls ns k → Appended b c at e ((f ++ n) ++ lf) → Appended b c at e (label_line (label_row ls ns k))
  done-defined a at e b c f n z p q r d = rw (line_defined ls ns k z) (rw (q, p, r) at d)

  pub done-outer : (at e : ℕ) (b c n : List ℕ) → (get_or ls (k * 4 + 1) 0 ≡ 0 → ⊥) → n ≡ name_row ls ns k → Appended b c at e ((bytes "EXTERN " ++ n) ++ lf) → Appended b c at e (label_line (label_row ls ns k))
  done-outer at e b c n z r d = rw (line-outer ls ns k z) (rw r at d)

-- ROWS IN A LOOP: f of each of g 0, g 1, .. up to k
pub record Rows {A : Type 0} (f : A → List ℕ) (g : ℕ → A) (n : ℕ) (b₀ b : List ℕ) (at end k : ℕ) : Type 0 where
  pub lines : Appended b₀ b at end (flat_map f (tab k g))
  pub within : k ≤ n

module _ {A : Type 0} (f : A → List ℕ) (g : ℕ → A) (n at : ℕ) (b₀ : List ℕ) where
  pub rows_none : at + length (flat_map f (tab n g)) ≤ length b₀ → Rows f g n b₀ b₀ at at 0
  unfolding flat_map
  rows_none h = record { lines = appended-none b₀ at (omega arith); within = omega arith }

  pub row_fits : (b : List ℕ) (end k : ℕ) → Rows f g n b₀ b at end k → at + length (flat_map f (tab n g)) ≤ length b₀ → k < n → end + length (f (g k)) ≤ length b
  row_fits b end k p h l = omega (arith, rows_fit f g k n l, p.lines.stop, p.lines.size)

  pub row_more : (b c : List ℕ) (end e k : ℕ) → Rows f g n b₀ b at end k → k < n → Appended b c end e (f (g k)) → Rows f g n b₀ c at e (k + 1)
  row_more b c end e k p l q = record { lines = rw (rows_more f g k) (appended-more p.lines q); within = omega arith }

  pub rows_all : (b : List ℕ) (end k : ℕ) → Rows f g n b₀ b at end k → n ≤ k → Appended b₀ b at end (flat_map f (tab n g))
  rows_all b end k p l = let e : k ≡ n = omega (arith, p.within) in rw e at p.lines
