-- The words of blocks whose cells are changed in their places, and of blocks carved out of words. Assumes nothing.
use mathlib.Core.Path.{◌≡◌, refl, sym, ◌∙◌, ap}
use mathlib.Core.Option.{some}
use mathlib.Core.List.{List, [], ◌∷◌, ◌++◌, map}
use Prim.Native.Nat.{ℕ, suc, ◌+◌}
use native.Mathlib.Omega.{arith}
use lib.ListN.{length, take, drop, length-drop, length-append, take-append-drop}
use Rattle.rules.specs.Tables.{Table, look, Sorted, nat_order, map_t}
use Rattle.rules.specs.Objects.{Cell, cells_from, cells, heads, flat}
use Rattle.rules.specs.Buffers.{carve}
use Rattle.rules.proofs.Tables.{look-here, look-there, look-low, none-some}
use Rattle.rules.proofs.Chains.{total}
use Rattle.laws_link.proofs.Blocks.{turned, cells-turned}

-- the words of all blocks are the values of their cells
abbrev values : Table ℕ Cell → List Cell
values [] = []
values (e ∷ t) = e.1 ∷ values t

values-run : (s : ℕ) (c : List Cell) (t : Table ℕ Cell) → values (cells_from s c ++ t) ≡ c ++ values t
values-run s [] t = refl
values-run s (x ∷ c) t = ap (λ (l : List Cell). x ∷ l) (values-run (suc s) c t)

flat-values : (b : Table ℕ (List Cell)) → values (cells b) ≡ flat b
flat-values [] = refl
flat-values (d ∷ b) = values-run d.0 d.1 (cells b) ∙ ap (λ (l : List Cell). d.1 ++ l) (flat-values b)

-- what f leaves of every cell that stands, it leaves of all words
kept-values : (f : ℕ → Cell → Cell) (g : Cell → ℕ) (t : Table ℕ Cell) → Sorted nat_order t → ((x : ℕ) (c : Cell) → look nat_order t x ≡ some c → g (f x c) ≡ g c)
    → map g (values (map_t f t)) ≡ map g (values t)
kept-values f g [] s h = refl
kept-values f g (e ∷ t) s h =
    let i = kept-values f g t s.1 later in
    let p = h e.0 e.1 (look-here nat_order e t e.0 refl) in
    λ x. p x ∷ i x
  where
    apart : (x : ℕ) (c : Cell) → look nat_order t x ≡ some c → x ≡ e.0 → ⊥
    apart x c q p = none-some (sym (look-low nat_order e.0 t s.0) ∙ (ap (look nat_order t) (sym p) ∙ q))

    later : (x : ℕ) (c : Cell) → look nat_order t x ≡ some c → g (f x c) ≡ g c
    later x c q = h x c (look-there nat_order e t x (apart x c q) ∙ q)

pub kept-turned : (f : ℕ → Cell → Cell) (g : Cell → ℕ) (b : Table ℕ (List Cell)) → Sorted nat_order (cells b) → ((x : ℕ) (c : Cell) → look nat_order (cells b) x ≡ some c → g (f x c) ≡ g c)
    → map g (flat (turned f b)) ≡ map g (flat b)
kept-turned f g b s h =
    ap (map g) (sym (flat-values (turned f b)) ∙ ap values (cells-turned f b)) ∙ (kept-values f g (cells b) s h ∙ ap (map g) (flat-values b))

pub flat-carve : (hs : Table ℕ ℕ) (cs : List Cell) → total hs ≡ length cs → flat (carve hs cs) ≡ cs
flat-carve [] [] l = refl
flat-carve [] (c ∷ cs) l = absurd (omega arith)
flat-carve (h ∷ hs) cs l =
    ap (λ (r : List Cell). take h.1 cs ++ r) (flat-carve hs (drop h.1 cs) (omega (arith, length-drop h.1 cs))) ∙ take-append-drop h.1 cs

pub total-heads : (b : Table ℕ (List Cell)) → total (heads b) ≡ length (flat b)
total-heads [] = refl
total-heads (d ∷ b) = ap (λ (n : ℕ). length d.1 + n) (total-heads b) ∙ sym (length-append d.1 (flat b))
