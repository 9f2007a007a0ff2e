-- The symbol table as an object's labels. Assumes nothing.
use mathlib.Core.Path.{◌≡◌, refl, sym, ap}
use mathlib.Core.List.{List, ◌∷◌}
use Prim.Native.Nat.{ℕ, zero, suc}
use Rattle.rules.specs.Tables.{Table, map_t}
use Rattle.rules.specs.Buffers.{tab}
use Rattle.object_layout_labels.specs.Laying.{upper_labels, LaidLabels}
use Rattle.pass1_symbols.specs.Symbols.{symbol_row, symbols}

map-tab : {K U W : Type 0} (g : K → U → W) (n : ℕ) (f : ℕ → K × U) → map_t g (tab n f) ≡ tab n (λ k. ((f k).0, g (f k).0 (f k).1))
map-tab g zero f = refl
map-tab {K} {U} {W} g (suc n) f = ap (λ (t : Table K W). ((f 0).0, g (f 0).0 (f 0).1) ∷ t) (map-tab g n (λ k. f (suc k)))

-- each symbol's label, under its name
pub symbol-labels : (n : ℕ) (rs src : List ℕ) → upper_labels n rs src ≡ map_t (λ m s. s.lab) (symbols n rs src)
unfolding upper_labels symbols
symbol-labels n rs src = sym (map-tab (λ m s. s.lab) n (symbol_row rs src))

pub laid-symbols : (n : ℕ) (rs src ls ns ls' ns' : List ℕ) → LaidLabels (upper_labels n rs src) ls ns ls' ns' → LaidLabels (map_t (λ m s. s.lab) (symbols n rs src)) ls ns ls' ns'
laid-symbols n rs src ls ns ls' ns' t = rw (symbol-labels n rs src) at t
