-- Blocks one after another: each starts where the one before it ends or later, and their words lie in one buffer. Assumes nothing.
use mathlib.Core.Path.{◌≡◌, refl, sym, ◌∙◌, ap}
use mathlib.Core.Logic.{◌⊎◌, inl, inr}
use mathlib.Core.Option.{Option, none, some}
use mathlib.Core.List.{List, [], ◌∷◌, Memᴰ}
use Prim.Native.Nat.{ℕ, zero, suc, ◌+◌, ◌≤◌, ◌<◌}
use native.Mathlib.Omega.{arith}
use lib.ListN.{length, take, drop, set, length-take, length-drop}
use lib.Seq.{take-set-le, drop-set-add, take-set-lt, drop-set-lt}
use Rattle.rules.specs.Tables.{Tri, less, same, more, Table, look, Low, Sorted, nat_order}
use Rattle.rules.specs.Objects.{Cell, cells_from, cells, heads, Full}
use Rattle.rules.specs.Buffers.{carve}
use Rattle.rules.proofs.Tables.{look-here, look-there, lt-ne, none-some}
use Rattle.rules.proofs.Runs.{or_else, look-append, From, from-append, from-run, from-down, sorted-run, run-sorted, run_in, run-from, in-run, left-some, right-some, or_split}

-- each block has a word, and starts where the one before it ends or later
abbrev pub Chain : ℕ → Table ℕ (List Cell) → Type 0
Chain y [] = Unit {0}
Chain y (b ∷ bs) = (y ≤ b.0) × (0 < length b.1) × Chain (b.0 + length b.1) bs

pub chain-full : (y : ℕ) (b : Table ℕ (List Cell)) → Chain y b → Full b
chain-full y [] c = tt
chain-full y (d ∷ b) c = (c.1, chain-full (d.0 + length d.1) b c.2)

chain-from : (y : ℕ) (b : Table ℕ (List Cell)) → Chain y b → From y (cells b)
chain-from y [] c = tt
chain-from y (d ∷ b) c =
    from-append y (cells_from d.0 d.1) (cells b) (from-run y d.0 d.1 c.0)
    (from-down y (d.0 + length d.1) (cells b) (omega arith) (chain-from (d.0 + length d.1) b c.2))

pub chain-cells : (y : ℕ) (b : Table ℕ (List Cell)) → Chain y b → Sorted nat_order (cells b)
chain-cells y [] c = tt
chain-cells y (d ∷ b) c =
    sorted-run d.0 d.1 (cells b) (chain-from (d.0 + length d.1) b c.2) (chain-cells (d.0 + length d.1) b c.2)

chain-low : (x y : ℕ) (b : Table ℕ (List Cell)) → x < y → Chain y b → Low nat_order x (heads b)
chain-low x y [] h c = tt
chain-low x y (d ∷ b) h c = (omega (arith, c.0), chain-low x (d.0 + length d.1) b (omega (arith, c.0)) c.2)

pub chain-heads : (y : ℕ) (b : Table ℕ (List Cell)) → Chain y b → Sorted nat_order (heads b)
chain-heads y [] c = tt
chain-heads y (d ∷ b) c = (chain-low d.0 (d.0 + length d.1) b (omega (arith, c.1)) c.2, chain-heads (d.0 + length d.1) b c.2)

pub cells-chain : (y : ℕ) (b : Table ℕ (List Cell)) → Full b → Sorted nat_order (cells b) → From y (cells b) → Chain y b
cells-chain y [] f s g = tt
cells-chain y ((s, []) ∷ b) f h g = absurd (omega (arith, f.0))
cells-chain y ((s, (c ∷ cs)) ∷ b) f h g =
    let r = run-sorted s (c ∷ cs) (cells b) f.0 h in
    (g.0, f.0, cells-chain (s + suc (length cs)) b f.1 r.1 r.0)

-- an address is held where it lies in a block

abbrev pub Within : ℕ → ℕ × List Cell → Type 0
Within x d = (d.0 ≤ x) × (x < d.0 + length d.1)

pub held_in : (b : Table ℕ (List Cell)) (x : ℕ) (c : Cell) → look nat_order (cells b) x ≡ some c → (d : ℕ × List Cell) × Memᴰ d b × Within x d
held_in [] x c q = absurd (none-some q)
held_in (d ∷ b) x c q =
    go (or_split (look nat_order (cells_from d.0 d.1) x) (look nat_order (cells b) x) c (sym (look-append nat_order (cells_from d.0 d.1) (cells b) x) ∙ q)) (held_in b x c)
  where
    go : (look nat_order (cells_from d.0 d.1) x ≡ some c) ⊎ (look nat_order (cells b) x ≡ some c)
        → (look nat_order (cells b) x ≡ some c → (e : ℕ × List Cell) × Memᴰ e b × Within x e) → (e : ℕ × List Cell) × Memᴰ e (d ∷ b) × Within x e
    go (inl p) ih = (d, Memᴰ.head refl, (run-from d.0 d.1 x c p, run_in d.0 d.1 x c p))
    go (inr p) ih = let w = ih p in (w.0, Memᴰ.tail w.1, w.2)

pub in_held : (b : Table ℕ (List Cell)) (x : ℕ) (d : ℕ × List Cell) → Memᴰ d b → Within x d → (c : Cell) × (look nat_order (cells b) x ≡ some c)
in_held [] x d m h = elim m [ ]
in_held (e ∷ b) x d (Memᴰ.head q) h =
    let k : Within x e = rw q at h in
    let r = in-run e.0 e.1 x k.0 k.1 in
    (r.0, look-append nat_order (cells_from e.0 e.1) (cells b) x ∙ left-some (look nat_order (cells_from e.0 e.1) x) (look nat_order (cells b) x) r.0 r.1)
in_held (e ∷ b) x d (Memᴰ.tail m) h =
    let w = in_held b x d m h in
    let r = right-some (look nat_order (cells_from e.0 e.1) x) (look nat_order (cells b) x) w.0 w.1 in
    (r.0, look-append nat_order (cells_from e.0 e.1) (cells b) x ∙ r.1)

-- WORDS IN ONE BUFFER

abbrev pub total : Table ℕ ℕ → ℕ
total [] = 0
total (h ∷ hs) = h.1 + total hs

pub heads-carve : (hs : Table ℕ ℕ) (cs : List Cell) → total hs ≤ length cs → heads (carve hs cs) ≡ hs
heads-carve [] cs l = refl
heads-carve (h ∷ hs) cs l =
    let k : length (take h.1 cs) ≡ h.1 = omega (arith, length-take h.1 cs) in
    let t = heads-carve hs (drop h.1 cs) (omega (arith, length-drop h.1 cs)) in
    λ i. (h.0, k i) ∷ t i

-- p is where the word of address x stands
pub data Spot (x : ℕ) : Table ℕ ℕ → ℕ → Type 0 where
  here : {h : ℕ × ℕ} {hs : Table ℕ ℕ} {p : ℕ} → h.0 + p ≡ x → p < h.1 → Spot x (h ∷ hs) p
  there : {h : ℕ × ℕ} {hs : Table ℕ ℕ} {p q : ℕ} → ((h.0 ≤ x) × (x < h.0 + h.1) → ⊥) → Spot x hs p → h.1 + p ≡ q → Spot x (h ∷ hs) q

-- a store in a run
run-same : (s : ℕ) (c : List Cell) (p : ℕ) (v : Cell) → p < length c → look nat_order (cells_from s (set c p v)) (s + p) ≡ some v
run-same s [] p v l = absurd (omega arith)
run-same s (a ∷ c) zero v l = look-here nat_order (s, v) (cells_from (suc s) c) (s + 0) (omega arith)
run-same s (a ∷ c) (suc p) v l =
    look-there nat_order (s, a) (cells_from (suc s) (set c p v)) (s + suc p) (λ (e : s + suc p ≡ s). omega arith)
    ∙ (ap (look nat_order (cells_from (suc s) (set c p v))) (let e : s + suc p ≡ suc s + p = omega arith in e) ∙ run-same (suc s) c p v (omega arith))

run-other : (s : ℕ) (c : List Cell) (p : ℕ) (v : Cell) (y : ℕ) → (y ≡ s + p → ⊥) → look nat_order (cells_from s (set c p v)) y ≡ look nat_order (cells_from s c) y
run-other s [] p v y n = refl
run-other s (a ∷ c) zero v y n =
    look-there nat_order (s, v) (cells_from (suc s) c) y (λ (e : y ≡ s). n (omega arith)) ∙ sym (look-there nat_order (s, a) (cells_from (suc s) c) y (λ (e : y ≡ s). n (omega arith)))
run-other s (a ∷ c) (suc p) v y n = go (nat_order.tri y s) (run-other (suc s) c p v y (λ (e : y ≡ suc s + p). n (omega arith)))
  where
    out : (y ≡ s → ⊥) → look nat_order (cells_from (suc s) (set c p v)) y ≡ look nat_order (cells_from (suc s) c) y
        → look nat_order (cells_from s (a ∷ set c p v)) y ≡ look nat_order (cells_from s (a ∷ c)) y
    out m ih = look-there nat_order (s, a) (cells_from (suc s) (set c p v)) y m ∙ (ih ∙ sym (look-there nat_order (s, a) (cells_from (suc s) c) y m))

    go : Tri ◌<◌ y s → look nat_order (cells_from (suc s) (set c p v)) y ≡ look nat_order (cells_from (suc s) c) y
        → look nat_order (cells_from s (a ∷ set c p v)) y ≡ look nat_order (cells_from s (a ∷ c)) y
    go (less h) ih = out (lt-ne nat_order y s h) ih
    go (same e) ih = look-here nat_order (s, a) (cells_from (suc s) (set c p v)) y e ∙ sym (look-here nat_order (s, a) (cells_from (suc s) c) y e)
    go (more h) ih = out (λ (e : y ≡ s). lt-ne nat_order s y h (sym e)) ih

is_none : {A : Type 0} (u : Option A) → ((a : A) → u ≡ some a → ⊥) → u ≡ none
is_none none h = refl
is_none (some a) h = absurd (h a refl)

-- outside a block its run says nothing
run_out : (s : ℕ) (c : List Cell) (x k : ℕ) → length c ≤ k → ((s ≤ x) × (x < s + k) → ⊥) → look nat_order (cells_from s c) x ≡ none
run_out s c x k l n =
    is_none (look nat_order (cells_from s c) x) (λ a q. n (run-from s c x a q, (let h = run_in s c x a q in omega (arith, h))))

-- two pieces of a buffer after a store in the first, and after one in the second
abbrev Front : ℕ × ℕ → List Cell → Table ℕ Cell
Front h cs = cells_from h.0 (take h.1 cs)

abbrev Back : ℕ × ℕ → Table ℕ ℕ → List Cell → Table ℕ Cell
Back h t cs = cells (carve t (drop h.1 cs))

front-store : (h : ℕ × ℕ) (t : Table ℕ ℕ) (cs : List Cell) (p : ℕ) (v : Cell) → p < h.1 → (y : ℕ)
    → look nat_order (cells (carve (h ∷ t) (set cs p v))) y ≡ or_else (look nat_order (cells_from h.0 (set (take h.1 cs) p v)) y) (look nat_order (Back h t cs) y)
front-store h t cs p v k y =
    look-append nat_order (Front h (set cs p v)) (Back h t (set cs p v)) y ∙ rw (take-set-lt h.1 cs p v k, drop-set-lt h.1 cs p v k)

back-store : (h : ℕ × ℕ) (t : Table ℕ ℕ) (cs : List Cell) (p : ℕ) (v : Cell) (y : ℕ)
    → look nat_order (cells (carve (h ∷ t) (set cs (h.1 + p) v))) y ≡ or_else (look nat_order (Front h cs) y) (look nat_order (cells (carve t (set (drop h.1 cs) p v))) y)
back-store h t cs p v y =
    look-append nat_order (Front h (set cs (h.1 + p) v)) (Back h t (set cs (h.1 + p) v)) y
    ∙ rw (take-set-le h.1 cs (h.1 + p) v (let l : h.1 ≤ h.1 + p = omega arith in l), drop-set-add h.1 cs p v)

-- the store of v at the word of x gives x the cell v, and leaves every other address
store_same_at : (x : ℕ) (hs : Table ℕ ℕ) (cs : List Cell) (p : ℕ) (v : Cell) → total hs ≤ length cs → Spot x hs p → look nat_order (cells (carve hs (set cs p v))) x ≡ some v
store_same_at x hs cs p v l (here {h = h} {hs = t} {p = q} e k) =
    front-store h t cs q v k x
    ∙ ap (λ (u : Option Cell). or_else u (look nat_order (Back h t cs) x)) (rw e at (run-same h.0 (take h.1 cs) q v (omega (arith, length-take h.1 cs))))
store_same_at x hs cs q v l (there {h = h} {hs = t} {p = p} n s e) =
    rw (← e)
    (back-store h t cs p v x
    ∙ (ap (λ (u : Option Cell). or_else u (look nat_order (cells (carve t (set (drop h.1 cs) p v))) x))
    (run_out h.0 (take h.1 cs) x h.1 (omega (arith, length-take h.1 cs)) n)
    ∙ store_same_at x t (drop h.1 cs) p v (omega (arith, length-drop h.1 cs)) s))

pub store_same : (hs : Table ℕ ℕ) (cs : List Cell) (x p : ℕ) (v : Cell) → total hs ≤ length cs → Spot x hs p → look nat_order (cells (carve hs (set cs p v))) x ≡ some v
store_same hs cs x p v = store_same_at x hs cs p v

store_other_at : (x : ℕ) (hs : Table ℕ ℕ) (cs : List Cell) (p : ℕ) (v : Cell) (y : ℕ) → (y ≡ x → ⊥) → Spot x hs p
    → look nat_order (cells (carve hs (set cs p v))) y ≡ look nat_order (cells (carve hs cs)) y
store_other_at x hs cs p v y n (here {h = h} {hs = t} {p = q} e k) =
    front-store h t cs q v k y
    ∙ (ap (λ (u : Option Cell). or_else u (look nat_order (Back h t cs) y)) (run-other h.0 (take h.1 cs) q v y (λ (d : y ≡ h.0 + q). n (d ∙ e)))
    ∙ sym (look-append nat_order (Front h cs) (Back h t cs) y))
store_other_at x hs cs q v y n (there {h = h} {hs = t} {p = p} m s e) =
    rw (← e)
    (back-store h t cs p v y
    ∙ (ap (or_else (look nat_order (Front h cs) y)) (store_other_at x t (drop h.1 cs) p v y n s) ∙ sym (look-append nat_order (Front h cs) (Back h t cs) y)))

pub store_other : (hs : Table ℕ ℕ) (cs : List Cell) (x p : ℕ) (v : Cell) (y : ℕ) → (y ≡ x → ⊥) → Spot x hs p
    → look nat_order (cells (carve hs (set cs p v))) y ≡ look nat_order (cells (carve hs cs)) y
store_other hs cs x p v = store_other_at x hs cs p v
