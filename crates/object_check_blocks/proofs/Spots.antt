-- The word at the place of an address is the object's there. Assumes nothing.
use mathlib.Core.Path.{◌≡◌, sym, ◌∙◌, ap}
use mathlib.Core.Option.{some}
use mathlib.Core.List.{List, Memᴰ}
use Prim.Native.Nat.{ℕ, zero, suc, ◌+◌, ◌-◌, ◌≤◌, ◌<◌, suc-le-suc, zero-le}
use native.Mathlib.Nat.{not-suc-le-zero, le_of_suc-le-suc}
use native.Mathlib.Omega.{arith}
use lib.ListN.{length, take, drop, get_or, length-take}
use lib.Seq.{set-get_or}
use Rattle.rules.specs.Tables.{look, nat_order}
use Rattle.rules.specs.Objects.{Cell, unset, cells}
use Rattle.rules.specs.Buffers.{tab, head_row, sum_of, cell_row, carve, view_blocks, BlocksOk}
use Rattle.rules.proofs.Rows.{length-tab, get_or-tab}
use Rattle.rules.proofs.Chains.{held_in, Within, total, Spot, here, there, store_same}
use Rattle.rules.proofs.Sound.{sum-front, total-tab}
use Rattle.object_check_blocks.specs.Places.{Inside}

-- the first block that has the address gives its place
pub spot-at : (n : ℕ) (h : ℕ → ℕ × ℕ) (k x : ℕ) → k < n → Inside h x k → ((j : ℕ) → j < k → Inside h x j → ⊥) → Spot x (tab n h) (sum_of h k + (x - (h k).0))
spot-at zero h k x l i m = absurd (not-suc-le-zero l)
spot-at (suc n) h zero x l i m = here {h = h 0} {p = 0 + (x - (h 0).0)} (omega (arith, i.0)) (omega (arith, i.0, i.1))
spot-at (suc n) h (suc k) x l i m =
    there {q = sum_of h (suc k) + (x - (h (suc k)).0)} (m 0 (suc-le-suc zero-le)) (spot-at n (λ j. h (suc j)) k x (le_of_suc-le-suc l) i (λ j p. m (suc j) (suc-le-suc p)))
    (omega (arith, sum-front h k))

-- what stands there
pub cell_at : (n w : ℕ) (bs ws ms : List ℕ) (x p : ℕ) → BlocksOk n w bs → p < w → Spot x (tab n (head_row bs)) p
    → look nat_order (cells (view_blocks n w bs ws ms)) x ≡ some (cell_row ws ms p)
unfolding view_blocks
cell_at n w bs ws ms x p v l s =
    let e : get_or (tab w (cell_row ws ms)) p unset ≡ cell_row ws ms p = get_or-tab w (cell_row ws ms) p unset l in
    let t : total (tab n (head_row bs)) ≤ length (tab w (cell_row ws ms)) = omega (arith, total-tab (head_row bs) n, v.sum, length-tab w (cell_row ws ms)) in
    ap (λ (c : List Cell). look nat_order (cells (carve (tab n (head_row bs)) c)) x) (sym (set-get_or (tab w (cell_row ws ms)) p unset))
    ∙ (store_same (tab n (head_row bs)) (tab w (cell_row ws ms)) x p (get_or (tab w (cell_row ws ms)) p unset) t s ∙ ap some e)

-- where no block has the address, nothing stands
row-of-block : (n : ℕ) (h : ℕ → ℕ × ℕ) (cs : List Cell) (x : ℕ) (d : ℕ × List Cell) → Memᴰ d (carve (tab n h) cs) → Within x d → (k : ℕ) × (k < n) × Inside h x k
row-of-block zero h cs x d x4 i = elim x4 [ ]
row-of-block (suc n) h cs x d (Memᴰ.head q) i =
    let j : Within x ((h 0).0, take (h 0).1 cs) = rw q at i in
    (0, suc-le-suc zero-le, (j.0, omega (arith, j.1, length-take (h 0).1 cs)))
row-of-block (suc n) h cs x d (Memᴰ.tail m) i =
    let w = row-of-block n (λ j. h (suc j)) (drop (h 0).1 cs) x d m i in (suc w.0, suc-le-suc w.1, w.2)

pub cell-none : (n w : ℕ) (bs ws ms : List ℕ) (x : ℕ) → ((k : ℕ) → k < n → Inside (head_row bs) x k → ⊥) → (c : Cell) → look nat_order (cells (view_blocks n w bs ws ms)) x ≡ some c → ⊥
unfolding view_blocks
cell-none n w bs ws ms x m c q =
    let u = held_in (carve (tab n (head_row bs)) (tab w (cell_row ws ms))) x c q in
    let r = row-of-block n (head_row bs) (tab w (cell_row ws ms)) x u.0 u.1 u.2 in
    m r.0 r.1 r.2
