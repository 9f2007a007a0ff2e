-- The blocks of two lent objects share an address where their rows do; rows that do not start apart. Assumes nothing.
use mathlib.Core.Path.{◌≡◌, refl, ◌∙◌, ap}
use mathlib.Core.Bool.{Bool, true, false, ◌||◌}
use mathlib.Core.List.{List, [], ◌∷◌}
use Prim.Native.Nat.{ℕ, zero, suc, ◌<◌}
use native.Mathlib.Nat.{not-suc-le-zero, le_of_suc-le-suc}
use native.Mathlib.Omega.{arith}
use lib.ListN.{length}
use Rattle.rules.specs.Tables.{Table, any}
use Rattle.rules.specs.Objects.{Cell, Counts, heads}
use Rattle.rules.specs.Linking.{meets, shared}
use Rattle.rules.specs.Buffers.{Buffers, tab, head_row, cell_row, view_blocks, view, BlocksOk}
use Rattle.rules.proofs.Bools.{never}
use Rattle.rules.proofs.Rows.{length-tab}
use Rattle.rules.proofs.Chains.{heads-carve}
use Rattle.rules.proofs.Sound.{total-tab}
use Rattle.link_blocks.specs.Meeting.{BlockRows, touch, meeting}
use Rattle.link_blocks.proofs.Walk.{touch-both}

-- starts and lengths are all that tells
touch-heads : (x : ℕ × List Cell) (t : Table ℕ (List Cell)) → any (meets x) t ≡ any (touch (x.0, length x.1)) (heads t)
unfolding meets
touch-heads x [] = refl
touch-heads x (e ∷ t) = ap (λ (b : Bool). meets x e || b) (touch-heads x t)

pub shared-heads : (s t : Table ℕ (List Cell)) → any (λ x. any (meets x) t) s ≡ meeting (heads s) (heads t)
unfolding meeting
shared-heads [] t = refl
shared-heads (d ∷ s) t = λ i. touch-heads d t i || shared-heads s t i

pub heads-view : (n w : ℕ) (bs ws ms : List ℕ) → BlocksOk n w bs → heads (view_blocks n w bs ws ms) ≡ tab n (head_row bs)
unfolding view_blocks
heads-view n w bs ws ms v = heads-carve (tab n (head_row bs)) (tab w (cell_row ws ms)) (omega (arith, total-tab (head_row bs) n, v.sum, length-tab w (cell_row ws ms)))

-- THE LAW: 28 of two lent objects is what the walk over their rows answers
pub shared_view : (c d : Counts) (x y : Buffers) → BlocksOk c.blocks c.words x.blocks → BlocksOk d.blocks d.words y.blocks
    → shared (view c x) (view d y) ≡ meeting (tab c.blocks (head_row x.blocks)) (tab d.blocks (head_row y.blocks))
unfolding shared
shared_view c d x y v u =
    shared-heads (view_blocks c.blocks c.words x.blocks x.words x.marks) (view_blocks d.blocks d.words y.blocks y.words y.marks)
    ∙ (λ i. meeting (heads-view c.blocks c.words x.blocks x.words x.marks v i) (heads-view d.blocks d.words y.blocks y.words y.marks u i))

-- ROWS APART

pub or_left : (a b : Bool) → (a || b) ≡ false → a ≡ false
or_left true b e = e
or_left false b e = refl

pub or_right : (a b : Bool) → (a || b) ≡ false → b ≡ false
or_right true b e = never cc
or_right false b e = e

none_any : {A : Type 0} (p : A → Bool) (n : ℕ) (f : ℕ → A) → any p (tab n f) ≡ false → (k : ℕ) → k < n → p (f k) ≡ false
none_any p zero f e k l = absurd (not-suc-le-zero l)
none_any p (suc n) f e zero l = or_left (p (f 0)) (any p (tab n (λ k. f (suc k)))) e
none_any p (suc n) f e (suc k) l = none_any p n (λ k. f (suc k)) (or_right (p (f 0)) (any p (tab n (λ k. f (suc k)))) e) k (le_of_suc-le-suc l)

pub rows_apart : (na : ℕ) (a : List ℕ) (nb : ℕ) (b : List ℕ) → meeting (tab na (head_row a)) (tab nb (head_row b)) ≡ false
    → (i j : ℕ) → i < na → j < nb → touch (head_row a i) (head_row b j) ≡ false
unfolding meeting
rows_apart na a nb b e i j h k = none_any (touch (head_row a i)) nb (head_row b) (none_any (λ g. any (touch g) (tab nb (head_row b))) na (head_row a) e i h) j k

-- blocks that do not share an address do not start at one
pub starts_apart : (na : ℕ) (a : List ℕ) (nb : ℕ) (b : List ℕ) → BlockRows na a → BlockRows nb b → meeting (tab na (head_row a)) (tab nb (head_row b)) ≡ false
    → (i j : ℕ) → i < na → j < nb → (head_row a i).0 ≡ (head_row b j).0 → ⊥
starts_apart na a nb b u v e i j h k q =
    let p = rows_apart na a nb b e i j h k in
    let r = touch-both (head_row a i) (head_row b j) (omega (arith, (v.rows j k).filled)) (omega (arith, (u.rows i h).filled)) in
    never cc
