-- Good blocks in a buffer: their rows by index, and where an address stands among them. Assumes nothing.
use mathlib.Core.Path.{◌≡◌, refl, sym, ◌∙◌, ap}
use mathlib.Core.Logic.{inl, inr}
use mathlib.Core.Option.{some}
use mathlib.Core.List.{List, [], ◌∷◌}
use Prim.Native.Nat.{ℕ, zero, suc, ◌+◌, ◌-◌, ◌*◌, ◌≤◌, ◌<◌, suc-le-suc, zero-le}
use native.Mathlib.Nat.{not-suc-le-zero, le_of_suc-le-suc}
use native.Mathlib.Omega.{arith}
use lib.ListN.{length}
use Rattle.rules.specs.Tables.{Table, look, nat_order}
use Rattle.rules.specs.Objects.{Cell, cells_from, cells, heads}
use Rattle.rules.specs.Buffers.{tab, head_row, end_of, sum_of, lay, head_cells}
use Rattle.rules.proofs.Rows.{length-lay}
use Rattle.rules.proofs.Runs.{look-append, in-run, left-some, right-some}
use Rattle.rules.proofs.Chains.{total}
use Rattle.rules.proofs.Laid.{heads-back, length-heads}
use Rattle.rules.proofs.Sound.{total-tab, BlocksGood}
use Rattle.link_blocks.specs.Meeting.{BlockRows}
use Rattle.link_blocks.proofs.Both.{good-chain}
use Rattle.link_words.specs.Settled.{Inside}
use Rattle.link_words.proofs.Turned.{total-heads}
use Rattle.link_words.proofs.Round.{Has, Rising, chain-rising, held-has}

-- ROWS BY INDEX

length-cells : (hs : Table ℕ ℕ) → length (head_cells hs) ≡ length hs * 2
length-cells [] = refl
length-cells (h ∷ hs) = let i = length-cells hs in omega (arith, i)

row_has : (n : ℕ) (h : ℕ → ℕ × ℕ) (k x : ℕ) → k < n → (h k).0 ≤ x → x < (h k).0 + (h k).1 → Has x (tab n h)
row_has zero h k x l p q = absurd (not-suc-le-zero l)
row_has (suc n) h zero x l p q = inl (p, q)
row_has (suc n) h (suc k) x l p q = inr (row_has n (λ j. h (suc j)) k x (le_of_suc-le-suc l) p q)

has-row : (n : ℕ) (h : ℕ → ℕ × ℕ) (x : ℕ) → Has x (tab n h) → (k : ℕ) × (k < n) × ((h k).0 ≤ x) × (x < (h k).0 + (h k).1)
has-row zero h x p = absurd p
has-row (suc n) h x (inl p) = (0, suc-le-suc zero-le, p.0, p.1)
has-row (suc n) h x (inr p) = let w = has-row n (λ j. h (suc j)) x p in (suc w.0, suc-le-suc w.1, w.2, w.3)

has-held : (b : Table ℕ (List Cell)) (x : ℕ) → Has x (heads b) → (c : Cell) × (look nat_order (cells b) x ≡ some c)
has-held [] x p = absurd p
has-held (d ∷ b) x (inl p) =
    let r = in-run d.0 d.1 x p.0 p.1 in
    (r.0, look-append nat_order (cells_from d.0 d.1) (cells b) x ∙ left-some (look nat_order (cells_from d.0 d.1) x) (look nat_order (cells b) x) r.0 r.1)
has-held (d ∷ b) x (inr p) =
    let w = has-held b x p in
    let r = right-some (look nat_order (cells_from d.0 d.1) x) (look nat_order (cells b) x) w.0 w.1 in
    (r.0, look-append nat_order (cells_from d.0 d.1) (cells b) x ∙ r.1)

rising-after : (n : ℕ) (h : ℕ → ℕ × ℕ) (y : ℕ) → Rising y (tab n h) → (k : ℕ) → k < n → end_of y h k ≤ (h k).0
rising-after zero h y r k l = absurd (not-suc-le-zero l)
rising-after (suc n) h y r zero l = r.0
rising-after (suc n) h y r (suc zero) l = rising-after n (λ j. h (suc j)) ((h 0).0 + (h 0).1) r.2 zero (le_of_suc-le-suc l)
rising-after (suc n) h y r (suc (suc k)) l = rising-after n (λ j. h (suc j)) ((h 0).0 + (h 0).1) r.2 (suc k) (le_of_suc-le-suc l)

rising-filled : (n : ℕ) (h : ℕ → ℕ × ℕ) (y : ℕ) → Rising y (tab n h) → (k : ℕ) → k < n → 0 < (h k).1
rising-filled zero h y r k l = absurd (not-suc-le-zero l)
rising-filled (suc n) h y r zero l = r.1
rising-filled (suc n) h y r (suc k) l = rising-filled n (λ j. h (suc j)) ((h 0).0 + (h 0).1) r.2 k (le_of_suc-le-suc l)

-- GOOD BLOCKS IN A BUFFER

module _ {W : Table ℕ (List Cell)} {n w : ℕ} (g : BlocksGood W n w) (bs : List ℕ) (len : ℕ) (e : bs ≡ lay (head_cells (heads W)) len) where
  pub rows-laid : tab n (head_row bs) ≡ heads W
  rows-laid = (λ i. tab (sym (length-heads W ∙ g.count) i) (head_row (e i))) ∙ heads-back (heads W) len

  rows-low : (k : ℕ) → k < n → 0 < (head_row bs k).1 → (head_row bs k).0 + (head_row bs k).1 ≤ 65024
  rows-low k l f =
      let h : Has ((head_row bs k).0 + ((head_row bs k).1 - 1)) (heads W) = rw rows-laid at (row_has n (head_row bs) k ((head_row bs k).0 + ((head_row bs k).1 - 1)) l (omega arith) (omega arith)) in
      let c = has-held W ((head_row bs k).0 + ((head_row bs k).1 - 1)) h in
      omega (arith, g.low ((head_row bs k).0 + ((head_row bs k).1 - 1)) c.0 c.1)

  pub laid-rows : n * 2 ≤ len → BlockRows n bs
  laid-rows room =
      let r : Rising 0 (tab n (head_row bs)) = rw rows-laid (chain-rising 0 W (good-chain g)) in
      record {
        room = rw e (rw (length-lay (head_cells (heads W)) len (omega (arith, length-cells (heads W), length-heads W, g.count))) room);
        rows = λ k l. record {
          after = rising-after n (head_row bs) 0 r k l;
          filled = rising-filled n (head_row bs) 0 r k l;
          low = rows-low k l (rising-filled n (head_row bs) 0 r k l);
        };
      }

  pub laid-sum : sum_of (head_row bs) n ≡ w
  laid-sum = sym (total-tab (head_row bs) n) ∙ (ap total rows-laid ∙ (total-heads W ∙ g.words))

  pub laid-inside : (x : ℕ) (c : Cell) → look nat_order (cells W) x ≡ some c → Inside n bs x
  laid-inside x c q =
      let k = has-row n (head_row bs) x (rw rows-laid (held-has W x c q)) in
      record { row = k.0; within = k.1; from = k.2; to = k.3 }
