-- What the loop of `check_blocks` keeps. Assumes nothing.
use mathlib.Core.Path.{◌≡◌, refl, sym, ◌∙◌}
use mathlib.Core.Bool.{Bool, true, false}
use native.Mathlib.Omega.{arith}
use lib.Dec.{eqb}
use borrow.Author.Tests.{eqb-true, eqb-false}
use Rattle.object.specs.Decides.{Decides, decides_yes, decides_no}
use mathlib.Core.List.{List}
use Prim.Native.Nat.{ℕ, ◌*◌, ◌≤◌, ◌<◌}
use lib.ListN.{length}
use Rattle.rules.specs.Buffers.{head_row, end_of, sum_of, BlockRow, BlocksOk}

-- the first k rows are good; they end at e and have s words
pub record BlocksTo (bs : List ℕ) (n k e s : ℕ) : Type 0 where
  pub within : k ≤ n
  pub few : n ≤ 64
  pub room : n * 2 ≤ length bs
  pub rows : (j : ℕ) → j < k → BlockRow 0 (head_row bs) j
  pub end : e ≡ end_of 0 (head_row bs) k
  pub sum : s ≡ sum_of (head_row bs) k
  pub low : e ≤ 65024
  pub under : s ≤ e

-- all rows are good: what is left to see is how many words they have
pub all-told : {bs : List ℕ} {n k e s w : ℕ} → BlocksTo bs n k e s → n ≤ k → Decides (BlocksOk n w bs) (eqb s w)
all-told {bs} {n} {k} {e} {s} {w} t h = go (eqb s w) refl
  where
    at-end : k ≡ n
    at-end = omega (arith, t.within)

    go : (b : Bool) → eqb s w ≡ b → Decides (BlocksOk n w bs) b
    go true q = decides_yes (record { few = t.few; room = t.room; rows = rw at-end at t.rows; sum = sym (rw at-end at t.sum) ∙ eqb-true s w q })
    go false q = decides_no (λ v. eqb-false s w q ((rw at-end at t.sum) ∙ v.sum))
