-- What the loop over relocation rows keeps. Assumes nothing.
use mathlib.Core.Path.{◌≡◌, refl}
use mathlib.Core.Bool.{Bool, true}
use mathlib.Core.List.{List}
use Prim.Native.Nat.{ℕ, suc, ◌+◌, ◌*◌, ◌≤◌, ◌<◌}
use native.Mathlib.Omega.{arith}
use lib.ListN.{length}
use borrow.Author.Count.{below_more}
use Rattle.rules.specs.Buffers.{RelocRow, RelocsOk}
use Rattle.object.specs.Decides.{Decides, decides_yes}
use Rattle.object_check_relocations.specs.Ground.{Rises}

-- the first k rows keep the rules
pub record RelocsTo (n nb w m : ℕ) (bs ws ms ls rs : List ℕ) (k : ℕ) : Type 0 where
  pub within : k ≤ n
  pub few : n ≤ 1024
  pub room : n * 2 ≤ length rs
  pub rows : (j : ℕ) → j < k → RelocRow nb w m bs ws ms ls rs j
  pub ups : (j : ℕ) → j < k → Rises rs j

module _ {n nb w m k : ℕ} {bs ws ms ls rs : List ℕ} {r s : Bool} (t : RelocsTo n nb w m bs ws ms ls rs k) (h : k < n)
    (d : Decides (RelocRow nb w m bs ws ms ls rs k) r) (f : Decides (Rises rs k) s) where
  pub relocs-more : r ≡ true → s ≡ true → RelocsTo n nb w m bs ws ms ls rs (k + 1)
  relocs-more a b = record { within = omega arith; few = t.few; room = t.room; rows = below_more _ _ t.rows (d.yes a); ups = below_more _ _ t.ups (f.yes b) }

pub relocs-all : {n nb w m k : ℕ} {bs ws ms ls rs : List ℕ} → RelocsTo n nb w m bs ws ms ls rs k → n ≤ k → Decides (RelocsOk n nb w m bs ws ms ls rs) true
relocs-all {n} {k = k} t h =
    let e : k ≡ n = omega (arith, t.within) in
    decides_yes (record { few = t.few; room = t.room; rows = rw e at t.rows; up = λ j l. (t.ups (suc j) (omega arith)).up j refl })
