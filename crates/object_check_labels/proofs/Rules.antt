-- What the loop over label rows keeps, and what the comparison of two names shows. Assumes nothing.
use mathlib.Core.Path.{◌≡◌, refl}
use mathlib.Core.Bool.{Bool, true, false}
use mathlib.Core.List.{List}
use Prim.Native.Nat.{ℕ, suc, ◌+◌, ◌*◌, ◌≤◌, ◌<◌}
use native.Mathlib.Omega.{arith}
use lib.ListN.{length, get_or}
use borrow.Author.Count.{below_more}
use Rattle.rules.specs.Tables.{Before, before_irr, before_trans}
use Rattle.rules.specs.Buffers.{LabelRow, LabelsOk}
use Rattle.base_text.specs.Names.{ordered}
use Rattle.base_text.specs.Keys.{key_at}
use Rattle.base_text.proofs.KeyLaws.{alike-none, alike-less}
use Rattle.std.specs.declared.cmp.Ordering.{Ordering}
use Rattle.std.specs.declared.cmp.Ordering.TheVariants.{Less, Equal, Greater}
use Rattle.object.specs.Decides.{Decides, decides_yes, decides_no}
use Rattle.object.proofs.Order.{is-less, is_same, is_greater}
use Rattle.object_check_labels.specs.Follows.{Follows}

-- a name before another
module _ (x y : List ℕ) {r : Ordering} (e : r ≡ ordered x y) where
  pub before-less : r ≡ Less → Decides (Before x y) true
  before-less l = decides_yes (is-less x y e l)

  pub before_same : r ≡ Equal → Decides (Before x y) false
  before_same l = decides_no (λ v. before_irr y (rw (is_same x y e l) at v))

  pub before_more : r ≡ Greater → Decides (Before x y) false
  before_more l = decides_no (λ v. before_irr y (before_trans y x y (is_greater x y e l) v))

pub before-key : (x y : List ℕ) → ((k : ℕ) → get_or x k 0 < 256) → ((k : ℕ) → get_or y k 0 < 256) → 8 ≤ length x → 8 ≤ length y → {p q : ℕ} → p ≡ key_at x 0 → q ≡ key_at y 0 → p < q → Decides (Before x y) true
before-key x y vx vy lx ly {p} {q} e f l = decides_yes (is-less x y (alike-less (alike-none x y 8) vx vy lx ly (omega arith) e f l) refl)

-- the first k rows keep the rules
pub record LabelsTo (n : ℕ) (ls ns : List ℕ) (k : ℕ) : Type 0 where
  pub within : k ≤ n
  pub few : n ≤ 1024
  pub room : n * 4 ≤ length ls
  pub rows : (j : ℕ) → j < k → LabelRow ls ns j
  pub ups : (j : ℕ) → j < k → Follows ls ns j

module _ {n k : ℕ} {ls ns : List ℕ} (t : LabelsTo n ls ns k) (h : k < n) where
  pub labels-more : {r s : Bool} → Decides (LabelRow ls ns k) r → r ≡ true → Decides (Follows ls ns k) s → s ≡ true → LabelsTo n ls ns (k + 1)
  labels-more d e f g = record { within = omega arith; few = t.few; room = t.room; rows = below_more _ _ t.rows (d.yes e); ups = below_more _ _ t.ups (f.yes g) }

pub labels-all : {n k : ℕ} {ls ns : List ℕ} → LabelsTo n ls ns k → n ≤ k → Decides (LabelsOk n ls ns) true
labels-all {n} {k} {ls} {ns} t h =
    let e : k ≡ n = omega (arith, t.within) in
    decides_yes (record { few = t.few; room = t.room; rows = rw e at t.rows; up = record { next = λ j l. (t.ups (suc j) (omega arith)).up j refl } })
