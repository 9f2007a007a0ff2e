-- What the halving search of a name among label rows keeps. Assumes nothing.
use Rattle.std.specs.declared.result.Result.TheVariants.{Ok}
use mathlib.Core.Path.{◌≡◌}
use mathlib.Core.List.{List}
use Prim.Native.Nat.{ℕ, ◌+◌, ◌-◌, ◌/◌, ◌≤◌, ◌<◌}
use native.Mathlib.Omega.{arith}
use Rattle.rules.specs.Tables.{Before, before_trans, name_order}
use Rattle.rules.specs.Objects.{Name}
use Rattle.rules.proofs.Rows.{up_lt}
use Rattle.rules.proofs.Bools.{never}
use Rattle.rules.proofs.Halving.{Halved, Sides, halved-up, halved-down}
use Rattle.base_text.specs.Names.{ordered}
use Rattle.std.specs.declared.cmp.Ordering.{Ordering}
use Rattle.std.specs.declared.cmp.Ordering.TheVariants.{Less, Equal, Greater}
use Rattle.object.specs.Slots.{upper_name, upper_row, Rising, Slotted}
use Rattle.object.proofs.Order.{is-less, is_same, is_greater}

-- the rows below lo come before x, and those from hi on after it
pub record Halving (ls ns : List ℕ) (n : ℕ) (x : Name) (lo hi : ℕ) : Type 0 where
  pub order : lo ≤ hi
  pub within : hi ≤ n
  pub below : (k : ℕ) → k < lo → Before (upper_name ls ns k) x
  pub above : (k : ℕ) → hi ≤ k → k < n → Before x (upper_name ls ns k)

-- the law of halving, for names
module _ (ls ns : List ℕ) (n : ℕ) (x : Name) where
  abbrev Less' : ℕ → Type 0
  Less' k = Before (upper_name ls ns k) x

  abbrev More' : ℕ → Type 0
  More' k = Before x (upper_name ls ns k)

  halved : {lo hi : ℕ} → Halving ls ns n x lo hi → Halved Less' More' n lo hi
  halved t = record { order = t.order; within = t.within; below = t.below; above = t.above }

  halving : {lo hi : ℕ} → Halved Less' More' n lo hi → Halving ls ns n x lo hi
  halving t = record { order = t.order; within = t.within; below = t.below; above = t.above }

  sides : Rising ls ns n → Sides Less' More' n
  sides v = record {
    down = λ k m l h b. before_trans (upper_name ls ns k) (upper_name ls ns m) x (up_lt name_order n (upper_row ls ns) v.up k m l h) b;
    up = λ k m l h b. before_trans x (upper_name ls ns k) (upper_name ls ns m) b (up_lt name_order n (upper_row ls ns) v.up k m l h);
  }

module _ {ls ns : List ℕ} {n lo hi : ℕ} {x : Name} {r : Ordering} (v : Rising ls ns n) (t : Halving ls ns n x lo hi) (l : lo < hi)
    (e : r ≡ ordered (upper_name ls ns (lo + (hi - lo) / 2)) x) where
  pub slot-up : r ≡ Less → Halving ls ns n x (lo + (hi - lo) / 2 + 1) hi
  slot-up q = halving ls ns n x (halved-up _ _ (sides ls ns n x v) (halved ls ns n x t) l (is-less (upper_name ls ns (lo + (hi - lo) / 2)) x e q))

  pub slot-down : r ≡ Greater → Halving ls ns n x lo (lo + (hi - lo) / 2)
  slot-down q = halving ls ns n x (halved-down _ _ (sides ls ns n x v) (halved ls ns n x t) l (is_greater (upper_name ls ns (lo + (hi - lo) / 2)) x e q))

  pub slot-hit : r ≡ Equal → Slotted ls ns n x (Ok (lo + (hi - lo) / 2))
  slot-hit q = record {
    taken = λ k p. (let w : lo + (hi - lo) / 2 ≡ k = cc in (omega (arith, t.within), rw w at (is_same (upper_name ls ns (lo + (hi - lo) / 2)) x e q)));
    within = λ p z. (never cc);
    below = λ p z. (never cc);
    above = λ p z. (never cc);
  }
