-- What the halving search of an address keeps. Assumes nothing.
use mathlib.Core.Path.{◌≡◌}
use mathlib.Core.List.{List}
use Prim.Native.Nat.{ℕ, ◌+◌, ◌-◌, ◌*◌, ◌/◌, ◌≤◌, ◌<◌}
use native.Mathlib.Omega.{arith}
use lib.ListN.{get_or}
use Rattle.rules.specs.Tables.{nat_order}
use Rattle.rules.proofs.Rows.{up_lt}
use Rattle.rules.proofs.Halving.{Halved, Sides, halved-up, halved-down}
use Rattle.pass1_relocations.specs.Pending.{note_row, Pending}

-- the rows below lo are below the address, and those from hi on are not
pub record Between (rs : List ℕ) (n a lo hi : ℕ) : Type 0 where
  pub order : lo ≤ hi
  pub within : hi ≤ n
  pub below : (k : ℕ) → k < lo → get_or rs (k * 4) 0 < a
  pub above : (k : ℕ) → hi ≤ k → k < n → a ≤ get_or rs (k * 4) 0

-- the law of halving, for addresses
module _ (rs : List ℕ) (n a : ℕ) where
  abbrev Less' : ℕ → Type 0
  Less' k = get_or rs (k * 4) 0 < a

  abbrev More' : ℕ → Type 0
  More' k = a ≤ get_or rs (k * 4) 0

  halved : {lo hi : ℕ} → Between rs n a lo hi → Halved Less' More' n lo hi
  halved t = record { order = t.order; within = t.within; below = t.below; above = t.above }

  halving : {lo hi : ℕ} → Halved Less' More' n lo hi → Between rs n a lo hi
  halving t = record { order = t.order; within = t.within; below = t.below; above = t.above }

  sides : {src : List ℕ} → Pending rs src n → Sides Less' More' n
  sides {src} v = record {
    down = λ k m l h b. (let q = up_lt nat_order n (note_row rs src) v.up k m l h in omega (arith, q, b));
    up = λ k m l h b. (let q = up_lt nat_order n (note_row rs src) v.up k m l h in omega (arith, q, b));
  }

module _ {rs src : List ℕ} {n a lo hi b : ℕ} (v : Pending rs src n) (t : Between rs n a lo hi) (l : lo < hi) (e : b ≡ get_or rs ((lo + (hi - lo) / 2) * 4) 0) where
  pub between-up : b < a → Between rs n a (lo + (hi - lo) / 2 + 1) hi
  between-up h = halving rs n a (halved-up _ _ (sides rs n a v) (halved rs n a t) l (omega (arith, e, h)))

  pub between-down : a ≤ b → Between rs n a lo (lo + (hi - lo) / 2)
  between-down h = halving rs n a (halved-down _ _ (sides rs n a v) (halved rs n a t) l (omega (arith, e, h)))
