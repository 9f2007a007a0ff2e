-- Two answers that a contract of this crate allows are equal. Assumes nothing.
use Rattle.std.specs.declared.result.Result.{Result}
use Rattle.std.specs.declared.result.Result.TheVariants.{Ok, Err}
use mathlib.Core.Path.{◌≡◌, refl, sym, ◌∙◌, ap}
use mathlib.Core.List.{List}
use Prim.Native.Nat.{ℕ, ◌<◌}
use native.Mathlib.Decide.{dec_lt}
use native.Mathlib.Omega.{arith}
use Rattle.rules.specs.Tables.{before_irr, before_trans, name_order}
use Rattle.rules.specs.Objects.{Name}
use Rattle.rules.proofs.Tables.{lt-ne}
use Rattle.rules.proofs.Rows.{up_lt}
use Rattle.rules.proofs.Bools.{never}
use Rattle.object.specs.Meaning.{lab}
use Rattle.object.specs.Slots.{upper_name, upper_row, Rising, Slotted}
use Rattle.object.specs.declared.Label.{Label}
use Rattle.object.specs.declared.Label.TheVariants.{Defined, External}

-- of `label_at`
pub label-once : (r s : Label) → lab r ≡ lab s → r ≡ s
label-once (Defined a) (Defined b) e = let q : a ≡ b = cc in ap Defined q
label-once (Defined a) External e = never cc
label-once External (Defined b) e = never cc
label-once External External e = refl

module _ {ls ns : List ℕ} {n : ℕ} {x : Name} (v : Rising ls ns n) where
  -- two rows with the name
  same_row : (k j : ℕ) → k < n → j < n → upper_name ls ns k ≡ x → upper_name ls ns j ≡ x → k ≡ j
  same_row k j p q e f = elim (dec_lt k j) [
    | yes h ↦ absurd (lt-ne name_order (upper_name ls ns k) (upper_name ls ns j) (up_lt name_order n (upper_row ls ns) v.up k j h q) (e ∙ sym f))
    | no h ↦ elim (dec_lt j k) [
      | yes m ↦ absurd (lt-ne name_order (upper_name ls ns j) (upper_name ls ns k) (up_lt name_order n (upper_row ls ns) v.up j k m p) (f ∙ sym e))
      | no m ↦ omega arith
    ]
  ]

  -- a row with the name, and a place where it belongs
  not-both : (k p : ℕ) {r : Result ℕ ℕ} → k < n → upper_name ls ns k ≡ x → Slotted ls ns n x r → r ≡ Err p → ⊥
  not-both k p l e t q = elim (dec_lt k p) [
    | yes h ↦ before_irr x (rw e at (t.below p q k h))
    | no h ↦ before_irr x (rw e at (t.above p q k (omega arith) l))
  ]

  -- two places where it belongs
  ordered : (p q : ℕ) {r s : Result ℕ ℕ} → p < q → Slotted ls ns n x r → r ≡ Err p → Slotted ls ns n x s → s ≡ Err q → ⊥
  ordered p q h t e u f =
      let l : p < n = omega (arith, u.within q f) in
      before_irr x (before_trans x (upper_name ls ns p) x (t.above p e p (omega arith) l) (u.below q f p h))

  -- of `slot_of`
  pub slot-once : (r s : Result ℕ ℕ) → Slotted ls ns n x r → Slotted ls ns n x s → r ≡ s
  slot-once (Ok k) (Ok j) t u = let a = t.taken k refl in let b = u.taken j refl in ap Ok (same_row k j a.0 b.0 a.1 b.1)
  slot-once (Ok k) (Err q) t u = let a = t.taken k refl in absurd (not-both k q a.0 a.1 u refl)
  slot-once (Err p) (Ok j) t u = let b = u.taken j refl in absurd (not-both j p b.0 b.1 t refl)
  slot-once (Err p) (Err q) t u = ap Err (elim (dec_lt p q) [
    | yes h ↦ absurd (ordered p q h t refl u refl)
    | no h ↦ elim (dec_lt q p) [ yes m ↦ absurd (ordered q p m u refl t refl) | no m ↦ omega arith ]
  ])
