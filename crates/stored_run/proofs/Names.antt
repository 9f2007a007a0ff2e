-- The field of a label whose name may follow another. Assumes nothing.
use mathlib.Core.Path.{◌≡◌, refl, sym, ◌∙◌}
use mathlib.Core.Bool.{Bool, true}
use mathlib.Core.List.{List}
use mathlib.Core.Logic.{inl, inr}
use Prim.Native.Nat.{ℕ, ◌+◌, ◌-◌, ◌≤◌, ◌<◌}
use native.Mathlib.Omega.{arith}
use lib.ListN.{length, get_or, take, drop}
use borrow.Author.Tests.{eq-eqb, ne_eqb}
use Rattle.rules.specs.Objects.{good_name}
use Rattle.laws_stored.specs.Offsets.{part_at}
use Rattle.laws_stored.proofs.Accepted.{found-extent}
use Rattle.base_text.specs.Names.{ordered}
use Rattle.std.specs.declared.cmp.Ordering.{Ordering}
use Rattle.std.specs.declared.cmp.Ordering.TheVariants.{Less}
use Rattle.object.proofs.Order.{is-less}
use Rattle.stored_read.proofs.Found.{Stands}
use Rattle.stored_walk.specs.Behind.{NamedAt}
use Rattle.stored_walk.proofs.Standing.{heads}
use Rattle.stored_walk.proofs.Labels.{fits-less, named-defined, named-outer}
use Rattle.stored_run.specs.Following.{name_start, EndsAbove, LabelEnds}

-- WHERE A NAME BEGINS

pub start-defined : (b : List ℕ) (at : ℕ) → get_or b at 0 ≡ 4 → at + 3 + 2 ≡ name_start b at
unfolding name_start
start-defined b at e = rw (name_start, eq-eqb (get_or b at 0) 4 e) refl

pub start-other : (b : List ℕ) (at : ℕ) → (get_or b at 0 ≡ 4 → ⊥) → at + 3 ≡ name_start b at
unfolding name_start
start-other b at e = rw (name_start, ne_eqb (get_or b at 0) 4 e) refl

-- A NAME ABOVE ANOTHER

module _ {b : List ℕ} {last at start end : ℕ} where
  pub above-taken : {o : Ordering} {g : Bool} → o ≡ ordered (take (at - last) (drop last b)) (take (end - start) (drop start b)) → o ≡ Less → g ≡ good_name (take (end - start) (drop start b)) → g ≡ true → EndsAbove b last at start end end
  unfolding part_at
  above-taken e l g t = record { ends = λ n. refl; fits = λ n. fits-less _ _ (is-less _ _ e l) ∙ (sym g ∙ t) }

-- THE FIELD OF A LABEL

module _ {b : List ℕ} {last at : ℕ} where
  pub ends-none : LabelEnds b last at at
  ends-none = record { tag = λ n. absurd (n refl); named = λ n. absurd (n refl); fits = λ n. absurd (n refl) }

  module _ {tag start end r : ℕ} (f : Stands b at tag start end) where
    pub ends-outer : tag ≡ 5 → EndsAbove b last at start end r → LabelEnds b last at r
    ends-outer e u =
        let s : start ≡ name_start b at = f.begins ∙ start-other b at (λ x. omega (arith, x, e, (heads b at tag start end f).tag)) in
        record { tag = λ n. inr ((heads b at tag start end f).tag ∙ e); named = λ n. rw (← s, u.ends n) (named-outer b at start end (rw e at f)); fits = λ n. rw (← s, u.ends n) (u.fits n) }

    pub ends-defined : tag ≡ 4 → 2 ≤ end - start → EndsAbove b last at (start + 2) end r → LabelEnds b last at r
    ends-defined e l u =
        let h : start ≡ at + 3 = f.begins in
        let s : start + 2 ≡ name_start b at = omega (arith, h, start-defined b at ((heads b at tag start end f).tag ∙ e)) in
        record { tag = λ n. inl ((heads b at tag start end f).tag ∙ e); named = λ n. rw (← s, u.ends n) (named-defined b at start end (rw e at f) l); fits = λ n. rw (← s, u.ends n) (u.fits n) }

-- it is there
pub named-there : {b : List ℕ} {at start end : ℕ} → NamedAt b at start end → at + 3 ≤ length b
named-there {b} {at} {start} {end} p = let u = found-extent b at _ end p.found in omega (arith, u.after, u.within)

pub named-further : {b : List ℕ} {at start end : ℕ} → NamedAt b at start end → at < end
named-further {b} {at} {start} {end} p = omega (arith, (found-extent b at _ end p.found).after)
