-- The object whose row is due by its note is the one that has the next row by name. Assumes nothing.
use mathlib.Core.Path.{◌≡◌, refl, sym, ◌∙◌, ap}
use mathlib.Core.Bool.{Bool, true, false}
use mathlib.Core.List.{List, [], ◌∷◌}
use Prim.Native.Nat.{ℕ, suc, ◌*◌, ◌≤◌, ◌<◌}
use native.Mathlib.Nat.{not-suc-le-zero, le_of_suc-le-suc}
use native.Mathlib.Omega.{arith}
use native.Mathlib.Decide.{dec_lt}
use lib.ListN.{length, get_or}
use lib.Dec.{eqb}
use borrow.Author.Tests.{lt-ltb, le-ltb, eq-eqb, ne_eqb}
use Rattle.rules.specs.Tables.{Table, Tri, less, same, more, Before, name_order}
use Rattle.rules.specs.Objects.{Lab, outer, Name}
use Rattle.rules.specs.Buffers.{name_row, pick_row, row_of, LabelsOk}
use Rattle.rules.proofs.Tables.{lt-ne}
use Rattle.link_notes.specs.Notes.{note_row, Noted}
use Rattle.link_labels.specs.Matching.{both_labels, FirstNext, SecondNext, BothNext, Sided}
use Rattle.link_labels.specs.Laying.{due, side_of}
use Rattle.link_labels.specs.declared.Side.{Side}
use Rattle.link_labels.specs.declared.Side.TheVariants.{First, Second, Both, Over}
use Rattle.link_labels.proofs.Siding.{sided-first, sided-second, sided-both, side-over}
use Rattle.link_labels.proofs.Rests.{Here, Rest, first-here, second-here, both-here}

-- AS THE CODE MEETS IT

module _ (n : ℕ) (xs : List ℕ) (i k : ℕ) where
  pub due-past : n ≤ i → false ≡ due n xs i k
  unfolding due
  due-past h = rw (le-ltb i n h)

  pub due-row : {x w : ℕ} → i < n → x ≡ (note_row xs i).0 → w ≡ x → eqb w k ≡ due n xs i k
  unfolding due
  due-row h e d = rw (lt-ltb i n h, d, e)

module _ {p q a b : Bool} (d : p ≡ a) (e : q ≡ b) where
  pub of-both : p ≡ true → q ≡ true → Both ≡ side_of a b
  unfolding side_of
  of-both x y = rw (sym d ∙ x, sym e ∙ y)

  pub of-first : p ≡ true → q ≡ false → First ≡ side_of a b
  unfolding side_of
  of-first x y = rw (sym d ∙ x, sym e ∙ y)

  pub of-second : p ≡ false → q ≡ true → Second ≡ side_of a b
  unfolding side_of
  of-second x y = rw (sym d ∙ x, sym e ∙ y)

  pub of_none : p ≡ false → q ≡ false → Over ≡ side_of a b
  unfolding side_of
  of_none x y = rw (sym d ∙ x, sym e ∙ y)

-- ONE NAME TO A ROW

row-name : (t : Table Name Lab) (x : Name) → row_of t x < length t → (get_or t (row_of t x) ([], outer)).0 ≡ x
row-name [] x l = absurd (not-suc-le-zero l)
row-name (e ∷ t) x l = go (name_order.tri x e.0) l (row-name t x)
  where
    go : (c : Tri Before x e.0) → pick_row c (suc (row_of t x)) < suc (length t) → (row_of t x < length t → (get_or t (row_of t x) ([], outer)).0 ≡ x)
        → (get_or (e ∷ t) (pick_row c (suc (row_of t x))) ([], outer)).0 ≡ x
    go (less h) l f = f (le_of_suc-le-suc l)
    go (same p) l f = sym p
    go (more h) l f = f (le_of_suc-le-suc l)

row_one : (t : Table Name Lab) (x y : Name) (k : ℕ) → row_of t x ≡ k → row_of t y ≡ k → k < length t → x ≡ y
row_one t x y k p q l =
    sym (row-name t x (omega arith)) ∙ (ap (λ (r : ℕ). (get_or t r ([], outer)).0) (p ∙ sym q) ∙ row-name t y (omega arith))

-- THE ROW THAT IS DUE

module _ {all : Table Name Lab} {ls ns xs : List ℕ} {n i k : ℕ} {e : Name × Lab} (t : Noted all ls ns n xs) (h : Here all k e) where
  due-yes : i < n → name_row ls ns i ≡ e.0 → due n xs i k ≡ true
  unfolding due
  due-yes l q = rw (lt-ltb i n l, eq-eqb (get_or xs (i * 2) 0) k (t.row i l ∙ (ap (row_of all) q ∙ h.row)))

  due-no : (i < n → name_row ls ns i ≡ e.0 → ⊥) → due n xs i k ≡ false
  due-no f = elim (dec_lt i n) [
    | yes l ↦ sym (due-row n xs i k l refl refl) ∙ ne_eqb (get_or xs (i * 2) 0) k (λ q. f l (row_one all (name_row ls ns i) e.0 k (sym (t.row i l) ∙ q) h.row h.within))
    | no l ↦ sym (due-past n xs i k (omega arith))
  ]

module _ {m : ℕ} {al an : List ℕ} {n : ℕ} {bl bn xs ys : List ℕ} {i j k : ℕ} (a : LabelsOk m al an) (b : LabelsOk n bl bn) (c : Rest m al an n bl bn i j k)
    (p : Noted (both_labels m al an n bl bn) al an m xs) (q : Noted (both_labels m al an n bl bn) bl bn n ys) where
  when-first : FirstNext m al an n bl bn i j → First ≡ side_of (due m xs i k) (due n ys j k)
  when-first f =
      let h = first-here a b c f in
      of-first (sym (due-yes p h f.within refl)) (sym (due-no q h (λ l e. lt-ne name_order (name_row al an i) (name_row bl bn j) (f.low l) (sym e)))) refl refl

  when-second : SecondNext m al an n bl bn i j → Second ≡ side_of (due m xs i k) (due n ys j k)
  when-second f =
      let h = second-here a b c f in
      of-second (sym (due-no p h (λ l e. lt-ne name_order (name_row bl bn j) (name_row al an i) (f.low l) (sym e)))) (sym (due-yes q h f.within refl)) refl refl

  when-both : BothNext m al an n bl bn i j → Both ≡ side_of (due m xs i k) (due n ys j k)
  when-both f =
      let h = both-here a b c f in
      of-both (sym (due-yes p h f.first f.same)) (sym (due-yes q h f.second refl)) refl refl

  -- each case by names
  pub due-sided : {r : Side} → r ≡ side_of (due m xs i k) (due n ys j k) → Sided m al an n bl bn i j r
  due-sided {r} e = elim (dec_lt i m) [
    | yes l ↦ elim (dec_lt j n) [
      | yes o ↦ go l o (name_order.tri (name_row al an i) (name_row bl bn j))
      | no o ↦ first (record { within = l; low = λ z. absurd (omega arith) })
    ]
    | no l ↦ elim (dec_lt j n) [
      | yes o ↦ second (record { within = o; low = λ z. absurd (omega arith) })
      | no o ↦ rw (e ∙ sym (of_none (due-past m xs i k (omega arith)) (due-past n ys j k (omega arith)) refl refl)) (side-over (omega arith) (omega arith))
    ]
  ]
    where
      first : FirstNext m al an n bl bn i j → Sided m al an n bl bn i j r
      first f = rw (e ∙ sym (when-first f)) (sided-first f)

      second : SecondNext m al an n bl bn i j → Sided m al an n bl bn i j r
      second f = rw (e ∙ sym (when-second f)) (sided-second f)

      both : BothNext m al an n bl bn i j → Sided m al an n bl bn i j r
      both f = rw (e ∙ sym (when-both f)) (sided-both f)

      go : i < m → j < n → Tri Before (name_row al an i) (name_row bl bn j) → Sided m al an n bl bn i j r
      go l o (less h) = first (record { within = l; low = λ z. h })
      go l o (same h) = both (record { first = l; second = o; same = h })
      go l o (more h) = second (record { within = o; low = λ z. h })
