-- The row of an external's name, by halving over the labels whose fields were noted. Assumes nothing.
use Rattle.std.specs.declared.option.Option.TheVariants.{Some, None}
use mathlib.Core.Path.{◌≡◌, refl, sym, ◌∙◌, ap}
use mathlib.Core.Bool.{false}
use mathlib.Core.List.{List, []}
use mathlib.Core.Option.{some, none}
use Prim.Native.Nat.{ℕ, ◌+◌, ◌-◌, ◌/◌, ◌≤◌, ◌<◌}
use native.Mathlib.Decide.{dec_lt}
use native.Mathlib.Omega.{arith}
use lib.ListN.{length, get_or}
use Rattle.rules.specs.Tables.{Table, Before, before_irr, before_trans, look, Sorted, name_order}
use Rattle.rules.specs.Objects.{Lab, outer, Name}
use Rattle.rules.specs.Buffers.{tab, row_of}
use Rattle.rules.specs.Stored.{State, is_outer}
use Rattle.rules.proofs.Rows.{tab-get_or, tab-sorted, up_lt, look-tab, look_none}
use Rattle.rules.proofs.Plain.{row-index}
use Rattle.rules.proofs.Halving.{Halved, Sides, halved-start, halved-up, halved-down}
use Rattle.laws_stored.proofs.Ordered.{names-sorted}
use Rattle.laws_stored.proofs.Kept.{kept-ordered}
use Rattle.base_text.specs.Names.{ordered}
use Rattle.std.specs.declared.cmp.Ordering.{Ordering}
use Rattle.std.specs.declared.cmp.Ordering.TheVariants.{Less, Equal, Greater}
use Rattle.object.proofs.Order.{is-less, is_same, is_greater}
use Rattle.stored_seek.specs.Seeking.{LabelAt, Listed, ListedIn, row_told}
use Rattle.stored_seek.proofs.Labels.{label-in, tag-outer, tag-defined}

-- THE ROWS

abbrev row : Table Name Lab → ℕ → Name × Lab
row t k = get_or t k ([], outer)

abbrev Below : Table Name Lab → Name → ℕ → Type 0
Below t x k = Before (row t k).0 x

abbrev Above : Table Name Lab → Name → ℕ → Type 0
Above t x k = Before x (row t k).0

module _ (t : Table Name Lab) (up : Sorted name_order t) where
  rows : Sorted name_order (tab (length t) (row t))
  rows = rw (tab-get_or t ([], outer)) up

  sides : (x : Name) → Sides (Below t x) (Above t x) (length t)
  sides x =
      let u = tab-sorted name_order (length t) (row t) rows in
      record {
        down = λ k m l h b. before_trans (row t k).0 (row t m).0 x (up_lt name_order (length t) (row t) u k m l h) b;
        up = λ k m l h b. before_trans x (row t k).0 (row t m).0 b (up_lt name_order (length t) (row t) u k m l h);
      }

  look_at : (k : ℕ) → k < length t → look name_order t (row t k).0 ≡ some (row t k).1
  look_at k l = rw (tab-get_or t ([], outer)) at (look-tab name_order (length t) (row t) rows k l)

  row_at : (k : ℕ) → k < length t → row_of t (row t k).0 ≡ k
  row_at k l = rw (tab-get_or t ([], outer)) at (row-index (length t) (row t) rows k l)

  -- a row that has the name
  told-external : (x : Name) (k : ℕ) → k < length t → (row t k).0 ≡ x → (row t k).1 ≡ outer → Some k ≡ row_told t x
  unfolding row_told
  told-external x k l n v =
      let p : look name_order t x ≡ some outer = rw (n, v) at (look_at k l) in
      let q : row_of t x ≡ k = rw n at (row_at k l) in
      rw (p, row_told) (ap Some (sym q))

  told-defined : (x : Name) (k : ℕ) → k < length t → (row t k).0 ≡ x → is_outer (some (row t k).1) ≡ false → None ≡ row_told t x
  unfolding row_told
  told-defined x k l n v =
      let p : look name_order t x ≡ some (row t k).1 = rw n at (look_at k l) in
      rw (p, row_told) (rw v refl)

-- or none has
told_none : (t : Table Name Lab) (x : Name) → ((k : ℕ) → k < length t → x ≡ (row t k).0 → ⊥) → None ≡ row_told t x
unfolding row_told
told_none t x h =
    let p : look name_order t x ≡ none = rw (tab-get_or t ([], outer)) at (look_none name_order (length t) (row t) x h) in
    rw (p, row_told) refl

sorted : {b places : List ℕ} {n end : ℕ} {s : State} → Listed b places n s end → Sorted name_order s.labels
sorted {b} {places} {n} {end} {s} h = names-sorted [] s.labels (kept-ordered s h.checks.kept).names

-- WHAT THE LOOP KEEPS, whatever the state is

pub record Narrowed (b places : List ℕ) (n : ℕ) (x : Name) (lo hi : ℕ) : Type 0 where
  pub order : lo ≤ hi
  pub within : hi ≤ n
  pub halved : (s : State) (end : ℕ) → Listed b places n s end → Halved (Below s.labels x) (Above s.labels x) (length s.labels) lo hi

pub narrowed-start : (b places : List ℕ) (n : ℕ) (x : Name) → Narrowed b places n x 0 n
narrowed-start b places n x = record { order = omega arith; within = omega arith; halved = λ s end h. rw h.count (halved-start (Below s.labels x) (Above s.labels x)) }

pub narrowed-end : (b places : List ℕ) (n : ℕ) (x : Name) (lo hi : ℕ) → Narrowed b places n x lo hi → hi ≤ lo → (s : State) (end : ℕ) → Listed b places n s end → None ≡ row_told s.labels x
narrowed-end b places n x lo hi t l s end h = told_none s.labels x (λ k m. go k m (dec_lt k lo))
  where
    go : (k : ℕ) → k < length s.labels → Dec (k < lo) → x ≡ (row s.labels k).0 → ⊥
    go k m (yes p) e = before_irr x (rw (sym e) at ((t.halved s end h).below k p))
    go k m (no p) e = before_irr x (rw (sym e) at ((t.halved s end h).above k (omega (arith, t.order)) m))

module _ (b places : List ℕ) (n : ℕ) (x : Name) (lo hi : ℕ) (t : Narrowed b places n x lo hi) (l : lo < hi) where
  abbrev middle : ℕ
  middle = lo + (hi - lo) / 2

  -- the middle row is there
  inside : (s : State) (end : ℕ) → Listed b places n s end → middle < length s.labels
  inside s end h = omega (arith, t.within, h.count)

  pub middle-in : ListedIn b places n → middle < length places
  middle-in v = let h = v.listed in omega (arith, inside v.state v.end h, h.checks.kept.few_labels, h.noted.room)

  module _ (at : ℕ) (p : at ≡ get_or places middle 0) where
    here : (s : State) (end : ℕ) → Listed b places n s end → LabelAt b at (row s.labels middle)
    here s end h = rw p (h.noted.rows middle (inside s end h))

    pub place_in : ListedIn b places n → at < length b
    place_in v = label-in b at (row v.state.labels middle) (here v.state v.end v.listed)

    -- m is the name that stands there, r its order with x
    module _ (m : Name) (f : (e : Name × Lab) → LabelAt b at e → m ≡ e.0) (r : Ordering) (q : r ≡ ordered m x) where
      same_name : (s : State) (end : ℕ) → Listed b places n s end → m ≡ (row s.labels middle).0
      same_name s end h = f (row s.labels middle) (here s end h)

      pub narrowed-up : r ≡ Less → Narrowed b places n x (middle + 1) hi
      narrowed-up z = record {
        order = omega arith;
        within = t.within;
        halved = λ s end h. halved-up _ _ (sides s.labels (sorted h) x) (t.halved s end h) l (rw (same_name s end h) at (is-less m x q z));
      }

      pub narrowed-down : r ≡ Greater → Narrowed b places n x lo middle
      narrowed-down z = record {
        order = omega arith;
        within = omega (arith, t.within);
        halved = λ s end h. halved-down _ _ (sides s.labels (sorted h) x) (t.halved s end h) l (rw (same_name s end h) at (is_greater m x q z));
      }

      module _ (z : r ≡ Equal) (s : State) (end : ℕ) (h : Listed b places n s end) where
        pub hit-external : get_or b at 0 ≡ 5 → Some middle ≡ row_told s.labels x
        hit-external g = told-external s.labels (sorted h) x middle (inside s end h) (sym (same_name s end h) ∙ is_same m x q z) (tag-outer b at (row s.labels middle) (here s end h) g)

        pub hit-defined : (get_or b at 0 ≡ 5 → ⊥) → None ≡ row_told s.labels x
        hit-defined g = told-defined s.labels (sorted h) x middle (inside s end h) (sym (same_name s end h) ∙ is_same m x q z) (tag-defined b at (row s.labels middle) (here s end h) g)

-- ONE ROW

module _ (b places : List ℕ) (n k : ℕ) (l : k < n) where
  there : (s : State) (end : ℕ) → Listed b places n s end → LabelAt b (get_or places k 0) (row s.labels k)
  there s end h = h.noted.rows k (omega (arith, h.count))

  pub row-place : ListedIn b places n → get_or places k 0 < length b
  row-place v = label-in b (get_or places k 0) (row v.state.labels k) (there v.state v.end v.listed)

  pub row-external : get_or b (get_or places k 0) 0 ≡ 5 → (m x : Name) → ((e : Name × Lab) → LabelAt b (get_or places k 0) e → m ≡ e.0) → (r : Ordering) → r ≡ ordered m x → r ≡ Equal
      → (s : State) (end : ℕ) → Listed b places n s end → Some k ≡ row_told s.labels x
  row-external g m x f r q z s end h =
      told-external s.labels (sorted h) x k (omega (arith, h.count)) (sym (f (row s.labels k) (there s end h)) ∙ is_same m x q z)
      (tag-outer b (get_or places k 0) (row s.labels k) (there s end h) g)
