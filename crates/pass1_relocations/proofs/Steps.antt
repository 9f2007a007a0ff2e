-- What each way through `add_relocation` shows. Assumes nothing.
use Rattle.std.specs.declared.option.Option.TheVariants.{Some, None}
use mathlib.Core.Path.{◌≡◌, refl, sym, ◌∙◌, ap}
use mathlib.Core.Bool.{Bool, true, false, ◌||◌}
use mathlib.Core.Option.{Option, some}
use mathlib.Core.List.{List, [], ◌∷◌}
use Prim.Native.Nat.{ℕ, zero, suc, ◌+◌, ◌*◌, ◌≤◌, ◌<◌, suc-le-suc, zero-le}
use native.Mathlib.Nat.{not-suc-le-zero, le_of_suc-le-suc}
use native.Mathlib.Decide.{dec_lt, ℕ_discrete}
use native.Mathlib.Omega.{arith}
use lib.Dec.{ltb}
use lib.ListN.{length, get_or, set, length-set}
use lib.Seq.{get_or-set_same, get_or-set_other}
use borrow.Author.Tests.{lt-ltb, le-ltb}
use Rattle.rules.specs.Base.{when◌then◌else◌, has, Outcome, ok, refuse, ◌>>=◌, Span}
use Rattle.rules.specs.Tables.{Table, Tri, less, same, more, look, insert, put, newer, nat_order}
use Rattle.rules.specs.Objects.{Name}
use Rattle.rules.specs.Passes.{Pass1State, relocated}
use Rattle.rules.specs.Buffers.{tab, Up}
use Rattle.rules.proofs.Tables.{sorted_insert}
use Rattle.rules.proofs.Rows.{length-tab, tab-ext, look-tab, look_none, sorted-tab, tab-sorted, up_lt}
use Rattle.rules.proofs.Bools.{never}
use Rattle.parse_labels.specs.Names.{name_from}
use Rattle.object.specs.Decides.{Decides}
use Rattle.base_rows.specs.Opened.{inserted}
use Rattle.base_rows.proofs.Sorted.{Belongs, table-new, table_up, rows-kept}
use Rattle.pass1_relocations.specs.Pending.{note, note_row, notes, Within, Pending, Bound, AtAddress, Ready, Adding, noting}

-- A TABLE WITH A VALUE CHANGED

-- the entry of row k, whose key is there, in the place of the one that it had
insert-there : (n : ℕ) (f g : ℕ → ℕ × Name) (k : ℕ) (e : ℕ × Name) → k < n → Up nat_order n f → (f k).0 ≡ e.0 → g k ≡ e → ((j : ℕ) → j < n → (j ≡ k → ⊥) → g j ≡ f j)
    → tab n g ≡ insert nat_order newer e (tab n f)
insert-there zero f g k e l u p q h = absurd (not-suc-le-zero l)
insert-there (suc n) f g zero e l u p q h = go (nat_order.tri e.0 (f 0).0)
  where
    rest : tab n (λ i. g (suc i)) ≡ tab n (λ i. f (suc i))
    rest = tab-ext n (λ i. g (suc i)) (λ i. f (suc i)) (λ i m. h (suc i) (suc-le-suc m) (λ (z : suc i ≡ 0). omega arith))

    go : (c : Tri ◌<◌ e.0 (f 0).0) → tab (suc n) g ≡ put newer e (f 0) (tab n (λ i. f (suc i))) c (insert nat_order newer e (tab n (λ i. f (suc i))))
    go (less m) = absurd (omega arith)
    go (same m) = let x : g 0 ≡ ((f 0).0, e.1) = q ∙ (λ i. (m i, e.1)) in λ i. x i ∷ rest i
    go (more m) = absurd (omega arith)
insert-there (suc n) f g (suc k) e l u p q h =
    go (nat_order.tri e.0 (f 0).0)
    (insert-there n (λ i. f (suc i)) (λ i. g (suc i)) k e (le_of_suc-le-suc l) (record { next = λ j m. u.next (suc j) (suc-le-suc m) }) p q
    (λ j m z. h (suc j) (suc-le-suc m) (λ (y : suc j ≡ suc k). z (omega arith))))
  where
    first : (f 0).0 < e.0
    first = rw (← p) (up_lt nat_order (suc n) f u 0 (suc k) (suc-le-suc zero-le) l)

    head : g 0 ≡ f 0
    head = h 0 (suc-le-suc zero-le) (λ (z : 0 ≡ suc k). omega arith)

    go : (c : Tri ◌<◌ e.0 (f 0).0) → tab n (λ i. g (suc i)) ≡ insert nat_order newer e (tab n (λ i. f (suc i)))
        → tab (suc n) g ≡ put newer e (f 0) (tab n (λ i. f (suc i))) c (insert nat_order newer e (tab n (λ i. f (suc i))))
    go (less m) ih = absurd (omega (arith, first))
    go (same m) ih = absurd (omega (arith, first))
    go (more m) ih = λ i. head i ∷ ih i

-- WHAT THE TABLE SAYS OF THE ADDRESS

has_some : {A : Type 0} {o : Option A} {x : A} → o ≡ some x → has o ≡ true
has_some e = ap has e

is-there : (n : ℕ) (rs src : List ℕ) (k a : ℕ) → Pending rs src n → AtAddress rs n k a → has (look nat_order (notes n rs src) a) ≡ true
unfolding notes
is-there n rs src k a v t =
    let e = look-tab nat_order n (note_row rs src) (sorted-tab nat_order n (note_row rs src) v.up) k t.row in
    ap (λ (x : ℕ). has (look nat_order (tab n (note_row rs src)) x)) (sym t.same) ∙ has_some e

not_there : (n : ℕ) (rs src : List ℕ) (p a : ℕ) → Bound rs n a p → Pending rs src n → (AtAddress rs n p a → ⊥) → (k : ℕ) → k < n → a ≡ get_or rs (k * 4) 0 → ⊥
not_there n rs src p a b v m k l e = elim (dec_lt k p) [
  | yes h ↦ (let q = b.below k h in omega arith)
  | no h ↦ elim (dec_lt p k) [
    | yes j ↦ (
        let q = up_lt nat_order n (note_row rs src) v.up p k j l in
        let r = b.above p (omega arith) (omega arith) in
        omega (arith, q))
    | no j ↦ (let w : k ≡ p = omega arith in m (record { row = omega arith; same = ap (λ (x : ℕ). get_or rs (x * 4) 0) (sym w) ∙ sym e }))
  ]
]

is-new : (n : ℕ) (rs src : List ℕ) (p a : ℕ) → Bound rs n a p → Pending rs src n → (AtAddress rs n p a → ⊥) → has (look nat_order (notes n rs src) a) ≡ false
unfolding notes
is-new n rs src p a b v m = ap has (look_none nat_order n (note_row rs src) a (not_there n rs src p a b v m))

count : (n : ℕ) (rs src : List ℕ) → length (notes n rs src) ≡ n
unfolding notes
count n rs src = length-tab n (note_row rs src)

-- the rule, by its two tests
abbrev by_tests : ℕ → Name → Span → Table ℕ Name → Bool → Bool → Outcome (Table ℕ Name)
by_tests a m q t x y = when x || y then ok (insert nat_order newer (a, m) t) else refuse 40 q

goes : (a : ℕ) (m : Name) (q : Span) (o : Pass1State) (t : Table ℕ Name) (x y : Bool) → o.relocs ≡ t → has (look nat_order t a) ≡ x → ltb (length t) 1024 ≡ y
    → relocated a m q o ≡ (by_tests a m q t x y >>= noting o)
unfolding relocated when◌then◌else◌
goes a m q o t x y r e f =
    (λ i. when has (look nat_order (r i) a) || ltb (length (r i)) 1024 then noting o (insert nat_order newer (a, m) (r i)) else refuse 40 q)
    ∙ ((λ i. when e i || f i then noting o (insert nat_order newer (a, m) t) else refuse 40 q) ∙ last (x || y))
  where
    last : (b : Bool) → (when b then noting o (insert nat_order newer (a, m) t) else refuse 40 q) ≡ ((when b then ok (insert nat_order newer (a, m) t) else refuse 40 q) >>= noting o)
    last true = refl
    last false = refl

full-no : {A : Type 0} {m : ℕ} → None ≡ Some m → A
full-no e = never cc

-- NO ROW LEFT
pub add-full : {rs src : List ℕ} {n a s l p : ℕ} {t : Bool} → Ready rs src n s l → Bound rs n a p → Decides (AtAddress rs n p a) t → t ≡ false → 1024 ≤ n → Adding rs src rs n a s l None
unfolding when◌then◌else◌
add-full {rs} {src} {n} {a} {s} {l} {p} v b d e h = record {
  rule = λ q o r. sym (goes a (name_from src s l) q o (notes n rs src) false false r (is-new n rs src p a b v.table (d.no e)) (ap (λ (m : ℕ). ltb m 1024) (count n rs src) ∙ le-ltb n 1024 h));
  table = λ m x. full-no x;
}

-- A NEW ROW
module _ {rs src rs' : List ℕ} {n a s l p : ℕ} {t : Bool} (v : Ready rs src n s l) (b : Bound rs n a p) (d : Decides (AtAddress rs n p a) t) (e : t ≡ false) (h : n < 1024)
    (i : rs' ≡ inserted rs (n * 4) (p * 4) (a ∷ 0 ∷ s ∷ l ∷ [])) (z : length rs' ≡ length rs) where
  belongs : Belongs nat_order (note src) rs n p a 0 s l
  belongs = record {
    within = b.within;
    room = omega (arith, v.room);
    below = b.below;
    above = λ k m c. (let q = b.above k m c in let r = not_there n rs src p a b v.table (d.no e) k c in strict q r);
  }
    where
      strict : {x y : ℕ} → x ≤ y → (x ≡ y → ⊥) → x < y
      strict {x} {y} q r = elim (dec_lt x y) [ yes w ↦ w | no w ↦ absurd (r (omega arith)) ]

  pub add-new : Adding rs src rs' n a s l (Some (n + 1))
  unfolding when◌then◌else◌ notes
  add-new = record {
    rule = λ q o r. sym (goes a (name_from src s l) q o (notes n rs src) false true r (is-new n rs src p a b v.table (d.no e)) (ap (λ (m : ℕ). ltb m 1024) (count n rs src) ∙ lt-ltb n 1024 h)
        ∙ ap (noting o) (sym (table-new nat_order newer (note src) belongs i)));
    table = λ m x. (let y : n + 1 ≡ m = cc in rw y at made);
  }
    where
      made : Pending rs' src (n + 1)
      made = record {
        few = omega arith;
        room = omega (arith, v.room);
        rows = rows-kept nat_order newer (note src) belongs i (Within src) v.table.rows (record { place = v.name.place; small = v.name.small });
        up = table_up nat_order newer (note src) belongs i v.table.up;
      }

-- A ROW RENAMED
module _ {rs src rs' : List ℕ} {n a s l p : ℕ} (v : Pending rs src n) (w : Within src 0 0 s l) (t : AtAddress rs n p a) (e : rs' ≡ set (set rs (p * 4 + 2) s) (p * 4 + 3) l) where
  other : (x : ℕ) → (x ≡ p * 4 + 2 → ⊥) → (x ≡ p * 4 + 3 → ⊥) → get_or rs' x 0 ≡ get_or rs x 0
  other x h k = ap (λ (r : List ℕ). get_or r x 0) e ∙ (get_or-set_other (set rs (p * 4 + 2) s) (p * 4 + 3) x l 0 k ∙ get_or-set_other rs (p * 4 + 2) x s 0 h)

  start-at : get_or rs' (p * 4 + 2) 0 ≡ s
  start-at =
      ap (λ (r : List ℕ). get_or r (p * 4 + 2) 0) e
      ∙ (get_or-set_other (set rs (p * 4 + 2) s) (p * 4 + 3) (p * 4 + 2) l 0 (λ (q : p * 4 + 2 ≡ p * 4 + 3). omega arith) ∙ get_or-set_same rs (p * 4 + 2) s 0 (omega (arith, v.room, t.row)))

  size-at : get_or rs' (p * 4 + 3) 0 ≡ l
  size-at =
      ap (λ (r : List ℕ). get_or r (p * 4 + 3) 0) e
      ∙ get_or-set_same (set rs (p * 4 + 2) s) (p * 4 + 3) l 0 (omega (arith, v.room, t.row, length-set rs (p * 4 + 2) s))

  -- the cells of another row
  record Same (k : ℕ) : Type 0 where
    c0 : get_or rs' (k * 4) 0 ≡ get_or rs (k * 4) 0
    c1 : get_or rs' (k * 4 + 1) 0 ≡ get_or rs (k * 4 + 1) 0
    c2 : get_or rs' (k * 4 + 2) 0 ≡ get_or rs (k * 4 + 2) 0
    c3 : get_or rs' (k * 4 + 3) 0 ≡ get_or rs (k * 4 + 3) 0

  same-cells : (k : ℕ) → (k ≡ p → ⊥) → Same k
  same-cells k h = record {
    c0 = other (k * 4) (λ (q : k * 4 ≡ p * 4 + 2). omega arith) (λ (q : k * 4 ≡ p * 4 + 3). omega arith);
    c1 = other (k * 4 + 1) (λ (q : k * 4 + 1 ≡ p * 4 + 2). omega arith) (λ (q : k * 4 + 1 ≡ p * 4 + 3). omega arith);
    c2 = other (k * 4 + 2) (λ (q : k * 4 + 2 ≡ p * 4 + 2). h (omega arith)) (λ (q : k * 4 + 2 ≡ p * 4 + 3). omega arith);
    c3 = other (k * 4 + 3) (λ (q : k * 4 + 3 ≡ p * 4 + 2). omega arith) (λ (q : k * 4 + 3 ≡ p * 4 + 3). h (omega arith));
  }

  row_here : note_row rs' src p ≡ (a, name_from src s l)
  row_here =
      let x : get_or rs' (p * 4) 0 ≡ a = other (p * 4) (λ (q : p * 4 ≡ p * 4 + 2). omega arith) (λ (q : p * 4 ≡ p * 4 + 3). omega arith) ∙ t.same in
      λ i. (x i, name_from src (start-at i) (size-at i))

  row-there : (k : ℕ) → (k ≡ p → ⊥) → note_row rs' src k ≡ note_row rs src k
  row-there k h = let c = same-cells k h in λ i. note src (c.c0 i) (c.c1 i) (c.c2 i) (c.c3 i)

  renamed : tab n (note_row rs' src) ≡ insert nat_order newer (a, name_from src s l) (tab n (note_row rs src))
  renamed = insert-there n (note_row rs src) (note_row rs' src) p (a, name_from src s l) t.row v.up t.same row_here (λ k m h. row-there k h)

  still : (k : ℕ) → k < n → Within src (get_or rs' (k * 4) 0) (get_or rs' (k * 4 + 1) 0) (get_or rs' (k * 4 + 2) 0) (get_or rs' (k * 4 + 3) 0)
  still k m = elim (ℕ_discrete k p) [
    | yes h ↦ (let x = ap (λ (j : ℕ). get_or rs' (j * 4 + 2) 0) h ∙ start-at in let y = ap (λ (j : ℕ). get_or rs' (j * 4 + 3) 0) h ∙ size-at in
        record { place = rw (x, y) w.place; small = rw y w.small })
    | no h ↦ (let c = same-cells k h in let o = v.rows k m in record { place = rw (c.c2, c.c3) o.place; small = rw c.c3 o.small })
  ]

  pending-still : Pending rs' src n
  pending-still = record {
    few = v.few;
    room = omega (arith, v.room, ap length e, length-set (set rs (p * 4 + 2) s) (p * 4 + 3) l, length-set rs (p * 4 + 2) s);
    rows = still;
    up = tab-sorted nat_order n (note_row rs' src) (rw renamed (sorted_insert nat_order newer (a, name_from src s l) (tab n (note_row rs src)) (sorted-tab nat_order n (note_row rs src) v.up)));
  }

module _ {rs src : List ℕ} {n a s l p : ℕ} {t : Bool} (v : Ready rs src n s l) (d : Decides (AtAddress rs n p a) t) (h : t ≡ true) where
  pub taken_in : p * 4 + 4 ≤ length rs
  taken_in = omega (arith, v.table.room, (d.yes h).row)

  pub add-renamed : {rs' : List ℕ} → rs' ≡ set (set rs (p * 4 + 2) s) (p * 4 + 3) l → Adding rs src rs' n a s l (Some n)
  unfolding when◌then◌else◌ notes
  add-renamed {rs'} e = record {
    rule = λ q o r. sym (goes a (name_from src s l) q o (notes n rs src) true (ltb (length (notes n rs src)) 1024) r (is-there n rs src p a v.table (d.yes h)) refl
        ∙ ap (noting o) (sym (renamed v.table v.name (d.yes h) e)));
    table = λ m x. (let y : n ≡ m = cc in rw y at (pending-still v.table v.name (d.yes h) e));
  }
