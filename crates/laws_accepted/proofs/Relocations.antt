-- A relocation arises at the counter of a.fill whose label is external there, and nowhere else. Assumes nothing.
use mathlib.Core.Path.{◌≡◌, refl, sym, ◌∙◌}
use mathlib.Core.Bool.{Bool, true, false, ◌||◌}
use mathlib.Core.List.{List, [], ◌∷◌}
use mathlib.Core.Logic.{◌⊎◌, inl, inr}
use mathlib.Core.Option.{Option, none, some}
use Prim.Native.Nat.{ℕ, ◌+◌, ◌-◌}
use lib.Dec.{eqb, ltb}
use lib.ListN.{length}
use Rattle.rules.specs.Base.{when◌then◌else◌, Outcome, ok, refuse, refuse2, ◌>>=◌, Span, has}
use Rattle.rules.specs.Capacities.{block_room, reloc_room}
use Rattle.rules.specs.Words.{Op, instr, orig, fill, blkw, stringz, end, external}
use Rattle.rules.specs.Statements.{Stmt, Target}
use Rattle.rules.specs.Statements as S
use Rattle.rules.specs.Tables.{Table, Tri, less, same, more, look, Sorted, insert, newer, nat_order, name_order}
use Rattle.rules.specs.Objects.{Lab, outer, defined, Name}
use Rattle.rules.specs.Passes.{Symbol, Cursor, Pass1State, pass1_state, with_cursor, with_symbols, with_relocs, word_len, add_label, add_labels, labelled, relocated, filled, closed, directed}
use Rattle.rules.proofs.Gave.{gave}
use Rattle.rules.proofs.Tables.{lt-ne, look-insert-there}
use Rattle.rules.proofs.Bools.{never}
use Rattle.laws.proofs.Steps.{Same, labels-same, Step}
use Rattle.laws.proofs.Known.{Outside, advanced-still}

-- x is where a.fill of an external stands
pub record Filled (s : Stmt) (o : Pass1State) (symbols : Table Name Symbol) (x : ℕ) : Type 0 where
  pub op : s.op ≡ fill
  pub target : Target
  pub aims : s.target ≡ some target
  pub block : Cursor
  pub open' : o.cursor ≡ some block
  pub here : x ≡ block.counter
  pub outside : Outside (look name_order symbols target.name.text)

-- each relocation after a stage was there before it, or is new
abbrev New : Stmt → Pass1State → Pass1State → Pass1State → Type 0
New s o a c = (x : ℕ) (n : Name) → look nat_order c.relocs x ≡ some n → (look nat_order o.relocs x ≡ some n) ⊎ Filled s o a.symbols x

given-ok : {o c : Pass1State} → ok o ≡ ok c → o ≡ c
given-ok e = cc

labels-relocs : (ls : List S.Name) (p : Span) (o c : Pass1State) → labelled ls p o ≡ ok c → c.relocs ≡ o.relocs
unfolding labelled
labels-relocs [] p o c e = rw (← given-ok e)
labels-relocs (n ∷ ns) p o c e = go o.cursor e
  where
    go : (k : Option Cursor) → ◌≡◌ {A = Outcome Pass1State} (elim k [
      | none ↦ refuse 20 n.place
      | some k ↦ add_labels k.counter p (n ∷ ns) o.symbols >>= λ ss. ok (with_symbols ss o)
    ]) (ok c) → c.relocs ≡ o.relocs
    go none x = never cc
    go (some k) x =
        let u = gave (add_labels k.counter p (n ∷ ns) o.symbols) _ c x in
        rw (← given-ok u.then')

module _ (a : ℕ) (n : Name) (p : Span) (o c : Pass1State) (h : Sorted nat_order o.relocs) where
  -- the relocation at a is new; every other stays
  relocated-new : relocated a n p o ≡ ok c → (x : ℕ) (m : Name) → look nat_order c.relocs x ≡ some m → (look nat_order o.relocs x ≡ some m) ⊎ (x ≡ a)
  unfolding relocated when◌then◌else◌
  relocated-new e x m q = go (has (look nat_order o.relocs a) || ltb (length o.relocs) reloc_room) e
    where
      by_place : look nat_order (insert nat_order newer (a, n) o.relocs) x ≡ some m → Tri nat_order.lt x a → (look nat_order o.relocs x ≡ some m) ⊎ (x ≡ a)
      by_place w (less l) = inl (sym (look-insert-there nat_order newer (a, n) o.relocs x (lt-ne nat_order x a l)) ∙ w)
      by_place w (same l) = inr l
      by_place w (more l) = inl (sym (look-insert-there nat_order newer (a, n) o.relocs x (λ z. lt-ne nat_order a x l (sym z))) ∙ w)

      go : (b : Bool) → (when b then ok (with_relocs (insert nat_order newer (a, n) o.relocs) o) else refuse 40 p) ≡ ok c → (look nat_order o.relocs x ≡ some m) ⊎ (x ≡ a)
      go true z = by_place (rw (← given-ok z) at q) (nat_order.tri x a)
      go false z = never cc

filled-new : (s : Stmt) (t : Target) (o c : Pass1State) → s.op ≡ fill → s.target ≡ some t → Sorted nat_order o.relocs → filled t.name s.place o ≡ ok c → New s o o c
unfolding filled
filled-new s t o c q i h e = by-symbol (look name_order o.symbols t.name.text) refl e
  where
    stays : o ≡ c → New s o o c
    stays z x n w = inl (rw (← z) at w)

    by-cursor : (y : Symbol) → look name_order o.symbols t.name.text ≡ some y → y.lab ≡ outer → (k : Option Cursor) → o.cursor ≡ k → ◌≡◌ {A = Outcome Pass1State} (elim k [ none ↦ refuse 21 s.place | some k ↦ relocated k.counter t.name.text s.place o ]) (ok c) → New s o o c
    by-cursor y r l none v z = never cc
    by-cursor y r l (some k) v z = λ x n w. split x (relocated-new k.counter t.name.text s.place o c h z x n w)
      where
        split : (x : ℕ) {n : Name} → (look nat_order o.relocs x ≡ some n) ⊎ (x ≡ k.counter) → (look nat_order o.relocs x ≡ some n) ⊎ Filled s o o.symbols x
        split x (inl m) = inl m
        split x (inr m) = inr (record { op = q; target = t; aims = i; block = k; open' = v; here = m; outside = record { symbol = y; is = r; outside = l } })

    by-lab : (y : Symbol) → look name_order o.symbols t.name.text ≡ some y → (l : Lab) → y.lab ≡ l → ◌≡◌ {A = Outcome Pass1State} (elim l [ defined a ↦ ok o | outer ↦ elim o.cursor [ none ↦ refuse 21 s.place | some k ↦ relocated k.counter t.name.text s.place o ] ]) (ok c) → New s o o c
    by-lab y r (defined a) l z = stays (given-ok z)
    by-lab y r outer l z = by-cursor y r l o.cursor refl z

    by-symbol : (m : Option Symbol) → look name_order o.symbols t.name.text ≡ m → ◌≡◌ {A = Outcome Pass1State} (elim m [
      | none ↦ ok o
      | some y ↦ elim y.lab [ defined a ↦ ok o | outer ↦ elim o.cursor [ none ↦ refuse 21 s.place | some k ↦ relocated k.counter t.name.text s.place o ] ]
    ]) (ok c) → New s o o c
    by-symbol none r z = stays (given-ok z)
    by-symbol (some y) r z = by-lab y r y.lab refl z

stays : (s : Stmt) (o c : Pass1State) → c.relocs ≡ o.relocs → New s o o c
stays s o c e x n q = inl (rw e at q)

closed-relocs : (k : Cursor) (p : Span) (o c : Pass1State) → closed k p o ≡ ok c → c.relocs ≡ o.relocs
unfolding closed when◌then◌else◌
closed-relocs k p o c e = by-empty (eqb k.counter k.start) e
  where
    by-room : (b : Bool) → (when b then ok (pass1_state none o.symbols o.relocs (o.blocks + 1) (o.words + (k.counter - k.start))) else refuse 40 p) ≡ ok c → c.relocs ≡ o.relocs
    by-room true x = rw (← given-ok x)
    by-room false x = never cc

    by-empty : (b : Bool) → (when b then ok (with_cursor none o) else (when ltb o.blocks block_room then ok (pass1_state none o.symbols o.relocs (o.blocks + 1) (o.words + (k.counter - k.start))) else refuse 40 p)) ≡ ok c → c.relocs ≡ o.relocs
    by-empty true x = rw (← given-ok x)
    by-empty false x = by-room (ltb o.blocks block_room) x

directed-new : (p : Op) (s : Stmt) (o c : Pass1State) → s.op ≡ p → Sorted nat_order o.relocs → directed p s o ≡ ok c → New s o o c
unfolding directed
directed-new instr s o c q h e = stays s o c (rw (← given-ok e))
directed-new blkw s o c q h e = stays s o c (rw (← given-ok e))
directed-new stringz s o c q h e = stays s o c (rw (← given-ok e))
directed-new orig s o c q h e = go o.cursor e
  where
    go : (k : Option Cursor) → ◌≡◌ {A = Outcome Pass1State} (elim k [
      | some k ↦ refuse2 24 k.place s.place
      | none ↦ ok (with_cursor (some (record { start = s.bits; counter = s.bits; place = s.place })) o)
    ]) (ok c) → New s o o c
    go none x = stays s o c (rw (← given-ok x))
    go (some k) x = never cc
directed-new end s o c q h e = go o.cursor e
  where
    go : (k : Option Cursor) → ◌≡◌ {A = Outcome Pass1State} (elim k [ none ↦ refuse 23 s.place | some k ↦ closed k s.place o ]) (ok c) → New s o o c
    go none x = never cc
    go (some k) x = stays s o c (closed-relocs k s.place o c x)
directed-new external s o c q h e = go s.target e
  where
    go : (t : Option Target) → ◌≡◌ {A = Outcome Pass1State} (elim t [
      | none ↦ ok o
      | some t ↦ add_label outer s.place t.name o.symbols >>= λ ss. ok (with_symbols ss o)
    ]) (ok c) → New s o o c
    go none x = stays s o c (rw (← given-ok x))
    go (some t) x = let u = gave (add_label outer s.place t.name o.symbols) _ c x in stays s o c (rw (← given-ok u.then'))
directed-new fill s o c q h e = go s.target refl e
  where
    go : (t : Option Target) → s.target ≡ t → ◌≡◌ {A = Outcome Pass1State} (elim t [ none ↦ ok o | some t ↦ filled t.name s.place o ]) (ok c) → New s o o c
    go none i x = stays s o c (rw (← given-ok x))
    go (some t) i x = filled-new s t o c q i h x

-- of a whole step
pub step-new : (s : Stmt) (ss : List Stmt) (o f : Pass1State) (v : Step s ss o f) → Sorted nat_order o.relocs → (x : ℕ) (n : Name) → look nat_order v.next.relocs x ≡ some n → (look nat_order o.relocs x ≡ some n) ⊎ Filled s o v.named.symbols x
step-new s ss o f v h x n e =
    let l = labels-relocs s.labels s.place o v.named v.labels in
    let m = labels-same s.labels s.place o v.named v.labels in
    let a = advanced-still (word_len s.op s) s.place v.told v.next v.advances in
    go l m (directed-new s.op s v.named v.told refl (rw l h) v.directs x n (rw (← a.1) e))
  where
    go : v.named.relocs ≡ o.relocs → Same o v.named → (look nat_order v.named.relocs x ≡ some n) ⊎ Filled s v.named v.named.symbols x → (look nat_order o.relocs x ≡ some n) ⊎ Filled s o v.named.symbols x
    go l m (inl q) = inl (rw l at q)
    go l m (inr q) = inr (record { op = q.op; target = q.target; aims = q.aims; block = q.block; open' = sym m.cursor ∙ q.open'; here = q.here; outside = q.outside })
