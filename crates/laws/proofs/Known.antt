-- What always holds of pass one's tables: sorted, within their capacities, names and addresses as an object has them, and each relocation's name external. Assumes nothing.
use mathlib.Core.Path.{◌≡◌, refl, sym, ◌∙◌, ap}
use mathlib.Core.Bool.{Bool, true, false, ◌||◌}
use mathlib.Core.List.{List, [], ◌∷◌}
use mathlib.Core.Option.{Option, none, some}
use Prim.Native.Nat.{ℕ, zero, suc, ◌+◌, ◌-◌, ◌≤◌, ◌<◌}
use native.Mathlib.Omega.{arith}
use lib.Dec.{eqb, leb, ltb}
use lib.ListN.{length}
use borrow.Author.Tests.{ltb-true}
use Rattle.rules.specs.Base.{when◌then◌else◌, Outcome, ok, refuse, refuse2, ◌>>=◌, Span, has}
use Rattle.rules.specs.Capacities.{block_room, label_room, reloc_room}
use Rattle.rules.specs.Words.{field, Op, instr, orig, fill, blkw, stringz, end, external}
use Rattle.rules.specs.Statements.{Stmt, Target}
use Rattle.rules.specs.Statements as S
use Rattle.rules.specs.Tables.{Table, Tri, less, same, more, Order, put, look, Sorted, insert, newer, nat_order, name_order}
use Rattle.rules.specs.Objects.{Lab, outer, defined, address_of, Name, good_name}
use Rattle.rules.specs.Passes.{Symbol, symbol, Cursor, Pass1State, pass1_state, pass1_start, with_cursor, with_symbols, with_relocs, word_len, add_label, add_labels, labelled, relocated, filled, closed, directed, advanced, pass_one}
use Rattle.rules.proofs.Gave.{gave}
use Rattle.laws.proofs.Steps.{shifted, Goes, Does, Step, step, ended}
use Rattle.rules.proofs.Tables.{none-some, join, sorted_insert, look-insert-here, look-insert-there, length-insert, look-there, look-low, low-down, lt-ne}
use Rattle.rules.proofs.Bools.{never}

-- a key that is there already adds no row
length-same : {K U : Type 0} (O : Order K) (f : U → U → U) (d : K × U) (t : Table K U) → Sorted O t → (look O t d.0 ≡ none → ⊥) → length (insert O f d t) ≡ length t
length-same O f d [] s h = absurd (h refl)
length-same O f d (e ∷ t) s h = go (length-same O f d t s.1) (O.tri d.0 e.0)
  where
    go : ((look O t d.0 ≡ none → ⊥) → length (insert O f d t) ≡ length t) → (c : Tri O.lt d.0 e.0) → length (put f d e t c (insert O f d t)) ≡ suc (length t)
    go ih (less l) = absurd (h (look-there O e t d.0 (lt-ne O d.0 e.0 l) ∙ look-low O d.0 t (low-down O d.0 e.0 t l s.0)))
    go ih (same l) = refl
    go ih (more l) = ap suc (ih (λ q. h (look-there O e t d.0 (λ p. lt-ne O e.0 d.0 l (sym p)) ∙ q)))

-- SYMBOLS

pub record SymbolsOk (t : Table Name Symbol) : Type 0 where
  pub up : Sorted name_order t
  pub few : length t ≤ label_room
  pub named : (n : Name) (s : Symbol) → look name_order t n ≡ some s → good_name n ≡ true
  pub low : (n : Name) (s : Symbol) → look name_order t n ≡ some s → address_of s.lab < 65536

-- what t says of a name, u says
abbrev pub Grew : Table Name Symbol → Table Name Symbol → Type 0
Grew t u = (n : Name) (s : Symbol) → look name_order t n ≡ some s → look name_order u n ≡ some s

pub record Grown (t u : Table Name Symbol) : Type 0 where
  pub ok' : SymbolsOk u
  pub grew : Grew t u

same_some : {A : Type 0} {x y : A} → ◌≡◌ {A = Option A} (some x) (some y) → x ≡ y
same_some e = cc

grown-same : (t : Table Name Symbol) → SymbolsOk t → Grown t t
grown-same t h = record { ok' = h; grew = λ n s e. e }

grown-new : (t : Table Name Symbol) (n : Name) (s : Symbol) → SymbolsOk t → look name_order t n ≡ none → length t < label_room → good_name n ≡ true → address_of s.lab < 65536 → Grown t (insert name_order newer (n, s) t)
grown-new t n s h e l g a = record {
  ok' = record {
    up = sorted_insert name_order newer (n, s) t h.up;
    few = omega (arith, l, length-insert name_order newer (n, s) t);
    named = λ m r q. by_name m r (name_order.tri m n) (λ p. rw p g) (λ p. h.named m r (sym (look-insert-there name_order newer (n, s) t m p) ∙ q));
    low = λ m r q. at_name m r q (name_order.tri m n);
  };
  grew = λ m r q. look-insert-there name_order newer (n, s) t m (λ p. none-some (sym e ∙ (ap (look name_order t) (sym p) ∙ q))) ∙ q;
}
  where
    by_name : (m : Name) (r : Symbol) → Tri name_order.lt m n → (m ≡ n → good_name m ≡ true) → ((m ≡ n → ⊥) → good_name m ≡ true) → good_name m ≡ true
    by_name m r (less p) x y = y (lt-ne name_order m n p)
    by_name m r (same p) x y = x p
    by_name m r (more p) x y = y (λ q. lt-ne name_order n m p (sym q))

    elsewhere : (m : Name) (r : Symbol) → look name_order (insert name_order newer (n, s) t) m ≡ some r → (m ≡ n → ⊥) → address_of r.lab < 65536
    elsewhere m r q p = h.low m r (sym (look-insert-there name_order newer (n, s) t m p) ∙ q)

    here : (m : Name) (r : Symbol) → look name_order (insert name_order newer (n, s) t) m ≡ some r → m ≡ n → address_of r.lab < 65536
    here m r q p =
        let x : look name_order (insert name_order newer (n, s) t) m ≡ join newer (some s) (look name_order t m) = look-insert-here name_order newer (n, s) t m p h.up in
        let y : look name_order t m ≡ none = ap (look name_order t) p ∙ e in
        let z : some s ≡ some r = sym (x ∙ ap (join newer (some s)) y) ∙ q in
        rw (← same_some z) a

    at_name : (m : Name) (r : Symbol) → look name_order (insert name_order newer (n, s) t) m ≡ some r → Tri name_order.lt m n → address_of r.lab < 65536
    at_name m r q (less p) = elsewhere m r q (lt-ne name_order m n p)
    at_name m r q (same p) = here m r q p
    at_name m r q (more p) = elsewhere m r q (λ z. lt-ne name_order n m p (sym z))

pub name-grows : (v : Lab) (p : Span) (n : S.Name) (t u : Table Name Symbol) → SymbolsOk t → good_name n.text ≡ true → address_of v < 65536 → add_label v p n t ≡ ok u → Grown t u
unfolding add_label when◌then◌else◌
name-grows v p n t u h g a e = go (look name_order t n.text) refl e
  where
    held : (b : Bool) (s : Symbol) → (when b then ok t else refuse2 25 s.place n.place) ≡ ok u → Grown t u
    held true s x = let q : t ≡ u = cc in rw (← q) (grown-same t h)
    held false s x = never cc

    new : (b : Bool) → ltb (length t) label_room ≡ b → look name_order t n.text ≡ none → (when b then ok (insert name_order newer (n.text, symbol v n.place) t) else refuse 40 p) ≡ ok u → Grown t u
    new true l q x = let i : insert name_order newer (n.text, symbol v n.place) t ≡ u = cc in rw (← i) (grown-new t n.text (symbol v n.place) h q (ltb-true (length t) label_room l) g a)
    new false l q x = never cc

    go : (o : Option Symbol) → look name_order t n.text ≡ o → ◌≡◌ {A = Outcome (Table Name Symbol)} (elim o [
      | some s ↦ when eqb (address_of s.lab) (address_of v) then ok t else refuse2 25 s.place n.place
      | none ↦ when ltb (length t) label_room then ok (insert name_order newer (n.text, symbol v n.place) t) else refuse 40 p
    ]) (ok u) → Grown t u
    go (some s) q x = held (eqb (address_of s.lab) (address_of v)) s x
    go none q x = new (ltb (length t) label_room) refl q x

-- names that an object may have
abbrev pub Names : List S.Name → Type 0
Names [] = Unit {0}
Names (n ∷ ns) = (good_name n.text ≡ true) × Names ns

pub names-grow : (a : ℕ) (p : Span) (ns : List S.Name) (t u : Table Name Symbol) → SymbolsOk t → Names ns → a < 65536 → add_labels a p ns t ≡ ok u → Grown t u
unfolding add_labels
names-grow a p [] t u h g l e = let q : t ≡ u = cc in rw (← q) (grown-same t h)
names-grow a p (n ∷ ns) t u h g l e =
    let v = gave (add_label (defined a) p n t) _ u e in
    let x = name-grows (defined a) p n t v.given' h g.0 l v.first in
    let y = names-grow a p ns v.given' u x.ok' g.1 l v.then' in
    record { ok' = y.ok'; grew = λ m s q. y.grew m s (x.grew m s q) }

-- THE STATE

-- what a table says of a name is that it is external
pub record Outside (o : Option Symbol) : Type 0 where
  pub symbol : Symbol
  pub is : o ≡ some symbol
  pub outside : symbol.lab ≡ outer

pub record Kept (o : Pass1State) : Type 0 where
  pub symbols : SymbolsOk o.symbols
  pub relocs_up : Sorted nat_order o.relocs
  pub few_relocs : length o.relocs ≤ reloc_room
  pub known : (x : ℕ) (n : Name) → look nat_order o.relocs x ≡ some n → Outside (look name_order o.symbols n)
  pub counter : (k : Cursor) → o.cursor ≡ some k → k.counter < 65536

-- each number is two bytes
abbrev pub Low : List ℕ → Type 0
Low [] = Unit {0}
Low (c ∷ cs) = (c < 65536) × Low cs

-- a statement with names that an object may have, and words of two bytes
pub record Sound (s : Stmt) : Type 0 where
  pub labels : Names s.labels
  pub target : (t : Target) → s.target ≡ some t → good_name t.name.text ≡ true
  pub bits : s.bits < 65536
  pub offset : (t : Target) → s.target ≡ some t → (d : ℕ) → s.bits + field t.field d < 65536
  pub chars : s.op ≡ stringz → Low s.chars

pub kept-start : Kept pass1_start
kept-start = record {
  symbols = record { up = tt; few = omega arith; named = λ n s e. absurd (none-some e); low = λ n s e. absurd (none-some e) };
  relocs_up = tt;
  few_relocs = omega arith;
  known = λ x n e. absurd (none-some e);
  counter = λ k e. absurd (none-some e);
}

-- the state with other symbols
kept-symbols : (o : Pass1State) (u : Table Name Symbol) → Kept o → Grown o.symbols u → Kept (with_symbols u o)
kept-symbols o u h g = record {
  symbols = g.ok';
  relocs_up = h.relocs_up;
  few_relocs = h.few_relocs;
  known = λ x n e. (let q = h.known x n e in record { symbol = q.symbol; is = g.grew n q.symbol q.is; outside = q.outside });
  counter = h.counter;
}

pub record Onward (o c : Pass1State) : Type 0 where
  pub kept : Kept c
  pub grew : Grew o.symbols c.symbols

onward-same : (o : Pass1State) → Kept o → Onward o o
onward-same o h = record { kept = h; grew = λ n s e. e }

onward-trans : (o a c : Pass1State) → Onward o a → Onward a c → Onward o c
onward-trans o a c x y = record { kept = y.kept; grew = λ n s e. y.grew n s (x.grew n s e) }

given-ok : {o c : Pass1State} → ok o ≡ ok c → o ≡ c
given-ok e = cc

labels-onward : (ls : List S.Name) (p : Span) (o c : Pass1State) → Kept o → Names ls → labelled ls p o ≡ ok c → Onward o c
unfolding labelled
labels-onward [] p o c h g e = rw (← given-ok e) (onward-same o h)
labels-onward (n ∷ ns) p o c h g e = go o.cursor refl e
  where
    go : (k : Option Cursor) → o.cursor ≡ k → ◌≡◌ {A = Outcome Pass1State} (elim k [
      | none ↦ refuse 20 n.place
      | some k ↦ add_labels k.counter p (n ∷ ns) o.symbols >>= λ ss. ok (with_symbols ss o)
    ]) (ok c) → Onward o c
    go none q x = never cc
    go (some k) q x =
        let u = gave (add_labels k.counter p (n ∷ ns) o.symbols) _ c x in
        let y = names-grow k.counter p (n ∷ ns) o.symbols u.given' h.symbols g (h.counter k q) u.first in
        rw (← given-ok u.then') (record { kept = kept-symbols o u.given' h y; grew = y.grew })

-- a relocation to an external
module _ (a : ℕ) (n : Name) (p : Span) (o c : Pass1State) (h : Kept o) (x : Outside (look name_order o.symbols n)) where
  relocs' : Table ℕ Name
  relocs' = insert nat_order newer (a, n) o.relocs

  few-after : (b d : Bool) → has (look nat_order o.relocs a) ≡ b → ltb (length o.relocs) reloc_room ≡ d → (b || d) ≡ true → length (insert nat_order newer (a, n) o.relocs) ≤ reloc_room
  few-after true d q r e = rw (length-same nat_order newer (a, n) o.relocs h.relocs_up (λ z. never (cc (sym q ∙ ap has z)))) h.few_relocs
  few-after false true q r e = omega (arith, ltb-true (length o.relocs) reloc_room r, length-insert nat_order newer (a, n) o.relocs)
  few-after false false q r e = never cc

  known-after : (y : ℕ) (m : Name) → look nat_order (insert nat_order newer (a, n) o.relocs) y ≡ some m → Tri nat_order.lt y a → Outside (look name_order o.symbols m)
  known-after y m e (less l) = h.known y m (sym (look-insert-there nat_order newer (a, n) o.relocs y (lt-ne nat_order y a l)) ∙ e)
  known-after y m e (more l) = h.known y m (sym (look-insert-there nat_order newer (a, n) o.relocs y (λ z. lt-ne nat_order a y l (sym z))) ∙ e)
  known-after y m e (same l) =
      let q : look nat_order (insert nat_order newer (a, n) o.relocs) y ≡ join newer (some n) (look nat_order o.relocs y) = look-insert-here nat_order newer (a, n) o.relocs y l h.relocs_up in
      rw (← go (look nat_order o.relocs y) (sym q ∙ e)) x
    where
      go : (r : Option Name) → join newer (some n) r ≡ some m → n ≡ m
      go none z = same_some z
      go (some k) z = same_some z

  relocated-onward : relocated a n p o ≡ ok c → Onward o c
  unfolding relocated when◌then◌else◌
  relocated-onward e = go (has (look nat_order o.relocs a) || ltb (length o.relocs) reloc_room) refl e
    where
      go : (b : Bool) → (has (look nat_order o.relocs a) || ltb (length o.relocs) reloc_room) ≡ b → (when b then ok (with_relocs (insert nat_order newer (a, n) o.relocs) o) else refuse 40 p) ≡ ok c → Onward o c
      go true q z = rw (← given-ok z) (record {
        kept = record {
          symbols = h.symbols;
          relocs_up = sorted_insert nat_order newer (a, n) o.relocs h.relocs_up;
          few_relocs = few-after (has (look nat_order o.relocs a)) (ltb (length o.relocs) reloc_room) refl refl q;
          known = λ y m w. known-after y m w (nat_order.tri y a);
          counter = h.counter;
        };
        grew = λ m s w. w;
      })
      go false q z = never cc

filled-onward : (n : S.Name) (p : Span) (o c : Pass1State) → Kept o → filled n p o ≡ ok c → Onward o c
unfolding filled
filled-onward n p o c h e = by-symbol (look name_order o.symbols n.text) refl e
  where
    by-cursor : (s : Symbol) → look name_order o.symbols n.text ≡ some s → s.lab ≡ outer → (k : Option Cursor) → ◌≡◌ {A = Outcome Pass1State} (elim k [ none ↦ refuse 21 p | some k ↦ relocated k.counter n.text p o ]) (ok c) → Onward o c
    by-cursor s q l none x = never cc
    by-cursor s q l (some k) x = relocated-onward k.counter n.text p o c h (record { symbol = s; is = q; outside = l }) x

    by-lab : (s : Symbol) → look name_order o.symbols n.text ≡ some s → (l : Lab) → s.lab ≡ l → ◌≡◌ {A = Outcome Pass1State} (elim l [ defined a ↦ ok o | outer ↦ elim o.cursor [ none ↦ refuse 21 p | some k ↦ relocated k.counter n.text p o ] ]) (ok c) → Onward o c
    by-lab s q (defined a) l x = rw (← given-ok x) (onward-same o h)
    by-lab s q outer l x = by-cursor s q l o.cursor x

    by-symbol : (m : Option Symbol) → look name_order o.symbols n.text ≡ m → ◌≡◌ {A = Outcome Pass1State} (elim m [
      | none ↦ ok o
      | some s ↦ elim s.lab [ defined a ↦ ok o | outer ↦ elim o.cursor [ none ↦ refuse 21 p | some k ↦ relocated k.counter n.text p o ] ]
    ]) (ok c) → Onward o c
    by-symbol none q x = rw (← given-ok x) (onward-same o h)
    by-symbol (some s) q x = by-lab s q s.lab refl x

-- A STEP

-- the tables are the same
record Still (o c : Pass1State) : Type 0 where
  pub symbols : c.symbols ≡ o.symbols
  pub relocs : c.relocs ≡ o.relocs

still-refl : (o : Pass1State) → Still o o
still-refl o = record { symbols = refl; relocs = refl }

closed-still : (k : Cursor) (p : Span) (o c : Pass1State) → closed k p o ≡ ok c → Still o c
unfolding closed when◌then◌else◌
closed-still k p o c e = by-empty (eqb k.counter k.start) e
  where
    by-room : (b : Bool) → (when b then ok (pass1_state none o.symbols o.relocs (o.blocks + 1) (o.words + (k.counter - k.start))) else refuse 40 p) ≡ ok c → Still o c
    by-room true x = rw (← given-ok x) (record { symbols = refl; relocs = refl })
    by-room false x = never cc

    by-empty : (b : Bool) → (when b then ok (with_cursor none o) else (when ltb o.blocks block_room then ok (pass1_state none o.symbols o.relocs (o.blocks + 1) (o.words + (k.counter - k.start))) else refuse 40 p)) ≡ ok c → Still o c
    by-empty true x = rw (← given-ok x) (record { symbols = refl; relocs = refl })
    by-empty false x = by-room (ltb o.blocks block_room) x

end-still : (s : Stmt) (o c : Pass1State) → directed end s o ≡ ok c → Still o c
unfolding directed
end-still s o c e = go o.cursor e
  where
    go : (k : Option Cursor) → ◌≡◌ {A = Outcome Pass1State} (elim k [ none ↦ refuse 23 s.place | some k ↦ closed k s.place o ]) (ok c) → Still o c
    go none x = never cc
    go (some k) x = closed-still k s.place o c x

orig-still : (s : Stmt) (o c : Pass1State) → directed orig s o ≡ ok c → Still o c
unfolding directed
orig-still s o c e = go o.cursor e
  where
    go : (k : Option Cursor) → ◌≡◌ {A = Outcome Pass1State} (elim k [
      | some k ↦ refuse2 24 k.place s.place
      | none ↦ ok (with_cursor (some (record { start = s.bits; counter = s.bits; place = s.place })) o)
    ]) (ok c) → Still o c
    go none x = rw (← given-ok x) (record { symbols = refl; relocs = refl })
    go (some k) x = never cc

pub advanced-still : (n : ℕ) (p : Span) (o c : Pass1State) → advanced n p o ≡ ok c → (c.symbols ≡ o.symbols) × (c.relocs ≡ o.relocs)
unfolding advanced when◌then◌else◌
advanced-still n p o c e = go o.cursor e
  where
    by-io : (b : Bool) → (when b then refuse 27 p else refuse 26 p) ≡ ok c → (c.symbols ≡ o.symbols) × (c.relocs ≡ o.relocs)
    by-io true x = never cc
    by-io false x = never cc

    by-low : (k : Cursor) (b : Bool) → (when b then ok (with_cursor (some (shifted n k)) o) else (when leb (k.counter + n) 0x10000 then refuse 27 p else refuse 26 p)) ≡ ok c → (c.symbols ≡ o.symbols) × (c.relocs ≡ o.relocs)
    by-low k true x = rw (← given-ok x) (refl, refl)
    by-low k false x = by-io (leb (k.counter + n) 0x10000) x

    by-none : (k : Cursor) (b : Bool) → (when b then ok o else (when leb (k.counter + n) 0xfe00 then ok (with_cursor (some (shifted n k)) o) else (when leb (k.counter + n) 0x10000 then refuse 27 p else refuse 26 p))) ≡ ok c → (c.symbols ≡ o.symbols) × (c.relocs ≡ o.relocs)
    by-none k true x = rw (← given-ok x) (refl, refl)
    by-none k false x = by-low k (leb (k.counter + n) 0xfe00) x

    go : (k : Option Cursor) → ◌≡◌ {A = Outcome Pass1State} (elim k [
      | none ↦ ok o
      | some k ↦ when eqb n 0 then ok o else (when leb (k.counter + n) 0xfe00 then ok (with_cursor (some (record { start = k.start; counter = k.counter + n; place = k.place })) o) else (when leb (k.counter + n) 0x10000 then refuse 27 p else refuse 26 p))
    ]) (ok c) → (c.symbols ≡ o.symbols) × (c.relocs ≡ o.relocs)
    go none x = rw (← given-ok x) (refl, refl)
    go (some k) x = by-none k (eqb n 0) x

-- the tables' part of what is kept
record Tables (o c : Pass1State) : Type 0 where
  pub symbols : SymbolsOk c.symbols
  pub relocs_up : Sorted nat_order c.relocs
  pub few_relocs : length c.relocs ≤ reloc_room
  pub known : (x : ℕ) (n : Name) → look nat_order c.relocs x ≡ some n → Outside (look name_order c.symbols n)
  pub grew : Grew o.symbols c.symbols

onward-tables : (o c : Pass1State) → Onward o c → Tables o c
onward-tables o c h = record { symbols = h.kept.symbols; relocs_up = h.kept.relocs_up; few_relocs = h.kept.few_relocs; known = h.kept.known; grew = h.grew }

still-tables : (o a c : Pass1State) → Tables o a → Still a c → Tables o c
still-tables o a c h q = record {
  symbols = rw q.symbols h.symbols;
  relocs_up = rw q.relocs h.relocs_up;
  few_relocs = rw q.relocs h.few_relocs;
  known = rw (q.symbols, q.relocs) h.known;
  grew = rw q.symbols h.grew;
}

trans-tables : (o a c : Pass1State) → Onward o a → Tables a c → Tables o c
trans-tables o a c x y = record { symbols = y.symbols; relocs_up = y.relocs_up; few_relocs = y.few_relocs; known = y.known; grew = λ n s e. y.grew n s (x.grew n s e) }

directed-tables : (p : Op) (s : Stmt) (o c : Pass1State) → Kept o → Sound s → directed p s o ≡ ok c → Tables o c
unfolding directed
directed-tables instr s o c h g e = rw (← given-ok e) (onward-tables o o (onward-same o h))
directed-tables blkw s o c h g e = rw (← given-ok e) (onward-tables o o (onward-same o h))
directed-tables stringz s o c h g e = rw (← given-ok e) (onward-tables o o (onward-same o h))
directed-tables orig s o c h g e = still-tables o o c (onward-tables o o (onward-same o h)) (orig-still s o c e)
directed-tables end s o c h g e = still-tables o o c (onward-tables o o (onward-same o h)) (end-still s o c e)
directed-tables external s o c h g e = go s.target refl e
  where
    go : (t : Option Target) → s.target ≡ t → ◌≡◌ {A = Outcome Pass1State} (elim t [
      | none ↦ ok o
      | some t ↦ add_label outer s.place t.name o.symbols >>= λ ss. ok (with_symbols ss o)
    ]) (ok c) → Tables o c
    go none q x = rw (← given-ok x) (onward-tables o o (onward-same o h))
    go (some t) q x =
        let u = gave (add_label outer s.place t.name o.symbols) _ c x in
        let y = name-grows outer s.place t.name o.symbols u.given' h.symbols (g.target t q) (omega arith) u.first in
        rw (← given-ok u.then') (onward-tables o _ (record { kept = kept-symbols o u.given' h y; grew = y.grew }))
directed-tables fill s o c h g e = go s.target e
  where
    go : (t : Option Target) → ◌≡◌ {A = Outcome Pass1State} (elim t [ none ↦ ok o | some t ↦ filled t.name s.place o ]) (ok c) → Tables o c
    go none x = rw (← given-ok x) (onward-tables o o (onward-same o h))
    go (some t) x = onward-tables o c (filled-onward t.name s.place o c h x)

abbrev Counter : Pass1State → Type 0
Counter o = (k : Cursor) → o.cursor ≡ some k → k.counter < 65536

goes-counter : (n : ℕ) (o c : Pass1State) → Counter o → Goes n o c → Counter c
goes-counter n o c h g k e = go o.cursor refl
  where
    by_size : (j : Cursor) → o.cursor ≡ some j → (m : ℕ) → n ≡ m → j.counter + n < 65536
    by_size j q zero z = let b = h j q in omega (arith, b, z)
    by_size j q (suc m) z = let b = g.low j q (omega (arith, z)) in omega (arith, b)

    go : (j : Option Cursor) → o.cursor ≡ j → k.counter < 65536
    go none q = absurd (none-some (sym (g.outside q) ∙ e))
    go (some j) q =
        let z : shifted n j ≡ k = same_some (sym (g.inside j q) ∙ e) in
        rw (← z) (by_size j q n refl)

does-counter : (p : Op) (s : Stmt) (o c : Pass1State) → s.bits < 65536 → Counter o → Does p s o c → Counter c
does-counter instr s o c b h g = goes-counter _ o c h g
does-counter fill s o c b h g = goes-counter _ o c h g
does-counter blkw s o c b h g = goes-counter _ o c h g
does-counter stringz s o c b h g = goes-counter _ o c h g
does-counter external s o c b h g = λ k e. h k (sym g.cursor ∙ e)
does-counter orig s o c b h g = λ k e. rw (← same_some (sym g.cursor ∙ e)) b
does-counter end s o c b h g = λ k e. absurd (none-some (sym g.cursor ∙ e))

pub kept_step : (s : Stmt) (ss : List Stmt) (o f : Pass1State) → Kept o → Sound s → (v : Step s ss o f) → Onward o v.next
kept_step s ss o f h g v =
    let a = labels-onward s.labels s.place o v.named h g.labels v.labels in
    let b = directed-tables s.op s v.named v.told a.kept g v.directs in
    let q = advanced-still (word_len s.op s) s.place v.told v.next v.advances in
    let c = still-tables o v.told v.next (trans-tables o v.named v.told a b) (record { symbols = q.0; relocs = q.1 }) in
    record {
      kept = record { symbols = c.symbols; relocs_up = c.relocs_up; few_relocs = c.few_relocs; known = c.known; counter = does-counter s.op s o v.next g.bits h.counter v.does };
      grew = c.grew;
    }

-- what is said once the labels are in stays
pub named-grew : (s : Stmt) (ss : List Stmt) (o f : Pass1State) → Kept o → Sound s → (v : Step s ss o f) → Grew v.named.symbols v.next.symbols
named-grew s ss o f h g v =
    let a = labels-onward s.labels s.place o v.named h g.labels v.labels in
    let b = directed-tables s.op s v.named v.told a.kept g v.directs in
    let q = advanced-still (word_len s.op s) s.place v.told v.next v.advances in
    (still-tables v.named v.told v.next b (record { symbols = q.0; relocs = q.1 })).grew

abbrev pub AllSound : List Stmt → Type 0
AllSound [] = Unit {0}
AllSound (s ∷ ss) = Sound s × AllSound ss

pub kept-all : (ss : List Stmt) (o f : Pass1State) → Kept o → AllSound ss → pass_one ss o ≡ ok f → Onward o f
kept-all [] o f h g e = rw (← (ended o f e).1) (onward-same o h)
kept-all (s ∷ ss) o f h g e =
    let v = step s ss o f e in
    let a = kept_step s ss o f h g.0 v in
    onward-trans o v.next f a (kept-all ss v.next f a.kept g.1 v.rest)
