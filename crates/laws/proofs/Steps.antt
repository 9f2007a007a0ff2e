-- What one statement does in pass one beside the tables: to the open block and to the counts of blocks and words. Assumes nothing.
use mathlib.Core.Path.{◌≡◌, refl, sym, ◌∙◌, ap}
use mathlib.Core.Bool.{Bool, true, false, ◌||◌}
use mathlib.Core.List.{List, [], ◌∷◌}
use mathlib.Core.Logic.{◌⊎◌, inl, inr}
use mathlib.Core.Option.{Option, none, some}
use Prim.Native.Nat.{ℕ, ◌+◌, ◌-◌, ◌≤◌, ◌<◌}
use native.Mathlib.Omega.{arith}
use lib.Dec.{eqb, leb, ltb}
use lib.ListN.{length}
use borrow.Author.Tests.{eqb-true, eqb-false, leb-true, ltb-true}
use Rattle.rules.specs.Base.{when◌then◌else◌, Outcome, ok, refuse, refuse2, ◌>>=◌, Span, has}
use Rattle.rules.specs.Capacities.{block_room, reloc_room}
use Rattle.rules.specs.Words.{Op, instr, orig, fill, blkw, stringz, end, external}
use Rattle.rules.specs.Statements.{Stmt, Target}
use Rattle.rules.specs.Statements as S
use Rattle.rules.specs.Tables.{look, insert, newer, nat_order, name_order}
use Rattle.rules.specs.Objects.{Lab, outer, defined, Name}
use Rattle.rules.specs.Passes.{Symbol, Cursor, Pass1State, pass1_state, with_cursor, with_symbols, with_relocs, word_len, add_label, add_labels, labelled, relocated, filled, closed, directed, advanced, step_one, pass_one}
use Rattle.rules.proofs.Gave.{gave}
use Rattle.rules.proofs.Following.{pass_one-step}
use Rattle.rules.proofs.Bools.{never}

-- a cursor whose counter is n further
abbrev pub shifted : ℕ → Cursor → Cursor
shifted n k = record { start = k.start; counter = k.counter + n; place = k.place }

-- the open block and the counts are the same
pub record Same (o c : Pass1State) : Type 0 where
  pub cursor : c.cursor ≡ o.cursor
  pub blocks : c.blocks ≡ o.blocks
  pub words : c.words ≡ o.words

-- a block begins
pub record Begins (s : Stmt) (o c : Pass1State) : Type 0 where
  pub before : o.cursor ≡ none
  pub cursor : c.cursor ≡ some (record { start = s.bits; counter = s.bits; place = s.place })
  pub blocks : c.blocks ≡ o.blocks
  pub words : c.words ≡ o.words

-- a block ends, and counts where it has words
pub record Counted (k : Cursor) (o c : Pass1State) : Type 0 where
  pub few : o.blocks < block_room
  pub some' : k.counter ≡ k.start → ⊥
  pub blocks : c.blocks ≡ o.blocks + 1
  pub words : c.words ≡ o.words + (k.counter - k.start)

pub record Dropped (k : Cursor) (o c : Pass1State) : Type 0 where
  pub empty : k.counter ≡ k.start
  pub blocks : c.blocks ≡ o.blocks
  pub words : c.words ≡ o.words

pub record Ends (o c : Pass1State) : Type 0 where
  pub block : Cursor
  pub before : o.cursor ≡ some block
  pub cursor : c.cursor ≡ none
  pub counts : Dropped block o c ⊎ Counted block o c

-- the counter goes on by n, where a block is open, at most to xFE00
pub record Goes (n : ℕ) (o c : Pass1State) : Type 0 where
  pub outside : o.cursor ≡ none → c.cursor ≡ none
  pub inside : (k : Cursor) → o.cursor ≡ some k → c.cursor ≡ some (shifted n k)
  pub low : (k : Cursor) → o.cursor ≡ some k → 0 < n → k.counter + n ≤ 0xfe00
  pub blocks : c.blocks ≡ o.blocks
  pub words : c.words ≡ o.words

-- by what the statement does
abbrev pub Does : Op → Stmt → Pass1State → Pass1State → Type 0
Does instr s o c = Goes (word_len instr s) o c
Does fill s o c = Goes (word_len fill s) o c
Does blkw s o c = Goes (word_len blkw s) o c
Does stringz s o c = Goes (word_len stringz s) o c
Does orig s o c = Begins s o c
Does end s o c = Ends o c
Does external s o c = Same o c

same_refl : (o : Pass1State) → Same o o
same_refl o = record { cursor = refl; blocks = refl; words = refl }

given-ok : {o c : Pass1State} → ok o ≡ ok c → o ≡ c
given-ok e = cc

pub labels-same : (ls : List S.Name) (p : Span) (o c : Pass1State) → labelled ls p o ≡ ok c → Same o c
unfolding labelled
labels-same [] p o c e = rw (← given-ok e) (same_refl o)
labels-same (n ∷ ns) p o c e = go o.cursor refl e
  where
    go : (k : Option Cursor) → o.cursor ≡ k → ◌≡◌ {A = Outcome Pass1State} (elim k [
      | none ↦ refuse 20 n.place
      | some k ↦ add_labels k.counter p (n ∷ ns) o.symbols >>= λ ss. ok (with_symbols ss o)
    ]) (ok c) → Same o c
    go none q x = never cc
    go (some k) q x =
        let u = gave (add_labels k.counter p (n ∷ ns) o.symbols) _ c x in
        rw (← given-ok u.then') (record { cursor = refl; blocks = refl; words = refl })

relocated-same : (a : ℕ) (n : Name) (p : Span) (o c : Pass1State) → relocated a n p o ≡ ok c → Same o c
unfolding relocated when◌then◌else◌
relocated-same a n p o c e = go (has (look nat_order o.relocs a) || ltb (length o.relocs) reloc_room) e
  where
    go : (b : Bool) → (when b then ok (with_relocs (insert nat_order newer (a, n) o.relocs) o) else refuse 40 p) ≡ ok c → Same o c
    go true x = rw (← given-ok x) (record { cursor = refl; blocks = refl; words = refl })
    go false x = never cc

filled-same : (n : S.Name) (p : Span) (o c : Pass1State) → filled n p o ≡ ok c → Same o c
unfolding filled
filled-same n p o c e = by-symbol (look name_order o.symbols n.text) e
  where
    by-cursor : (k : Option Cursor) → ◌≡◌ {A = Outcome Pass1State} (elim k [ none ↦ refuse 21 p | some k ↦ relocated k.counter n.text p o ]) (ok c) → Same o c
    by-cursor none x = never cc
    by-cursor (some k) x = relocated-same k.counter n.text p o c x

    by-lab : (l : Lab) → ◌≡◌ {A = Outcome Pass1State} (elim l [ defined a ↦ ok o | outer ↦ elim o.cursor [ none ↦ refuse 21 p | some k ↦ relocated k.counter n.text p o ] ]) (ok c) → Same o c
    by-lab (defined a) x = rw (← given-ok x) (same_refl o)
    by-lab outer x = by-cursor o.cursor x

    by-symbol : (m : Option Symbol) → ◌≡◌ {A = Outcome Pass1State} (elim m [
      | none ↦ ok o
      | some s ↦ elim s.lab [ defined a ↦ ok o | outer ↦ elim o.cursor [ none ↦ refuse 21 p | some k ↦ relocated k.counter n.text p o ] ]
    ]) (ok c) → Same o c
    by-symbol none x = rw (← given-ok x) (same_refl o)
    by-symbol (some s) x = by-lab s.lab x

fill-same : (s : Stmt) (o c : Pass1State) → directed fill s o ≡ ok c → Same o c
unfolding directed
fill-same s o c e = go s.target e
  where
    go : (t : Option Target) → ◌≡◌ {A = Outcome Pass1State} (elim t [ none ↦ ok o | some t ↦ filled t.name s.place o ]) (ok c) → Same o c
    go none x = rw (← given-ok x) (same_refl o)
    go (some t) x = filled-same t.name s.place o c x

external-same : (s : Stmt) (o c : Pass1State) → directed external s o ≡ ok c → Same o c
unfolding directed
external-same s o c e = go s.target e
  where
    go : (t : Option Target) → ◌≡◌ {A = Outcome Pass1State} (elim t [
      | none ↦ ok o
      | some t ↦ add_label outer s.place t.name o.symbols >>= λ ss. ok (with_symbols ss o)
    ]) (ok c) → Same o c
    go none x = rw (← given-ok x) (same_refl o)
    go (some t) x =
        let u = gave (add_label outer s.place t.name o.symbols) _ c x in
        rw (← given-ok u.then') (record { cursor = refl; blocks = refl; words = refl })

orig-begins : (s : Stmt) (o c : Pass1State) → directed orig s o ≡ ok c → Begins s o c
unfolding directed
orig-begins s o c e = go o.cursor refl e
  where
    go : (k : Option Cursor) → o.cursor ≡ k → ◌≡◌ {A = Outcome Pass1State} (elim k [
      | some k ↦ refuse2 24 k.place s.place
      | none ↦ ok (with_cursor (some (record { start = s.bits; counter = s.bits; place = s.place })) o)
    ]) (ok c) → Begins s o c
    go none q x = rw (← given-ok x) (record { before = q; cursor = refl; blocks = refl; words = refl })
    go (some k) q x = never cc

module _ (k : Cursor) (p : Span) (o c : Pass1State) (q : o.cursor ≡ some k) where
  closed-ends : closed k p o ≡ ok c → Ends o c
  unfolding closed when◌then◌else◌
  closed-ends e = by-empty (eqb k.counter k.start) refl e
    where
      by-room : (b : Bool) → ltb o.blocks block_room ≡ b → (k.counter ≡ k.start → ⊥) → (when b then ok (pass1_state none o.symbols o.relocs (o.blocks + 1) (o.words + (k.counter - k.start))) else refuse 40 p) ≡ ok c → Ends o c
      by-room true h n x = rw (← given-ok x) (record { block = k; before = q; cursor = refl; counts = inr (record { few = ltb-true o.blocks block_room h; some' = n; blocks = refl; words = refl }) })
      by-room false h n x = never cc

      by-empty : (b : Bool) → eqb k.counter k.start ≡ b → (when b then ok (with_cursor none o) else (when ltb o.blocks block_room then ok (pass1_state none o.symbols o.relocs (o.blocks + 1) (o.words + (k.counter - k.start))) else refuse 40 p)) ≡ ok c → Ends o c
      by-empty true h x = rw (← given-ok x) (record { block = k; before = q; cursor = refl; counts = inl (record { empty = eqb-true k.counter k.start h; blocks = refl; words = refl }) })
      by-empty false h x = by-room (ltb o.blocks block_room) refl (eqb-false k.counter k.start h) x

end-ends : (s : Stmt) (o c : Pass1State) → directed end s o ≡ ok c → Ends o c
unfolding directed
end-ends s o c e = go o.cursor refl e
  where
    go : (k : Option Cursor) → o.cursor ≡ k → ◌≡◌ {A = Outcome Pass1State} (elim k [ none ↦ refuse 23 s.place | some k ↦ closed k s.place o ]) (ok c) → Ends o c
    go none q x = never cc
    go (some k) q x = closed-ends k s.place o c q x

module _ (n : ℕ) (p : Span) (o c : Pass1State) where
  advanced-goes : advanced n p o ≡ ok c → Goes n o c
  unfolding advanced when◌then◌else◌
  advanced-goes e = go o.cursor refl e
    where
      stay : (k : Option Cursor) → o.cursor ≡ k → n ≡ 0 → o ≡ c → Goes n o c
      stay k q z x = rw (← x) (record {
        outside = λ h. h;
        inside = λ j h. h ∙ ap (λ (m : ℕ). some (record { start = j.start; counter = m; place = j.place })) (omega (arith, z));
        low = λ j h l. absurd (omega (arith, z));
        blocks = refl;
        words = refl;
      })

      by-io : (k : Cursor) → (b : Bool) → (when b then refuse 27 p else refuse 26 p) ≡ ok c → Goes n o c
      by-io k true x = never cc
      by-io k false x = never cc

      by-low : (k : Cursor) → o.cursor ≡ some k → (b : Bool) → leb (k.counter + n) 0xfe00 ≡ b → (when b then ok (with_cursor (some (shifted n k)) o) else (when leb (k.counter + n) 0x10000 then refuse 27 p else refuse 26 p)) ≡ ok c → Goes n o c
      by-low k q true h x = rw (← given-ok x) (record {
        outside = λ z. (let y : ◌≡◌ {A = Option Cursor} none (some k) = sym z ∙ q in never cc);
        inside = λ j z. (let y : k ≡ j = cc in rw y);
        low = λ j z l. (let y : k ≡ j = cc in rw (← y) (leb-true (k.counter + n) 0xfe00 h));
        blocks = refl;
        words = refl;
      })
      by-low k q false h x = by-io k (leb (k.counter + n) 0x10000) x

      by-none : (k : Cursor) → o.cursor ≡ some k → (b : Bool) → eqb n 0 ≡ b → (when b then ok o else (when leb (k.counter + n) 0xfe00 then ok (with_cursor (some (shifted n k)) o) else (when leb (k.counter + n) 0x10000 then refuse 27 p else refuse 26 p))) ≡ ok c → Goes n o c
      by-none k q true h x = stay (some k) q (eqb-true n 0 h) (given-ok x)
      by-none k q false h x = by-low k q (leb (k.counter + n) 0xfe00) refl x

      go : (k : Option Cursor) → o.cursor ≡ k → ◌≡◌ {A = Outcome Pass1State} (elim k [
        | none ↦ ok o
        | some k ↦ when eqb n 0 then ok o else (when leb (k.counter + n) 0xfe00 then ok (with_cursor (some (record { start = k.start; counter = k.counter + n; place = k.place })) o) else (when leb (k.counter + n) 0x10000 then refuse 27 p else refuse 26 p))
      ]) (ok c) → Goes n o c
      go none q x = rw (← given-ok x) (record {
        outside = λ h. h;
        inside = λ j h. (let y : ◌≡◌ {A = Option Cursor} none (some j) = sym q ∙ h in never cc);
        low = λ j h l. (let y : ◌≡◌ {A = Option Cursor} none (some j) = sym q ∙ h in never cc);
        blocks = refl;
        words = refl;
      })
      go (some k) q x = by-none k q (eqb n 0) refl x

-- ONE STATEMENT

same-goes : (n : ℕ) (o a c : Pass1State) → Same o a → Goes n a c → Goes n o c
same-goes n o a c m g = record {
  outside = λ h. g.outside (m.cursor ∙ h);
  inside = λ k h. g.inside k (m.cursor ∙ h);
  low = λ k h l. g.low k (m.cursor ∙ h) l;
  blocks = g.blocks ∙ m.blocks;
  words = g.words ∙ m.words;
}

same-trans : (o a c : Pass1State) → Same o a → Same a c → Same o c
same-trans o a c m g = record { cursor = g.cursor ∙ m.cursor; blocks = g.blocks ∙ m.blocks; words = g.words ∙ m.words }

-- a size of 0 changes nothing
goes_none : (o c : Pass1State) → Goes 0 o c → Same o c
goes_none o c g = go o.cursor refl
  where
    go : (k : Option Cursor) → o.cursor ≡ k → Same o c
    go none q = record { cursor = g.outside q ∙ sym q; blocks = g.blocks; words = g.words }
    go (some k) q =
        let e : shifted 0 k ≡ k = ap (λ (m : ℕ). record { start = k.start; counter = m; place = k.place }) (omega arith) in
        record { cursor = g.inside k q ∙ (ap (λ (m : Cursor). some m) e ∙ sym q); blocks = g.blocks; words = g.words }

begins-through : (s : Stmt) (o a b c : Pass1State) → Same o a → Begins s a b → Same b c → Begins s o c
begins-through s o a b c m g n = record { before = sym m.cursor ∙ g.before; cursor = n.cursor ∙ g.cursor; blocks = n.blocks ∙ (g.blocks ∙ m.blocks); words = n.words ∙ (g.words ∙ m.words) }

ends_through : (o a b c : Pass1State) → Same o a → Ends a b → Same b c → Ends o c
ends_through o a b c m g n = record { block = g.block; before = sym m.cursor ∙ g.before; cursor = n.cursor ∙ g.cursor; counts = go g.counts }
  where
    go : Dropped g.block a b ⊎ Counted g.block a b → Dropped g.block o c ⊎ Counted g.block o c
    go (inl d) = inl (record { empty = d.empty; blocks = n.blocks ∙ (d.blocks ∙ m.blocks); words = n.words ∙ (d.words ∙ m.words) })
    go (inr d) = inr (record {
      few = rw (← m.blocks) d.few;
      some' = d.some';
      blocks = n.blocks ∙ (d.blocks ∙ ap (λ (x : ℕ). x + 1) m.blocks);
      words = n.words ∙ (d.words ∙ ap (λ (x : ℕ). x + (g.block.counter - g.block.start)) m.words);
    })

does : (p : Op) (s : Stmt) (o a b c : Pass1State) → Same o a → directed p s a ≡ ok b → Goes (word_len p s) b c → Does p s o c
unfolding word_len directed
does instr s o a b c m e g = same-goes _ o b c (rw (← given-ok e) m) g
does blkw s o a b c m e g = same-goes _ o b c (rw (← given-ok e) m) g
does stringz s o a b c m e g = same-goes _ o b c (rw (← given-ok e) m) g
does fill s o a b c m e g = same-goes _ o b c (same-trans o a b m (fill-same s a b e)) g
does external s o a b c m e g = same-trans o b c (same-trans o a b m (external-same s a b e)) (goes_none b c g)
does orig s o a b c m e g = begins-through s o a b c m (orig-begins s a b e) (goes_none b c g)
does end s o a b c m e g = ends_through o a b c m (end-ends s a b e) (goes_none b c g)

pub record Step (s : Stmt) (ss : List Stmt) (o f : Pass1State) : Type 0 where
  pub named : Pass1State
  pub told : Pass1State
  pub next : Pass1State
  pub labels : labelled s.labels s.place o ≡ ok named
  pub directs : directed s.op s named ≡ ok told
  pub advances : advanced (word_len s.op s) s.place told ≡ ok next
  pub does : Does s.op s o next
  pub rest : pass_one ss next ≡ ok f

pub step : (s : Stmt) (ss : List Stmt) (o f : Pass1State) → pass_one (s ∷ ss) o ≡ ok f → Step s ss o f
unfolding step_one
step s ss o f e =
    let w = gave (step_one s o) (pass_one ss) f (sym (pass_one-step s ss o) ∙ e) in
    let u = gave (labelled s.labels s.place o) _ w.given' w.first in
    let v = gave (directed s.op s u.given') _ w.given' u.then' in
    record {
      named = u.given';
      told = v.given';
      next = w.given';
      labels = u.first;
      directs = v.first;
      advances = v.then';
      does = does s.op s o u.given' v.given' w.given' (labels-same s.labels s.place o u.given' u.first) v.first (advanced-goes (word_len s.op s) s.place v.given' w.given' v.then');
      rest = w.then';
    }

-- pass one ends with no block open
pub ended : (o f : Pass1State) → pass_one [] o ≡ ok f → (o.cursor ≡ none) × (o ≡ f)
unfolding pass_one
ended o f e = go o.cursor refl e
  where
    go : (k : Option Cursor) → o.cursor ≡ k → ◌≡◌ {A = Outcome Pass1State} (elim k [ none ↦ ok o | some c ↦ refuse 22 c.place ]) (ok f) → (o.cursor ≡ none) × (o ≡ f)
    go none q x = (q, given-ok x)
    go (some k) q x = never cc

-- GROWTH: the words counted and those of the open block never get fewer

abbrev pub open_size : Option Cursor → ℕ
open_size none = 0
open_size (some k) = k.counter - k.start

abbrev pub reached : Pass1State → ℕ
reached o = o.words + open_size o.cursor

module _ (o c : Pass1State) where
  goes-grows : (n : ℕ) → Goes n o c → reached o ≤ reached c
  goes-grows n g = go o.cursor refl
    where
      go : (k : Option Cursor) → o.cursor ≡ k → o.words + open_size o.cursor ≤ c.words + open_size c.cursor
      go none q = rw (q, g.outside q, g.words) (omega arith)
      go (some k) q = rw (q, g.inside k q, g.words) (omega arith)

  same_grows : Same o c → reached o ≤ reached c
  same_grows g = rw (g.cursor, g.words) (omega arith)

  does-grows : (p : Op) (s : Stmt) → Does p s o c → reached o ≤ reached c
  does-grows instr s g = goes-grows _ g
  does-grows fill s g = goes-grows _ g
  does-grows blkw s g = goes-grows _ g
  does-grows stringz s g = goes-grows _ g
  does-grows external s g = same_grows g
  does-grows orig s g = rw (g.before, g.cursor, g.words) (omega arith)
  does-grows end s g = go g.counts
    where
      go : Dropped g.block o c ⊎ Counted g.block o c → o.words + open_size o.cursor ≤ c.words + open_size c.cursor
      go (inl d) = rw (g.before, g.cursor, d.words) (omega (arith, d.empty))
      go (inr d) = rw (g.before, g.cursor, d.words) (omega arith)

pub grows : (ss : List Stmt) (o f : Pass1State) → pass_one ss o ≡ ok f → reached o ≤ f.words
grows [] o f e =
    let u = ended o f e in
    rw (u.0, ← u.1) (omega arith)
grows (s ∷ ss) o f e =
    let u = step s ss o f e in
    let l = does-grows o u.next s.op s u.does in
    let m = grows ss u.next f u.rest in
    omega (arith, l, m)
