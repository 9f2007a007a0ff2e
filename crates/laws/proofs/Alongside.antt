-- Pass two keeps step with pass one: the block that it writes has as many words as the counter has gone, so that room found in pass one is room in pass two. Assumes nothing.
use mathlib.Core.Path.{◌≡◌, refl, sym, ◌∙◌, subst}
use mathlib.Core.Bool.{Bool, true, false, ◌&&◌}
use mathlib.Core.List.{List, [], ◌∷◌, ◌++◌, map}
use mathlib.Core.Logic.{◌⊎◌, inl, inr}
use mathlib.Core.Option.{Option, none, some}
use Prim.Native.Nat.{ℕ, zero, suc, ◌+◌, ◌-◌, ◌≤◌, ◌<◌}
use native.Mathlib.Omega.{arith}
use lib.Dec.{eqb, leb, ltb}
use lib.ListN.{length, replicate, length-append, length-replicate, length-map}
use borrow.Author.Tests.{eqb-true, eqb-false, ltb-true, ltb-false}
use Rattle.rules.specs.Base.{when◌then◌else◌, Outcome, ok, refuse, refuse2, ◌>>=◌, Span}
use Rattle.rules.specs.Capacities.{block_room}
use Rattle.rules.specs.Words.{Op, instr, orig, fill, blkw, stringz, end, external}
use Rattle.rules.specs.Statements.{Stmt, Target}
use Rattle.rules.specs.Tables.{Table}
use Rattle.rules.specs.Objects.{Cell, unset, word, Name}
use Rattle.rules.specs.Passes.{Symbol, Cursor, Pass1State, pass1_start, word_len, pass_one, address, offset_to, words_of, ObjBlock, obj_block, Pass2State, pass2_state, pass2_start, ranges_overlap, overlapping, place, emit, finish, written}
use Rattle.rules.proofs.Gave.{gave}
use Rattle.rules.proofs.Bools.{never}
use Rattle.laws.proofs.Steps.{shifted, Same, Begins, Counted, Dropped, Ends, Goes, Does, Step, step, grows}

-- the words of blocks together
abbrev pub total : List ObjBlock → ℕ
total [] = 0
total (x ∷ xs) = length x.words + total xs

abbrev pub stop : ObjBlock → ℕ
stop x = x.start + length x.words

-- blocks by start, none before b, none empty, each ending where the next starts or before it, at most at xFE00
abbrev pub Apart : ℕ → List ObjBlock → Type 0
Apart b [] = Unit {0}
Apart b (x ∷ xs) = ((b ≤ x.start) × ((0 < length x.words) × (stop x ≤ 0xfe00))) × Apart (stop x) xs

abbrev pub All : (ObjBlock → Type 0) → List ObjBlock → Type 0
All P [] = Unit {0}
All P (x ∷ xs) = P x × All P xs

-- a block with words ends at or below xFE00
pub record Stands (k : Cursor) (x : ObjBlock) : Type 0 where
  pub start : k.start ≡ x.start
  pub counter : k.counter ≡ x.start + length x.words
  pub place : k.place ≡ x.place
  pub low : 0 < length x.words → x.start + length x.words ≤ 0xfe00

abbrev pub Level : Option Cursor → Option ObjBlock → Type 0
Level none none = Unit {0}
Level none (some x) = ⊥
Level (some k) none = ⊥
Level (some k) (some x) = Stands k x

pub record Alongside (o : Pass1State) (t : Pass2State) : Type 0 where
  pub level : Level o.cursor t.current
  pub blocks : o.blocks ≡ length t.blocks
  pub words : o.words ≡ total t.blocks
  pub few : length t.blocks ≤ block_room
  pub apart : Apart 0 t.blocks

pub along-start : Alongside pass1_start pass2_start
along-start = record { level = tt; blocks = refl; words = refl; few = omega arith; apart = tt }

-- a statement has as many words as it takes
pub words_size : (ss : Table Name Symbol) (a : ℕ) (p : Op) (s : Stmt) (ws : List Cell) → words_of ss a p s ≡ ok ws → length ws ≡ word_len p s
unfolding words_of word_len
words_size ss a orig s ws e = let q : [] ≡ ws = cc in rw (← q)
words_size ss a end s ws e = let q : [] ≡ ws = cc in rw (← q)
words_size ss a external s ws e = let q : [] ≡ ws = cc in rw (← q)
words_size ss a blkw s ws e = let q : replicate s.bits unset ≡ ws = cc in rw (← q) (length-replicate s.bits unset)
words_size ss a stringz s ws e = let q : map word (s.chars ++ 0 ∷ []) ≡ ws = cc in rw (← q) (length-map (s.chars ++ 0 ∷ []) word ∙ length-append s.chars (0 ∷ []))
words_size ss a fill s ws e = go s.target e
  where
    go : (t : Option Target) → ◌≡◌ {A = Outcome (List Cell)} (elim t [ none ↦ ok (word s.bits ∷ []) | some t ↦ address ss t.name >>= λ n. ok (word n ∷ []) ]) (ok ws) → length ws ≡ 1
    go none x = let q : word s.bits ∷ [] ≡ ws = cc in rw (← q)
    go (some t) x =
        let u = gave (address ss t.name) _ ws x in
        let q : word u.given' ∷ [] ≡ ws = cc u.then' in
        rw (← q)
words_size ss a instr s ws e = go s.target e
  where
    go : (t : Option Target) → ◌≡◌ {A = Outcome (List Cell)} (elim t [ none ↦ ok (word s.bits ∷ []) | some t ↦ offset_to ss (a + 1) t >>= λ n. ok (word (s.bits + n) ∷ []) ]) (ok ws) → length ws ≡ 1
    go none x = let q : word s.bits ∷ [] ≡ ws = cc in rw (← q)
    go (some t) x =
        let u = gave (offset_to ss (a + 1) t) _ ws x in
        let q : word (s.bits + u.given') ∷ [] ≡ ws = cc u.then' in
        rw (← q)

-- PLACING
-- some block passes
abbrev pub Any : (ObjBlock → Type 0) → List ObjBlock → Type 0
Any P [] = ⊥
Any P (x ∷ xs) = P x ⊎ Any P xs

never-overlaps : (p q : Span) (ys : List ObjBlock) → overlapping p q ≡ ok ys → ⊥
unfolding overlapping when◌then◌else◌
never-overlaps p q ys e = go (leb p.start q.start) e
  where
    go : (b : Bool) → ◌≡◌ {A = Outcome (List ObjBlock)} (when b then refuse2 28 p q else refuse2 28 q p) (ok ys) → ⊥
    go true x = never cc
    go false x = never cc

clear_of : (a n b m : ℕ) → ranges_overlap a n b m ≡ false → (b + m ≤ a) ⊎ (a + n ≤ b)
unfolding ranges_overlap
clear_of a n b m e = go (ltb a (b + m)) (ltb b (a + n)) refl refl e
  where
    go : (p q : Bool) → ltb a (b + m) ≡ p → ltb b (a + n) ≡ q → (p && q) ≡ false → (b + m ≤ a) ⊎ (a + n ≤ b)
    go true true h k x = never cc
    go true false h k x = inr (ltb-false b (a + n) k)
    go false q h k x = inl (ltb-false a (b + m) h)

-- ys are xs with x among them
pub record Put (x : ObjBlock) (xs ys : List ObjBlock) : Type 1 where
  pub count : length ys ≡ length xs + 1
  pub sum : total ys ≡ total xs + length x.words
  pub apart : (b : ℕ) → b ≤ x.start → 0 < length x.words → stop x ≤ 0xfe00 → Apart b xs → Apart b ys
  pub all : (P : ObjBlock → Type 0) → P x → All P xs → All P ys
  pub any : (P : ObjBlock → Type 0) → P x ⊎ Any P xs → Any P ys

put_first : (x : ObjBlock) → Put x [] (x ∷ [])
put_first x = record { count = refl; sum = omega arith; apart = λ b l f m h. ((l, (f, m)), tt); all = λ P p h. (p, tt); any = λ P h. h }

module _ (x y : ObjBlock) (xs : List ObjBlock) (c : ranges_overlap x.start (length x.words) y.start (length y.words) ≡ false) where
  put-before : x.start < y.start → Put x (y ∷ xs) (x ∷ y ∷ xs)
  put-before h = record {
    count = omega arith;
    sum = omega arith;
    apart = λ b l f m a. ((l, (f, m)), ((go (clear_of x.start (length x.words) y.start (length y.words) c) a.0.1.0, a.0.1), a.1));
    all = λ P p a. (p, a);
    any = λ P a. a;
  }
    where
      go : (stop y ≤ x.start) ⊎ (stop x ≤ y.start) → 0 < length y.words → stop x ≤ y.start
      go (inl l) f = absurd (omega (arith, l, f, h))
      go (inr l) f = l

  put-behind : (x.start < y.start → ⊥) → (zs : List ObjBlock) → Put x xs zs → Put x (y ∷ xs) (y ∷ zs)
  put-behind h zs i = record {
    count = omega (arith, i.count);
    sum = omega (arith, i.sum);
    apart = λ b l f m a. (a.0, i.apart (stop y) (go (clear_of x.start (length x.words) y.start (length y.words) c) f) f m a.1);
    all = λ P p a. (a.0, i.all P p a.1);
    any = λ P a. past P a;
  }
    where
      past : (P : ObjBlock → Type 0) → P x ⊎ (P y ⊎ Any P xs) → P y ⊎ Any P zs
      past P (inl a) = inr (i.any P (inl a))
      past P (inr (inl a)) = inl a
      past P (inr (inr a)) = inr (i.any P (inr a))

      go : (stop y ≤ x.start) ⊎ (stop x ≤ y.start) → 0 < length x.words → stop y ≤ x.start
      go (inl l) f = l
      go (inr l) f = absurd (h (omega (arith, l, f)))

pub place-puts : (x : ObjBlock) (xs ys : List ObjBlock) → place x xs ≡ ok ys → Put x xs ys
unfolding place when◌then◌else◌
place-puts x [] ys e = let q : x ∷ [] ≡ ys = cc in rw (← q) (put_first x)
place-puts x (y ∷ xs) ys e = by-overlap (place-puts x xs) (ranges_overlap x.start (length x.words) y.start (length y.words)) refl e
  where
    by-start : ((zs : List ObjBlock) → place x xs ≡ ok zs → Put x xs zs) → ranges_overlap x.start (length x.words) y.start (length y.words) ≡ false → (b : Bool) → ltb x.start y.start ≡ b → (when b then ok (x ∷ y ∷ xs) else (place x xs >>= λ zs. ok (y ∷ zs))) ≡ ok ys → Put x (y ∷ xs) ys
    by-start ih c true h e = let q : x ∷ y ∷ xs ≡ ys = cc in rw (← q) (put-before x y xs c (ltb-true x.start y.start h))
    by-start ih c false h e =
        let u = gave (place x xs) _ ys e in
        let q : y ∷ u.given' ≡ ys = cc u.then' in
        let l = ltb-false x.start y.start h in
        rw (← q) (put-behind x y xs c (λ z. omega (arith, l, z)) u.given' (ih u.given' u.first))

    by-overlap : ((zs : List ObjBlock) → place x xs ≡ ok zs → Put x xs zs) → (b : Bool) → ranges_overlap x.start (length x.words) y.start (length y.words) ≡ b → (when b then overlapping x.place y.place else (when ltb x.start y.start then ok (x ∷ y ∷ xs) else (place x xs >>= λ zs. ok (y ∷ zs)))) ≡ ok ys → Put x (y ∷ xs) ys
    by-overlap ih true c e = absurd (never-overlaps x.place y.place ys e)
    by-overlap ih false c e = by-start ih c (ltb x.start y.start) refl e

-- A STEP OF BOTH
pub record Onward (ss : List Stmt) (f : Pass1State) (u : Pass2State) : Type 0 where
  pub state : Pass1State
  pub rest : pass_one ss state ≡ ok f
  pub along : Alongside state u

-- a statement with words, in the open block
module _ (y : Table Name Symbol) (p : Op) (s : Stmt) (o c : Pass1State) (t u : Pass2State) (a : Alongside o t) (g : Goes (word_len p s) o c) where
  emit-along : ◌≡◌ {A = Outcome Pass2State} (elim t.current [
    | none ↦ refuse 21 s.place
    | some x ↦ words_of y (x.start + length x.words) p s >>= λ ws. ok (pass2_state (some (obj_block x.start (x.words ++ ws) x.place)) t.blocks)
  ]) (ok u) → Alongside c u
  emit-along e = by-block t.current o.cursor refl refl a.level e
    where
      stands : (k : Cursor) (x : ObjBlock) (ws : List Cell) → o.cursor ≡ some k → Stands k x → length ws ≡ word_len p s → Stands (shifted (word_len p s) k) (obj_block x.start (x.words ++ ws) x.place)
      stands k x ws q h l =
          let n = length-append x.words ws in
          record {
            start = h.start;
            counter = rw (n, l) (omega (arith, h.counter));
            place = h.place;
            low = rw (n, l) (λ z. go (word_len p s) refl z);
          }
        where
          go : (m : ℕ) → word_len p s ≡ m → 0 < length x.words + word_len p s → x.start + (length x.words + word_len p s) ≤ 0xfe00
          go zero e z = let b = h.low (omega (arith, e, z)) in omega (arith, e, b)
          go (suc m) e z = let b = g.low k q (omega (arith, e)) in omega (arith, b, h.counter)

      by-block : (x : Option ObjBlock) (k : Option Cursor) → t.current ≡ x → o.cursor ≡ k → Level k x → ◌≡◌ {A = Outcome Pass2State} (elim x [
        | none ↦ refuse 21 s.place
        | some x ↦ words_of y (x.start + length x.words) p s >>= λ ws. ok (pass2_state (some (obj_block x.start (x.words ++ ws) x.place)) t.blocks)
      ]) (ok u) → Alongside c u
      by-block none k q r h e = never cc
      by-block (some x) none q r h e = absurd h
      by-block (some x) (some k) q r h e =
          let v = gave (words_of y (x.start + length x.words) p s) _ u e in
          let i : pass2_state (some (obj_block x.start (x.words ++ v.given') x.place)) t.blocks ≡ u = cc v.then' in
          rw (← i) (record {
            level = rw (g.inside k r) (stands k x v.given' r h (words_size y (x.start + length x.words) p s v.given' v.first));
            blocks = g.blocks ∙ a.blocks;
            words = g.words ∙ a.words;
            few = a.few;
            apart = a.apart;
          })

module _ (s : Stmt) (o c : Pass1State) (t u : Pass2State) (a : Alongside o t) where
  orig-along : Begins s o c → ok (pass2_state (some (obj_block s.bits [] s.place)) t.blocks) ≡ ok u → Alongside c u
  orig-along g e =
      let i : pass2_state (some (obj_block s.bits [] s.place)) t.blocks ≡ u = cc in
      rw (← i) (record {
        level = rw g.cursor (record { start = refl; counter = omega arith; place = refl; low = λ l. absurd (omega (arith, l)) });
        blocks = g.blocks ∙ a.blocks;
        words = g.words ∙ a.words;
        few = a.few;
        apart = a.apart;
      })

  external-along : Same o c → ok t ≡ ok u → Alongside c u
  external-along g e = let i : t ≡ u = cc in rw (← i) (record { level = rw g.cursor a.level; blocks = g.blocks ∙ a.blocks; words = g.words ∙ a.words; few = a.few; apart = a.apart })

  module _ (x : ObjBlock) (q : t.current ≡ some x) (g : Ends o c) where
    at-end : Stands g.block x
    at-end = rw (g.before, q) at a.level

    dropped : Dropped g.block o c → length x.words ≡ 0
    dropped d = let h = at-end in omega (arith, d.empty, h.start, h.counter)

    counted : Counted g.block o c → length x.words ≡ 0 → ⊥
    counted d l = let h = at-end in d.some' (omega (arith, l, h.start, h.counter))

    end_empty : length x.words ≡ 0 → ok (pass2_state none t.blocks) ≡ ok u → Alongside c u
    end_empty l e =
        let i : pass2_state none t.blocks ≡ u = cc in
        rw (← i) (go g.counts)
      where
        go : Dropped g.block o c ⊎ Counted g.block o c → Alongside c (pass2_state none t.blocks)
        go (inl d) = record { level = rw g.cursor tt; blocks = d.blocks ∙ a.blocks; words = d.words ∙ a.words; few = a.few; apart = a.apart }
        go (inr d) = absurd (counted d l)

    end-full : (length x.words ≡ 0 → ⊥) → (place x t.blocks >>= λ bs. ok (pass2_state none bs)) ≡ ok u → Alongside c u
    end-full n e =
        let v = gave (place x t.blocks) _ u e in
        let i : pass2_state none v.given' ≡ u = cc v.then' in
        rw (← i) (go v.given' (place-puts x t.blocks v.given' v.first) g.counts)
      where
        go : (bs : List ObjBlock) → Put x t.blocks bs → Dropped g.block o c ⊎ Counted g.block o c → Alongside c (pass2_state none bs)
        go bs w (inl d) = absurd (n (dropped d))
        go bs w (inr d) =
            let h = at-end in
            record {
              level = rw g.cursor tt;
              blocks = omega (arith, d.blocks, a.blocks, w.count);
              words = omega (arith, d.words, a.words, w.sum, h.start, h.counter);
              few = omega (arith, d.few, a.blocks, w.count);
              apart = w.apart 0 (omega arith) (omega (arith, n)) (h.low (omega (arith, n))) a.apart;
            }

  end-along : Ends o c → finish t ≡ ok u → Alongside c u
  unfolding finish when◌then◌else◌
  end-along g e = by-block t.current refl e
    where
      by_size : (x : ObjBlock) → t.current ≡ some x → (b : Bool) → eqb (length x.words) 0 ≡ b → (when b then ok (pass2_state none t.blocks) else (place x t.blocks >>= λ bs. ok (pass2_state none bs))) ≡ ok u → Alongside c u
      by_size x q true h e = end_empty x q g (eqb-true (length x.words) 0 h) e
      by_size x q false h e = end-full x q g (eqb-false (length x.words) 0 h) e

      by-block : (x : Option ObjBlock) → t.current ≡ x → ◌≡◌ {A = Outcome Pass2State} (elim x [
        | none ↦ ok t
        | some x ↦ when eqb (length x.words) 0 then ok (pass2_state none t.blocks) else (place x t.blocks >>= λ bs. ok (pass2_state none bs))
      ]) (ok u) → Alongside c u
      by-block none q e = absurd (rw (g.before, q) at a.level)
      by-block (some x) q e = by_size x q (eqb (length x.words) 0) refl e

written-along : (y : Table Name Symbol) (p : Op) (s : Stmt) → s.op ≡ p → (o c : Pass1State) (t u : Pass2State) → Alongside o t → Does p s o c → written y p s t ≡ ok u → Alongside c u
unfolding written emit words_of
written-along y instr s q o c t u a g e = emit-along y instr s o c t u a g (rw q at e)
written-along y fill s q o c t u a g e = emit-along y fill s o c t u a g (rw q at e)
written-along y blkw s q o c t u a g e = emit-along y blkw s o c t u a g (rw q at e)
written-along y stringz s q o c t u a g e = emit-along y stringz s o c t u a g (rw q at e)
written-along y orig s q o c t u a g e = orig-along s o c t u a g e
written-along y end s q o c t u a g e = end-along s o c t u a g e
written-along y external s q o c t u a g e = external-along s o c t u a g e

-- pass two goes on as pass one went on
pub along-next : (y : Table Name Symbol) (s : Stmt) (ss : List Stmt) (o f : Pass1State) (t u : Pass2State) → Alongside o t → (e : pass_one (s ∷ ss) o ≡ ok f) → written y s.op s t ≡ ok u → Alongside (step s ss o f e).next u
along-next y s ss o f t u a e w = let v = step s ss o f e in written-along y s.op s refl o v.next t u a v.does w

pub along-step : (y : Table Name Symbol) (s : Stmt) (ss : List Stmt) (o f : Pass1State) (t u : Pass2State) → Alongside o t → pass_one (s ∷ ss) o ≡ ok f → written y s.op s t ≡ ok u → Onward ss f u
along-step y s ss o f t u a e w =
    let v = step s ss o f e in
    record { state = v.next; rest = v.rest; along = along-next y s ss o f t u a e w }

does-as : (s : Stmt) (o c : Pass1State) (p : Op) → s.op ≡ p → Does s.op s o c → Does p s o c
does-as s o c p q d = subst (λ (x : Op). Does x s o c) q d

goes-as : (s : Stmt) (o c : Pass1State) (p : Op) → s.op ≡ p → Goes (word_len p s) o c → Goes (word_len s.op s) o c
goes-as s o c p q d = subst (λ (x : Op). Goes (word_len x s) o c) (sym q) d

-- WHAT PASS TWO MAY RELY ON, where pass one accepts the statements still to come
module _ (s : Stmt) (ss : List Stmt) (o f : Pass1State) (t : Pass2State) (a : Alongside o t) (e : pass_one (s ∷ ss) o ≡ ok f) where
  -- a statement with words has room for them, below xFE00
  pub record Roomy (x : ObjBlock) : Type 0 where
    pub room : total t.blocks + (length x.words + word_len s.op s) ≤ f.words
    pub low : 0 < word_len s.op s → stop x + word_len s.op s ≤ 0xfe00

  roomy : (x : ObjBlock) → t.current ≡ some x → (v : Step s ss o f) → Goes (word_len s.op s) o v.next → Roomy x
  roomy x q v g = go o.cursor refl (rw q at a.level)
    where
      go : (k : Option Cursor) → o.cursor ≡ k → Level k (some x) → Roomy x
      go none r h = absurd h
      go (some k) r h =
          let l = rw (g.inside k r) at (grows ss v.next f v.rest) in
          record {
            room = omega (arith, l, g.words, a.words, h.start, h.counter);
            low = λ z. (let b = g.low k r z in omega (arith, b, h.counter));
          }

  along-roomy : (p : Op) → s.op ≡ p → ((v : Step s ss o f) → Does p s o v.next → Goes (word_len s.op s) o v.next) → (x : ObjBlock) → t.current ≡ some x → Roomy x
  along-roomy p q g x r = let v = step s ss o f e in roomy x r v (g v (does-as s o v.next p q v.does))

  pub instr-roomy : s.op ≡ instr → (x : ObjBlock) → t.current ≡ some x → Roomy x
  instr-roomy q = along-roomy instr q (λ v d. goes-as s o v.next instr q d)

  pub fill-roomy : s.op ≡ fill → (x : ObjBlock) → t.current ≡ some x → Roomy x
  fill-roomy q = along-roomy fill q (λ v d. goes-as s o v.next fill q d)

  pub blkw-roomy : s.op ≡ blkw → (x : ObjBlock) → t.current ≡ some x → Roomy x
  blkw-roomy q = along-roomy blkw q (λ v d. goes-as s o v.next blkw q d)

  pub stringz-roomy : s.op ≡ stringz → (x : ObjBlock) → t.current ≡ some x → Roomy x
  stringz-roomy q = along-roomy stringz q (λ v d. goes-as s o v.next stringz q d)

  -- at .end a block is open; one with words has a row, and ends at or below xFE00
  pub record Closable (x : ObjBlock) : Type 0 where
    pub few : 0 < length x.words → length t.blocks < block_room
    pub low : 0 < length x.words → stop x ≤ 0xfe00

  pub end-closable : s.op ≡ end → (x : ObjBlock) → t.current ≡ some x → Closable x
  end-closable q x r =
      let v = step s ss o f e in
      let d : Ends o v.next = does-as s o v.next end q v.does in
      go v d d.counts
    where
      go : (v : Step s ss o f) (d : Ends o v.next) → Dropped d.block o v.next ⊎ Counted d.block o v.next → Closable x
      go v d (inl h) = let l = dropped s o v.next t t a x r d h in record { few = λ z. absurd (omega (arith, z, l)); low = λ z. absurd (omega (arith, z, l)) }
      go v d (inr h) = record { few = λ z. rw (← a.blocks) h.few; low = (at-end s o v.next t t a x r d).low }

  -- at .orig none is open
  pub orig-outside : s.op ≡ orig → t.current ≡ none
  orig-outside q =
      let v = step s ss o f e in
      let d : Begins s o v.next = does-as s o v.next orig q v.does in
      go t.current refl (rw d.before at a.level)
    where
      go : (x : Option ObjBlock) → t.current ≡ x → Level none x → t.current ≡ none
      go none r h = r
      go (some x) r h = absurd h
