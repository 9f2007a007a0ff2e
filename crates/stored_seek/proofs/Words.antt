-- The word at an address, looked for field by field: what each field says, and that the search goes on or ends. Assumes nothing.
use mathlib.Core.Path.{◌≡◌, refl, sym, ◌∙◌, ap, subst}
use mathlib.Core.Bool.{Bool, false}
use mathlib.Core.List.{List, [], ◌∷◌, ◌++◌}
use mathlib.Core.Option.{none, some}
use Prim.Native.Nat.{ℕ, zero, suc, ◌+◌, ◌-◌, ◌*◌, ◌/◌, ◌≤◌, ◌<◌}
use native.Mathlib.Omega.{arith}
use lib.ListN.{length, get_or}
use lib.Dec.{eqb}
use borrow.Author.Tests.{lt-leb, le-leb, lt-ltb, le-ltb}
use Rattle.rules.specs.Objects.{outer, defined}
use Rattle.rules.specs.Stored.{Run, sets, gap, Item, fin, block, run, label, reloc, size, pair, pairs, content, State, is_zero, field_at}
use Rattle.rules.proofs.Bools.{never}
use Rattle.laws_stored.specs.Offsets.{number_at, part_at}
use Rattle.laws_stored.specs.Lookups.{word_in, cell_of}
use Rattle.laws_stored.proofs.Framed.{Says, all-bytes, content-meant, field-bytes, whole}
use Rattle.laws_stored.proofs.Contents.{length_part, number-part}
use Rattle.laws_stored.proofs.Taken.{so_far}
use Rattle.laws_stored.proofs.Lookups.{word-so-far}
use Rattle.laws_stored.proofs.Walked.{Walks, walks-found, walks_more, walks-end, walks_less}
use Rattle.stored_read.specs.Told.{told}
use Rattle.stored_read.specs.declared.Field.{Field}
use Rattle.stored_read.specs.declared.Field.TheVariants.{Over, CutShort, Found}
use Rattle.stored_read.proofs.Found.{Stands, says-over, says-short, says-found}
use Rattle.stored_seek.specs.declared.Pace.{Pace}
use Rattle.stored_seek.specs.declared.Pace.TheVariants.{Past, Here}
use Rattle.stored_seek.specs.Seeking.{Rising, Seeker, Seeks, Paced, Paces}

-- WORDS OF FIELDS

-- below the next word's address there is none
rising_none : (p : ℕ) (is : List Item) (a : ℕ) → Rising p is → a < p → word_in p is a ≡ none
unfolding Rising word_in
rising_none p [] a h l = refl
rising_none p (fin ∷ is) a h l = rising_none p is a h l
rising_none p (block s n ∷ is) a h l = rising_none s is a h.1 (omega (arith, h.0))
rising_none p (run r ∷ is) a h l = rw (lt-leb p a l, word_in) (rising_none (p + size r) is a h (omega arith))
rising_none p (label n v ∷ is) a h l = rising_none p is a h l
rising_none p (reloc x n ∷ is) a h l = rising_none p is a h l

-- a run's words
word-there : (p : ℕ) (r : Run) (is : List Item) (a : ℕ) → p ≤ a → a < p + size r → word_in p (run r ∷ is) a ≡ some (cell_of r (a - p))
unfolding word_in
word-there p r is a l m = rw (le-leb p a l, lt-ltb a (p + size r) m, word_in) refl

-- and what comes behind it
word-behind : (p : ℕ) (r : Run) (is : List Item) (a : ℕ) → p + size r ≤ a → word_in p (run r ∷ is) a ≡ word_in (p + size r) is a
unfolding word_in
word-behind p r is a l = rw (le-leb p a (omega arith), le-ltb a (p + size r) l, word_in) refl

-- NUMBERS OF A FIELD'S CONTENT

pairs-length : (ws : List ℕ) → length (pairs ws) ≡ length ws * 2
pairs-length [] = refl
pairs-length (w ∷ ws) = omega (arith, pairs-length ws)

pairs-at : (ws : List ℕ) (k : ℕ) → k < length ws → number_at (pairs ws) (k * 2) ≡ get_or ws k 0
pairs-at [] k l = absurd (omega arith)
pairs-at (w ∷ ws) zero l = whole w
pairs-at (w ∷ ws) (suc k) l =
    let e : suc k * 2 ≡ suc (suc (k * 2)) = omega arith in
    let f : suc (suc (k * 2)) + 1 ≡ suc (suc (k * 2 + 1)) = omega arith in
    rw (e, f) (pairs-at ws k (omega arith))

-- WHAT A FIELD SAYS, by its tag: a block's start, a run's words, or nothing of words
data Kinds (b : List ℕ) (st z t : ℕ) (i : Item) : Type 0 where
  of-block : (a n : ℕ) → i ≡ block a n → t ≡ 1 → st + 2 ≤ length b → number_at b st ≡ a → Kinds b st z t i
  of-sets : (ws : List ℕ) → i ≡ run (sets ws) → t ≡ 2 → length ws * 2 ≡ z - st → ((k : ℕ) → k < length ws → number_at b (st + k * 2) ≡ get_or ws k 0) → Kinds b st z t i
  of-gap : (n : ℕ) → i ≡ run (gap n) → t ≡ 3 → st + 2 ≤ length b → number_at b st ≡ n → Kinds b st z t i
  of_other : (t ≡ 1 → ⊥) → (t ≡ 2 → ⊥) → (t ≡ 3 → ⊥) → ((p : ℕ) (is : List Item) (a : ℕ) → word_in p (i ∷ is) a ≡ word_in p is a) → ((p : ℕ) (is : List Item) → Rising p (i ∷ is) → Rising p is) → Kinds b st z t i

module _ (b : List ℕ) (st z t : ℕ) (order : st ≤ z) (within : z ≤ length b) where
  part-size : length (part_at b st (z - st)) ≡ z - st
  part-size = length_part b st (z - st) (omega arith)

  -- the number that a content begins with
  leading : (a : ℕ) (c : List ℕ) → pair a ++ c ≡ part_at b st (z - st) → number_at b st ≡ a
  leading a c e =
      let l : 2 ≤ z - st = omega (arith, ap length e, part-size) in
      let q : st + 0 ≡ st = omega arith in
      rw q at (sym (number-part b st (z - st) 0 (omega arith))) ∙ (ap (λ (y : List ℕ). number_at y 0) (sym e) ∙ whole a)

  long : (a : ℕ) (c : List ℕ) → pair a ++ c ≡ part_at b st (z - st) → st + 2 ≤ length b
  long a c e = omega (arith, ap length e, part-size)

  kinds : (i : Item) → Says t (part_at b st (z - st)) i → Kinds b st z t i
  unfolding word_in Rising
  kinds fin h = of_other (λ q. omega (arith, h.tag)) (λ q. omega (arith, h.tag)) (λ q. omega (arith, h.tag)) (λ p is a. refl) (λ p is r. r)
  kinds (block a n) h = of-block a n refl (sym h.tag) (long a (pair n) h.body) (leading a (pair n) h.body)
  kinds (run (sets ws)) h =
      of-sets ws refl (sym h.tag) (omega (arith, pairs-length ws, ap length h.body, part-size))
      (λ k l. sym (number-part b st (z - st) (k * 2) (omega (arith, pairs-length ws, ap length h.body, part-size))) ∙ (ap (λ (y : List ℕ). number_at y (k * 2)) (sym h.body) ∙ pairs-at ws k l))
  kinds (run (gap n)) h = of-gap n refl (sym h.tag) (long n [] h.body) (leading n [] h.body)
  kinds (label n (defined a)) h = of_other (λ q. omega (arith, h.tag)) (λ q. omega (arith, h.tag)) (λ q. omega (arith, h.tag)) (λ p is a. refl) (λ p is r. r)
  kinds (label n outer) h = of_other (λ q. omega (arith, h.tag)) (λ q. omega (arith, h.tag)) (λ q. omega (arith, h.tag)) (λ p is a. refl) (λ p is r. r)
  kinds (reloc x n) h = of_other (λ q. omega (arith, h.tag)) (λ q. omega (arith, h.tag)) (λ q. omega (arith, h.tag)) (λ p is a. refl) (λ p is r. r)

-- THE ITEM AT THE SEARCH'S POSITION

record Sees (b : List ℕ) (s : State) (end at here least wanted : ℕ) : Type 0 where
  pub item : Item
  pub rest : List Item
  pub walks : Walks s at (item ∷ rest)
  pub rising : Rising here (item ∷ rest)
  pub same : (a : ℕ) → least ≤ a → word_in 0 (so_far s) a ≡ word_in here (item ∷ rest) a

sees : (b : List ℕ) (s : State) (end at here least wanted : ℕ) → Seeker b s end at here least wanted → at < end → Sees b s end at here least wanted
sees b s end at here least wanted k l = go k.cursor.rest k.cursor.walks k.cursor.rising k.cursor.same
  where
    go : (is : List Item) → Walks s at is → Rising here is → ((a : ℕ) → least ≤ a → word_in 0 (so_far s) a ≡ word_in here is a) → Sees b s end at here least wanted
    go [] w r f = absurd (omega (arith, walks-end b s end at k.checks w))
    go (i ∷ is) w r f = record { item = i; rest = is; walks = w; rising = r; same = f }

-- nothing was read from `end` on
pub seek-past : (b : List ℕ) (s : State) (end at here least wanted : ℕ) → Seeker b s end at here least wanted → end ≤ at → Seeks s wanted (record { seen = at; address = here; zero = false })
unfolding word_in
seek-past b s end at here least wanted k l = go k.cursor.rest k.cursor.walks k.cursor.same
  where
    go : (is : List Item) → Walks s at is → ((a : ℕ) → least ≤ a → word_in 0 (so_far s) a ≡ word_in here is a) → Seeks s wanted (record { seen = at; address = here; zero = false })
    go [] w f = record { zero = sym (ap is_zero (word-so-far s wanted k.closed ∙ f wanted k.above)); cursor = λ e. never cc }
    go (i ∷ is) w f = absurd (omega (arith, walks_less b s end at i is k.checks w))

-- ONE FIELD

module _ (b : List ℕ) (at here wanted : ℕ) where
  -- a search that ends here: what is said is what the rest says of the address
  ends : (s : State) (end least : ℕ) → Seeker b s end at here least wanted → (q : Bool) → q ≡ is_zero (word_in 0 (so_far s) wanted) → Paced b s end at here wanted (Here q)
  unfolding Paced
  ends s end least k q e = record {
    zero = e ∙ sym (ap is_zero (word-so-far s wanted k.closed));
    cursor = λ z. record { rest = k.cursor.rest; walks = k.cursor.walks; rising = k.cursor.rising; same = λ a l. k.cursor.same a (omega (arith, k.above)) };
  }

  here-never : (q : Bool) (z a : ℕ) → Here q ≡ Past z a → at < z
  here-never q z a e = never cc

  -- the address is below the words that follow
  pub pace-below : wanted < here → Paces b at here wanted (Here false)
  pace-below l = record {
    further = here-never false;
    told = λ s end least k m. ends s end least k false (sym (ap is_zero (k.cursor.same wanted k.above ∙ rising_none here k.cursor.rest wanted k.cursor.rising l)));
  }

  -- f is what the code finds at the position
  module _ (f : Field) (h : f ≡ told at (field_at b at)) where
    -- there is a field
    pub pace-over : f ≡ Over → Paces b at here wanted (Here false)
    pace-over e = record {
      further = here-never false;
      told = λ s end least k m.
          (let x = sees b s end at here least wanted k m in
          let y = walks-found b s end at x.item x.rest k.checks x.walks in
          let z = says-over b at f h e in
          never (cc y.there));
    }

    pub pace-short : f ≡ CutShort → Paces b at here wanted (Here false)
    pace-short e = record {
      further = here-never false;
      told = λ s end least k m.
          (let x = sees b s end at here least wanted k m in
          let y = walks-found b s end at x.item x.rest k.checks x.walks in
          let z = says-short b at f h e in
          never (cc y.there));
    }

    module _ (t st z : ℕ) (e : f ≡ Found t st z) where
      stands : Stands b at t st z
      stands = says-found b at f h t st z e

      past-further : (a : ℕ) (z' a' : ℕ) → Past z a ≡ Past z' a' → at < z'
      past-further a z' a' q = let p : z ≡ z' = cc in omega (arith, stands.begins, stands.ends)

      module _ (s : State) (end least : ℕ) (k : Seeker b s end at here least wanted) (m : at < end) where
        x : Sees b s end at here least wanted
        x = sees b s end at here least wanted k m

        -- its item has that tag and that content
        body : Says t (part_at b st (z - st)) x.item
        body =
            let y = walks-found b s end at x.item x.rest k.checks x.walks in
            let d = stands.there in
            let p : y.tag ≡ t = cc y.there in
            let q : y.body ≡ part_at b st (z - st) = cc y.there in
            content-meant t (part_at b st (z - st)) x.item (field-bytes b at t (part_at b st (z - st)) z (all-bytes b k.checks.bytes) d) (rw (p, q) at y.says)

        extent : z ≡ at + 3 + length (content x.item)
        extent = let y = walks-found b s end at x.item x.rest k.checks x.walks in let d = stands.there in cc y.there

        kind : Kinds b st z t x.item
        kind = kinds b st z t stands.ends stands.within x.item body

        -- the search goes on behind it
        goes : (a : ℕ) → Rising a x.rest → ((c : ℕ) → wanted ≤ c → word_in here (x.item ∷ x.rest) c ≡ word_in a x.rest c) → Paced b s end at here wanted (Past z a)
        unfolding Paced
        goes a r g = record {
          checks = k.checks;
          closed = k.closed;
          cursor = record { rest = x.rest; walks = subst (λ (p : ℕ). Walks s p x.rest) (sym extent) (walks_more s at x.item x.rest x.walks); rising = r; same = λ c l. x.same c (omega (arith, k.above)) ∙ g c l };
          above = omega arith;
        }

        goes-block : (n : ℕ) → (st + 2 ≤ length b → n ≡ number_at b st) → t ≡ 1 → Paced b s end at here wanted (Past z n)
        unfolding word_in Rising
        goes-block n g q = go kind
          where
            go : Kinds b st z t x.item → Paced b s end at here wanted (Past z n)
            go (of-block a c e u l p) = let y : n ≡ a = g l ∙ p in rw y (goes a (rw e at x.rising).1 (λ d w. rw e refl))
            go (of-sets ws e u l p) = absurd (omega arith)
            go (of-gap c e u l p) = absurd (omega arith)
            go (of_other i j l w r) = absurd (i q)

        goes-run : (n : ℕ) (r : Run) → x.item ≡ run r → n ≡ size r → here + n ≤ wanted → Paced b s end at here wanted (Past z (here + n))
        unfolding Rising
        goes-run n r e q l = rw q (goes (here + size r) (rw e at x.rising) (λ c w. rw e (word-behind here r x.rest c (omega arith))))

        -- the word is in this run
        found : (r : Run) → x.item ≡ run r → here ≤ wanted → wanted < here + size r → word_in 0 (so_far s) wanted ≡ some (cell_of r (wanted - here))
        found r e l w = x.same wanted k.above ∙ rw e (word-there here r x.rest wanted l w)

      -- x01
      pub pace-block : t ≡ 1 → (n : ℕ) → (st + 2 ≤ length b → n ≡ number_at b st) → Paces b at here wanted (Past z n)
      pace-block q n g = record { further = past-further n; told = λ s end least k m. goes-block s end least k m n g q }

      -- other tags
      pub pace-other : (t ≡ 1 → ⊥) → (t ≡ 2 → ⊥) → (t ≡ 3 → ⊥) → Paces b at here wanted (Past z here)
      pace-other q1 q2 q3 = record { further = past-further here; told = λ s end least k m. go s end least k m (kind s end least k m) }
        where
          go : (s : State) (end least : ℕ) (k : Seeker b s end at here least wanted) (m : at < end) → Kinds b st z t (x s end least k m).item → Paced b s end at here wanted (Past z here)
          go s end least k m (of-block a c e u l p) = absurd (q1 u)
          go s end least k m (of-sets ws e u l p) = absurd (q2 u)
          go s end least k m (of-gap c e u l p) = absurd (q3 u)
          go s end least k m (of_other i j l w r) = goes s end least k m here (r here (x s end least k m).rest (x s end least k m).rising) (λ c g. w here (x s end least k m).rest c)

      module _ (above : here ≤ wanted) where
        -- x02
        module _ (q : t ≡ 2) where
          pub pace-sets : (z - st) / 2 ≤ wanted - here → Paces b at here wanted (Past z (here + (z - st) / 2))
          pace-sets g = record { further = past-further (here + (z - st) / 2); told = λ s end least k m. go s end least k m (kind s end least k m) }
            where
              go : (s : State) (end least : ℕ) (k : Seeker b s end at here least wanted) (m : at < end) → Kinds b st z t (x s end least k m).item → Paced b s end at here wanted (Past z (here + (z - st) / 2))
              go s end least k m (of-block a c e u l p) = absurd (omega arith)
              go s end least k m (of-sets ws e u l p) = goes-run s end least k m ((z - st) / 2) (sets ws) e (omega arith) (omega arith)
              go s end least k m (of-gap c e u l p) = absurd (omega arith)
              go s end least k m (of_other i j l w r) = absurd (j q)

          pub pace-word : wanted - here < (z - st) / 2 → (v : ℕ) → v ≡ number_at b (st + (wanted - here) * 2) → Paces b at here wanted (Here (eqb v 0))
          pace-word g v d = record { further = here-never (eqb v 0); told = λ s end least k m. go s end least k m (kind s end least k m) }
            where
              go : (s : State) (end least : ℕ) (k : Seeker b s end at here least wanted) (m : at < end) → Kinds b st z t (x s end least k m).item → Paced b s end at here wanted (Here (eqb v 0))
              go s end least k m (of-block a c e u l p) = absurd (omega arith)
              go s end least k m (of-sets ws e u l p) =
                  ends s end least k (eqb v 0) (ap (λ (y : ℕ). eqb y 0) (d ∙ p (wanted - here) (omega arith)) ∙ sym (ap is_zero (found s end least k m (sets ws) e above (omega arith))))
              go s end least k m (of-gap c e u l p) = absurd (omega arith)
              go s end least k m (of_other i j l w r) = absurd (j q)

        -- x03
        module _ (q : t ≡ 3) (n : ℕ) (d : st + 2 ≤ length b → n ≡ number_at b st) where
          pub pace-gap : n ≤ wanted - here → Paces b at here wanted (Past z (here + n))
          pace-gap g = record { further = past-further (here + n); told = λ s end least k m. go s end least k m (kind s end least k m) }
            where
              go : (s : State) (end least : ℕ) (k : Seeker b s end at here least wanted) (m : at < end) → Kinds b st z t (x s end least k m).item → Paced b s end at here wanted (Past z (here + n))
              go s end least k m (of-block a c e u l p) = absurd (omega arith)
              go s end least k m (of-sets ws e u l p) = absurd (omega arith)
              go s end least k m (of-gap c e u l p) = goes-run s end least k m n (gap c) e (d l ∙ p) (omega arith)
              go s end least k m (of_other i j l w r) = absurd (l q)

          pub pace-unset : wanted - here < n → Paces b at here wanted (Here false)
          pace-unset g = record { further = here-never false; told = λ s end least k m. go s end least k m (kind s end least k m) }
            where
              go : (s : State) (end least : ℕ) (k : Seeker b s end at here least wanted) (m : at < end) → Kinds b st z t (x s end least k m).item → Paced b s end at here wanted (Here false)
              go s end least k m (of-block a c e u l p) = absurd (omega arith)
              go s end least k m (of-sets ws e u l p) = absurd (omega arith)
              go s end least k m (of-gap c e u l p) = ends s end least k false (sym (ap is_zero (found s end least k m (gap c) e above (omega (arith, d l, p)))))
              go s end least k m (of_other i j l w r) = absurd (l q)

-- THE LOOP: whoever may begin at `seen` may go on at `at`

pub record Searching (b : List ℕ) (end seen address wanted at here : ℕ) : Type 0 where
  pub on : (s : State) (least : ℕ) → Seeker b s end seen address least wanted → Seeker b s end at here wanted wanted

pub searching-start : (b : List ℕ) (end seen address wanted : ℕ) → Searching b end seen address wanted seen address
searching-start b end seen address wanted = record {
  on = λ s least k. record {
    checks = k.checks;
    closed = k.closed;
    cursor = record { rest = k.cursor.rest; walks = k.cursor.walks; rising = k.cursor.rising; same = λ a l. k.cursor.same a (omega (arith, k.above)) };
    above = omega arith;
  };
}

module _ (b : List ℕ) (end seen address wanted at here : ℕ) (t : Searching b end seen address wanted at here) where
  module _ (l : at < end) (r : Pace) (p : Paces b at here wanted r) where
    pub searching-less : (z a : ℕ) → r ≡ Past z a → end - z < end - at
    searching-less z a e = omega (arith, p.further z a e)

    pub searching-more : (z a : ℕ) → r ≡ Past z a → Searching b end seen address wanted z a
    unfolding Paced
    searching-more z a e = record { on = λ s least k. rw e at (p.told s end wanted (t.on s least k) l) }

    pub searching-found : (q : Bool) → r ≡ Here q → (s : State) (least : ℕ) → Seeker b s end seen address least wanted → Seeks s wanted (record { seen = at; address = here; zero = q })
    unfolding Paced
    searching-found q e s least k = rw e at (p.told s end wanted (t.on s least k) l)

  pub searching-none : end ≤ at → (s : State) (least : ℕ) → Seeker b s end seen address least wanted → Seeks s wanted (record { seen = at; address = here; zero = false })
  searching-none l s least k = seek-past b s end at here wanted wanted (t.on s least k) l
