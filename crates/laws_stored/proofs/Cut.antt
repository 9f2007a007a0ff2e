-- A block's words as runs: the first run of the words, the runs' words again, and that runs of which each may follow the one before it are the runs of their words. Assumes nothing.
use mathlib.Core.Path.{◌≡◌, refl, sym, ◌∙◌, ap}
use mathlib.Core.Bool.{Bool, true, false}
use mathlib.Core.List.{List, [], ◌∷◌, ◌++◌}
use Prim.Native.Nat.{ℕ, zero, suc, ◌≤◌, ◌<◌, zero-le}
use native.Mathlib.Decide.{dec_le}
use native.Mathlib.Omega.{arith}
use lib.ListN.{length, take, drop, length-append, length-take, length-drop, take-append-drop, drop_of_length-le}
use lib.Seq.{take_all, take_at, drop_at}
use lib.Dec.{eqb}
use borrow.Author.Tests.{leb-true, le-leb, eqb-true, eq-eqb}
use Rattle.rules.specs.Objects.{Cell, unset, word}
use Rattle.rules.specs.Stored.{Run, sets, gap, run_room, joined, longest, pieces, cut, runs_of, Prev, free, short, skipped, kind, fits, after, words_then, unset_then, flatten, size}
use Rattle.rules.proofs.Bools.{never}

pub room-is : run_room ≡ 16384
unfolding run_room
room-is = refl

-- THE RUNS' WORDS AGAIN

flatten-joined : (c : Cell) (rs : List Run) → flatten (joined c rs) ≡ c ∷ flatten rs
flatten-joined unset [] = refl
flatten-joined unset (gap n ∷ rs) = refl
flatten-joined unset (sets ws ∷ rs) = refl
flatten-joined (word w) [] = refl
flatten-joined (word w) (gap n ∷ rs) = refl
flatten-joined (word w) (sets ws ∷ rs) = refl

flatten-longest : (cs : List Cell) → flatten (longest cs) ≡ cs
unfolding longest
flatten-longest [] = refl
flatten-longest (c ∷ cs) = flatten-joined c (longest cs) ∙ ap (λ (l : List Cell). c ∷ l) (flatten-longest cs)

words_append : (us ws : List ℕ) (cs : List Cell) → words_then (us ++ ws) cs ≡ words_then us (words_then ws cs)
words_append [] ws cs = refl
words_append (u ∷ us) ws cs = ap (λ (l : List Cell). word u ∷ l) (words_append us ws cs)

flatten-pieces : (k : ℕ) (ws : List ℕ) (rs : List Run) → length ws ≤ k → flatten (pieces k ws ++ rs) ≡ words_then ws (flatten rs)
unfolding pieces
flatten-pieces zero [] rs l = refl
flatten-pieces zero (w ∷ ws) rs l = absurd (omega arith)
flatten-pieces (suc k) [] rs l = refl
flatten-pieces (suc k) (w ∷ ws) rs l =
    ap (words_then (take run_room (w ∷ ws))) (flatten-pieces k (drop run_room (w ∷ ws)) rs (omega (arith, length-drop run_room (w ∷ ws), room-is)))
    ∙ (sym (words_append (take run_room (w ∷ ws)) (drop run_room (w ∷ ws)) (flatten rs))
    ∙ ap (λ (l : List ℕ). words_then l (flatten rs)) (take-append-drop run_room (w ∷ ws)))

flatten-cut : (rs : List Run) → flatten (cut rs) ≡ flatten rs
unfolding cut
flatten-cut [] = refl
flatten-cut (gap n ∷ rs) = ap (unset_then n) (flatten-cut rs)
flatten-cut (sets ws ∷ rs) = flatten-pieces (length ws) ws (cut rs) (omega arith) ∙ ap (words_then ws) (flatten-cut rs)

pub flatten_runs : (cs : List Cell) → flatten (runs_of cs) ≡ cs
unfolding runs_of
flatten_runs cs = flatten-cut (longest cs) ∙ flatten-longest cs

-- PIECES

no_pieces : (k : ℕ) → pieces k [] ≡ []
unfolding pieces
no_pieces zero = refl
no_pieces (suc k) = refl

-- runs enough
pieces-enough : (k j : ℕ) (ws : List ℕ) → length ws ≤ k → length ws ≤ j → pieces k ws ≡ pieces j ws
unfolding pieces
pieces-enough zero j [] p q = sym (no_pieces j)
pieces-enough zero j (w ∷ ws) p q = absurd (omega arith)
pieces-enough (suc k) j [] p q = sym (no_pieces j)
pieces-enough (suc k) zero (w ∷ ws) p q = absurd (omega arith)
pieces-enough (suc k) (suc j) (w ∷ ws) p q =
    ap (λ (rs : List Run). sets (take run_room (w ∷ ws)) ∷ rs)
    (pieces-enough k j (drop run_room (w ∷ ws)) (omega (arith, length-drop run_room (w ∷ ws), room-is)) (omega (arith, length-drop run_room (w ∷ ws), room-is)))

-- words for one run
pieces-one : (k : ℕ) (w : ℕ) (ws : List ℕ) → suc (length ws) ≤ run_room → pieces (suc k) (w ∷ ws) ≡ sets (w ∷ ws) ∷ []
unfolding pieces
pieces-one k w ws l =
    ap (λ (us : List ℕ). sets us ∷ pieces k (drop run_room (w ∷ ws))) (take_all run_room (w ∷ ws) l)
    ∙ ap (λ (rs : List Run). sets (w ∷ ws) ∷ rs) (ap (pieces k) (drop_of_length-le (w ∷ ws) l) ∙ no_pieces k)

-- words for a full run, and more
pieces-full : (k : ℕ) (ws us : List ℕ) → length ws ≡ run_room → pieces (suc k) (ws ++ us) ≡ sets ws ∷ pieces k us
unfolding pieces
pieces-full k [] us e = absurd (omega (arith, room-is))
pieces-full k (w ∷ ws) us e =
    ap (λ (l : List ℕ). sets l ∷ pieces k (drop run_room ((w ∷ ws) ++ us))) (take_at (w ∷ ws) us run_room e)
    ∙ ap (λ (l : List ℕ). sets (w ∷ ws) ∷ pieces k l) (drop_at (w ∷ ws) us run_room e)

-- THE FIRST RUN OF WORDS

-- they do not begin with a set word; with an unset one
abbrev pub NoneSet : List Cell → Type 0
NoneSet [] = Unit {0}
NoneSet (unset ∷ cs) = Unit {0}
NoneSet (word w ∷ cs) = ⊥

abbrev pub NoneUnset : List Cell → Type 0
NoneUnset [] = Unit {0}
NoneUnset (unset ∷ cs) = ⊥
NoneUnset (word w ∷ cs) = Unit {0}

-- runs that begin with set words, w at their head
abbrev SetFirst : ℕ → List Run → Type 0
SetFirst w rs = (us : List ℕ) × (qs : List Run) × (rs ≡ sets (w ∷ us) ∷ qs)

set_first : (w : ℕ) (rs : List Run) → SetFirst w (joined (word w) rs)
set_first w [] = ([], [], refl)
set_first w (gap n ∷ rs) = ([], gap n ∷ rs, refl)
set_first w (sets us ∷ rs) = (us, rs, refl)

one-unset : (cs : List Cell) → NoneUnset cs → joined unset (longest cs) ≡ gap 1 ∷ longest cs
unfolding longest
one-unset [] h = refl
one-unset (unset ∷ cs) h = absurd h
one-unset (word w ∷ cs) h = let r = set_first w (longest cs) in rw r.2 refl

longest-unset : (n : ℕ) (cs : List Cell) → NoneUnset cs → longest (unset_then (suc n) cs) ≡ gap (suc n) ∷ longest cs
unfolding longest
longest-unset zero cs h = one-unset cs h
longest-unset (suc n) cs h = ap (joined unset) (longest-unset n cs h)

one_set : (w : ℕ) (cs : List Cell) → NoneSet cs → joined (word w) (longest cs) ≡ sets (w ∷ []) ∷ longest cs
unfolding longest
one_set w [] h = refl
one_set w (unset ∷ cs) h = go (longest cs)
  where
    go : (rs : List Run) → joined (word w) (joined unset rs) ≡ sets (w ∷ []) ∷ joined unset rs
    go [] = refl
    go (gap n ∷ rs) = refl
    go (sets us ∷ rs) = refl
one_set w (word v ∷ cs) h = absurd h

longest-set : (w : ℕ) (ws : List ℕ) (cs : List Cell) → NoneSet cs → longest (words_then (w ∷ ws) cs) ≡ sets (w ∷ ws) ∷ longest cs
unfolding longest
longest-set w [] cs h = one_set w cs h
longest-set w (v ∷ ws) cs h = ap (joined (word w)) (longest-set v ws cs h)

longest-more : (ws : List ℕ) (cs : List Cell) (us : List ℕ) (rs : List Run) → longest cs ≡ sets us ∷ rs → longest (words_then ws cs) ≡ sets (ws ++ us) ∷ rs
unfolding longest
longest-more [] cs us rs e = e
longest-more (w ∷ ws) cs us rs e = ap (joined (word w)) (longest-more ws cs us rs e)

pub runs_none : runs_of [] ≡ []
unfolding runs_of longest cut
runs_none = refl

-- unset words up to a set one or the end
pub runs-gap : (n : ℕ) (cs : List Cell) → NoneUnset cs → runs_of (unset_then (suc n) cs) ≡ gap (suc n) ∷ runs_of cs
unfolding runs_of cut
runs-gap n cs h = rw (longest-unset n cs h) refl

-- set words, 16,384 at most, up to an unset one or the end
pub runs-set : (w : ℕ) (ws : List ℕ) (cs : List Cell) → suc (length ws) ≤ run_room → NoneSet cs → runs_of (words_then (w ∷ ws) cs) ≡ sets (w ∷ ws) ∷ runs_of cs
unfolding runs_of cut
runs-set w ws cs l h = ap cut (longest-set w ws cs h) ∙ ap (λ (rs : List Run). rs ++ cut (longest cs)) (pieces-one (length ws) w ws l)

-- 16,384 set words, whatever follows
pub runs-full : (ws : List ℕ) (cs : List Cell) → length ws ≡ run_room → runs_of (words_then ws cs) ≡ sets ws ∷ runs_of cs
unfolding runs_of cut longest
runs-full [] cs e = absurd (omega (arith, room-is))
runs-full (w ∷ ws) [] e = runs-set w ws [] (omega arith) tt
runs-full (w ∷ ws) (unset ∷ cs) e = runs-set w ws (unset ∷ cs) (omega arith) tt
runs-full (w ∷ ws) (word v ∷ cs) e = go (set_first v (longest cs))
  where
    go : SetFirst v (joined (word v) (longest cs)) → runs_of (words_then (w ∷ ws) (word v ∷ cs)) ≡ sets (w ∷ ws) ∷ runs_of (word v ∷ cs)
    go r =
        let us = v ∷ r.0 in
        let all = (w ∷ ws) ++ us in
        ap cut (longest-more (w ∷ ws) (word v ∷ cs) us r.1 r.2)
        ∙ (ap (λ (rs : List Run). rs ++ cut r.1) (pieces-enough (length all) (suc (length all)) all (omega arith) (omega arith)
        ∙ (pieces-full (length all) (w ∷ ws) us e
        ∙ ap (λ (rs : List Run). sets (w ∷ ws) ∷ rs) (pieces-enough (length all) (length us) us (omega (arith, length-append (w ∷ ws) us)) (omega arith))))
        ∙ ap (λ (rs : List Run). sets (w ∷ ws) ∷ cut rs) (sym r.2))

-- RUNS THAT MAY STAND ARE THE RUNS OF THEIR WORDS

-- each may follow the one before it
abbrev pub Canon : Prev → List Run → Type 0
Canon p [] = Unit {0}
Canon p (r ∷ rs) = (fits p r ≡ true) × Canon (kind r) rs

pub canon-more : (p : Prev) (rs : List Run) (r : Run) → Canon p rs → fits (after p rs) r ≡ true → Canon p (rs ++ (r ∷ []))
unfolding after
canon-more p [] r c f = (f, tt)
canon-more p (q ∷ rs) r c f = (c.0, canon-more (kind q) rs r c.1 f)

pub after_more : (p : Prev) (rs : List Run) (r : Run) → after p (rs ++ (r ∷ [])) ≡ kind r
unfolding after
after_more p [] r = refl
after_more p (q ∷ rs) r = after_more (kind q) rs r

-- a run that fits has words, and set ones 16,384 at most
pub fits-some : (p : Prev) (r : Run) → fits p r ≡ true → 0 < size r
unfolding fits
fits-some free (gap zero) e = never cc
fits-some free (gap (suc n)) e = omega arith
fits-some free (sets []) e = never cc
fits-some free (sets (w ∷ ws)) e = omega arith
fits-some short (gap zero) e = never cc
fits-some short (gap (suc n)) e = omega arith
fits-some short (sets ws) e = never cc
fits-some skipped (gap n) e = never cc
fits-some skipped (sets []) e = never cc
fits-some skipped (sets (w ∷ ws)) e = omega arith

pub fits-room : (p : Prev) (ws : List ℕ) → fits p (sets ws) ≡ true → length ws ≤ run_room
unfolding fits
fits-room p [] e = zero-le
fits-room free (w ∷ ws) e = leb-true (suc (length ws)) run_room e
fits-room short (w ∷ ws) e = never cc
fits-room skipped (w ∷ ws) e = leb-true (suc (length ws)) run_room e

after-gap : (rs : List Run) → Canon skipped rs → NoneUnset (flatten rs)
unfolding fits
after-gap [] c = tt
after-gap (gap n ∷ rs) c = never (cc c.0)
after-gap (sets [] ∷ rs) c = never (cc c.0)
after-gap (sets (w ∷ ws) ∷ rs) c = tt

after-short : (rs : List Run) → Canon short rs → NoneSet (flatten rs)
unfolding fits
after-short [] c = tt
after-short (gap zero ∷ rs) c = never (cc c.0)
after-short (gap (suc n) ∷ rs) c = tt
after-short (sets ws ∷ rs) c = never (cc c.0)

canon-flatten : (p : Prev) (rs : List Run) → Canon p rs → runs_of (flatten rs) ≡ rs
canon-flatten p [] c = runs_none
canon-flatten p (gap zero ∷ rs) c = absurd (omega (arith, fits-some p (gap zero) c.0))
canon-flatten p (gap (suc n) ∷ rs) c = runs-gap n (flatten rs) (after-gap rs c.1) ∙ ap (λ (l : List Run). gap (suc n) ∷ l) (canon-flatten skipped rs c.1)
canon-flatten p (sets [] ∷ rs) c = absurd (omega (arith, fits-some p (sets []) c.0))
canon-flatten p (sets (w ∷ ws) ∷ rs) c =
    go (eqb (suc (length ws)) run_room) refl c.1 ∙ ap (λ (l : List Run). sets (w ∷ ws) ∷ l) (canon-flatten (kind (sets (w ∷ ws))) rs c.1)
  where
    go : (b : Bool) → eqb (suc (length ws)) run_room ≡ b → Canon (elim b [ true ↦ free | false ↦ short ]) rs → runs_of (words_then (w ∷ ws) (flatten rs)) ≡ sets (w ∷ ws) ∷ runs_of (flatten rs)
    go true e d = runs-full (w ∷ ws) (flatten rs) (eqb-true (suc (length ws)) run_room e)
    go false e d = runs-set w ws (flatten rs) (fits-room p (w ∷ ws) c.0) (after-short rs d)

pub runs-flatten : (rs : List Run) → Canon free rs → runs_of (flatten rs) ≡ rs
runs-flatten rs c = canon-flatten free rs c

-- THE RUNS OF WORDS MAY STAND

-- no run is empty, and neighbours differ in tag
abbrev NoGap : List Run → Type 0
NoGap [] = Unit {0}
NoGap (gap n ∷ rs) = ⊥
NoGap (sets ws ∷ rs) = Unit {0}

abbrev NoSets : List Run → Type 0
NoSets [] = Unit {0}
NoSets (gap n ∷ rs) = Unit {0}
NoSets (sets ws ∷ rs) = ⊥

abbrev Apart : List Run → Type 0
Apart [] = Unit {0}
Apart (gap n ∷ rs) = (0 < n) × NoGap rs × Apart rs
Apart (sets ws ∷ rs) = (0 < length ws) × NoSets rs × Apart rs

apart-joined : (c : Cell) (rs : List Run) → Apart rs → Apart (joined c rs)
apart-joined unset [] a = (omega arith, tt, tt)
apart-joined unset (gap n ∷ rs) a = (omega arith, a.1, a.2)
apart-joined unset (sets ws ∷ rs) a = (omega arith, tt, a)
apart-joined (word w) [] a = (omega arith, tt, tt)
apart-joined (word w) (gap n ∷ rs) a = (omega arith, tt, a)
apart-joined (word w) (sets ws ∷ rs) a = (omega arith, a.1, a.2)

apart-longest : (cs : List Cell) → Apart (longest cs)
unfolding longest
apart-longest [] = tt
apart-longest (c ∷ cs) = apart-joined c (longest cs) (apart-longest cs)

-- set words may stand there; unset ones may
abbrev pub Sets : Prev → Type 0
Sets free = Unit {0}
Sets short = ⊥
Sets skipped = Unit {0}

abbrev pub Gaps : Prev → Type 0
Gaps free = Unit {0}
Gaps short = Unit {0}
Gaps skipped = ⊥

pub fits-gap : (p : Prev) (n : ℕ) → Gaps p → 0 < n → fits p (gap n) ≡ true
unfolding fits
fits-gap p zero g l = absurd (omega arith)
fits-gap free (suc n) g l = refl
fits-gap short (suc n) g l = refl
fits-gap skipped (suc n) g l = absurd g

pub fits-sets : (p : Prev) (w : ℕ) (ws : List ℕ) → Sets p → suc (length ws) ≤ run_room → fits p (sets (w ∷ ws)) ≡ true
unfolding fits
fits-sets free w ws g l = le-leb (suc (length ws)) run_room l
fits-sets short w ws g l = absurd g
fits-sets skipped w ws g l = le-leb (suc (length ws)) run_room l

canon-kind : (ws : List ℕ) (rs : List Run) → Canon free rs → Canon short rs → Canon (kind (sets ws)) rs
canon-kind ws rs f s = go (eqb (length ws) run_room)
  where
    go : (b : Bool) → Canon (elim b [ true ↦ free | false ↦ short ]) rs
    go true = f
    go false = s

-- the first of several pieces is full
first-full : (k : ℕ) (w : ℕ) (ws : List ℕ) (rs : List Run) (p : Prev) → run_room < suc (length ws) → Sets p
    → Canon free (pieces k (drop run_room (w ∷ ws)) ++ rs) → Canon p (pieces (suc k) (w ∷ ws) ++ rs)
unfolding pieces
first-full k w ws rs p m g h = go (take run_room (w ∷ ws)) (omega (arith, length-take run_room (w ∷ ws)))
  where
    go : (us : List ℕ) → length us ≡ run_room → Canon p (sets us ∷ (pieces k (drop run_room (w ∷ ws)) ++ rs))
    go [] n = absurd (omega (arith, room-is))
    go (u ∷ us) n = (fits-sets p u us g (omega arith), rw (eq-eqb (length (u ∷ us)) run_room n, kind) h)

canon-pieces : (k : ℕ) (ws : List ℕ) (rs : List Run) (p : Prev) → length ws ≤ k → 0 < length ws → Sets p → Canon free rs → Canon short rs → Canon p (pieces k ws ++ rs)
canon-pieces zero ws rs p l o g f s = absurd (omega arith)
canon-pieces (suc k) [] rs p l o g f s = absurd (omega arith)
canon-pieces (suc k) (w ∷ ws) rs p l o g f s = go (dec_le (suc (length ws)) run_room) (λ a b. canon-pieces k (drop run_room (w ∷ ws)) rs free a b tt f s)
  where
    go : Dec (suc (length ws) ≤ run_room)
        → (length (drop run_room (w ∷ ws)) ≤ k → 0 < length (drop run_room (w ∷ ws)) → Canon free (pieces k (drop run_room (w ∷ ws)) ++ rs))
        → Canon p (pieces (suc k) (w ∷ ws) ++ rs)
    go (yes m) ih = rw (pieces-one k w ws m) (fits-sets p w ws g m, canon-kind (w ∷ ws) rs f s)
    go (no m) ih = first-full k w ws rs p (omega arith) g (ih (omega (arith, length-drop run_room (w ∷ ws), room-is)) (omega (arith, length-drop run_room (w ∷ ws))))

-- runs that differ in tag from their neighbours, the set ones cut, may stand where the first may
abbrev Opens : Prev → List Run → Type 0
Opens p [] = Unit {0}
Opens p (gap n ∷ rs) = Gaps p
Opens p (sets ws ∷ rs) = Sets p

opens-skipped : (rs : List Run) → NoGap rs → Opens skipped rs
opens-skipped [] h = tt
opens-skipped (gap n ∷ rs) h = absurd h
opens-skipped (sets ws ∷ rs) h = tt

opens-short : (rs : List Run) → NoSets rs → Opens short rs
opens-short [] h = tt
opens-short (gap n ∷ rs) h = tt
opens-short (sets ws ∷ rs) h = absurd h

opens-free : (rs : List Run) → Opens free rs
opens-free [] = tt
opens-free (gap n ∷ rs) = tt
opens-free (sets ws ∷ rs) = tt

canon-cut : (p : Prev) (rs : List Run) → Opens p rs → Apart rs → Canon p (cut rs)
unfolding cut
canon-cut p [] o a = tt
canon-cut p (gap n ∷ rs) o a = (fits-gap p n o a.0, canon-cut skipped rs (opens-skipped rs a.1) a.2)
canon-cut p (sets ws ∷ rs) o a =
    canon-pieces (length ws) ws (cut rs) p (omega arith) a.0 o (canon-cut free rs (opens-free rs) a.2) (canon-cut short rs (opens-short rs a.1) a.2)

pub canon-runs : (cs : List Cell) → Canon free (runs_of cs)
unfolding runs_of
canon-runs cs = canon-cut free (longest cs) (opens-free (longest cs)) (apart-longest cs)
