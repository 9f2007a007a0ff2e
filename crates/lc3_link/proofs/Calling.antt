-- Loading and linking in buffers of full size: what each call makes, and the name that stands in the way. Assumes nothing.
use Prim.Native.Nat.{ℕ, zero, suc, ◌+◌, ◌<◌}
use mathlib.Core.Path.{◌≡◌, refl, sym, ◌∙◌, ap}
use mathlib.Core.Bool.{Bool, true, false, ◌||◌, not}
use mathlib.Core.List.{List, [], ◌∷◌}
use native.Mathlib.Omega.{arith}
use borrow.Author.Tests.{eqb-true}
use lib.Dec.{eqb}
use lib.ListN.{length}
use Rattle.rules.specs.Base.{when◌then◌else◌, Outcome, ok, refused, Refusal, require, ◌>>◌, nowhere, span}
use Rattle.rules.specs.Capacities.{word_room}
use Rattle.rules.specs.Answers.{answer}
use Rattle.rules.specs.Tables.{Table, look, name_order}
use Rattle.rules.specs.Objects.{Lab, Name, Object, Counts}
use Rattle.rules.specs.Buffers.{Buffers, short, view, tab, label_row, name_row, view_labels, Valid, zeros}
use Rattle.rules.specs.Calls.{of_bytes, on_object}
use Rattle.rules.specs.Linking.{link, agree, differ}
use Rattle.rules.specs.Stored.{load}
use Rattle.rules.proofs.Bools.{never}
use Rattle.rules.proofs.Calls.{answered-once}
use Rattle.rules.proofs.Sound.{valid-counts}
use Rattle.laws_link.proofs.Answers as Answers
use Rattle.laws_stored.specs.Beginnings.{AreBytes}
use Rattle.object_answer.specs.declared.Answer.{Answer}
use Rattle.object_answer.specs.Meant.{Leaves}
use Rattle.link.specs.Call.{Outcomes, Linked}
use Rattle.link.proofs.Accepting.{call-leaves, good-call, by_number}
use Rattle.stored.proofs.Made.{lent, lending-long, lent-words, Makes}
use Rattle.stored_load.specs.Call.{called, Loaded}
use Rattle.stored_load.proofs.Accepting.{accepted-call, load-numbers}
use Rattle.lc3_link.specs.Linked.{name_in, in_the_way, Held, blamed_row}

lent-long : short lent ≡ false
lent-long = lending-long (zeros 65024) (zeros 65024)

-- the number of a refusal
refused-number : (o : Outcome Object) (out : Buffers) (a : Answer) (b : Buffers) (q : Refusal) → Leaves o out a b → o ≡ refused q → (a.number ≡ q.number) × (a.start ≡ q.first.start)
unfolding answer
refused-number o out a b q l e =
    let t : Leaves (refused q) out a b = rw e at l in
    (ap (λ r. r.number) t.answer, ap (λ r. r.first.start) t.answer)

-- LOADING
module _ (s : List ℕ) (v : AreBytes s) where
  called_is : called lent s ≡ load word_room s
  unfolding called of_bytes when◌then◌else◌
  called_is = rw (lent-long, lent-words) refl

  pub load-makes : (a : Answer) (b : Buffers) → Loaded lent s a b → Makes (load word_room s) lent a b
  load-makes a b l =
      let m : Leaves (load word_room s) lent a b = rw called_is at l in
      record {
        left = m;
        full = lent-long;
        good = λ x e. accepted-call lent s a b x v l (called_is ∙ e);
        numbered = λ q e z. omega (arith, z, (refused-number (load word_room s) lent a b q m e).0, (load-numbers word_room s q e).0);
      }

-- LINKING
module _ (c : Counts) (b : Buffers) (d : Counts) (e : Buffers) (H : Held c b) (K : Held d e) (a : Answer) (x : Buffers) (L : Linked c b d e lent a x) where
  all-full : (short b || short e || short lent) ≡ false
  all-full = rw (H.full, K.full, lent-long) refl

  outcome : Outcomes c b d e lent (link word_room (view c b) (view d e))
  outcome = on_object all-full (H.valid, K.valid) (ap (λ (w : ℕ). link w (view c b) (view d e)) (sym lent-words))

  pub link-makes : Makes (link word_room (view c b) (view d e)) lent a x
  link-makes =
      record {
        left = call-leaves c b d e lent a x (link word_room (view c b) (view d e)) L outcome;
        full = lent-long;
        good = λ y f. good-call c b d e lent a x y L (rw f at outcome) H.good K.good;
        numbered = λ q f z. let y = by_number c b d e lent a x L z in let u : ok y.0 ≡ refused q = answered-once y.1 outcome ∙ f in never cc;
      }

-- THE NAME THAT STANDS IN THE WAY

-- a row of a table by index
name-tab : (n : ℕ) (f : ℕ → Name × Lab) (k : ℕ) → k < n → name_in (tab n f) k ≡ (f k).0
unfolding name_in
name-tab zero f k h = absurd (omega arith)
name-tab (suc n) f zero h = refl
name-tab (suc n) f (suc k) h = name-tab n (λ i. f (suc i)) k (omega arith)

name-view : (c : Counts) (b : Buffers) (k : ℕ) → k < c.labels → name_in (view c b).labels k ≡ name_row b.labels b.names k
unfolding view_labels
name-view c b k h = name-tab c.labels (label_row b.labels b.names) k h

-- 25 has a row of the first table
agree-row : (r : ℕ) (s t : Table Name Lab) (q : Refusal) → agree r s t ≡ refused q → q.first.start < r + length s
unfolding agree
agree-row r [] t q e = never cc
agree-row r (d ∷ s) t q e = go (differ d.1 (look name_order t d.0)) e (agree-row (r + 1) s t q)
  where
    go : (z : Bool) → (require (not z) 25 (span r (r + 1)) >> agree (r + 1) s t) ≡ refused q → (agree (r + 1) s t ≡ refused q → q.first.start < r + 1 + length s) → q.first.start < r + length (d ∷ s)
    go true f h =
        let k : q ≡ record { number = 25; first = span r (r + 1); second = nowhere } = cc in
        omega (arith, ap (λ (x : Refusal). x.first.start) k)
    go false f h = let k = h f in omega arith

link_row : (room : ℕ) (a b : Object) (q : Refusal) → link room a b ≡ refused q → q.number ≡ 25 → q.first.start < length a.labels
link_row room a b q e n = go (Answers.answer room a b) e
  where
    go : {r : Outcome Object} → Answers.Answer room a b r → r ≡ refused q → q.first.start < length a.labels
    go (Answers.is_shared s) f = let z : q.number ≡ 28 = cc in absurd (omega arith)
    go (Answers.is-differing s r g) f = let z : r ≡ q = cc in let k = agree-row 0 a.labels b.labels r g in rw (← z) (omega arith)
    go (Answers.is-full s g i) f = let z : q.number ≡ 40 = cc in absurd (omega arith)
    go (Answers.is-short s g i j) f = let z : q.number ≡ 41 = cc in absurd (omega arith)
    go (Answers.is_made s g i j) f = never cc

pub blamed-name :
    (c : Counts) (b : Buffers) (y : Object) (a : Answer) (x : Buffers) → Valid c b → Makes (link word_room (view c b) y) lent a x
    → blamed_row a b.labels b.names ≡ in_the_way (view c b) (link word_room (view c b) y)
unfolding blamed_row in_the_way when◌then◌else◌
blamed-name c b y a x v m = go (link word_room (view c b) y) refl
  where
    row : (q : Refusal) → link word_room (view c b) y ≡ refused q → (t : Bool) → eqb q.number 25 ≡ t
        → (when t then name_row b.labels b.names q.first.start else []) ≡ (when t then name_in (view c b).labels q.first.start else [])
    row q e true h =
        let k = link_row word_room (view c b) y q e (eqb-true q.number 25 h) in
        let n : length (view c b).labels ≡ c.labels = ap (λ (d : Counts). d.labels) (valid-counts c b v) in
        sym (name-view c b q.first.start (omega arith))
    row q e false h = refl

    go : (o : Outcome Object) → link word_room (view c b) y ≡ o → blamed_row a b.labels b.names ≡ in_the_way (view c b) o
    go (ok o) e =
        let n : a.number ≡ 0 = ap (λ r. r.number) (m.good o e).counts in
        rw n refl
    go (refused q) e =
        let k = refused-number (link word_room (view c b) y) lent a x q m.left e in
        rw (k.0, k.1) (row q e (eqb q.number 25) refl)
