-- What a link of stored bytes accepts, and that either order gives the same bytes or is refused. Assumes nothing.
use Prim.Native.Nat.{ℕ}
use mathlib.Core.Path.{◌≡◌, refl, sym, ◌∙◌, ap}
use mathlib.Core.Bool.{Bool, true, false}
use mathlib.Core.List.Memᴰ
use mathlib.Core.List.Permᴰ
use mathlib.Core.List.{List, [], ◌∷◌}
use native.Mathlib.Omega.{arith}
use lib.Dec.{leb}
use lib.ListN.{length}
use Rattle.rules.specs.Base.{Outcome, ok, refused, require, nowhere, ◌>>=◌, ◌>>◌}
use Rattle.rules.specs.Capacities.{word_room}
use Rattle.rules.specs.Objects.{Object, Good}
use Rattle.rules.specs.Linking.{link}
use Rattle.rules.specs.Stored.{stored, store, check, load}
use Rattle.rules.proofs.Bools.{never}
use Rattle.laws_link.specs.Ways.{Way, leaf, node, AllGood, Room, OneSame}
use Rattle.laws_link.proofs.Demand.{accepted-alike, one_same}
use Rattle.laws_stored.specs.Beginnings.{AreBytes}
use Rattle.laws_stored.proofs.Promised.{checked-good}
use Rattle.laws_stored.proofs.Checking.{load-whole}
use Rattle.stored_load.proofs.Accepting.{load-accepts}
use Rattle.lc3_link.specs.Linked.{link_objects, link_second, link_first, link_stored, Accepted, SameBytes}

-- WHAT IS ACCEPTED
bound-ok : {A : Type 0} (o : Outcome A) (f : A → Outcome (List ℕ)) (l : List ℕ) → (o >>= f) ≡ ok l → (x : A) × (o ≡ ok x) × (f x ≡ ok l)
bound-ok (ok x) f l e = (x, refl, e)
bound-ok (refused q) f l e = never cc

store_ok : (len : ℕ) (o : Object) (l : List ℕ) → store len o ≡ ok l → l ≡ stored o
unfolding store
store_ok len o l e = go (leb (length (stored o)) len) e
  where
    go : (t : Bool) → (require t 51 nowhere >> ok (stored o)) ≡ ok l → l ≡ stored o
    go true f = cc
    go false f = never cc

pub link-accepted : (len : ℕ) (x y l : List ℕ) → (link_stored len x y).outcome ≡ ok l → Accepted x y l
unfolding link_stored link_first link_second link_objects
link-accepted len x y l e = go (load word_room x) refl (load word_room y) refl e
  where
    go : (p : Outcome Object) → load word_room x ≡ p → (q : Outcome Object) → load word_room y ≡ q → (link_first len p q).outcome ≡ ok l → Accepted x y l
    go (ok a) c (ok b) d f =
        let w = bound-ok (link word_room a b) (store len) l f in
        record {
          one = a;
          other = b;
          result = w.0;
          one_checks = (load-accepts word_room x a c).checked;
          other_checks = (load-accepts word_room y b d).checked;
          links = w.1;
          is = store_ok len w.0 l w.2;
        }
    go (ok a) c (refused q) d f = never cc
    go (refused q) c r d f = never cc

-- EITHER ORDER
both-good : (a b : Object) → Good a → Good b → AllGood (a ∷ b ∷ [])
both-good a b g h e (Memᴰ.head p) = rw p g
both-good a b g h e (Memᴰ.tail (Memᴰ.head p)) = rw p h
both-good a b g h e (Memᴰ.tail (Memᴰ.tail m)) = elim m [ ]

abbrev pair : Object → Object → Way
pair a b = node word_room (leaf a) (leaf b)

-- both are accepted, and give the same bytes
pub either-accepted : (len n : ℕ) (x y l m : List ℕ) → AreBytes x → AreBytes y → (link_stored len x y).outcome ≡ ok l → (link_stored n y x).outcome ≡ ok m → l ≡ m
either-accepted len n x y l m v w e f =
    let p = link-accepted len x y l e in
    let q = link-accepted n y x m f in
    let a : q.other ≡ p.one = same q.other p.one (sym q.other_checks ∙ p.one_checks) in
    let b : q.one ≡ p.other = same q.one p.other (sym q.one_checks ∙ p.other_checks) in
    let G = both-good p.one p.other (checked-good x p.one v p.one_checks) (checked-good y p.other w p.other_checks) in
    let u : link word_room p.other p.one ≡ ok q.result = (λ i. link word_room (sym b i) (sym a i)) ∙ q.links in
    let o : p.result ≡ q.result =
    accepted-alike (p.one ∷ p.other ∷ []) G (pair p.one p.other) (pair p.other p.one) (Permᴰ.refl (p.one ∷ p.other ∷ [])) (Permᴰ.swap refl refl) p.result q.result p.links u in
    p.is ∙ (ap stored o ∙ sym q.is)
  where
    same : (c d : Object) → ok c ≡ ok d → c ≡ d
    same c d e = cc

-- where there is room for both, it is so or both are refused
same_self : (o : Outcome (List ℕ)) → SameBytes o o
same_self (ok l) = refl
same_self (refused q) = tt

stored_same : (len : ℕ) (o p : Outcome Object) → OneSame o p → SameBytes (o >>= store len) (p >>= store len)
stored_same len (ok a) (ok b) e = rw e (same_self (store len b))
stored_same len (ok a) (refused q) e = absurd e
stored_same len (refused q) (ok b) e = absurd e
stored_same len (refused q) (refused r) e = tt

pub either_order : (len : ℕ) (x y : List ℕ) (a b : Object) → AreBytes x → AreBytes y → check x ≡ ok a → check y ≡ ok b → Room word_room (a ∷ b ∷ [])
    → SameBytes (link_stored len x y).outcome (link_stored len y x).outcome
unfolding link_stored link_first link_second link_objects
either_order len x y a b v w c d R =
    let G = both-good a b (checked-good x a v c) (checked-good y b w d) in
    let p : load word_room x ≡ ok a = load-whole word_room x a c (omega (arith, R.words)) in
    let q : load word_room y ≡ ok b = load-whole word_room y b d (omega (arith, R.words)) in
    let s = one_same word_room (a ∷ b ∷ []) G R (pair a b) (pair b a) (omega arith, tt, tt) (omega arith, tt, tt) (Permᴰ.refl (a ∷ b ∷ [])) (Permᴰ.swap refl refl) in
    rw (p, q) (stored_same len (link word_room a b) (link word_room b a) s)
