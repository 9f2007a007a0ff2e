-- What a way of linking gives, whatever is lent, and where it is refused, if enough is lent: from two objects to any list. Assumes nothing.
use mathlib.Core.Path.{◌≡◌, refl, ◌∙◌, ap}
use mathlib.Core.Bool.{false}
use mathlib.Core.Logic.{inl, inr}
use mathlib.Core.List.Memᴰ
use mathlib.Core.List.Permᴰ
use mathlib.Core.List.{List, [], ◌∷◌, ◌++◌, Memᴰ, Permᴰ}
use Prim.Native.Nat.{ℕ, suc, ◌+◌, ◌≤◌, ◌<◌}
use native.Mathlib.Omega.{arith}
use lib.ListN.{length, length-append}
use borrow.Author.Tests.{leb-false}
use Rattle.rules.specs.Base.{Outcome, ok, refused, Refusal, ◌>>=◌}
use Rattle.rules.specs.Objects.{Object, Counts, counts_of, Good}
use Rattle.rules.specs.Linking.{shared, agree, union, link}
use Rattle.rules.proofs.Bools.{never}
use Rattle.rules.proofs.Gave.{gave}
use Rattle.laws_link.specs.Ways.{Way, leaf, node, entries, run, Lends, AllGood, sum, Room}
use Rattle.laws_link.specs.Joins.{Clash, Differ, TwoClash}
use Rattle.laws_link.proofs.Tests.{shared-overlap, overlap-shared, agree-refused, agree-ok}
use Rattle.laws_link.proofs.Answers.{Answer, is_shared, is-differing, is-full, is-short, is_made, answer, Held, holds-true, true-holds, few_labels, few_relocs, sum-blocks, sum-words}
use Rattle.laws_link.proofs.Gathers.{Gathers, gathers-one, gathers-two, gathers-perm, mem-perm}
use Rattle.laws_link.proofs.Clashes.{lonely, two-perm, two-left, two-right, clash-two, no-two}
use Rattle.laws_link.proofs.Union.{union-gathers, union-good}

-- COUNTS ADDED UP

sum-append : (f : Counts → ℕ) (k l : List Object) → sum f (k ++ l) ≡ sum f k + sum f l
sum-append f [] l = omega arith
sum-append f (e ∷ k) l = omega (arith, sum-append f k l)

sum-perm : (f : Counts → ℕ) {k l : List Object} → Permᴰ k l → sum f k ≡ sum f l
sum-perm f Permᴰ.nil = refl
sum-perm f (Permᴰ.cons q d) = omega (arith, sum-perm f d, ap (λ (e : Object). f (counts_of e)) q)
sum-perm f (Permᴰ.swap p q) = omega (arith, ap (λ (e : Object). f (counts_of e)) p, ap (λ (e : Object). f (counts_of e)) q)
sum-perm f (Permᴰ.trans c d) = sum-perm f c ∙ sum-perm f d

-- an object is no larger than the entries of l together
pub record Small (l : List Object) (o : Object) : Type 0 where
  pub blocks : (counts_of o).blocks ≤ sum (λ c. c.blocks) l
  pub words : (counts_of o).words ≤ sum (λ c. c.words) l
  pub labels : (counts_of o).labels ≤ sum (λ c. c.labels) l
  pub relocs : (counts_of o).relocs ≤ sum (λ c. c.relocs) l

room-perm : (w : ℕ) (k l : List Object) → Permᴰ k l → Room w k → Room w l
room-perm w k l d R = record {
  blocks = omega (arith, R.blocks, sum-perm (λ c. c.blocks) d);
  words = omega (arith, R.words, sum-perm (λ c. c.words) d);
  labels = omega (arith, R.labels, sum-perm (λ c. c.labels) d);
  relocs = omega (arith, R.relocs, sum-perm (λ c. c.relocs) d);
}

module _ (w : ℕ) (k l : List Object) (R : Room w (k ++ l)) where
  room-left : Room w k
  room-left = record {
    blocks = omega (arith, R.blocks, sum-append (λ c. c.blocks) k l);
    words = omega (arith, R.words, sum-append (λ c. c.words) k l);
    labels = omega (arith, R.labels, sum-append (λ c. c.labels) k l);
    relocs = omega (arith, R.relocs, sum-append (λ c. c.relocs) k l);
  }

  room-right : Room w l
  room-right = record {
    blocks = omega (arith, R.blocks, sum-append (λ c. c.blocks) k l);
    words = omega (arith, R.words, sum-append (λ c. c.words) k l);
    labels = omega (arith, R.labels, sum-append (λ c. c.labels) k l);
    relocs = omega (arith, R.relocs, sum-append (λ c. c.relocs) k l);
  }

  -- what two objects add up to is no more than what their entries do
  room-two : (a b : Object) → Small k a → Small l b → Room w (a ∷ b ∷ [])
  room-two a b A B = record {
    blocks = omega (arith, R.blocks, A.blocks, B.blocks, sum-append (λ c. c.blocks) k l);
    words = omega (arith, R.words, A.words, B.words, sum-append (λ c. c.words) k l);
    labels = omega (arith, R.labels, A.labels, B.labels, sum-append (λ c. c.labels) k l);
    relocs = omega (arith, R.relocs, A.relocs, B.relocs, sum-append (λ c. c.relocs) k l);
  }

-- TWO OBJECTS

-- the entries of l make o, and no two of them clash
pub record Makes (l : List Object) (o : Object) : Type 0 where
  pub good : Good o
  pub gathers : Gathers l o
  pub small : Small l o
  pub clear : TwoClash l → ⊥

module _ (room : ℕ) (a b : Object) (g : Good a) (h : Good b) where
  small : shared a b ≡ false → Small (a ∷ b ∷ []) (union a b)
  small s = record {
    blocks = omega (arith, sum-blocks a b g h s);
    words = omega (arith, sum-words a b g h s);
    labels = omega (arith, few_labels a b);
    relocs = omega (arith, few_relocs a b);
  }

  clear : shared a b ≡ false → agree 0 a.labels b.labels ≡ ok tt → Clash a b → ⊥
  clear s q (inl w) = let z = overlap-shared a b w in never cc
  clear s q (inr w) = agree-ok 0 a.labels b.labels q w

  -- what a link accepts, two objects that do not clash make
  pub link-makes : (o : Object) → link room a b ≡ ok o → (Clash a b → ⊥) × Good o × Gathers (a ∷ b ∷ []) o × Small (a ∷ b ∷ []) o
  link-makes o e = go (answer room a b) e
    where
      go : {r : Outcome Object} → Answer room a b r → r ≡ ok o → (Clash a b → ⊥) × Good o × Gathers (a ∷ b ∷ []) o × Small (a ∷ b ∷ []) o
      go (is_shared s) e = never cc
      go (is-differing s r q) e = never cc
      go (is-full s q i) e = never cc
      go (is-short s q i j) e = never cc
      go (is_made s q i j) e =
          let z : union a b ≡ o = cc in
          let n : (Differ a b → ⊥) = (λ w. clear s q (inr w)) in
          rw (← z) (clear s q, union-good a b g h s n (holds-true (counts_of (union a b)) i), union-gathers a b g h s n, small s)

  -- where both together have room and enough is lent, what it refuses clashes
  pub link-refuses : (w : ℕ) → Room w (a ∷ b ∷ []) → w ≤ room → (x : Refusal) → link room a b ≡ refused x → Clash a b
  link-refuses w R l x e = go (answer room a b) e
    where
      few : shared a b ≡ false → Held (counts_of (union a b))
      few s = record { blocks = omega (arith, R.blocks, (small s).blocks); labels = omega (arith, R.labels, (small s).labels); relocs = omega (arith, R.relocs, (small s).relocs) }

      go : {r : Outcome Object} → Answer room a b r → r ≡ refused x → Clash a b
      go (is_shared s) e = inl (shared-overlap a b g.filled h.filled s)
      go (is-differing s r q) e = inr (agree-refused 0 a.labels b.labels r g.labels_up q).1
      go (is-full s q i) e = let z = true-holds (counts_of (union a b)) (few s) in never cc
      go (is-short s q i j) e = absurd (omega (arith, leb-false (counts_of (union a b)).words room j, (small s).words, R.words))
      go (is_made s q i j) e = never cc

-- ANY WAY

makes_one : (o : Object) → Good o → Makes (o ∷ []) o
makes_one o g = record { good = g; gathers = gathers-one o g; small = omega arith; clear = lonely o }

makes_two : (k l : List Object) (a b o : Object) (room : ℕ) → Makes k a → Makes l b → link room a b ≡ ok o → Makes (k ++ l) o
makes_two k l a b o room A B e =
    let M = link-makes room a b A.good B.good o e in
    let S : Small (a ∷ b ∷ []) o = M.3 in
    record {
      good = M.1;
      gathers = gathers-two k l a b o A.gathers B.gathers M.2;
      small = record {
        blocks = omega (arith, S.blocks, A.small.blocks, B.small.blocks, sum-append (λ c. c.blocks) k l);
        words = omega (arith, S.words, A.small.words, B.small.words, sum-append (λ c. c.words) k l);
        labels = omega (arith, S.labels, A.small.labels, B.small.labels, sum-append (λ c. c.labels) k l);
        relocs = omega (arith, S.relocs, A.small.relocs, B.small.relocs, sum-append (λ c. c.relocs) k l);
      };
      clear = no-two k l a b A.gathers B.gathers A.clear B.clear M.0;
    }

-- what a way gives, its entries make, whatever is lent
pub way-makes : (t : Way) → AllGood (entries t) → (o : Object) → run t ≡ ok o → Makes (entries t) o
way-makes (leaf e) G o q = let z : e ≡ o = cc in rw z (makes_one o (rw z at (G e (Memᴰ.head refl))))
way-makes (node room s t) G o q =
    let u = gave (run s) _ o q in
    let v = gave (run t) _ o u.then' in
    makes_two (entries s) (entries t) u.given' v.given' o room
    (way-makes s (λ e m. G e (Memᴰ.append_left (entries t) m)) u.given' u.first)
    (way-makes t (λ e m. G e (Memᴰ.append_right (entries s) m)) v.given' v.first) v.then'

-- where the entries have room and enough is lent, of what is refused two entries clash
pub way-refuses : (w : ℕ) (t : Way) → Lends w t → AllGood (entries t) → Room w (entries t) → (x : Refusal) → run t ≡ refused x → TwoClash (entries t)
way-refuses w (leaf e) L G R x q = never cc
way-refuses w (node room s t) L G R x q =
    go (run s) refl (run t) refl q (way-refuses w s L.1 Gs (room-left w (entries s) (entries t) R)) (way-refuses w t L.2 Gt (room-right w (entries s) (entries t) R))
  where
    Gs : AllGood (entries s)
    Gs e m = G e (Memᴰ.append_left (entries t) m)

    Gt : AllGood (entries t)
    Gt e m = G e (Memᴰ.append_right (entries s) m)

    go : (y : Outcome Object) → run s ≡ y → (z : Outcome Object) → run t ≡ z → (y >>= λ a. z >>= λ b. link room a b) ≡ refused x
        → ((x : Refusal) → run s ≡ refused x → TwoClash (entries s)) → ((x : Refusal) → run t ≡ refused x → TwoClash (entries t)) → TwoClash (entries s ++ entries t)
    go (refused r) i z j q k l = two-left (entries s) (entries t) (k r i)
    go (ok a) i (refused r) j q k l = two-right (entries s) (entries t) (l r j)
    go (ok a) i (ok b) j q k l =
        let A = way-makes s Gs a i in
        let B = way-makes t Gt b j in
        clash-two (entries s) (entries t) a b A.gathers B.gathers
        (link-refuses room a b A.good B.good w (room-two w (entries s) (entries t) R a b A.small B.small) L.0 x q)

-- THE LIST IN ANY ORDER

module _ (t : Way) (l : List Object) (d : Permᴰ (entries t) l) (G : AllGood l) where
  own-good : AllGood (entries t)
  own-good e m = G e (mem-perm e d m)

  pub list-good : (o : Object) → run t ≡ ok o → Good o
  list-good o q = (way-makes t own-good o q).good

  pub list-gathers : (o : Object) → run t ≡ ok o → Gathers l o
  list-gathers o q = gathers-perm (entries t) l o d (way-makes t own-good o q).gathers

  pub list-clear : (o : Object) → run t ≡ ok o → TwoClash l → ⊥
  list-clear o q c = (way-makes t own-good o q).clear (two-perm (Permᴰ.symm d) c)

  pub list-refuses : (w : ℕ) → Lends w t → Room w l → (x : Refusal) → run t ≡ refused x → TwoClash l
  list-refuses w L R x q = two-perm d (way-refuses w t L own-good (room-perm w l (entries t) (Permᴰ.symm d) R) x q)

-- a way of one entry is that entry
length-perm : {k l : List Object} → Permᴰ k l → length k ≡ length l
length-perm Permᴰ.nil = refl
length-perm (Permᴰ.cons q d) = ap suc (length-perm d)
length-perm (Permᴰ.swap p q) = refl
length-perm (Permᴰ.trans c d) = length-perm c ∙ length-perm d

some-entry : (t : Way) → 0 < length (entries t)
some-entry (leaf e) = omega arith
some-entry (node room s t) = omega (arith, some-entry s, length-append (entries s) (entries t))

pub only : (t : Way) (e : Object) → Permᴰ (entries t) (e ∷ []) → run t ≡ ok e
only (leaf f) e d = ap (λ (o : Object). ok o) (sole (mem-perm f d (Memᴰ.head refl)))
  where
    sole : Memᴰ f (e ∷ []) → f ≡ e
    sole m = Memᴰ.eq_of_singleton m
only (node room s t) e d = absurd (omega (arith, some-entry s, some-entry t, length-append (entries s) (entries t), length-perm d))
