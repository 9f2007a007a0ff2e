-- What the words of the promises come to, said once more without them: two places of a list, one same answer, the parts of a way. Assumes nothing.
use mathlib.Core.Path.{◌≡◌, refl, sym, ◌∙◌, ap}
use mathlib.Core.Logic.{inl, inr}
use mathlib.Core.List.Memᴰ
use mathlib.Core.List.{List, [], ◌∷◌, ◌++◌, Memᴰ}
use Prim.Native.Nat.{ℕ}
use native.Mathlib.Omega.{arith}
use Rattle.rules.specs.Base.{Outcome, ok, refused, Refusal}
use Rattle.rules.specs.Objects.{Object}
use Rattle.rules.specs.Linking.{link}
use Rattle.rules.proofs.Bools.{never}
use Rattle.laws_link.specs.Ways.{Way, leaf, node, entries, run, Lends, OneSame, Refused}
use Rattle.laws_link.specs.Joins.{Overlap, Differ, Clash, TwoClash}

-- CLASHES

-- a common address is a clash, of an object with itself too, and so is one name at two addresses
pub overlap-clash : (e f : Object) → Overlap e f → Clash e f
overlap-clash e f w = inl w

pub differ-clash : (e f : Object) → Differ e f → Clash e f
differ-clash e f w = inr w

-- an entry and one at any later place of the list that clash: two entries do
pub places-clash : (k l m : List Object) (e f : Object) → Clash e f → TwoClash (k ++ e ∷ (l ++ f ∷ m))
places-clash [] l m e f c = inl (f, Memᴰ.append_right l (Memᴰ.head refl), c)
places-clash (d ∷ k) l m e f c = inr (places-clash k l m e f c)

-- and there are such two places wherever two entries do
pub record Places (l : List Object) : Type 0 where
  pub before : List Object
  pub one : Object
  pub between : List Object
  pub other : Object
  pub behind : List Object
  pub is : l ≡ before ++ one ∷ (between ++ other ∷ behind)
  pub clash : Clash one other

split : {f : Object} {l : List Object} → Memᴰ f l → (k : List Object) × (m : List Object) × (l ≡ k ++ f ∷ m)
split (Memᴰ.head {xs = m} q) = ([], m, ap (λ (e : Object). e ∷ m) (sym q))
split (Memᴰ.tail {x = d} w) = let u = split w in (d ∷ u.0, u.1, ap (λ (l : List Object). d ∷ l) u.2)

pub clash-places : (l : List Object) → TwoClash l → Places l
clash-places [] t = absurd t
clash-places (e ∷ l) (inl w) =
    let u = split w.1 in
    record { before = []; one = e; between = u.0; other = w.0; behind = u.1; is = ap (λ (t : List Object). e ∷ t) u.2; clash = w.2 }
clash-places (e ∷ l) (inr t) =
    let p = clash-places l t in
    record { before = e ∷ p.before; one = p.one; between = p.between; other = p.other; behind = p.behind; is = ap (λ (t : List Object). e ∷ t) p.is; clash = p.clash }

-- ONE SAME ANSWER: what the one accepts, the other accepts with the same object

pub same_left : (r s : Outcome Object) → OneSame r s → (o : Object) → r ≡ ok o → s ≡ ok o
same_left (ok p) (ok q) h o e = ap (λ (x : Object). ok x) (sym h) ∙ e
same_left (ok p) (refused x) h o e = absurd h
same_left (refused x) s h o e = never cc

pub same-right : (r s : Outcome Object) → OneSame r s → (o : Object) → s ≡ ok o → r ≡ ok o
same-right (ok p) (ok q) h o e = ap (λ (x : Object). ok x) h ∙ e
same-right (refused x) (ok q) h o e = absurd h
same-right r (refused x) h o e = never cc

pub refused-is : (r : Outcome Object) → Refused r → (x : Refusal) × (r ≡ refused x)
refused-is (ok o) h = absurd h
refused-is (refused x) h = (x, refl)

-- WAYS

-- a refusal of the first part ends all, then one of the second; else it is the link of what both give
pub first-refused : (room : ℕ) (s t : Way) (x : Refusal) → run s ≡ refused x → run (node room s t) ≡ refused x
first-refused room s t x e = rw e

pub second-refused : (room : ℕ) (s t : Way) (a : Object) (x : Refusal) → run s ≡ ok a → run t ≡ refused x → run (node room s t) ≡ refused x
second-refused room s t a x e f = rw (e, f)

pub both-given : (room : ℕ) (s t : Way) (a b : Object) → run s ≡ ok a → run t ≡ ok b → run (node room s t) ≡ link room a b
both-given room s t a b e f = rw (e, f)

-- each list of one or more objects has a way, in its own order, whatever is to be lent
pub some-way : (w : ℕ) (e : Object) (l : List Object) → (t : Way) × Lends w t × (entries t ≡ e ∷ l)
some-way w e [] = (leaf e, tt, refl)
some-way w e (f ∷ l) =
    let u = some-way w f l in
    (node w (leaf e) u.0, (omega arith, tt, u.1), ap (λ (t : List Object). e ∷ t) u.2)
