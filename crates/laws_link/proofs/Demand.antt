-- A list of one or more objects, linked in any order and any grouping, gives one same object or is refused each way; refused exactly when two entries share an address or
-- define one name at two addresses; each relocation whose name some entry defines holds that address, every other word is as its entry had it. Assumes nothing.
use mathlib.Core.Path.{◌≡◌, refl}
use mathlib.Core.Logic.{◌↔◌}
use mathlib.Core.List.{List, [], ◌∷◌, Permᴰ}
use Prim.Native.Nat.{ℕ}
use Rattle.rules.specs.Base.{Outcome, ok, refused}
use Rattle.rules.specs.Objects.{Object, Good}
use Rattle.rules.specs.Linking.{link}
use Rattle.laws_link.specs.Ways.{Way, entries, run, Lends, AllGood, Room, OneSame, Refused}
use Rattle.laws_link.specs.Joins.{TwoClash, Joins}
use Rattle.laws_link.proofs.Meanings as Meanings
use Rattle.laws_link.proofs.Whole.{link-makes, way-makes, list-good, list-gathers, list-clear, list-refuses, only}
use Rattle.laws_link.proofs.Determined as Determined

-- WHAT IS ACCEPTED IS GOOD: one link, and every way. No room is asked for: a link counts for itself.
pub link-good : (room : ℕ) (a b o : Object) → Good a → Good b → link room a b ≡ ok o → Good o
link-good room a b o g h e = (link-makes room a b g h o e).1

pub way-good : (t : Way) (o : Object) → AllGood (entries t) → run t ≡ ok o → Good o
way-good t o G e = (way-makes t G o e).good

-- THE OBJECT. Whatever is lent, what a way accepts is what the entries of the list make: in it each relocation whose name some entry defines holds that address and is gone,
-- and every other word is as its entry had it.
pub gives-what-they-make : (l : List Object) → AllGood l → (t : Way) → Permᴰ (entries t) l → (o : Object) → run t ≡ ok o → Joins l o
gives-what-they-make l G t d o e = Determined.gathers-joins l o G (list-good t l d G o e) (list-gathers t l d G o e)

-- The entries of a list make one object at most.
pub one-object : (l : List Object) (o p : Object) → Good o → Good p → Joins l o → Joins l p → o ≡ p
one-object = Determined.determined

-- Two ways of one list that are both accepted give one same object, whatever is lent to either.
pub accepted-alike : (l : List Object) → AllGood l → (s t : Way) → Permᴰ (entries s) l → Permᴰ (entries t) l → (o p : Object) → run s ≡ ok o → run t ≡ ok p → o ≡ p
accepted-alike l G s t c d o p e f =
    one-object l o p (list-good s l c G o e) (list-good t l d G p f) (gives-what-they-make l G s c o e) (gives-what-they-make l G t d p f)

-- REFUSED where two entries share an address or define one name at two addresses, whatever is lent;
pub clash-refused : (l : List Object) → AllGood l → (t : Way) → Permᴰ (entries t) l → TwoClash l → Refused (run t)
clash-refused l G t d c = go (run t) refl
  where
    go : (r : Outcome Object) → run t ≡ r → Refused r
    go (ok o) q = list-clear t l d G o q c
    go (refused x) q = tt

-- and exactly then, where blocks, words, labels and relocations, added up over the list, are within the capacities and the words lent to each link.
pub refused-exactly : (w : ℕ) (l : List Object) → AllGood l → Room w l → (t : Way) → Lends w t → Permᴰ (entries t) l → Refused (run t) ↔ TwoClash l
refused-exactly w l G R t L d = (only_then (run t) refl, clash-refused l G t d)
  where
    only_then : (r : Outcome Object) → run t ≡ r → Refused r → TwoClash l
    only_then (ok o) q h = absurd h
    only_then (refused x) q h = list-refuses t l d G w L R x q

-- ONE SAME OBJECT, or refused each way: a list of one or more objects, linked in any order and any grouping, so where it has that room.
pub one_same : (w : ℕ) (l : List Object) → AllGood l → Room w l → (s t : Way) → Lends w s → Lends w t → Permᴰ (entries s) l → Permᴰ (entries t) l → OneSame (run s) (run t)
one_same w l G R s t K L c d = go (run s) refl (run t) refl
  where
    go : (x : Outcome Object) → run s ≡ x → (y : Outcome Object) → run t ≡ y → OneSame x y
    go (ok o) p (ok o') q = accepted-alike l G s t c d o o' p q
    go (ok o) p (refused r) q = list-clear s l c G o p (list-refuses t l d G w L R r q)
    go (refused r) p (ok o) q = list-clear t l d G o q (list-refuses s l c G w K R r p)
    go (refused r) p (refused r') q = tt

-- Each list of one or more has a way, in its own order, whatever is to be lent.
pub some-way : (w : ℕ) (e : Object) (l : List Object) → (t : Way) × Lends w t × (entries t ≡ e ∷ l)
some-way = Meanings.some-way

-- A list of one gives its entry.
pub one-alone : (e : Object) (t : Way) → Permᴰ (entries t) (e ∷ []) → run t ≡ ok e
one-alone e t d = only t e d

-- Where no two entries clash, there is such an object: every way gives it.
pub made : (w : ℕ) (l : List Object) → AllGood l → Room w l → (TwoClash l → ⊥) → (t : Way) → Lends w t → Permᴰ (entries t) l → (o : Object) × (run t ≡ ok o) × Good o × Joins l o
made w l G R n t L d = go (run t) refl
  where
    go : (r : Outcome Object) → run t ≡ r → (o : Object) × (run t ≡ ok o) × Good o × Joins l o
    go (ok o) q = (o, q, list-good t l d G o q, gives-what-they-make l G t d o q)
    go (refused x) q = absurd (n (list-refuses t l d G w L R x q))
