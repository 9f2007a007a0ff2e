-- A way of linking a list of objects: an order, a grouping, and the words lent to each link. What it gives, and what is asked of the list and of what is lent. Assumes nothing.
use Rattle.std.specs.Prelude.{◌≡◌, ℕ, ◌+◌, ◌≤◌}
use mathlib.Core.List.{List, [], ◌∷◌, ◌++◌, Memᴰ}
use Rattle.rules.specs.Base.{Outcome, ok, refused, ◌>>=◌}
use Rattle.rules.specs.Capacities.{block_room, label_room, reloc_room}
use Rattle.rules.specs.Objects.{Object, Counts, counts_of, Good}
use Rattle.rules.specs.Linking.{link}

-- a leaf is an entry of the list; a node is a link of what two ways give, with so many words lent
pub data Way : Type 0 where
  leaf : Object → Way
  node : ℕ → Way → Way → Way

-- the entries, in the order in which they are linked
abbrev pub entries : Way → List Object
entries (leaf e) = e ∷ []
entries (node room s t) = entries s ++ entries t

-- what a way gives: an entry is itself, and a refusal of a part ends all
abbrev pub run : Way → Outcome Object
run (leaf e) = ok e
run (node room s t) = do
  a ← run s
  b ← run t
  link room a b

-- each link of the way is lent w words or more
abbrev pub Lends : ℕ → Way → Type 0
Lends w (leaf e) = Unit {0}
Lends w (node room s t) = (w ≤ room) × Lends w s × Lends w t

-- each entry of the list is a good object
abbrev pub AllGood : List Object → Type 0
AllGood l = (e : Object) → Memᴰ e l → Good e

-- a count added up over the list
abbrev pub sum : (Counts → ℕ) → List Object → ℕ
sum count [] = 0
sum count (e ∷ l) = count (counts_of e) + sum count l

-- blocks, words, labels and relocations, added up over the list, are within the capacities and w words
pub record Room (w : ℕ) (l : List Object) : Type 0 where
  pub blocks : sum (λ c. c.blocks) l ≤ block_room
  pub words : sum (λ c. c.words) l ≤ w
  pub labels : sum (λ c. c.labels) l ≤ label_room
  pub relocs : sum (λ c. c.relocs) l ≤ reloc_room

-- one same object, or both are refused
abbrev pub OneSame : Outcome Object → Outcome Object → Type 0
OneSame (ok o) (ok p) = o ≡ p
OneSame (ok o) (refused r) = ⊥
OneSame (refused r) (ok p) = ⊥
OneSame (refused r) (refused s) = Unit {0}

-- it is refused
abbrev pub Refused : Outcome Object → Type 0
Refused (ok o) = ⊥
Refused (refused r) = Unit {0}
