-- What was read keeps every rule that its fields have come to so far, and the object at the end all of them. Assumes nothing.
use mathlib.Core.Path.{◌≡◌, refl}
use mathlib.Core.Bool.{Bool, true, false}
use mathlib.Core.List.{List, [], ◌∷◌, ◌++◌}
use mathlib.Core.Option.{none, some}
use Prim.Native.Nat.{ℕ, zero, suc, ◌+◌, ◌-◌, ◌≤◌, ◌<◌, zero-le}
use native.Mathlib.Omega.{arith}
use lib.ListN.{length, length-append}
use Rattle.rules.specs.Capacities.{block_room, label_room, reloc_room, word_room}
use Rattle.rules.specs.Tables.{Table, Before}
use Rattle.rules.specs.Objects.{Cell, Lab, Name, Object, good_name}
use Rattle.rules.specs.Stored.{Run, Item, fin, block, run, label, reloc, State, begin, held, size, free, after, flatten, may, grown, next, is_fin, judged}
use Rattle.rules.proofs.Tables.{none-some}
use Rattle.rules.proofs.Chains.{Chain}
use Rattle.laws_stored.proofs.Cut.{fits-some}
use Rattle.laws_stored.proofs.Accepted.{closing, accept}
use Rattle.laws_stored.proofs.Written.{flatten-more}
use Rattle.laws_stored.proofs.Taken.{MayBlock, MayRun, MayLabel, MayReloc, may-block, may-run, may-label, may-reloc, Along, step}
use Rattle.laws_stored.proofs.Ordered.{Ends, Names, Placed, Places, Ordered}

-- ROWS UP TO A BOUND, and one more

abbrev pub ChainTo : ℕ → Table ℕ (List Cell) → ℕ → Type 0
ChainTo y [] z = y ≤ z
ChainTo y (b ∷ bs) z = (y ≤ b.0) × (0 < length b.1) × (b.0 + length b.1 ≤ word_room) × ChainTo (b.0 + length b.1) bs z

chain_more : (y : ℕ) (bs : Table ℕ (List Cell)) (z a : ℕ) (cs : List Cell) → ChainTo y bs z → z ≤ a → 0 < length cs → a + length cs ≤ word_room
    → ChainTo y (bs ++ ((a, cs) ∷ [])) (a + length cs)
chain_more y [] z a cs c p q l = (omega (arith, c), q, l, omega arith)
chain_more y (b ∷ bs) z a cs c p q l = (c.0, c.1, c.2, chain_more (b.0 + length b.1) bs z a cs c.3 p q l)

chain-is : (y : ℕ) (bs : Table ℕ (List Cell)) (z : ℕ) → ChainTo y bs z → Chain y bs
chain-is y [] z c = tt
chain-is y (b ∷ bs) z c = (c.0, c.1, chain-is (b.0 + length b.1) bs z c.3)

ends_is : (y : ℕ) (bs : Table ℕ (List Cell)) (z : ℕ) → ChainTo y bs z → Ends bs
ends_is y [] z c = tt
ends_is y (b ∷ bs) z c = (c.2, ends_is (b.0 + length b.1) bs z c.3)

abbrev pub NamesTo : Name → Table Name Lab → Name → Type 0
NamesTo l [] z = l ≡ z
NamesTo l (e ∷ t) z = Before l e.0 × (good_name e.0 ≡ true) × NamesTo e.0 t z

names_more : (l : Name) (t : Table Name Lab) (z n : Name) (v : Lab) → NamesTo l t z → Before z n → good_name n ≡ true → NamesTo l (t ++ ((n, v) ∷ [])) n
names_more l [] z n v h p q = (rw h p, q, refl)
names_more l (e ∷ t) z n v h p q = (h.0, h.1, names_more e.0 t z n v h.2 p q)

names-is : (l : Name) (t : Table Name Lab) (z : Name) → NamesTo l t z → Names l t
names-is l [] z h = tt
names-is l (e ∷ t) z h = (h.0, h.1, names-is e.0 t z h.2)

abbrev PlacesTo : Table ℕ (List Cell) → Table Name Lab → ℕ → Table ℕ Name → ℕ → Type 0
PlacesTo bs ls a [] z = a ≤ z
PlacesTo bs ls a (e ∷ t) z = (a ≤ e.0) × Placed bs ls e.0 e.1 × PlacesTo bs ls (suc e.0) t z

places-more : (bs : Table ℕ (List Cell)) (ls : Table Name Lab) (a : ℕ) (t : Table ℕ Name) (z x : ℕ) (n : Name) → PlacesTo bs ls a t z → z ≤ x → Placed bs ls x n
    → PlacesTo bs ls a (t ++ ((x, n) ∷ [])) (suc x)
places-more bs ls a [] z x n h p q = (omega (arith, h), q, omega arith)
places-more bs ls a (e ∷ t) z x n h p q = (h.0, h.1, places-more bs ls (suc e.0) t z x n h.2 p q)

places_is : (bs : Table ℕ (List Cell)) (ls : Table Name Lab) (a : ℕ) (t : Table ℕ Name) (z : ℕ) → PlacesTo bs ls a t z → Places bs ls a t
places_is bs ls a [] z h = tt
places_is bs ls a (e ∷ t) z h = (h.0, h.1, places_is bs ls (suc e.0) t z h.2)

places-none : (bs : Table ℕ (List Cell)) (ls : Table Name Lab) (t : Table ℕ Name) (z : ℕ) → t ≡ [] → PlacesTo bs ls 0 t z
places-none bs ls t z e = rw e zero-le

-- WHAT THE STATE KEEPS

pub record Kept (s : State) : Type 0 where
  pub chain : ChainTo 0 s.blocks s.floor
  pub names : NamesTo [] s.labels s.last
  pub places : PlacesTo s.blocks s.labels 0 s.relocs s.least
  pub few_blocks : length s.blocks ≤ block_room
  pub few_labels : length s.labels ≤ label_room
  pub few_relocs : length s.relocs ≤ reloc_room
  -- the open block
  pub room : 0 < s.owed → length s.blocks < block_room
  pub above : 0 < s.owed → s.floor ≤ s.start
  pub below : 0 < s.owed → s.start + s.total ≤ word_room

pub kept-begin : Kept begin
kept-begin = record {
  chain = zero-le;
  names = refl;
  places = zero-le;
  few_blocks = zero-le;
  few_labels = zero-le;
  few_relocs = zero-le;
  room = λ h. omega arith;
  above = λ h. zero-le;
  below = λ h. omega arith;
}

kept_run : (s : State) (r : Run) → Along s → Kept s → MayRun s r → Kept (next s (run r))
unfolding next
kept_run s r v k m = go (s.owed - size r) refl
  where
    p : 0 < size r
    p = fits-some (after free s.runs) r m.follows

    o : 0 < s.owed
    o = omega (arith, p, m.owed)

    go : (j : ℕ) → s.owed - size r ≡ j → Kept (grown s (s.runs ++ (r ∷ [])) (s.owed - size r))
    go zero e =
        let t : length (flatten (s.runs ++ (r ∷ []))) ≡ s.total = omega (arith, m.owed, flatten-more s.runs r, v.sum o) in
        rw e (record {
          chain = rw t at (chain_more 0 s.blocks s.floor s.start (flatten (s.runs ++ (r ∷ []))) k.chain (k.above o) (omega (arith, p, flatten-more s.runs r)) (omega (arith, k.below o)));
          names = k.names;
          places = places-none (s.blocks ++ ((s.start, flatten (s.runs ++ (r ∷ []))) ∷ [])) s.labels s.relocs s.least (v.no-relocs o);
          few_blocks = omega (arith, length-append s.blocks ((s.start, flatten (s.runs ++ (r ∷ []))) ∷ []), k.room o);
          few_labels = k.few_labels;
          few_relocs = k.few_relocs;
          room = λ h. absurd (omega arith);
          above = λ h. absurd (omega arith);
          below = λ h. absurd (omega arith);
        })
    go (suc j) e = rw e (record {
      chain = k.chain;
      names = k.names;
      places = k.places;
      few_blocks = k.few_blocks;
      few_labels = k.few_labels;
      few_relocs = k.few_relocs;
      room = λ h. k.room o;
      above = λ h. k.above o;
      below = λ h. k.below o;
    })

kept_block : (s : State) (a n : ℕ) → Kept s → MayBlock s a n → Kept (next s (block a n))
unfolding next
kept_block s a n k m = record {
  chain = k.chain;
  names = k.names;
  places = k.places;
  few_blocks = k.few_blocks;
  few_labels = k.few_labels;
  few_relocs = k.few_relocs;
  room = λ h. m.room;
  above = λ h. m.above;
  below = λ h. m.below;
}

kept_label : (s : State) (n : Name) (u : Lab) → Kept s → MayLabel s n → Kept (next s (label n u))
unfolding next
kept_label s n u k m = record {
  chain = k.chain;
  names = names_more [] s.labels s.last n u k.names m.above m.named;
  places = places-none s.blocks (s.labels ++ ((n, u) ∷ [])) s.relocs s.least m.no-relocs;
  few_blocks = k.few_blocks;
  few_labels = omega (arith, length-append s.labels ((n, u) ∷ []), m.room);
  few_relocs = k.few_relocs;
  room = k.room;
  above = k.above;
  below = k.below;
}

kept-reloc : (s : State) (a : ℕ) (n : Name) → Kept s → MayReloc s a n → Kept (next s (reloc a n))
unfolding next
kept-reloc s a n k m = record {
  chain = k.chain;
  names = k.names;
  places = places-more s.blocks s.labels 0 s.relocs s.least a n k.places m.above (m.zero, m.outside);
  few_blocks = k.few_blocks;
  few_labels = k.few_labels;
  few_relocs = omega (arith, length-append s.relocs ((a, n) ∷ []), m.room);
  room = k.room;
  above = k.above;
  below = k.below;
}

pub kept : (s : State) (i : Item) → Along s → Kept s → may s i ≡ true → Kept (next s i)
unfolding next
kept s fin v k m = k
kept s (block a n) v k m = kept_block s a n k (may-block s a n m)
kept s (run r) v k m = kept_run s r v k (may-run s r m)
kept s (label n u) v k m = kept_label s n u k (may-label s n u m)
kept s (reloc a n) v k m = kept-reloc s a n k (may-reloc s a n m)

-- AT THE END

pub kept-ordered : (s : State) → Kept s → Ordered (held s)
kept-ordered s k = record {
  chain = chain-is 0 s.blocks s.floor k.chain;
  ends = ends_is 0 s.blocks s.floor k.chain;
  names = names-is [] s.labels s.last k.names;
  places = places_is s.blocks s.labels 0 s.relocs s.least k.places;
  few_blocks = k.few_blocks;
  few_labels = k.few_labels;
  few_relocs = k.few_relocs;
}

pub accept-ordered : (s : State) (is : List Item) (o : Object) → Along s → Kept s → accept s is ≡ some o → Ordered o
unfolding accept
accept-ordered s [] o v k e = absurd (none-some e)
accept-ordered s (i ∷ is) o v k e = go (may s i) refl (is_fin i) refl e (λ w q. accept-ordered (next s i) is o w q)
  where
    end : (is : List Item) → closing s is ≡ some o → Ordered o
    end [] c = let z : o ≡ held s = cc in rw z (kept-ordered s k)
    end (j ∷ js) c = absurd (none-some c)

    go : (m : Bool) → may s i ≡ m → (f : Bool) → is_fin i ≡ f → judged m f none (closing s is) (accept (next s i) is) ≡ some o
        → (Along (next s i) → Kept (next s i) → accept (next s i) is ≡ some o → Ordered o) → Ordered o
    go false m f q a h = absurd (none-some a)
    go true m true q a h = end is a
    go true m false q a h = h (step s i v q m).along (kept s i v k m) a
