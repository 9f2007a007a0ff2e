-- A good object row by row, as its fields come: what each row has to show of those before it, and that this is all that makes an object good. Assumes nothing.
use mathlib.Core.Path.{◌≡◌, refl, sym, ◌∙◌}
use mathlib.Core.Bool.{Bool, true, false}
use mathlib.Core.List.{List, [], ◌∷◌, Memᴰ}
use mathlib.Core.Option.{some}
use Prim.Native.Nat.{ℕ, suc, ◌+◌, ◌-◌, ◌≤◌, ◌<◌, zero-le}
use native.Mathlib.Omega.{arith}
use lib.ListN.{length}
use Rattle.rules.specs.Capacities.{block_room, label_room, reloc_room, word_room}
use Rattle.rules.specs.Tables.{Tri, less, same, more, Order, Table, pick, look, Low, Sorted, nat_order, name_order, Before}
use Rattle.rules.specs.Objects.{Cell, word, Lab, outer, defined, Name, Object, cells, Full, Good, label_token, good_name}
use Rattle.rules.proofs.Bools.{never}
use Rattle.rules.proofs.Tables.{look-here, look-there, look-low, low-down, none-some}
use Rattle.rules.proofs.Runs.{From}
use Rattle.rules.proofs.Chains.{Chain, chain-full, chain-cells, chain-heads, cells-chain, held_in, in_held}

-- WHAT HOLDS OF ROWS, AND OF WHAT THEY SAY

abbrev pub Each : {K U : Type 0} → (K → U → Type 0) → Table K U → Type 0
Each P [] = Unit {0}
Each P (e ∷ t) = P e.0 e.1 × Each P t

pub each_of : {K U : Type 0} (O : Order K) (P : K → U → Type 0) (t : Table K U) → Sorted O t → ((k : K) (v : U) → look O t k ≡ some v → P k v) → Each P t
each_of O P [] s h = tt
each_of O P (e ∷ t) s h = (h e.0 e.1 (look-here O e t e.0 refl), each_of O P t s.1 (λ k v q. h k v (tail k v q)))
  where
    tail : (k : _) (v : _) → look O t k ≡ some v → look O (e ∷ t) k ≡ some v
    tail k v q = look-there O e t k (λ z. none-some (sym (look-low O e.0 t s.0) ∙ (rw z at q))) ∙ q

pub each-look : {K U : Type 0} (O : Order K) (P : K → U → Type 0) (t : Table K U) → Each P t → (k : K) (v : U) → look O t k ≡ some v → P k v
each-look O P [] h k v q = absurd (none-some q)
each-look O P (e ∷ t) h k v q = go (O.tri k e.0) q (each-look O P t h.1 k v)
  where
    go : (c : Tri O.lt k e.0) → pick c e.1 (look O t k) ≡ some v → (look O t k ≡ some v → P k v) → P k v
    go (less l) r i = i r
    go (same z) r i = let y : e.1 ≡ v = cc in rw (z, ← y) h.0
    go (more l) r i = i r

-- BLOCKS: each starts where the one before it ends or later, and ends at xFE00 or before

abbrev pub Ends : Table ℕ (List Cell) → Type 0
Ends [] = Unit {0}
Ends (b ∷ bs) = (b.0 + length b.1 ≤ word_room) × Ends bs

ends_of : (bs : Table ℕ (List Cell)) → ((d : ℕ × List Cell) → Memᴰ d bs → d.0 + length d.1 ≤ word_room) → Ends bs
ends_of [] h = tt
ends_of (b ∷ bs) h = (h b (Memᴰ.head refl), ends_of bs (λ d m. h d (Memᴰ.tail m)))

ends-mem : (bs : Table ℕ (List Cell)) (d : ℕ × List Cell) → Ends bs → Memᴰ d bs → d.0 + length d.1 ≤ word_room
ends-mem [] d h xp = elim xp [ ]
ends-mem (b ∷ bs) d h (Memᴰ.head q) = rw q h.0
ends-mem (b ∷ bs) d h (Memᴰ.tail m) = ends-mem bs d h.1 m

full-mem : (b : Table ℕ (List Cell)) (d : ℕ × List Cell) → Full b → Memᴰ d b → 0 < length d.1
full-mem [] d f xp = elim xp [ ]
full-mem (e ∷ b) d f (Memᴰ.head q) = rw q f.0
full-mem (e ∷ b) d f (Memᴰ.tail m) = full-mem b d f.1 m

end_low : (o : Object) → Good o → (d : ℕ × List Cell) → Memᴰ d o.blocks → d.0 + length d.1 ≤ word_room
end_low o g d m =
    let p = full-mem o.blocks d g.filled m in
    let u = in_held o.blocks (d.0 + (length d.1 - 1)) d m (omega arith, omega arith) in
    omega (arith, g.low (d.0 + (length d.1 - 1)) u.0 u.1)

from_zero : (t : Table ℕ Cell) → From 0 t
from_zero [] = tt
from_zero (e ∷ t) = (zero-le, from_zero t)

-- LABELS: each above the one before, and a good name

abbrev pub Names : Name → Table Name Lab → Type 0
Names l [] = Unit {0}
Names l (e ∷ t) = Before l e.0 × (good_name e.0 ≡ true) × Names e.0 t

abbrev pub Named : Name → Lab → Type 0
Named n v = good_name n ≡ true

low-nil : (t : Table Name Lab) → Each Named t → Low name_order [] t
unfolding good_name label_token
low-nil [] h = tt
low-nil (([], v) ∷ t) h = let z : ◌≡◌ {A = Bool} false true = h.0 in never cc
low-nil (((c ∷ n), v) ∷ t) h = (tt, low-nil t h.1)

names_of : (l : Name) (t : Table Name Lab) → Low name_order l t → Sorted name_order t → Each Named t → Names l t
names_of l [] w s h = tt
names_of l (e ∷ t) w s h = (w.0, h.0, names_of e.0 t s.0 s.1 h.1)

names-low : (l : Name) (t : Table Name Lab) → Names l t → Low name_order l t
names-low l [] h = tt
names-low l (e ∷ t) h = (h.0, low-down name_order l e.0 t h.0 (names-low e.0 t h.2))

pub names-sorted : (l : Name) (t : Table Name Lab) → Names l t → Sorted name_order t
names-sorted l [] h = tt
names-sorted l (e ∷ t) h = (names-low e.0 t h.2, names-sorted e.0 t h.2)

pub names-each : (l : Name) (t : Table Name Lab) → Names l t → Each Named t
names-each l [] h = tt
names-each l (e ∷ t) h = (h.1, names-each e.0 t h.2)

-- RELOCATIONS: each above the one before, at a set word 0, to an external

abbrev pub Placed : Table ℕ (List Cell) → Table Name Lab → ℕ → Name → Type 0
Placed bs ls a n = (look nat_order (cells bs) a ≡ some (word 0)) × (look name_order ls n ≡ some outer)

abbrev pub Places : Table ℕ (List Cell) → Table Name Lab → ℕ → Table ℕ Name → Type 0
Places bs ls a [] = Unit {0}
Places bs ls a (e ∷ t) = (a ≤ e.0) × Placed bs ls e.0 e.1 × Places bs ls (suc e.0) t

abbrev Least : ℕ → Table ℕ Name → Type 0
Least a [] = Unit {0}
Least a (e ∷ t) = a ≤ e.0

least-low : (a : ℕ) (t : Table ℕ Name) → Low nat_order a t → Least (suc a) t
least-low a [] w = tt
least-low a (e ∷ t) w = w.0

least_zero : (t : Table ℕ Name) → Least 0 t
least_zero [] = tt
least_zero (e ∷ t) = zero-le

places_of : (bs : Table ℕ (List Cell)) (ls : Table Name Lab) (a : ℕ) (t : Table ℕ Name) → Least a t → Sorted nat_order t → Each (Placed bs ls) t → Places bs ls a t
places_of bs ls a [] w s h = tt
places_of bs ls a (e ∷ t) w s h = (w, h.0, places_of bs ls (suc e.0) t (least-low e.0 t s.0) s.1 h.1)

places-low : (bs : Table ℕ (List Cell)) (ls : Table Name Lab) (a : ℕ) (t : Table ℕ Name) → Places bs ls (suc a) t → Low nat_order a t
places-low bs ls a [] h = tt
places-low bs ls a (e ∷ t) h = (h.0, low-down nat_order a e.0 t h.0 (places-low bs ls e.0 t h.2))

places-sorted : (bs : Table ℕ (List Cell)) (ls : Table Name Lab) (a : ℕ) (t : Table ℕ Name) → Places bs ls a t → Sorted nat_order t
places-sorted bs ls a [] h = tt
places-sorted bs ls a (e ∷ t) h = (places-low bs ls e.0 t h.2, places-sorted bs ls (suc e.0) t h.2)

places-each : (bs : Table ℕ (List Cell)) (ls : Table Name Lab) (a : ℕ) (t : Table ℕ Name) → Places bs ls a t → Each (Placed bs ls) t
places-each bs ls a [] h = tt
places-each bs ls a (e ∷ t) h = (h.1, places-each bs ls (suc e.0) t h.2)

-- ALL

pub record Ordered (o : Object) : Type 0 where
  pub chain : Chain 0 o.blocks
  pub ends : Ends o.blocks
  pub names : Names [] o.labels
  pub places : Places o.blocks o.labels 0 o.relocs
  pub few_blocks : length o.blocks ≤ block_room
  pub few_labels : length o.labels ≤ label_room
  pub few_relocs : length o.relocs ≤ reloc_room

pub good-ordered : (o : Object) → Good o → Ordered o
good-ordered o g =
    let e = each_of name_order Named o.labels g.labels_up g.named in
    record {
      chain = cells-chain 0 o.blocks g.filled g.cells_up (from_zero (cells o.blocks));
      ends = ends_of o.blocks (end_low o g);
      names = names_of [] o.labels (low-nil o.labels e) g.labels_up e;
      places = places_of o.blocks o.labels 0 o.relocs (least_zero o.relocs) g.relocs_up
          (each_of nat_order (Placed o.blocks o.labels) o.relocs g.relocs_up (λ x n q. (g.reloc_zero x n q, g.reloc_outer x n q)));
      few_blocks = g.few_blocks;
      few_labels = g.few_labels;
      few_relocs = g.few_relocs;
    }

-- all numbers are two bytes: set words, and addresses of labels
abbrev pub Worded : ℕ → Cell → Type 0
Worded x c = (w : ℕ) → c ≡ word w → w < 65536

abbrev pub Addressed : Name → Lab → Type 0
Addressed n v = (a : ℕ) → v ≡ defined a → a < 65536

pub ordered-good : (o : Object) → Ordered o → Each Worded (cells o.blocks) → Each Addressed o.labels → Good o
ordered-good o w l s =
    let n = each-look name_order Named o.labels (names-each [] o.labels w.names) in
    let p = each-look nat_order (Placed o.blocks o.labels) o.relocs (places-each o.blocks o.labels 0 o.relocs w.places) in
    record {
      heads_up = chain-heads 0 o.blocks w.chain;
      labels_up = names-sorted [] o.labels w.names;
      relocs_up = places-sorted o.blocks o.labels 0 o.relocs w.places;
      filled = chain-full 0 o.blocks w.chain;
      named = n;
      cells_up = chain-cells 0 o.blocks w.chain;
      low = λ x c q. (let d = held_in o.blocks x c q in omega (arith, d.2.1, ends-mem o.blocks d.0 w.ends d.1));
      few_blocks = w.few_blocks;
      few_labels = w.few_labels;
      few_relocs = w.few_relocs;
      reloc_zero = λ x m q. (p x m q).0;
      reloc_outer = λ x m q. (p x m q).1;
      words_low = λ x u q. each-look nat_order Worded (cells o.blocks) l x (word u) q u refl;
      labels_low = λ m a q. each-look name_order Addressed o.labels s m (defined a) q a refl;
    }
