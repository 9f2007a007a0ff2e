-- An object in six lent buffers: what 42 and 43 demand of them, the object that stands in them, and the one layout in which an object is written. Assumes nothing.
use Rattle.std.specs.Prelude.{◌≡◌, Bool, true, ◌||◌, List, [], ◌∷◌, ◌++◌, map, ℕ, zero, suc, ◌+◌, ◌-◌, ◌*◌, ◌≤◌, ◌<◌, length, take, drop, get_or, replicate, ltb}
use Rattle.std.proofs.Math.Option.{some}
use Rattle.rules.specs.Base.{when◌then◌else◌}
use Rattle.rules.specs.Capacities.{name_room, block_room, label_room, reloc_room, word_room}
use Rattle.rules.specs.Tables.{Table, Order, Tri, less, same, more, look, nat_order, name_order, Before}
use Rattle.rules.specs.Objects.{Cell, unset, word, Lab, outer, defined, address_of, Name, Object, object, Counts, flat, cells, heads, good_name}

-- The six buffers: blocks in rows (start, length); words; set marks, 1 set, 0 unset; labels in rows (address, external 0 or 1, name's start, name's length);
-- relocations in rows (address, label row); name bytes.
pub record Buffers : Type 0 where
  pub blocks : List ℕ
  pub words : List ℕ
  pub marks : List ℕ
  pub labels : List ℕ
  pub relocs : List ℕ
  pub names : List ℕ

abbrev pub six : (blocks words marks labels relocs names : List ℕ) → Buffers
six b w m l r n = record { blocks = b; words = w; marks = m; labels = l; relocs = r; names = n }

-- 42: a lent table or name buffer is shorter than full capacities need
unfoldable pub short : Buffers → Bool
short b =
    ltb (length b.blocks) (block_room * 2) || ltb (length b.labels) (label_room * 4) || ltb (length b.relocs) (reloc_room * 2)
    || ltb (length b.names) (label_room * name_room)

-- The lent words are the least of the word buffer, its set marks and 65,024.
unfoldable pub least : ℕ → ℕ → ℕ
least m n = when ltb m n then m else n

unfoldable pub lent_words : List ℕ → List ℕ → ℕ
lent_words words marks = least (least (length words) (length marks)) word_room

-- ROWS, by index and total: past a buffer's end there are zeros

-- f 0, f 1, .. : n of them
abbrev pub tab : {A : Type 0} → ℕ → (ℕ → A) → List A
tab zero f = []
tab (suc n) f = f 0 ∷ tab n (λ k. f (suc k))

-- block k: its start and length
abbrev pub head_row : List ℕ → ℕ → ℕ × ℕ
head_row bs k = (get_or bs (k * 2) 0, get_or bs (k * 2 + 1) 0)

-- a word beside its mark
abbrev pub cell_of : ℕ → ℕ → Cell
cell_of w zero = unset
cell_of w (suc m) = word w

abbrev pub cell_row : List ℕ → List ℕ → ℕ → Cell
cell_row ws ms i = cell_of (get_or ws i 0) (get_or ms i 0)

-- label row k: its name and what it says
abbrev pub name_row : List ℕ → List ℕ → ℕ → Name
name_row ls ns k = take (get_or ls (k * 4 + 3) 0) (drop (get_or ls (k * 4 + 2) 0) ns)

abbrev pub lab_from : ℕ → ℕ → Lab
lab_from a zero = defined a
lab_from a (suc x) = outer

abbrev pub lab_row : List ℕ → ℕ → Lab
lab_row ls k = lab_from (get_or ls (k * 4) 0) (get_or ls (k * 4 + 1) 0)

abbrev pub label_row : List ℕ → List ℕ → ℕ → Name × Lab
label_row ls ns k = (name_row ls ns k, lab_row ls k)

-- relocation k: its address and its label's name
abbrev pub reloc_row : List ℕ → List ℕ → List ℕ → ℕ → ℕ × Name
reloc_row rs ls ns k = (get_or rs (k * 2) 0, name_row ls ns (get_or rs (k * 2 + 1) 0))

-- THE VIEW: the object that stands in lent buffers

-- the blocks whose words lie one after another, by their starts and lengths
abbrev pub carve : Table ℕ ℕ → List Cell → Table ℕ (List Cell)
carve [] cs = []
carve (h ∷ hs) cs = (h.0, take h.1 cs) ∷ carve hs (drop h.1 cs)

unfoldable pub view_blocks : ℕ → ℕ → List ℕ → List ℕ → List ℕ → Table ℕ (List Cell)
view_blocks n w bs ws ms = carve (tab n (head_row bs)) (tab w (cell_row ws ms))

unfoldable pub view_labels : ℕ → List ℕ → List ℕ → Table Name Lab
view_labels n ls ns = tab n (label_row ls ns)

unfoldable pub view_relocs : ℕ → List ℕ → List ℕ → List ℕ → Table ℕ Name
view_relocs n rs ls ns = tab n (reloc_row rs ls ns)

abbrev pub view : Counts → Buffers → Object
view c b =
    object
    (view_blocks c.blocks c.words b.blocks b.words b.marks)
    (view_labels c.labels b.labels b.names)
    (view_relocs c.relocs b.relocs b.labels b.names)

-- WHAT 43 DEMANDS: no counts or places past the buffers, no mark other than 0 or 1, no unset word other than 0, no rule of the stored form broken

-- where the block before row k ends, for rows whose first lies at y or later
abbrev pub end_of : ℕ → (ℕ → ℕ × ℕ) → ℕ → ℕ
end_of y h zero = y
end_of y h (suc k) = (h k).0 + (h k).1

-- by start and without overlap, not empty, ending at or below xFE00
pub record BlockRow (y : ℕ) (h : ℕ → ℕ × ℕ) (k : ℕ) : Type 0 where
  pub after : end_of y h k ≤ (h k).0
  pub filled : 0 < (h k).1
  pub low : (h k).0 + (h k).1 ≤ word_room

-- how many words the first k rows have
abbrev pub sum_of : (ℕ → ℕ × ℕ) → ℕ → ℕ
sum_of h zero = 0
sum_of h (suc k) = sum_of h k + (h k).1

pub record BlocksOk (n w : ℕ) (bs : List ℕ) : Type 0 where
  pub few : n ≤ block_room
  pub room : n * 2 ≤ length bs
  pub rows : (k : ℕ) → k < n → BlockRow 0 (head_row bs) k
  pub sum : sum_of (head_row bs) n ≡ w

pub record WordRow (ws ms : List ℕ) (i : ℕ) : Type 0 where
  pub mark : get_or ms i 0 ≤ 1
  pub clear : get_or ms i 0 ≡ 0 → get_or ws i 0 ≡ 0

pub record WordsOk (w : ℕ) (ws ms : List ℕ) : Type 0 where
  pub room_words : w ≤ length ws
  pub room_marks : w ≤ length ms
  pub rows : (i : ℕ) → i < w → WordRow ws ms i

pub record LabelRow (ls ns : List ℕ) (k : ℕ) : Type 0 where
  pub address : get_or ls (k * 4) 0 < 65536
  pub flag : get_or ls (k * 4 + 1) 0 ≤ 1
  pub outside : get_or ls (k * 4 + 1) 0 ≡ 1 → get_or ls (k * 4) 0 ≡ 0
  pub place : get_or ls (k * 4 + 2) 0 + get_or ls (k * 4 + 3) 0 ≤ length ns
  pub name : good_name (name_row ls ns k) ≡ true

-- rows by index whose keys rise
pub record Up {K U : Type 0} (O : Order K) (n : ℕ) (f : ℕ → K × U) : Type 0 where
  pub next : (k : ℕ) → suc k < n → O.lt (f k).0 (f (suc k)).0

pub record LabelsOk (n : ℕ) (ls ns : List ℕ) : Type 0 where
  pub few : n ≤ label_room
  pub room : n * 4 ≤ length ls
  pub rows : (k : ℕ) → k < n → LabelRow ls ns k
  pub up : Up name_order n (label_row ls ns)

-- a set word 0 stands at an address
pub record ZeroAt (n w : ℕ) (bs ws ms : List ℕ) (x : ℕ) : Type 0 where
  pub at : look nat_order (cells (view_blocks n w bs ws ms)) x ≡ some (word 0)

-- of nb blocks, w words, m labels
pub record RelocRow (nb w m : ℕ) (bs ws ms ls rs : List ℕ) (k : ℕ) : Type 0 where
  pub row : get_or rs (k * 2 + 1) 0 < m
  pub outside : get_or ls (get_or rs (k * 2 + 1) 0 * 4 + 1) 0 ≡ 1
  pub zero : ZeroAt nb w bs ws ms (get_or rs (k * 2) 0)

pub record RelocsOk (n nb w m : ℕ) (bs ws ms ls rs : List ℕ) : Type 0 where
  pub few : n ≤ reloc_room
  pub room : n * 2 ≤ length rs
  pub rows : (k : ℕ) → k < n → RelocRow nb w m bs ws ms ls rs k
  pub up : (k : ℕ) → suc k < n → get_or rs (k * 2) 0 < get_or rs (suc k * 2) 0

pub record Valid (c : Counts) (b : Buffers) : Type 0 where
  pub blocks : BlocksOk c.blocks c.words b.blocks
  pub words : WordsOk c.words b.words b.marks
  pub labels : LabelsOk c.labels b.labels b.names
  pub relocs : RelocsOk c.relocs c.blocks c.words c.labels b.blocks b.words b.marks b.labels b.relocs

-- THE LAYOUT: blocks by start and their words one after another, labels by name with their names packed in that order, relocations by address,
-- zero in every unused rest

abbrev pub zeros : ℕ → List ℕ
zeros n = replicate n 0

-- l at the front of a buffer of len, and zeros
abbrev pub lay : List ℕ → ℕ → List ℕ
lay l len = l ++ zeros (len - length l)

abbrev pub head_cells : Table ℕ ℕ → List ℕ
head_cells [] = []
head_cells (h ∷ hs) = h.0 ∷ h.1 ∷ head_cells hs

abbrev pub word_of : Cell → ℕ
word_of unset = 0
word_of (word w) = w

abbrev pub mark_of : Cell → ℕ
mark_of unset = 0
mark_of (word w) = 1

abbrev pub flag_of : Lab → ℕ
flag_of outer = 1
flag_of (defined a) = 0

abbrev pub name_bytes : Table Name Lab → List ℕ
name_bytes [] = []
name_bytes (e ∷ t) = e.0 ++ name_bytes t

-- the rows of labels whose names begin at p
abbrev pub label_cells : ℕ → Table Name Lab → List ℕ
label_cells p [] = []
label_cells p (e ∷ t) = address_of e.1 ∷ flag_of e.1 ∷ p ∷ length e.0 ∷ label_cells (p + length e.0) t

-- the row of a name: how many rows stand before it
abbrev pub pick_row : {a b : Name} → Tri Before a b → ℕ → ℕ
pick_row (less h) r = r
pick_row (same e) r = 0
pick_row (more h) r = r

abbrev pub row_of : Table Name Lab → Name → ℕ
row_of [] n = 0
row_of (e ∷ t) n = pick_row (name_order.tri n e.0) (suc (row_of t n))

abbrev pub reloc_cells : Table Name Lab → Table ℕ Name → List ℕ
reloc_cells ls [] = []
reloc_cells ls (r ∷ rs) = r.0 ∷ row_of ls r.1 ∷ reloc_cells ls rs

-- each buffer, of the length that it has
unfoldable pub lay_blocks : Object → ℕ → List ℕ
lay_blocks o len = lay (head_cells (heads o.blocks)) len

unfoldable pub lay_words : Object → ℕ → List ℕ
lay_words o len = lay (map word_of (flat o.blocks)) len

unfoldable pub lay_marks : Object → ℕ → List ℕ
lay_marks o len = lay (map mark_of (flat o.blocks)) len

unfoldable pub lay_labels : Object → ℕ → List ℕ
lay_labels o len = lay (label_cells 0 o.labels) len

unfoldable pub lay_relocs : Object → ℕ → List ℕ
lay_relocs o len = lay (reloc_cells o.labels o.relocs) len

unfoldable pub lay_names : Object → ℕ → List ℕ
lay_names o len = lay (name_bytes o.labels) len

-- the buffers b after o is written into them; of the object with nothing all zero, which is what a refusal leaves
abbrev pub layout : Object → Buffers → Buffers
layout o b =
    six (lay_blocks o (length b.blocks)) (lay_words o (length b.words)) (lay_marks o (length b.marks)) (lay_labels o (length b.labels))
    (lay_relocs o (length b.relocs)) (lay_names o (length b.names))

unfoldable pub lending : Unit {0}
unfolding short least lent_words view_blocks view_labels view_relocs lay_blocks lay_words lay_marks lay_labels lay_relocs lay_names
lending = tt
