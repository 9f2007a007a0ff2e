-- Section "Stored form and listing" of document 01, the stored form: written, read, one field at a time. Assumes nothing.
use Rattle.std.specs.Prelude.{ℕ, zero, suc, ◌+◌, ◌-◌, ◌*◌, ◌/◌, ◌%◌, Bool, true, false, ◌&&◌, List, [], ◌∷◌, ◌++◌, length, take, drop, eqb, leb, ltb}
use Rattle.std.proofs.Math.Option.{Option, none, some}
use Rattle.rules.specs.Base.{Outcome, ok, ◌>>=◌, ◌>>◌, require, refuse, offset_at, nowhere}
use Rattle.rules.specs.Capacities.{block_room, label_room, reloc_room, word_room}
use Rattle.rules.specs.Tables.{Table, Tri, less, same, more, Before, look, nat_order, name_order}
use Rattle.rules.specs.Objects.{Cell, unset, word, Lab, outer, defined, Name, Object, object, counts_of, cells, good_name}

-- FIELDS

-- runs: set words, or a count of unset words
pub data Run : Type 0 where
  sets : List ℕ → Run
  gap : ℕ → Run

pub data Item : Type 0 where
  fin : Item
  block : ℕ → ℕ → Item
  run : Run → Item
  label : Name → Lab → Item
  reloc : ℕ → Name → Item

-- all numbers are two bytes, big-endian
abbrev pub pair : ℕ → List ℕ
pair n = n / 256 ∷ n % 256 ∷ []

abbrev pub pairs : List ℕ → List ℕ
pairs [] = []
pairs (w ∷ ws) = w / 256 ∷ w % 256 ∷ pairs ws

-- x01 block, x02 set words, x03 unset words, x04 defined label, x05 external, x06 relocation, x00 ends the bytes
abbrev pub tag_of : Item → ℕ
tag_of fin = 0
tag_of (block s n) = 1
tag_of (run (sets ws)) = 2
tag_of (run (gap n)) = 3
tag_of (label n (defined a)) = 4
tag_of (label n outer) = 5
tag_of (reloc a n) = 6

-- start, word count; the words; the count; address, name; name; address, name; empty
abbrev pub content : Item → List ℕ
content fin = []
content (block s n) = pair s ++ pair n
content (run (sets ws)) = pairs ws
content (run (gap n)) = pair n
content (label n (defined a)) = pair a ++ n
content (label n outer) = n
content (reloc a n) = pair a ++ n

-- Fields: tag byte, length, content
abbrev pub frame : ℕ → List ℕ → List ℕ
frame t c = t ∷ pair (length c) ++ c

abbrev pub spell : List Item → List ℕ
spell [] = []
spell (i ∷ is) = frame (tag_of i) (content i) ++ spell is

-- RUNS: x02 set words (16,384 each, the last of a run fewer or equal), x03 count of unset words; neighbouring runs of the same tag only where x02 is full

unfoldable pub run_room : ℕ
run_room = 16384

-- a word before runs: part of the first where that is of its kind, else a run of its own
abbrev pub joined : Cell → List Run → List Run
joined unset [] = gap 1 ∷ []
joined unset (gap n ∷ rs) = gap (suc n) ∷ rs
joined unset (sets ws ∷ rs) = gap 1 ∷ sets ws ∷ rs
joined (word w) [] = sets (w ∷ []) ∷ []
joined (word w) (gap n ∷ rs) = sets (w ∷ []) ∷ gap n ∷ rs
joined (word w) (sets ws ∷ rs) = sets (w ∷ ws) ∷ rs

-- the longest runs
unfoldable pub longest : List Cell → List Run
longest [] = []
longest (c ∷ cs) = joined c (longest cs)

-- set words as runs of 16,384 each, the last fewer or equal; as many runs as there are words are enough
unfoldable pub pieces : ℕ → List ℕ → List Run
pieces zero ws = []
pieces (suc k) [] = []
pieces (suc k) (w ∷ ws) = sets (take run_room (w ∷ ws)) ∷ pieces k (drop run_room (w ∷ ws))

unfoldable pub cut : List Run → List Run
cut [] = []
cut (gap n ∷ rs) = gap n ∷ cut rs
cut (sets ws ∷ rs) = pieces (length ws) ws ++ cut rs

unfoldable pub runs_of : List Cell → List Run
runs_of cs = cut (longest cs)

-- WRITING

abbrev pub run_items : List Run → List Item
run_items [] = []
run_items (r ∷ rs) = run r ∷ run_items rs

-- After it its runs
abbrev pub block_items : Table ℕ (List Cell) → List Item
block_items [] = []
block_items (b ∷ bs) = (block b.0 (length b.1) ∷ run_items (runs_of b.1)) ++ block_items bs

abbrev pub label_items : Table Name Lab → List Item
label_items [] = []
label_items (e ∷ t) = label e.0 e.1 ∷ label_items t

abbrev pub reloc_items : Table ℕ Name → List Item
reloc_items [] = []
reloc_items (e ∷ t) = reloc e.0 e.1 ∷ reloc_items t

-- Order: blocks by start, x04 and x05 together by name bytewise, relocations by address
abbrev pub items_of : Object → List Item
items_of o = block_items o.blocks ++ (label_items o.labels ++ (reloc_items o.relocs ++ (fin ∷ [])))

unfoldable pub stored : Object → List ℕ
stored o = spell (items_of o)

-- 51 exactly when the bytes do not fit
unfoldable pub store : ℕ → Object → Outcome (List ℕ)
store room o = do
  require (leb (length (stored o)) room) 51 nowhere
  ok (stored o)

-- READING: what a field says, by its tag and content

abbrev pub cons_to : ℕ → Option (List ℕ) → Option (List ℕ)
cons_to w none = none
cons_to w (some ws) = some (w ∷ ws)

unfoldable pub words : List ℕ → Option (List ℕ)
words [] = some []
words (a ∷ []) = none
words (a ∷ b ∷ c) = cons_to (a * 256 + b) (words c)

abbrev pub as_sets : Option (List ℕ) → Option Item
as_sets none = none
as_sets (some ws) = some (run (sets ws))

abbrev pub as_fin : List ℕ → Option Item
as_fin [] = some fin
as_fin (a ∷ c) = none

abbrev pub as_block : List ℕ → Option Item
as_block [] = none
as_block (a ∷ []) = none
as_block (a ∷ b ∷ []) = none
as_block (a ∷ b ∷ c ∷ []) = none
as_block (a ∷ b ∷ c ∷ d ∷ []) = some (block (a * 256 + b) (c * 256 + d))
as_block (a ∷ b ∷ c ∷ d ∷ e ∷ f) = none

abbrev pub as_gap : List ℕ → Option Item
as_gap [] = none
as_gap (a ∷ []) = none
as_gap (a ∷ b ∷ []) = some (run (gap (a * 256 + b)))
as_gap (a ∷ b ∷ c ∷ d) = none

abbrev pub as_defined : List ℕ → Option Item
as_defined [] = none
as_defined (a ∷ []) = none
as_defined (a ∷ b ∷ n) = some (label n (defined (a * 256 + b)))

abbrev pub as_reloc : List ℕ → Option Item
as_reloc [] = none
as_reloc (a ∷ []) = none
as_reloc (a ∷ b ∷ n) = some (reloc (a * 256 + b) n)

-- other tags say nothing
unfoldable pub meant : ℕ → List ℕ → Option Item
meant zero c = as_fin c
meant (suc zero) c = as_block c
meant (suc (suc zero)) c = as_sets (words c)
meant (suc (suc (suc zero))) c = as_gap c
meant (suc (suc (suc (suc zero)))) c = as_defined c
meant (suc (suc (suc (suc (suc zero))))) c = some (label c outer)
meant (suc (suc (suc (suc (suc (suc zero)))))) c = as_reloc c
meant (suc (suc (suc (suc (suc (suc (suc t))))))) c = none

-- READING: one field at a time

-- what stands at a position: nothing, since the bytes end there; a field that is cut short; a field, with its tag, its content and where the next begins
pub data Field : Type 0 where
  over : Field
  cut_short : Field
  field : ℕ → List ℕ → ℕ → Field

abbrev pub framed : Bool → ℕ → List ℕ → ℕ → Field
framed true t c z = field t c z
framed false t c z = cut_short

-- the bytes from a position on
unfoldable pub field_in : ℕ → List ℕ → Field
field_in at [] = over
field_in at (t ∷ []) = cut_short
field_in at (t ∷ h ∷ []) = cut_short
field_in at (t ∷ h ∷ l ∷ c) = let n = h * 256 + l in framed (leb n (length c)) t (take n c) (at + 3 + n)

-- A small reader that holds the lent stored bytes and a position gives one field at a time.
unfoldable pub field_at : List ℕ → ℕ → Field
field_at b at = field_in at (drop at b)

-- READING: the order of fields

-- What is read so far: closed blocks and where they end; the open block's start, length, words owed (0: none is open) and runs;
-- labels and the last name; relocations and the least address that the next may have.
pub record State : Type 0 where
  pub blocks : Table ℕ (List Cell)
  pub floor : ℕ
  pub start : ℕ
  pub total : ℕ
  pub owed : ℕ
  pub runs : List Run
  pub labels : Table Name Lab
  pub last : Name
  pub relocs : Table ℕ Name
  pub least : ℕ

abbrev pub begin : State
begin = record { blocks = []; floor = 0; start = 0; total = 0; owed = 0; runs = []; labels = []; last = []; relocs = []; least = 0 }

abbrev pub held : State → Object
held s = object s.blocks s.labels s.relocs

abbrev pub size : Run → ℕ
size (sets ws) = length ws
size (gap n) = n

-- which run may follow which: any, after a full x02 or at a block's start; unset words after a short x02; set words after unset ones
pub data Prev : Type 0 where
  free : Prev
  short : Prev
  skipped : Prev

abbrev pub kind : Run → Prev
kind (gap n) = skipped
kind (sets ws) = elim (eqb (length ws) run_room) [ true ↦ free | false ↦ short ]

-- no zero counts
abbrev pub some-unset : ℕ → Bool
some-unset zero = false
some-unset (suc n) = true

abbrev pub some_words : List ℕ → Bool
some_words [] = false
some_words (w ∷ ws) = leb (suc (length ws)) run_room

unfoldable pub fits : Prev → Run → Bool
fits free (gap n) = some-unset n
fits free (sets ws) = some_words ws
fits short (gap n) = some-unset n
fits short (sets ws) = false
fits skipped (gap n) = false
fits skipped (sets ws) = some_words ws

unfoldable pub after : Prev → List Run → Prev
after p [] = p
after p (r ∷ rs) = after (kind r) rs

-- the words of runs
abbrev pub words_then : List ℕ → List Cell → List Cell
words_then [] cs = cs
words_then (w ∷ ws) cs = word w ∷ words_then ws cs

abbrev pub unset_then : ℕ → List Cell → List Cell
unset_then zero cs = cs
unset_then (suc n) cs = unset ∷ unset_then n cs

abbrev pub flatten : List Run → List Cell
flatten [] = []
flatten (sets ws ∷ rs) = words_then ws (flatten rs)
flatten (gap n ∷ rs) = unset_then n (flatten rs)

abbrev pub is_zero : Option Cell → Bool
is_zero none = false
is_zero (some unset) = false
is_zero (some (word w)) = eqb w 0

abbrev pub is_outer : Option Lab → Bool
is_outer none = false
is_outer (some outer) = true
is_outer (some (defined a)) = false

abbrev pub is_less : {a b : Name} → Tri Before a b → Bool
is_less (less h) = true
is_less (same e) = false
is_less (more h) = false

-- a field may follow: no disorder, repeats, zero counts, wrong names, overlap, an end above xFE00, more than a capacity,
-- a relocation that is not at a set word 0 or names no external
unfoldable pub may : State → Item → Bool
may s fin = eqb s.owed 0
may s (block a n) =
    eqb s.owed 0 && (eqb (length s.labels) 0 && (eqb (length s.relocs) 0
    && (ltb 0 n && (leb s.floor a && (leb (a + n) word_room && ltb (length s.blocks) block_room)))))
may s (run r) = leb (size r) s.owed && fits (after free s.runs) r
may s (label n v) =
    eqb s.owed 0 && (eqb (length s.relocs) 0
    && (is_less (name_order.tri s.last n) && (good_name n && ltb (length s.labels) label_room)))
may s (reloc a n) =
    eqb s.owed 0 && (leb s.least a && (ltb (length s.relocs) reloc_room
    && (is_zero (look nat_order (cells s.blocks) a) && is_outer (look name_order s.labels n))))

abbrev pub state : (blocks : Table ℕ (List Cell)) (floor start total owed : ℕ) (runs : List Run) (labels : Table Name Lab) (last : Name) (relocs : Table ℕ Name) (least : ℕ) → State
state b f s t k rs ls l r m = record { blocks = b; floor = f; start = s; total = t; owed = k; runs = rs; labels = ls; last = l; relocs = r; least = m }

-- the open block after another run: closed where nothing more is owed
abbrev pub grown : State → List Run → ℕ → State
grown s rs zero = state (s.blocks ++ ((s.start, flatten rs) ∷ [])) (s.start + s.total) 0 0 0 [] s.labels s.last s.relocs s.least
grown s rs (suc k) = state s.blocks s.floor s.start s.total (suc k) rs s.labels s.last s.relocs s.least

unfoldable pub next : State → Item → State
next s fin = s
next s (block a n) = state s.blocks s.floor a n n [] s.labels s.last s.relocs s.least
next s (run r) = grown s (s.runs ++ (r ∷ [])) (s.owed - size r)
next s (label n v) = state s.blocks s.floor s.start s.total s.owed s.runs (s.labels ++ ((n, v) ∷ [])) n s.relocs s.least
next s (reloc a n) = state s.blocks s.floor s.start s.total s.owed s.runs s.labels s.last (s.relocs ++ ((a, n) ∷ [])) (suc a)

abbrev pub is_fin : Item → Bool
is_fin fin = true
is_fin (block a n) = false
is_fin (run r) = false
is_fin (label n v) = false
is_fin (reloc a n) = false

-- 50 at the first field that breaks this or is cut short, at the end of the bytes if x00 is missing
abbrev pub broken : ℕ → Outcome Object
broken at = refuse 50 (offset_at at)

-- bytes after the end
abbrev pub ended : Bool → State → ℕ → Outcome Object
ended true s at = ok (held s)
ended false s at = broken at

abbrev pub judged : {A : Type 0} → Bool → Bool → A → A → A → A
judged false f a b c = a
judged true true a b c = b
judged true false a b c = c

-- the fields from a position on, of which there are k at most
unfoldable pub read_from : List ℕ → ℕ → State → ℕ → Outcome Object
read_from b zero s at = broken at
read_from b (suc k) s at = elim (field_at b at) [
  | over ↦ broken at
  | cut_short ↦ broken at
  | field t c z ↦ elim (meant t c) [
    | none ↦ broken at
    | some i ↦ judged (may s i) (is_fin i) (broken at) (ended (eqb z (length b)) s z) (read_from b k (next s i) z)
  ]
]

-- checking; there are fewer fields than bytes
unfoldable pub check : List ℕ → Outcome Object
check b = read_from b (length b) begin 0

-- loading refuses with 50 as checking does, then 41
unfoldable pub load : ℕ → List ℕ → Outcome Object
load room b = do
  o ← check b
  require (leb (counts_of o).words room) 41 nowhere
  ok o

unfoldable pub storing : Unit {0}
unfolding run_room longest pieces cut runs_of stored store words meant field_in field_at fits after may next read_from check load
storing = tt
