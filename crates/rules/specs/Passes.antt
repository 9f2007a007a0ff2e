-- Section "Pass one and pass two" of document 01, as `SymbolTable::new` and `ObjectFile::new`, and assembling as a whole. Assumes nothing.
use Rattle.std.specs.Prelude.{ℕ, ◌+◌, ◌-◌, Bool, ◌&&◌, ◌||◌, List, [], ◌∷◌, ◌++◌, map, length, replicate, eqb, leb, ltb}
use Rattle.std.proofs.Math.Option.{Option, none, some}
use Rattle.rules.specs.Base.{when◌then◌else◌, Outcome, ok, ◌>>=◌, ◌>>◌, require, refuse, refuse2, Span, nowhere, has}
use Rattle.rules.specs.Capacities.{block_room, label_room, reloc_room}
use Rattle.rules.specs.Tokens.{lexed}
use Rattle.rules.specs.Words.{offset, fits, reach, field, Op, instr, orig, fill, blkw, stringz, end, external}
use Rattle.rules.specs.Statements as S
use Rattle.rules.specs.Statements.{Target, Stmt, statements}
use Rattle.rules.specs.Tables.{Table, nat_order, name_order, look, insert, newer, map_t}
use Rattle.rules.specs.Objects.{Cell, unset, word, Lab, outer, defined, address_of, Name, Object, object}

-- how many words a statement takes
unfoldable pub word_len : Op → Stmt → ℕ
word_len instr s = 1
word_len fill s = 1
word_len blkw s = s.bits
word_len stringz s = length s.chars + 1
word_len orig s = 0
word_len end s = 0
word_len external s = 0

-- PASS ONE

-- what a name met is, and its first place
pub record Symbol : Type 0 where
  pub lab : Lab
  pub place : Span

abbrev pub symbol : Lab → Span → Symbol
symbol v p = record { lab = v; place = p }

-- an open block: its start, the counter and its .orig
pub record Cursor : Type 0 where
  pub start : ℕ
  pub counter : ℕ
  pub place : Span

-- what pass one keeps; `blocks` and `words` count the non-empty blocks closed so far
pub record Pass1State : Type 0 where
  pub cursor : Option Cursor
  pub symbols : Table Name Symbol
  pub relocs : Table ℕ Name
  pub blocks : ℕ
  pub words : ℕ

abbrev pub pass1_state : Option Cursor → Table Name Symbol → Table ℕ Name → ℕ → ℕ → Pass1State
pass1_state c s r b w = record { cursor = c; symbols = s; relocs = r; blocks = b; words = w }

-- pass one before the first statement
abbrev pub pass1_start : Pass1State
pass1_start = pass1_state none [] [] 0 0

-- with another cursor, other symbols, other relocations
abbrev pub with_cursor : Option Cursor → Pass1State → Pass1State
with_cursor c o = pass1_state c o.symbols o.relocs o.blocks o.words

abbrev pub with_symbols : Table Name Symbol → Pass1State → Pass1State
with_symbols s o = pass1_state o.cursor s o.relocs o.blocks o.words

abbrev pub with_relocs : Table ℕ Name → Pass1State → Pass1State
with_relocs r o = pass1_state o.cursor o.symbols r o.blocks o.words

-- A name at an address. The same name at the same address again is no conflict, an external having address 0:
-- it stays what it was. At another address: 25. 40 when a new name meets a full table.
unfoldable pub add_label : Lab → Span → S.Name → Table Name Symbol → Outcome (Table Name Symbol)
add_label v p n ss = elim (look name_order ss n.text) [
  | some s ↦ when eqb (address_of s.lab) (address_of v) then ok ss else refuse2 25 s.place n.place
  | none ↦ when ltb (length ss) label_room then ok (insert name_order newer (n.text, symbol v n.place) ss) else refuse 40 p
]

unfoldable pub add_labels : ℕ → Span → List S.Name → Table Name Symbol → Outcome (Table Name Symbol)
add_labels a p [] ss = ok ss
add_labels a p (n ∷ ns) ss = do
  ss' ← add_label (defined a) p n ss
  add_labels a p ns ss'

-- Per statement: labels at the counter; 20 at its first label where no block is open,
unfoldable pub labelled : List S.Name → Span → Pass1State → Outcome Pass1State
labelled [] p o = ok o
labelled (n ∷ ns) p o = elim o.cursor [
  | none ↦ refuse 20 n.place
  | some c ↦ do
    ss ← add_labels c.counter p (n ∷ ns) o.symbols
    ok (with_symbols ss o)
]

-- A relocation arises only where .external stands before the .fill; 40 when one at a new address meets a full table.
unfoldable pub relocated : ℕ → Name → Span → Pass1State → Outcome Pass1State
relocated a n p o =
    when has (look nat_order o.relocs a) || ltb (length o.relocs) reloc_room then ok (with_relocs (insert nat_order newer (a, n) o.relocs) o)
    else refuse 40 p

unfoldable pub filled : S.Name → Span → Pass1State → Outcome Pass1State
filled n p o = elim (look name_order o.symbols n.text) [
  | none ↦ ok o
  | some s ↦ elim s.lab [
    | defined a ↦ ok o
    | outer ↦ elim o.cursor [ none ↦ refuse 21 p | some c ↦ relocated c.counter n.text p o ]
  ]
]

-- 40 when at .end a new non-empty block meets a full table. Empty blocks are dropped.
unfoldable pub closed : Cursor → Span → Pass1State → Outcome Pass1State
closed c p o =
    when eqb c.counter c.start then ok (with_cursor none o)
    else when ltb o.blocks block_room then ok (pass1_state none o.symbols o.relocs (o.blocks + 1) (o.words + (c.counter - c.start)))
    else refuse 40 p

-- then directive: 24 of both .orig, 23 of an .end,
unfoldable pub directed : Op → Stmt → Pass1State → Outcome Pass1State
directed instr s o = ok o
directed blkw s o = ok o
directed stringz s o = ok o
directed orig s o = elim o.cursor [
  | some c ↦ refuse2 24 c.place s.place
  | none ↦ ok (with_cursor (some (record { start = s.bits; counter = s.bits; place = s.place })) o)
]
directed end s o = elim o.cursor [ none ↦ refuse 23 s.place | some c ↦ closed c s.place o ]
directed external s o = elim s.target [
  | none ↦ ok o
  | some t ↦ do
    ss ← add_label outer s.place t.name o.symbols
    ok (with_symbols ss o)
]
directed fill s o = elim s.target [ none ↦ ok o | some t ↦ filled t.name s.place o ]

-- then advance. The counter may reach xFE00; a sum from xFE01 to x10000 is 27, above x10000 is 26. A size of 0 never refuses.
unfoldable pub advanced : ℕ → Span → Pass1State → Outcome Pass1State
advanced n p o = elim o.cursor [
  | none ↦ ok o
  | some c ↦
      let a = c.counter + n in
      when eqb n 0 then ok o
      else when leb a 0xfe00 then ok (with_cursor (some (record { start = c.start; counter = a; place = c.place })) o)
      else when leb a 0x10000 then refuse 27 p
      else refuse 26 p
]

-- one statement: labels at the counter, then directive, then advance
unfoldable pub step_one : Stmt → Pass1State → Outcome Pass1State
step_one s o = do
  a ← labelled s.labels s.place o
  b ← directed s.op s a
  advanced (word_len s.op s) s.place b

-- inside a stage the first met in the source, 22 at its end
unfoldable pub pass_one : List Stmt → Pass1State → Outcome Pass1State
pass_one [] o = elim o.cursor [ none ↦ ok o | some c ↦ refuse 22 c.place ]
pass_one (s ∷ ss) o = do
  o' ← step_one s o
  pass_one ss o'

-- PASS TWO

-- the address of a label for a.fill; 31 where there is no such label
unfoldable pub address : Table Name Symbol → S.Name → Outcome ℕ
address ss n = elim (look name_order ss n.text) [ none ↦ refuse 31 n.place | some s ↦ ok (address_of s.lab) ]

-- A label operand's offset, from the address after the instruction, in its field: 29 outside it; 30 of an external, 31 where there is no such label
unfoldable pub offset_to : Table Name Symbol → ℕ → Target → Outcome ℕ
offset_to ss pc t = elim (look name_order ss t.name.text) [
  | none ↦ refuse 31 t.name.place
  | some s ↦ elim s.lab [
    | outer ↦ refuse 30 t.name.place
    | defined a ↦ do
      d ← reach t.field a pc t.name.place
      ok (field t.field d)
  ]
]

-- the words of a statement at an address; .blkw words are unset
unfoldable pub words_of : Table Name Symbol → ℕ → Op → Stmt → Outcome (List Cell)
words_of ss a orig s = ok []
words_of ss a end s = ok []
words_of ss a external s = ok []
words_of ss a blkw s = ok (replicate s.bits unset)
words_of ss a stringz s = ok (map word (s.chars ++ 0 ∷ []))
words_of ss a fill s = elim s.target [
  | none ↦ ok (word s.bits ∷ [])
  | some t ↦ do
    n ← address ss t.name
    ok (word n ∷ [])
]
words_of ss a instr s = elim s.target [
  | none ↦ ok (word s.bits ∷ [])
  | some t ↦ do
    n ← offset_to ss (a + 1) t
    ok (word (s.bits + n) ∷ [])
]

-- a block written: its start, words and .orig
pub record ObjBlock : Type 0 where
  pub start : ℕ
  pub words : List Cell
  pub place : Span

abbrev pub obj_block : ℕ → List Cell → Span → ObjBlock
obj_block a ws p = record { start = a; words = ws; place = p }

-- the open block, if there is one, and those closed, by start
pub record Pass2State : Type 0 where
  pub current : Option ObjBlock
  pub blocks : List ObjBlock

abbrev pub pass2_state : Option ObjBlock → List ObjBlock → Pass2State
pass2_state c b = record { current = c; blocks = b }

-- pass two before the first statement
abbrev pub pass2_start : Pass2State
pass2_start = pass2_state none []

-- two blocks share an address: each starts before the other ends
unfoldable pub ranges_overlap : ℕ → ℕ → ℕ → ℕ → Bool
ranges_overlap a n b m = ltb a (b + m) && ltb b (a + n)

-- 28: both .orig, earlier first
unfoldable pub overlapping : Span → Span → Outcome (List ObjBlock)
overlapping p q = when leb p.start q.start then refuse2 28 p q else refuse2 28 q p

-- a block among those closed: 28 with the first of them, by start, that it overlaps
unfoldable pub place : ObjBlock → List ObjBlock → Outcome (List ObjBlock)
place x [] = ok (x ∷ [])
place x (y ∷ ys) =
    when ranges_overlap x.start (length x.words) y.start (length y.words) then overlapping x.place y.place
    else when ltb x.start y.start then ok (x ∷ y ∷ ys)
    else do
      zs ← place x ys
      ok (y ∷ zs)

-- 21: a statement outside every block
unfoldable pub emit : Table Name Symbol → Stmt → Pass2State → Outcome Pass2State
emit ss s t = elim t.current [
  | none ↦ refuse 21 s.place
  | some x ↦ do
    ws ← words_of ss (x.start + length x.words) s.op s
    ok (pass2_state (some (obj_block x.start (x.words ++ ws) x.place)) t.blocks)
]

-- Empty blocks are dropped.
unfoldable pub finish : Pass2State → Outcome Pass2State
finish t = elim t.current [
  | none ↦ ok t
  | some x ↦
      when eqb (length x.words) 0 then ok (pass2_state none t.blocks)
      else do
        bs ← place x t.blocks
        ok (pass2_state none bs)
]

unfoldable pub written : Table Name Symbol → Op → Stmt → Pass2State → Outcome Pass2State
written ss orig s t = ok (pass2_state (some (obj_block s.bits [] s.place)) t.blocks)
written ss end s t = finish t
written ss external s t = ok t
written ss instr s t = emit ss s t
written ss fill s t = emit ss s t
written ss blkw s t = emit ss s t
written ss stringz s t = emit ss s t

unfoldable pub pass_two : Table Name Symbol → List Stmt → Pass2State → Outcome Pass2State
pass_two ss [] t = ok t
pass_two ss (s ∷ rest) t = do
  u ← written ss s.op s t
  pass_two ss rest u

-- THE WHOLE

-- Order in assembling: 11, 12, then lexical refusals, then 13 to 16, then pass one, then 41, then pass two.
-- 41 is given exactly when the words of all blocks together exceed the lent words, `room`.
unfoldable pub assemble : ℕ → List ℕ → Outcome Object
assemble room source = do
  lexed source
  ss ← statements source
  o ← pass_one ss pass1_start
  require (leb o.words room) 41 nowhere
  t ← pass_two o.symbols ss pass2_start
  ok (object (map (λ b. (b.start, b.words)) t.blocks) (map_t (λ n s. s.lab) o.symbols) o.relocs)

unfoldable pub assembling : Unit {0}
unfolding word_len add_label add_labels labelled relocated filled closed directed advanced step_one pass_one address offset fits reach field offset_to words_of ranges_overlap overlapping place emit finish written pass_two assemble
assembling = tt
