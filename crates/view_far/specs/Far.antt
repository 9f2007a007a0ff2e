-- The note of 29: how far a label is from the instruction behind the one that names it, and how far that operand reaches. Assumes nothing.
use Rattle.std.specs.Prelude.{ℕ, ◌+◌, ◌-◌, ◌%◌, Bool, true, false, ◌||◌, List, [], ◌∷◌, ◌++◌, eqb, ltb}
use Rattle.std.proofs.Math.Option.{Option, none, some}
use Rattle.rules.specs.Base.{when◌then◌else◌, bytes, same, ok, refused}
use Rattle.rules.specs.Listing.{lf}
use Rattle.rules.specs.Words.{Range, offset, Op, instr, orig, fill, blkw, stringz, end, external}
use Rattle.rules.specs.Statements.{Name, Target, Stmt}
use Rattle.rules.specs.Passes.{word_len}
use Rattle.parse.specs.Coded.{source_statements}
use Rattle.lex.specs.Label.{label_text}
use Rattle.view_text.specs.Texts.{decimal, counted}

-- ADDRESSES. .orig sets the address of what follows, each other statement adds its words; addresses have sixteen bits
unfoldable pub is_orig : Op → Bool
is_orig orig = true
is_orig instr = false
is_orig fill = false
is_orig blkw = false
is_orig stringz = false
is_orig end = false
is_orig external = false

unfoldable pub address_after : Stmt → ℕ → ℕ
address_after s a = when is_orig s.op then s.bits else ((a + word_len s.op s) % 65536)

-- a statement and its address
pub record Placed : Type 0 where
  pub stmt : Stmt
  pub address : ℕ

abbrev pub placed : Stmt → ℕ → Placed
placed s a = record { stmt = s; address = a }

-- the first of some statements that passes a test, where they begin at an address
unfoldable pub first_with : (Stmt → Bool) → ℕ → List Stmt → Option Placed
first_with p a [] = none
first_with p a (s ∷ ss) = elim (p s) [ true ↦ some (placed s a) | false ↦ first_with p (address_after s a) ss ]

-- of a source whose statements are read; none where one is refused
unfoldable pub where_is : (Stmt → Bool) → List ℕ → Option Placed
where_is p s = elim (source_statements s) [ ok ss ↦ first_with p 0 ss | refused r ↦ none ]

-- WHAT IS LOOKED FOR. The label operand of an instruction,
unfoldable pub is_instr : Op → Bool
is_instr instr = true
is_instr orig = false
is_instr fill = false
is_instr blkw = false
is_instr stringz = false
is_instr end = false
is_instr external = false

unfoldable pub aim_of : Stmt → Option Target
aim_of s = when is_instr s.op then s.target else none

-- which begins at a place;
unfoldable pub begins : ℕ → Option Target → Bool
begins place none = false
begins place (some t) = eqb t.name.place.start place

unfoldable pub aims_at : ℕ → Stmt → Bool
aims_at place s = begins place (aim_of s)

-- a label of this name before a statement
unfoldable pub named : List ℕ → List Name → Bool
named w [] = false
named w (n ∷ ns) = same n.text w || named w ns

unfoldable pub has_label : List ℕ → Stmt → Bool
has_label w s = named w s.labels

-- THE NOTE. An offset of sixteen bits, taken as signed: so many words after, or before
unfoldable pub distance_text : ℕ → List ℕ
distance_text d = when ltb d 32768 then (counted d (bytes "word") ++ bytes " after") else (counted (65536 - d) (bytes "word") ++ bytes " before")

unfoldable pub reach_text : Range → List ℕ
reach_text r = bytes "this operand reaches from " ++ decimal r.low ++ bytes " before it to " ++ decimal r.high ++ bytes " after it"

-- the name as it stands in the source
unfoldable pub far_line : List ℕ → Target → (offset : ℕ) → List ℕ
far_line s t d =
    bytes "note: " ++ label_text s t.name.place.start t.name.place.stop ++ bytes " is " ++ distance_text d ++ bytes " the next instruction; " ++ reach_text t.field ++ lf

-- an operand of the instruction at an address
unfoldable pub far_to : List ℕ → ℕ → Target → List ℕ
far_to s a t = elim (where_is (has_label t.name.text) s) [ none ↦ [] | some l ↦ far_line s t (offset l.address (a + 1)) ]

unfoldable pub far_from : List ℕ → Placed → List ℕ
far_from s x = elim (aim_of x.stmt) [ none ↦ [] | some t ↦ far_to s x.address t ]

-- the operand that begins at a place; nothing where there is none, or no such label
unfoldable pub far_note : List ℕ → ℕ → List ℕ
far_note s place = elim (where_is (aims_at place) s) [ none ↦ [] | some x ↦ far_from s x ]
