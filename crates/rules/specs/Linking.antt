-- Section "Linking" of document 01: two objects into a third. Assumes nothing.
use Rattle.std.specs.Prelude.{ℕ, suc, ◌+◌, Bool, false, ◌&&◌, not, List, [], ◌∷◌, length, eqb, leb}
use Rattle.std.proofs.Math.Option.{Option, none, some}
use Rattle.rules.specs.Base.{Outcome, ok, ◌>>=◌, ◌>>◌, require, span, nowhere}
use Rattle.rules.specs.Capacities.{block_room, label_room, reloc_room}
use Rattle.rules.specs.Tables.{Table, nat_order, name_order, look, merge, newer, map_t, sieve, any}
use Rattle.rules.specs.Objects.{Cell, word, Lab, outer, defined, Name, Object, object, Counts, counts_of}
use Rattle.rules.specs.Passes.{ranges_overlap}

-- any shared address is 28
unfoldable pub meets : ℕ × List Cell → ℕ × List Cell → Bool
meets b c = ranges_overlap b.0 (length b.1) c.0 (length c.1)

unfoldable pub shared : Object → Object → Bool
shared a b = any (λ x. any (meets x) b.blocks) a.blocks

-- A name defined twice at different addresses is 25.
unfoldable pub differ : Lab → Option Lab → Bool
differ outer w = false
differ (defined a) none = false
differ (defined a) (some outer) = false
differ (defined a) (some (defined b)) = not (eqb a b)

-- no span, but the smallest such name's row in the first object: row r stands as the span from r to r + 1
unfoldable pub agree : ℕ → Table Name Lab → Table Name Lab → Outcome (Unit {0})
agree r [] bs = ok tt
agree r (e ∷ as') bs = do
  require (not (differ e.1 (look name_order bs e.0))) 25 (span r (r + 1))
  agree (r + 1) as' bs

-- A name external in one and defined in the other becomes defined. External in both stays.
abbrev pub join_lab : Lab → Lab → Lab
join_lab outer v = v
join_lab (defined a) v = defined a

unfoldable pub all_labels : Object → Object → Table Name Lab
all_labels a b = merge name_order join_lab a.labels b.labels

-- Blocks of both;
unfoldable pub all_blocks : Object → Object → Table ℕ (List Cell)
all_blocks a b = merge nat_order newer a.blocks b.blocks

unfoldable pub all_relocs : Object → Object → Table ℕ Name
all_relocs a b = merge nat_order newer a.relocs b.relocs

-- each relocation to a defined name, from either object, is written. A definition at address 0 counts like any other.
abbrev pub settle : Option Lab → Cell → Cell
settle none c = c
settle (some outer) c = c
settle (some (defined a)) c = word a

abbrev pub patch : (Name → Option Lab) → Option Name → Cell → Cell
patch labs none c = c
patch labs (some n) c = settle (labs n) c

-- and removed
abbrev pub stay : Name → Option Lab → Option Name
stay n none = some n
stay n (some outer) = some n
stay n (some (defined a)) = none

-- each word of a block that starts at s goes through f, with its address
unfoldable pub each_cell : (ℕ → Cell → Cell) → ℕ → List Cell → List Cell
each_cell f s [] = []
each_cell f s (c ∷ cs) = f s c ∷ each_cell f (suc s) cs

unfoldable pub union : Object → Object → Object
union a b =
    let ls = all_labels a b in
    let rs = all_relocs a b in
    object
    (map_t (λ s cs. each_cell (λ x c. patch (look name_order ls) (look nat_order rs x) c) s cs) (all_blocks a b))
    ls
    (sieve (λ n. stay n (look name_order ls n)) rs)

-- what a result may have at most
unfoldable pub holds : Counts → Bool
holds c = leb c.blocks block_room && leb c.labels label_room && leb c.relocs reloc_room

-- In a link: 28, 25, 40, 41, counted on the result, where `room` words are lent.
unfoldable pub link : ℕ → Object → Object → Outcome Object
link room a b = do
  require (not (shared a b)) 28 nowhere
  agree 0 a.labels b.labels
  let o = union a b
  require (holds (counts_of o)) 40 nowhere
  require (leb (counts_of o).words room) 41 nowhere
  ok o

unfoldable pub linking : Unit {0}
unfolding meets shared differ agree all_labels all_blocks all_relocs each_cell union holds link
linking = tt
