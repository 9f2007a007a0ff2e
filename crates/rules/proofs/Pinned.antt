-- Rows that pin the link and the stored form, by computation: each refusal of a link, what becomes of definitions and relocations, and each kind of 50 at its offset. Assumes nothing.
use Prim.Native.Nat.{ℕ, zero, suc, ◌+◌}
use Prim.Native.String.{String}
use mathlib.Core.List.{List, [], ◌∷◌, ◌++◌}
use mathlib.Core.Path.{◌≡◌, refl}
use lib.ListN.{replicate}
use Rattle.rules.specs.Base.{Outcome, ok, refuse, span, nowhere, offset_at, bytes}
use Rattle.rules.specs.Tables.{Table}
use Rattle.rules.specs.Objects.{Cell, unset, word, Lab, outer, defined, Name, Object, object, holding}
use Rattle.rules.specs.Linking.{link}
use Rattle.rules.specs.Stored.{frame, pair, pairs, stored, store, check, load, storing}
use Rattle.rules.specs.Examples.{computing}

-- a block of set words; so many blocks of one word each, at every second address from a on; a label; an external
abbrev block : ℕ → ℕ → ℕ × List Cell
block a w = (a, word w ∷ [])

abbrev apart : ℕ → ℕ → Table ℕ (List Cell)
apart zero a = []
apart (suc n) a = block a 1 ∷ apart n (a + 2)

abbrev at : String → ℕ → Name × Lab
at s a = (bytes s, defined a)

abbrev extern : String → Name × Lab
extern s = (bytes s, outer)

abbrev rel : ℕ → String → ℕ × Name
rel a s = (a, bytes s)

-- LINKING

pub record Linked : Type 0 where
  pub room : ℕ
  pub first : Object
  pub second : Object
  pub answer : Outcome Object

abbrev row : ℕ → Object → Object → Outcome Object → Linked
row n a b o = record { room = n; first = a; second = b; answer = o }

-- 25 at the smallest such name's row in the first object, after names that agree; 40 of a 65th block, and 64 taken; 41 one word short, and exactly full;
-- 28 before 25; the same name at the same address
-- a definition at 0 counts like any other
-- relocations of both objects: each to the other's definition is written and removed; one to what stays external stays
unfoldable pub links : List Linked
links =
    row 9 (object [] (at "A" 1 ∷ at "B" 2 ∷ at "C" 3 ∷ []) []) (object [] (at "A" 1 ∷ at "B" 4 ∷ at "C" 5 ∷ []) []) (refuse 25 (span 1 2))
    ∷ row 99 (object (apart 64 0) [] []) (object (block 1 1 ∷ []) [] []) (refuse 40 nowhere)
    ∷ row 99 (object (apart 63 0) [] []) (object (block 126 1 ∷ []) [] []) (ok (object (apart 64 0) [] []))
    ∷ row 1 (object (block 5 1 ∷ []) [] []) (object (block 6 1 ∷ []) [] []) (refuse 41 nowhere)
    ∷ row 2 (object (block 6 1 ∷ []) [] []) (object (block 5 1 ∷ []) [] []) (ok (object (block 5 1 ∷ block 6 1 ∷ []) [] []))
    ∷ row 9 (object (block 5 1 ∷ []) (at "A" 1 ∷ []) []) (object (block 5 2 ∷ []) (at "A" 2 ∷ []) []) (refuse 28 nowhere)
    ∷ row 9 (object [] (at "A" 1 ∷ []) []) (object [] (at "A" 1 ∷ []) []) (ok (object [] (at "A" 1 ∷ []) []))
    ∷ row 9 (object (block 5 0 ∷ []) (extern "F" ∷ []) (rel 5 "F" ∷ [])) (object [] (at "F" 0 ∷ []) []) (ok (object (block 5 0 ∷ []) (at "F" 0 ∷ []) []))
    ∷ row 9
    (object (block 5 0 ∷ block 7 0 ∷ []) (extern "F" ∷ at "G" 0x30 ∷ extern "H" ∷ []) (rel 5 "F" ∷ rel 7 "H" ∷ []))
    (object (block 3 0 ∷ block 9 0 ∷ []) (at "F" 0x40 ∷ extern "G" ∷ extern "H" ∷ []) (rel 3 "H" ∷ rel 9 "G" ∷ []))
    (ok (object (block 3 0 ∷ block 5 0x40 ∷ block 7 0 ∷ block 9 0x30 ∷ []) (at "F" 0x40 ∷ at "G" 0x30 ∷ extern "H" ∷ []) (rel 3 "H" ∷ rel 7 "H" ∷ [])))
    ∷ []

abbrev EachLink : List Linked → Type 0
EachLink [] = Unit {0}
EachLink (r ∷ rs) = (link r.room r.first r.second ≡ r.answer) × EachLink rs

pub pinned-links : EachLink links
unfolding computing links
pinned-links = (refl, (refl, (refl, (refl, (refl, (refl, (refl, (refl, (refl, tt)))))))))

-- THE STORED FORM

-- fields by their tags
abbrev open' : ℕ → ℕ → List ℕ
open' a n = frame 1 (pair a ++ pair n)

abbrev sets : List ℕ → List ℕ
sets ws = frame 2 (pairs ws)

abbrev gap : ℕ → List ℕ
gap n = frame 3 (pair n)

abbrev name : String → ℕ → List ℕ
name s a = frame 4 (pair a ++ bytes s)

abbrev ext : String → List ℕ
ext s = frame 5 (bytes s)

abbrev to : ℕ → String → List ℕ
to a s = frame 6 (pair a ++ bytes s)

abbrev fin : List ℕ
fin = frame 0 []

-- an object of a set 0 and an unset word, an external, a defined label and a relocation; its bytes up to the end
abbrev whole : Object
whole = object ((0x3000, word 0 ∷ unset ∷ []) ∷ []) (extern "F" ∷ at "G" 0x3001 ∷ []) (rel 0x3000 "F" ∷ [])

abbrev words : List ℕ
words = open' 0x3000 2 ++ sets (0 ∷ []) ++ gap 1

abbrev body : List ℕ
body = words ++ ext "F" ++ name "G" 0x3001 ++ to 0x3000 "F"

pub stored-whole : stored whole ≡ body ++ fin
unfolding storing
stored-whole = refl

pub checked-whole : check (body ++ fin) ≡ ok whole
unfolding computing holding storing
checked-whole = refl

-- 51 one byte short, and exactly full; 41 one word short, after 50
pub store-short : store 35 whole ≡ refuse 51 nowhere
unfolding storing
store-short = refl

pub store-full : store 36 whole ≡ ok (body ++ fin)
unfolding storing
store-full = refl

pub load-short : load 1 (body ++ fin) ≡ refuse 41 nowhere
unfolding computing holding storing
load-short = refl

pub load-bad : load 1 body ≡ refuse 50 (offset_at 33)
unfolding computing holding storing
load-bad = refl

pub record Refused : Type 0 where
  pub bytes : List ℕ
  pub offset : ℕ

infix 75 ◌breaks◌
abbrev ◌breaks◌ : List ℕ → ℕ → Refused
b breaks i = record { bytes = b; offset = i }

-- nothing; x00 missing; bytes after the end; x00 with content
-- an unknown tag; a field cut short after one, two and three bytes; a content of another length
-- zero counts: of a block, of set words, of unset words
-- a run where no block is open; too many words; too few before the next field; neighbouring runs of one tag
-- disorder and repeats: of blocks (overlap too), of labels, of relocations; a block behind a label, a label behind a relocation
-- an end above xFE00, and at it; more blocks than 64
-- wrong names: small letters, none, a reserved word, a register, 65 bytes
-- a relocation at an unset word, at a word that is not 0, at no word, to a defined label, to no label
unfoldable pub refused' : List Refused
refused' =
    [] breaks 0
    ∷ body breaks 33
    ∷ (body ++ fin ++ fin) breaks 36
    ∷ (body ++ fin ++ (0 ∷ [])) breaks 36
    ∷ (frame 0 (1 ∷ [])) breaks 0
    ∷ (body ++ frame 7 []) breaks 33
    ∷ (1 ∷ []) breaks 0
    ∷ (words ++ (5 ∷ 0 ∷ [])) breaks 17
    ∷ (words ++ (5 ∷ 0 ∷ 1 ∷ [])) breaks 17
    ∷ (frame 1 (0x30 ∷ 0 ∷ 0 ∷ [])) breaks 0
    ∷ (words ++ frame 4 (0x30 ∷ [])) breaks 17
    ∷ (open' 0x3000 1 ++ frame 2 (0 ∷ 0 ∷ 0 ∷ [])) breaks 7
    ∷ (open' 0x3000 0 ++ fin) breaks 0
    ∷ (open' 0x3000 1 ++ sets []) breaks 7
    ∷ (open' 0x3000 1 ++ gap 0) breaks 7
    ∷ (sets (0 ∷ [])) breaks 0
    ∷ (open' 0x3000 1 ++ gap 2) breaks 7
    ∷ (open' 0x3000 2 ++ gap 1 ++ fin) breaks 12
    ∷ (open' 0x3000 2 ++ gap 1 ++ gap 1) breaks 12
    ∷ (open' 0x3000 2 ++ sets (0 ∷ []) ++ sets (0 ∷ [])) breaks 12
    ∷ (words ++ open' 0x2000 1) breaks 17
    ∷ (words ++ open' 0x3001 1) breaks 17
    ∷ (words ++ name "G" 1 ++ name "F" 1) breaks 23
    ∷ (words ++ ext "F" ++ name "F" 1) breaks 21
    ∷ (words ++ ext "F" ++ open' 0x4000 1) breaks 21
    ∷ (words ++ ext "F" ++ to 0x3000 "F" ++ to 0x3000 "F") breaks 27
    ∷ (words ++ ext "F" ++ to 0x3000 "F" ++ ext "G") breaks 27
    ∷ (open' 0xfdff 2) breaks 0
    ∷ (open' 0xfdff 1 ++ gap 1) breaks 12
    ∷ (words ++ ext "f") breaks 17
    ∷ (words ++ ext "") breaks 17
    ∷ (words ++ ext "ADD") breaks 17
    ∷ (words ++ ext "R1") breaks 17
    ∷ (words ++ frame 5 (replicate 65 65)) breaks 17
    ∷ (words ++ ext "F" ++ to 0x3001 "F") breaks 21
    ∷ (open' 0x3000 1 ++ sets (1 ∷ []) ++ ext "F" ++ to 0x3000 "F") breaks 16
    ∷ (words ++ ext "F" ++ to 0x3002 "F") breaks 21
    ∷ (words ++ name "F" 1 ++ to 0x3000 "F") breaks 23
    ∷ (words ++ to 0x3000 "F") breaks 17
    ∷ []

abbrev EachRefused : List Refused → Type 0
EachRefused [] = Unit {0}
EachRefused (r ∷ rs) = (check r.bytes ≡ refuse 50 (offset_at r.offset)) × EachRefused rs

pub pinned-refusals : EachRefused refused'
unfolding computing holding storing refused'
pinned-refusals = (refl, (refl, (refl, (refl, (refl, (refl, (refl, (refl, (refl, (refl, (refl, (refl, (refl, (refl, (refl, (refl, (refl, (refl, (refl, (refl, (refl, (refl, (refl, (refl, (refl, (refl, (refl, (refl, (refl, (refl, (refl, (refl, (refl, (refl, (refl, (refl, (refl, (refl, (refl, tt)))))))))))))))))))))))))))))))))))))))
