-- Section "Marked examples" of document 01: P1 to P10, one table, one theorem. Assumes nothing.
use Rattle.std.specs.Prelude.{ℕ, ◌+◌, ◌-◌, List, [], ◌∷◌, ◌++◌, map, ◌≡◌, refl, replicate}
use Prim.Native.String.{String}
use Rattle.rules.specs.Base.{Outcome, ok, refuse, span, Span, nowhere, bytes, ◌>>=◌}
use Rattle.rules.specs.Capacities.{program_word_room}
use Rattle.rules.specs.Tokens.{lexing}
use Rattle.rules.specs.Statements.{parsing}
use Rattle.rules.specs.Tables.{Table, sorting}
use Rattle.rules.specs.Objects.{Cell, unset, word, Lab, outer, defined, Name, Object}
use Rattle.rules.specs.Objects as O
use Rattle.rules.specs.Passes.{assemble, assembling}
use Rattle.rules.specs.Linking.{link, linking}
use Rattle.rules.specs.Listing.{listing_program, printing}

-- what is run: a text assembled, two linked, or one listed by the listing program
pub data Input : Type 0 where
  text : String → Input
  texts : String → String → Input
  listed : String → Input

-- what comes of it
pub data Result : Type 0 where
  made : Outcome Object → Result
  prints : List ℕ → Result

unfoldable pub run : Input → Result
run (text s) = made (assemble program_word_room (bytes s))
run (texts s t) = made do
  a ← assemble program_word_room (bytes s)
  b ← assemble program_word_room (bytes t)
  link program_word_room a b
run (listed s) = prints (listing_program (bytes s))

-- objects, in the words of the listing
abbrev block : ℕ → List ℕ → ℕ × List Cell
block a ws = (a, map word ws)

abbrev label : ℕ → String → Name × Lab
label a s = (bytes s, defined a)

abbrev extern : String → Name × Lab
extern s = (bytes s, outer)

abbrev rel : ℕ → String → ℕ × Name
rel a s = (a, bytes s)

abbrev object : Table ℕ (List Cell) → Table Name Lab → Table ℕ Name → Result
object b l r = made (ok (O.object b l r))

abbrev refusal : ℕ → Span → Result
refusal n p = made (refuse n p)

pub record Row : Type 0 where
  pub input : Input
  pub answer : Result

infix 75 ◌gives◌
abbrev ◌gives◌ : Input → Result → Row
i gives r = record { input = i; answer = r }

abbrev pub P1 : String
P1 = ".orig x3000\nSTART LEA R0, MSG\nPUTS\nHALT\nMSG .stringz \"Hi\"\n.end\n"

abbrev pub P2 : String
P2 = ".external F\n.orig x3000\nLD R1, P\nJSRR R1\nHALT\nP .fill F\n.end\n"

abbrev pub P3 : String
P3 = ".orig x4000\nF ADD R0, R0, #1\nRET\n.end\n"

-- a row each, named at its end; P3 alone, and linked with P2 in both orders
unfoldable pub table : List Row
table =
    text P1 gives object (block 0x3000 (0xe002 ∷ 0xf022 ∷ 0xf025 ∷ 0x48 ∷ 0x69 ∷ 0 ∷ []) ∷ []) (label 0x3003 "MSG" ∷ label 0x3000 "START" ∷ []) []  -- P1
    ∷ listed P1 gives prints (bytes "BLOCK 3000 0006\n3000 E002\n3001 F022\n3002 F025\n3003 0048\n3004 0069\n3005 0000\nLABEL 3003 MSG\nLABEL 3000 START\n")  -- P1, its listing
    ∷ text P2 gives object (block 0x3000 (0x2202 ∷ 0x4040 ∷ 0xf025 ∷ 0 ∷ []) ∷ []) (extern "F" ∷ label 0x3003 "P" ∷ []) (rel 0x3003 "F" ∷ [])  -- P2
    ∷ text P3 gives object (block 0x4000 (0x1021 ∷ 0xc1c0 ∷ []) ∷ []) (label 0x4000 "F" ∷ []) []  -- P3
    ∷ texts P3 P2 gives object (block 0x3000 (0x2202 ∷ 0x4040 ∷ 0xf025 ∷ 0x4000 ∷ []) ∷ block 0x4000 (0x1021 ∷ 0xc1c0 ∷ []) ∷ []) (label 0x4000 "F" ∷ label 0x3003 "P" ∷ []) []  -- P3 with P2
    ∷ texts P2 P3 gives object (block 0x3000 (0x2202 ∷ 0x4040 ∷ 0xf025 ∷ 0x4000 ∷ []) ∷ block 0x4000 (0x1021 ∷ 0xc1c0 ∷ []) ∷ []) (label 0x4000 "F" ∷ label 0x3003 "P" ∷ []) []  -- P2 with P3
    ∷ text "" gives object [] [] []  -- P4
    ∷ text ".orig xFDFF\n.fill 1\n.end" gives object (block 0xfdff (1 ∷ []) ∷ []) [] []  -- P5
    ∷ text ".orig xFE00\n.fill 1\n.end" gives refusal 27 (span 12 19)  -- P5, one higher
    ∷ text ".orig xFFFF\n.fill 1\n.end" gives refusal 27 (span 12 19)  -- P6
    ∷ text ".orig xFFFF\n.blkw 2\n.end" gives refusal 26 (span 12 19)  -- P6, two words
    ∷ text ".orig 0\nLD R0, L\n.blkw 255\nL HALT\n.end" gives object ((0, word 0x20ff ∷ replicate 255 unset ++ word 0xf025 ∷ []) ∷ []) (label 256 "L" ∷ []) []  -- P7
    ∷ text ".orig 0\nLD R0, L\n.blkw 256\nL HALT\n.end" gives refusal 29 (span 15 16)  -- P7, one further
    ∷ text ".external F\n.orig 0\nLD R0, F\n.end" gives refusal 30 (span 27 28)  -- P8
    ∷ text ".orig 0\n.fill -32768\n.end" gives object (block 0 (32768 ∷ []) ∷ []) [] []  -- P9
    ∷ text ".orig 0\n.fill -32769\n.end" gives refusal 2 (span 14 20)  -- P9, one less
    ∷ texts P3 P3 gives refusal 28 nowhere  -- P10
    ∷ []

-- every row's input gives its answer
abbrev pub Each : List Row → Type 0
Each [] = Unit {0}
Each (r ∷ rs) = (run r.input ≡ r.answer) × Each rs

-- whoever unfolds `computing` lets assembling and linking compute
unfoldable pub computing : Unit {0}
unfolding lexing parsing sorting assembling linking printing run
computing = tt

-- THE THEOREM, by computation
unfoldable pub EveryRow : Type 0
EveryRow = Each table

pub examples : EveryRow
unfolding computing table EveryRow
examples = (refl, (refl, (refl, (refl, (refl, (refl, (refl, (refl, (refl, (refl, (refl, (refl, (refl, (refl, (refl, (refl, (refl, tt)))))))))))))))))
