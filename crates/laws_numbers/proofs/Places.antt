-- Rows that pin the places of the passes' refusals, by computation: each by the smallest source in which another place could be meant. Assumes nothing.
use Prim.Native.Nat.{ℕ, zero, suc}
use mathlib.Core.List.{List, [], ◌∷◌, ◌++◌}
use mathlib.Core.Path.{◌≡◌, refl}
use Rattle.rules.specs.Base.{Outcome, refuse, refuse2, span, bytes}
use Rattle.rules.specs.Capacities.{program_word_room}
use Rattle.rules.specs.Objects.{Object}
use Rattle.rules.specs.Passes.{assemble}
use Rattle.rules.specs.Examples.{computing}

pub record Placed : Type 0 where
  pub source : List ℕ
  pub answer : Outcome Object

infix 75 ◌at◌
abbrev ◌at◌ : List ℕ → Outcome Object → Placed
s at o = record { source = s; answer = o }

-- a source repeated
abbrev times : ℕ → List ℕ → List ℕ
times zero s = []
times (suc n) s = s ++ times n s

-- 20 at the statement's first label; 21 at the statement, without its operands' line; 22 at the .orig, with its operand; 23 at the .end; 24 at both .orig, 25 at the first and the
-- second label, behind names that agree; 28 at both .orig, the earlier first, whichever starts lower; 31 at the label operand; 40 at the statement: the .end of a 65th block
unfoldable pub places : List Placed
places =
    bytes "\nA B: HALT" at refuse 20 (span 1 2)
    ∷ bytes " ADD R0, R1, #2 ;" at refuse 21 (span 1 15)
    ∷ bytes ".orig 0\n.end\n.orig 5 ;\nHALT\n" at refuse 22 (span 13 20)
    ∷ bytes "A: .end" at refuse 20 (span 0 1)
    ∷ bytes "\n.end" at refuse 23 (span 1 5)
    ∷ bytes ".orig 0\n.orig 5\n.end" at refuse2 24 (span 0 7) (span 8 15)
    ∷ bytes ".orig 0\nA HALT\nB A HALT\n.end" at refuse2 25 (span 8 9) (span 17 18)
    ∷ bytes ".orig 1\nHALT\n.end\n.orig 0\n.blkw 2\n.end" at refuse2 28 (span 0 7) (span 18 25)
    ∷ bytes ".orig 0\nLD R0, A\nST R0, B\n.end" at refuse 31 (span 15 16)
    ∷ times 65 (bytes ".orig 0\nHALT\n.end\n") at refuse 40 (span 1165 1169)
    ∷ []

abbrev Each : List Placed → Type 0
Each [] = Unit {0}
Each (p ∷ ps) = (assemble program_word_room p.source ≡ p.answer) × Each ps

pub pinned-places : Each places
unfolding computing places
pinned-places = (refl, (refl, (refl, (refl, (refl, (refl, (refl, (refl, (refl, (refl, tt))))))))))
