-- A name is in upper case where each of its bytes is. Assumes nothing.
use mathlib.Core.Path.{◌≡◌, refl}
use mathlib.Core.Bool.{Bool, true, false}
use mathlib.Core.List.{List, [], ◌∷◌, map}
use Prim.Native.Nat.{ℕ, zero, suc}
use native.Mathlib.Omega.{arith}
use lib.Dec.{eqb}
use lib.ListN.{get_or}
use borrow.Author.Tests.{eqb-true, eq-eqb}
use Rattle.std.proofs.Common.{◌↔◌, IsTrue, EachIndex}
use Rattle.rules.specs.Base.{same}
use Rattle.rules.specs.Tokens.{upper}
use Rattle.rules.proofs.Bools.{and_left, and_right}

abbrev all_upper : List ℕ → Bool
all_upper s = same s (map upper s)

each-same : (s : List ℕ) → EachIndex s (λ k. get_or s k 0 ≡ upper (get_or s k 0)) → true ≡ all_upper s
each-same [] h = refl
each-same (c ∷ s) h = rw (eq-eqb c (upper c) (h 0 (omega arith))) (each-same s (λ k l. h (suc k) (omega arith)))

same-each : (s : List ℕ) → all_upper s ≡ true → EachIndex s (λ k. get_or s k 0 ≡ upper (get_or s k 0))
same-each [] e k l = absurd (omega arith)
same-each (c ∷ s) e zero l = eqb-true c (upper c) (and_left (eqb c (upper c)) (all_upper s) e)
same-each (c ∷ s) e (suc k) l = same-each s (and_right (eqb c (upper c)) (all_upper s) e) k (omega arith)

pub upper-told : (s : List ℕ) (r : Bool) → IsTrue r ↔ EachIndex s (λ k. get_or s k 0 ≡ upper (get_or s k 0)) → r ≡ same s (map upper s)
upper-told s true h = each-same s (h.0 refl)
upper-told s false h = go (all_upper s) refl
  where
    go : (b : Bool) → all_upper s ≡ b → false ≡ b
    go true e = h.1 (same-each s e)
    go false e = refl
