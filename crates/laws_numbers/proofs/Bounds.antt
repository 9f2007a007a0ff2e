-- The numbers of the table lie from 1 to 99. Assumes nothing.
use Prim.Native.Nat.{ℕ, ◌<◌}
use Prim.Native.String.{String}
use mathlib.Core.Path.{◌≡◌, refl}
use mathlib.Core.Bool.{Bool, true, false, ◌&&◌, ◌||◌}
use mathlib.Core.List.{List, [], ◌∷◌}
use native.Mathlib.Omega.{arith}
use borrow.Author.Tests.{ltb-true, eqb-true}
use lib.Dec.{eqb, ltb}
use Rattle.rules.specs.Answers.{refusals}
use Rattle.rules.proofs.Bools.{never, and_left, and_right}
use Rattle.laws_numbers.specs.Known.{in_table, known}

pub record Within (n : ℕ) : Type 0 where
  pub some : 0 < n
  pub few : n < 100

abbrev all_within : List (ℕ × String) → Bool
all_within [] = true
all_within (r ∷ rs) = (ltb 0 r.0 && ltb r.0 100) && all_within rs

table-within : (rs : List (ℕ × String)) (n : ℕ) → all_within rs ≡ true → in_table rs n ≡ true → Within n
unfolding in_table
table-within [] n a e = never cc
table-within (r ∷ rs) n a e = go (eqb r.0 n) refl e (table-within rs n (and_right (ltb 0 r.0 && ltb r.0 100) (all_within rs) a))
  where
    h : (ltb 0 r.0 && ltb r.0 100) ≡ true
    h = and_left (ltb 0 r.0 && ltb r.0 100) (all_within rs) a

    go : (b : Bool) → eqb r.0 n ≡ b → (b || in_table rs n) ≡ true → (in_table rs n ≡ true → Within n) → Within n
    go true q x f =
        let s = eqb-true r.0 n q in
        let l = ltb-true 0 r.0 (and_left (ltb 0 r.0) (ltb r.0 100) h) in
        let m = ltb-true r.0 100 (and_right (ltb 0 r.0) (ltb r.0 100) h) in
        record { some = omega (arith, l, s); few = omega (arith, m, s) }
    go false q x f = f x

pub known-within : (n : ℕ) → known n ≡ true → Within n
unfolding known refusals
known-within n e = table-within refusals n refl e
