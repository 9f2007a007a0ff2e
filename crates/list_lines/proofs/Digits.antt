-- The digits of a number, and the bytes of a word's line. Assumes nothing.
use Prim.Native.Nat.{ℕ, ◌+◌, ◌/◌, ◌%◌, ◌≤◌, ◌<◌}
use mathlib.Core.Path.{◌≡◌}
use mathlib.Core.List.{List, [], ◌∷◌, ◌++◌}
use borrow.Author.Tests.{lt-ltb, le-ltb}
use lib.ListN.{get_or}
use Rattle.rules.specs.Base.{when◌then◌else◌, bytes}
use Rattle.rules.specs.Listing.{hex_digit, hex4, lf}

pub digit_low : (n : ℕ) → n < 10 → 48 + n ≡ hex_digit n
unfolding hex_digit when◌then◌else◌
digit_low n h = rw (lt-ltb n 10 h)

pub digit-high : (n : ℕ) → 10 ≤ n → 55 + n ≡ hex_digit n
unfolding hex_digit when◌then◌else◌
digit-high n h = rw (le-ltb n 10 h)

pub four : (v a b c d : ℕ) → a ≡ hex_digit (v / 4096) → b ≡ hex_digit (v / 256 % 16) → c ≡ hex_digit (v / 16 % 16) → d ≡ hex_digit (v % 16) → a ∷ b ∷ c ∷ d ∷ [] ≡ hex4 v
unfolding hex4
four v a b c d p q r s = cc

pub line : (x y : ℕ) (a w : List ℕ) → a ≡ hex4 x → w ≡ hex4 y
    → get_or a 0 0 ∷ get_or a 1 0 ∷ get_or a 2 0 ∷ get_or a 3 0 ∷ 32 ∷ get_or w 0 0 ∷ get_or w 1 0 ∷ get_or w 2 0 ∷ get_or w 3 0 ∷ 10 ∷ [] ≡ hex4 x ++ bytes " " ++ hex4 y ++ lf
unfolding hex4
line x y a w p q = rw (p, q)
