-- The key of a name in upper case: ten digits of base 64, the first the highest. Assumes nothing.
use Rattle.std.specs.Prelude.{ℕ, ◌+◌, ◌-◌, ◌*◌, ◌/◌, Bool, ◌||◌, List, [], ◌∷◌, eqb, ltb}
use Rattle.rules.specs.Base.{when◌then◌else◌}

-- a byte's digit: 1 to 48 from the character 0 to the underscore, where all characters of a word stand; 0 below them, 49 above
unfoldable pub digit_of : ℕ → ℕ
digit_of c = when ltb (c - 47) 49 then c - 47 else 49

-- a digit that several bytes have; no word has any of them
unfoldable pub shared : ℕ → Bool
shared d = eqb d 0 || eqb d 49

-- what the digit after d counts, where d counts w: nothing after a shared one
unfoldable pub onward : ℕ → ℕ → ℕ
onward d w = when shared d then 0 else w / 64

-- the digits' sum, the first of which counts w
unfoldable pub weighed : ℕ → List ℕ → ℕ
weighed w [] = 0
weighed w (c ∷ s) = digit_of c * w + weighed (onward (digit_of c) w) s

-- the first of ten digits counts 64 to the ninth
unfoldable pub key_of : List ℕ → ℕ
key_of s = weighed 18014398509481984 s
