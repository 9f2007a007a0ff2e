-- Names that are labels by their bytes. Assumes nothing.
use Rattle.std.specs.Prelude.{Bool, true, false, ◌&&◌, ◌||◌, not, List, [], ◌∷◌, map, ◌≡◌, ℕ, ◌≤◌, length, take}
use Rattle.rules.specs.Base.{is, within}
use Rattle.rules.specs.Tokens.{digit, upper}
use Rattle.lex_reserved.specs.Ident.{ident_of}
use Rattle.object_names.specs.Whole.{is_label}

-- a capital letter, a digit or the underscore
unfoldable pub capital : ℕ → Bool
capital c = within "A" "Z" c || digit c || is "_" c

-- a capital letter or the underscore, and not one that may begin a register or a number
unfoldable pub beginning : ℕ → Bool
beginning c = (within "A" "Z" c || is "_" c) && not (is "R" c) && not (is "X" c)

abbrev pub all_capital : List ℕ → Bool
all_capital [] = true
all_capital (c ∷ s) = capital c && all_capital s

-- a word in upper case that is not reserved
abbrev pub plain : List ℕ → Bool
plain [] = false
plain (c ∷ s) = beginning c && (all_capital (c ∷ s) && is_label (ident_of (map upper (c ∷ s))))

-- the first n bytes are capital
pub record CapitalFront (s : List ℕ) (n : ℕ) : Type 0 where
  pub within : n ≤ length s
  pub front : all_capital (take n s) ≡ true
