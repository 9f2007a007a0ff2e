-- What a word is. Assumes nothing.
use Rattle.std.specs.Prelude.{ℕ, ◌+◌, List, [], ◌∷◌}
use Rattle.rules.specs.Base.{when◌then◌else◌, same}
use Rattle.rules.specs.Words.{Row, instructions}
use Rattle.lex_reserved.specs.declared.Ident.{Ident}
use Rattle.lex_reserved.specs.declared.Ident.TheVariants.{Reserved, Label}

-- the first of these rows, counted from k, whose key this is
unfoldable pub place_from : ℕ → List ℕ → List Row → Ident
place_from k w [] = Label
place_from k w (r ∷ rs) = when same w r.key then Reserved k else place_from (k + 1) w rs

-- a word in upper case: a reserved word by its place among the instructions, or a label
unfoldable pub ident_of : List ℕ → Ident
ident_of w = place_from 0 w instructions
