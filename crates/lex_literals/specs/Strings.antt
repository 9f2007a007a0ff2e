-- A string after its quote, byte by byte, and its characters one by one. Assumes nothing.
use Rattle.std.specs.Prelude.{ℕ, ◌+◌, Bool, false, ◌&&◌, ◌||◌, List, [], ◌∷◌, eqb, length}
use Rattle.rules.specs.Base.{when◌then◌else◌}
use Rattle.rules.specs.Tokens.{begins, escape}
use Rattle.lex_literals.specs.declared.Scanned.{Scanned}
use Rattle.lex_literals.specs.declared.Scanned.TheVariants.{Closed, Open}
use Rattle.lex_literals.specs.declared.Special.{Special}
use Rattle.lex_literals.specs.declared.Special.TheVariants.{Ends, Quote, Adds}
use Rattle.lex_literals.specs.declared.StringChar.{StringChar}
use Rattle.lex_literals.specs.declared.StringChar.TheVariants.{Char, Done}

-- LF, or CR before LF
unfoldable pub line_stops : ℕ → List ℕ → Bool
line_stops c s = eqb c 10 || (eqb c 13 && begins (λ d. eqb d 10) s)

-- the Bool: the byte before was a backslash
unfoldable pub closes : Bool → ℕ → Bool
closes escaped c = when escaped then false else eqb c 34

unfoldable pub opens : Bool → ℕ → Bool
opens escaped c = when escaped then false else eqb c 92

-- how many characters a byte adds
unfoldable pub adds : Bool → ℕ → ℕ
adds escaped c = when escaped then length (escape c) else when eqb c 92 then 0 else 1

-- n characters up to place i
unfoldable pub scan : Bool → (n i : ℕ) → List ℕ → Scanned
scan escaped n i [] = Open i
scan escaped n i (c ∷ s) =
    when line_stops c s then Open i
    else when closes escaped c then Closed n (i + 1)
    else scan (opens escaped c) (n + adds escaped c) (i + 1) s

-- what stands at a place behind a backslash, and at one that no backslash stands before
unfoldable pub behind : ℕ → List ℕ → Special
behind i [] = Ends i
behind i (d ∷ s) = when line_stops d s then Ends i else Adds (length (escape d)) (i + 1)

unfoldable pub special : ℕ → List ℕ → Special
special i [] = Ends i
special i (c ∷ s) = when line_stops c s then Ends i else when eqb c 34 then Quote else when eqb c 92 then behind (i + 1) s else Adds 1 (i + 1)

-- the second bytes of the six escapes
unfoldable pub is_escape : ℕ → Bool
is_escape c = eqb c 110 || eqb c 114 || eqb c 116 || eqb c 48 || eqb c 92 || eqb c 34

-- the character of an escape
unfoldable pub stands_for : ℕ → ℕ
stands_for c = when eqb c 110 then 10 else when eqb c 114 then 13 else when eqb c 116 then 9 else when eqb c 48 then 0 else c

-- what a backslash at a place and the byte after it stand for, as far as its first character: an escape is one, else the backslash stays
abbrev pub first_of : ℕ → List ℕ → StringChar
first_of at [] = Done
first_of at (x ∷ []) = Char x (at + 2)
first_of at (x ∷ y ∷ t) = Char x (at + 1)

unfoldable pub after_backslash : ℕ → List ℕ → StringChar
after_backslash at [] = Char 92 (at + 1)
after_backslash at (d ∷ s) = first_of at (escape d)

-- the character at a place inside a string, and the place of the next
unfoldable pub char_at : ℕ → List ℕ → StringChar
char_at at [] = Done
char_at at (c ∷ s) = when eqb c 34 then Done else when eqb c 92 then after_backslash at s else Char c (at + 1)
