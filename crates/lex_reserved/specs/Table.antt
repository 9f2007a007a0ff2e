-- The table of reserved words as the code has it, and the search in it. Assumes nothing.
use Rattle.std.specs.Prelude.{ℕ, zero, suc, ◌+◌, ◌-◌, List, [], ◌∷◌, ltb, length, get_or, take}
use Rattle.rules.specs.Base.{when◌then◌else◌, same}
use Rattle.lex_reserved.specs.declared.Ident.{Ident}
use Rattle.lex_reserved.specs.declared.Ident.TheVariants.{Reserved, Label}

-- a row: the word in upper case, filled up to five bytes, its length and its code
unfoldable pub words : List (List ℕ)
words =
    (65 ∷ 68 ∷ 68 ∷ 0 ∷ 0 ∷ 3 ∷ 0 ∷ []) ∷
    (65 ∷ 78 ∷ 68 ∷ 0 ∷ 0 ∷ 3 ∷ 1 ∷ []) ∷
    (66 ∷ 82 ∷ 0 ∷ 0 ∷ 0 ∷ 2 ∷ 3 ∷ []) ∷
    (66 ∷ 82 ∷ 78 ∷ 0 ∷ 0 ∷ 3 ∷ 7 ∷ []) ∷
    (66 ∷ 82 ∷ 78 ∷ 80 ∷ 0 ∷ 4 ∷ 8 ∷ []) ∷
    (66 ∷ 82 ∷ 78 ∷ 90 ∷ 0 ∷ 4 ∷ 9 ∷ []) ∷
    (66 ∷ 82 ∷ 78 ∷ 90 ∷ 80 ∷ 5 ∷ 10 ∷ []) ∷
    (66 ∷ 82 ∷ 80 ∷ 0 ∷ 0 ∷ 3 ∷ 4 ∷ []) ∷
    (66 ∷ 82 ∷ 90 ∷ 0 ∷ 0 ∷ 3 ∷ 5 ∷ []) ∷
    (66 ∷ 82 ∷ 90 ∷ 80 ∷ 0 ∷ 4 ∷ 6 ∷ []) ∷
    (71 ∷ 69 ∷ 84 ∷ 67 ∷ 0 ∷ 4 ∷ 25 ∷ []) ∷
    (72 ∷ 65 ∷ 76 ∷ 84 ∷ 0 ∷ 4 ∷ 31 ∷ []) ∷
    (73 ∷ 78 ∷ 0 ∷ 0 ∷ 0 ∷ 2 ∷ 29 ∷ []) ∷
    (74 ∷ 77 ∷ 80 ∷ 0 ∷ 0 ∷ 3 ∷ 11 ∷ []) ∷
    (74 ∷ 83 ∷ 82 ∷ 0 ∷ 0 ∷ 3 ∷ 12 ∷ []) ∷
    (74 ∷ 83 ∷ 82 ∷ 82 ∷ 0 ∷ 4 ∷ 13 ∷ []) ∷
    (76 ∷ 68 ∷ 0 ∷ 0 ∷ 0 ∷ 2 ∷ 14 ∷ []) ∷
    (76 ∷ 68 ∷ 73 ∷ 0 ∷ 0 ∷ 3 ∷ 15 ∷ []) ∷
    (76 ∷ 68 ∷ 82 ∷ 0 ∷ 0 ∷ 3 ∷ 16 ∷ []) ∷
    (76 ∷ 69 ∷ 65 ∷ 0 ∷ 0 ∷ 3 ∷ 17 ∷ []) ∷
    (78 ∷ 79 ∷ 80 ∷ 0 ∷ 0 ∷ 3 ∷ 22 ∷ []) ∷
    (78 ∷ 79 ∷ 84 ∷ 0 ∷ 0 ∷ 3 ∷ 2 ∷ []) ∷
    (79 ∷ 85 ∷ 84 ∷ 0 ∷ 0 ∷ 3 ∷ 26 ∷ []) ∷
    (80 ∷ 85 ∷ 84 ∷ 67 ∷ 0 ∷ 4 ∷ 27 ∷ []) ∷
    (80 ∷ 85 ∷ 84 ∷ 83 ∷ 0 ∷ 4 ∷ 28 ∷ []) ∷
    (80 ∷ 85 ∷ 84 ∷ 83 ∷ 80 ∷ 5 ∷ 30 ∷ []) ∷
    (82 ∷ 69 ∷ 84 ∷ 0 ∷ 0 ∷ 3 ∷ 23 ∷ []) ∷
    (82 ∷ 84 ∷ 73 ∷ 0 ∷ 0 ∷ 3 ∷ 24 ∷ []) ∷
    (83 ∷ 84 ∷ 0 ∷ 0 ∷ 0 ∷ 2 ∷ 18 ∷ []) ∷
    (83 ∷ 84 ∷ 73 ∷ 0 ∷ 0 ∷ 3 ∷ 19 ∷ []) ∷
    (83 ∷ 84 ∷ 82 ∷ 0 ∷ 0 ∷ 3 ∷ 20 ∷ []) ∷
    (84 ∷ 82 ∷ 65 ∷ 80 ∷ 0 ∷ 4 ∷ 21 ∷ []) ∷
    []

-- for each letter, and past Z, how many rows stand before its first
unfoldable pub starts : List ℕ
starts = 0 ∷ 2 ∷ 10 ∷ 10 ∷ 10 ∷ 10 ∷ 10 ∷ 11 ∷ 12 ∷ 13 ∷ 16 ∷ 16 ∷ 20 ∷ 20 ∷ 22 ∷ 23 ∷ 26 ∷ 26 ∷ 28 ∷ 31 ∷ 32 ∷ 32 ∷ 32 ∷ 32 ∷ 32 ∷ 32 ∷ 32 ∷ []

unfoldable pub row : ℕ → List ℕ
row i = get_or words i []

unfoldable pub first_row : ℕ → ℕ
first_row c = get_or starts (c - 65) 0

abbrev pub name_of : List ℕ → List ℕ
name_of r = take (get_or r 5 0) r

abbrev pub code_of : List ℕ → ℕ
code_of r = get_or r 6 0

-- the first of n rows from row i on whose word this is
unfoldable pub find_in : ℕ → ℕ → List ℕ → Ident
find_in zero i w = Label
find_in (suc n) i w = when same w (name_of (row i)) then Reserved (code_of (row i)) else find_in n (i + 1) w

-- the search in the rows of the first letter
unfoldable pub searched : List ℕ → Ident
searched w =
    when ltb (length w) 2 then Label
    else when ltb 5 (length w) then Label
    else when ltb (get_or w 0 0) 65 then Label
    else when ltb 90 (get_or w 0 0) then Label
    else find_in (first_row (get_or w 0 0 + 1) - first_row (get_or w 0 0)) (first_row (get_or w 0 0)) w
