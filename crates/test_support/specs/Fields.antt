-- The fields of a line of text: decimal numbers and hexadecimal digits. Assumes nothing.
use Rattle.std.specs.Prelude.{ℕ, ◌+◌, ◌-◌, ◌*◌, ◌%◌, List, [], ◌∷◌, eqb, leb, ltb, length, take, drop, get_or}
use Rattle.rules.specs.Base.{when◌then◌else◌}
use Rattle.rules.specs.Tokens.{value}
use Rattle.base_text.specs.Runs.{run_end}
use Rattle.base_text.specs.declared.Class.TheVariants.{Word, Digit}
use Rattle.test_support.specs.declared.Taken.{Taken}
use Rattle.test_support.specs.declared.Part.{Part}

-- the place after a byte, where there is one
unfoldable pub past : List ℕ → ℕ → ℕ
past s i = when ltb i (length s) then i + 1 else i

-- the bytes from a up to e; none where these places are not in s
unfoldable pub between : List ℕ → (a e : ℕ) → List ℕ
between s a e = when leb a e then (when leb e (length s) then take (e - a) (drop a s) else []) else []

-- the number that decimal digits stand for behind those of v, by its last twelve digits
unfoldable pub number_from : ℕ → List ℕ → ℕ
number_from v [] = v
number_from v (b ∷ bs) = number_from ((v * 10 + value b) % 1000000000000) bs

unfoldable pub number_of : List ℕ → ℕ
number_of s = number_from 0 s

-- the number of the digits from a place on, and the place after the byte that ends them
unfoldable pub decimal_at : List ℕ → ℕ → Taken
decimal_at s i = let e = run_end Digit s i in record { value = number_of (between s i e); next = past s e }

-- the word characters from a place on, and the place after the byte that ends them; after `-`, which stands for none, another byte is passed
unfoldable pub part_at : List ℕ → ℕ → Part
part_at s i =
    let e = run_end Word s i in
    let n = past s e in
    record { start = i; stop = e; next = when eqb (get_or s e 0) 45 then past s n else n }
