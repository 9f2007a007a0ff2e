-- What hexadecimal digits stand for, and a source by its four fields. Assumes nothing.
use Rattle.std.specs.Prelude.{ℕ, zero, suc, ◌+◌, ◌*◌, ◌%◌, ◌≡◌, List, [], ◌∷◌, ◌++◌, replicate}
use Rattle.rules.specs.Tokens.{value}
use Rattle.view_text.specs.Put.{Put}
use Rattle.test_support.specs.declared.Taken.{Taken}
use Rattle.test_support.specs.declared.Part.{Part}
use Rattle.test_support.specs.Fields.{between, decimal_at, part_at}

-- the byte of two hexadecimal digits
unfoldable pub pair : (high low : ℕ) → ℕ
pair a b = (value a * 16 + value b) % 256

-- the bytes of pairs of digits; a single digit at the end stands for none
unfoldable pub unhexed : List ℕ → List ℕ
unhexed [] = []
unhexed (a ∷ []) = []
unhexed (a ∷ b ∷ s) = pair a b ∷ unhexed s

-- a byte so many times; a text so many times
unfoldable pub copies : ℕ → ℕ → List ℕ
copies n b = replicate n b

unfoldable pub repeated : ℕ → List ℕ → List ℕ
repeated zero t = []
repeated (suc n) t = t ++ repeated n t

-- A source: a head, a part, how often it stands there, a tail.
pub record Source : Type 0 where
  pub head : Part
  pub unit : Part
  pub count : Taken
  pub tail : Part

unfoldable pub source_at : List ℕ → ℕ → Source
source_at s i =
    let h = part_at s i in
    let u = part_at s h.next in
    let n = decimal_at s u.next in
    record { head = h; unit = u; count = n; tail = part_at s n.next }

-- the bytes that a field of digits stands for
unfoldable pub bytes_in : List ℕ → Part → List ℕ
bytes_in s p = unhexed (between s p.start p.stop)

unfoldable pub source_text : List ℕ → Source → List ℕ
source_text s x = bytes_in s x.head ++ repeated x.count.value (bytes_in s x.unit) ++ bytes_in s x.tail

-- the source whose fields begin at a place stands at the front of a buffer, as far as it fits
pub record WroteSource (s : List ℕ) (at : ℕ) (b₀ b : List ℕ) (r : Taken) : Type 0 where
  pub put : Put b₀ b 0 r.value (source_text s (source_at s at))
  pub next : r.next ≡ (source_at s at).tail.next
