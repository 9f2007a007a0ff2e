-- The bytes of a field. Assumes nothing.
use Rattle.std.specs.Prelude.{ℕ, List, ◌∷◌}
use Rattle.rules.specs.Stored.{Item, pair, frame, tag_of, content}

-- a tag and a length
unfoldable pub head_bytes : ℕ → ℕ → List ℕ
head_bytes t n = t ∷ pair n

-- a tag, the content's length, the content
unfoldable pub field_bytes : ℕ → List ℕ → List ℕ
field_bytes t c = frame t c

-- the field that says this
unfoldable pub field_of : Item → List ℕ
field_of i = frame (tag_of i) (content i)
