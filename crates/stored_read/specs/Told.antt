-- A field as the code tells it, and what that means in the rules. Assumes nothing.
use Rattle.std.specs.Prelude.{ℕ, ◌+◌, ◌-◌, List, []}
use Rattle.rules.specs.Stored.{over, cut_short, field}
use Rattle.rules.specs.Stored as rule
use Rattle.laws_stored.specs.Offsets.{part_at}
use Rattle.stored_read.specs.declared.Field.{Field}
use Rattle.stored_read.specs.declared.Field.TheVariants.{Over, CutShort, Found}

-- what the rules find at a position: the content begins behind tag and length, and ends where the next field begins
unfoldable pub told : ℕ → rule.Field → Field
told at over = Over
told at cut_short = CutShort
told at (field t c z) = Found t (at + 3) z

-- the content of a field, as far as it is there
unfoldable pub content_of : List ℕ → Field → List ℕ
content_of b Over = []
content_of b CutShort = []
content_of b (Found t s e) = part_at b s (e - s)

-- what a field that is told means
unfoldable pub meant : List ℕ → Field → rule.Field
meant b Over = over
meant b CutShort = cut_short
meant b (Found t s e) = field t (part_at b s (e - s)) e
