-- A step of the reader. Assumes nothing.
use Rattle.std.specs.Prelude.{ℕ}
use Rattle.rules.specs.Stored.{field_at}
use Rattle.stored_read.specs.declared.Field.{Field}
use Rattle.stored_read.specs.declared.Field.TheVariants.{Over, CutShort, Found}
use Rattle.stored_read.specs.Told.{told}
use Rattle.stored_reader.specs.declared.Reader.{Reader}
use Rattle.stored_reader.specs.declared.Step.{Step}

-- where to read on: behind a field; where no field is, nothing comes after it
unfoldable pub behind : Field → ℕ → ℕ
behind Over at = at
behind CutShort at = at
behind (Found t s e) at = e

-- the field at the reader's position
abbrev pub here : Reader → Field
here r = told r.at (field_at r.bytes.now r.at)

-- the field at the reader's position, and the reader behind it, over the same bytes
abbrev pub stepped : Reader → Step
stepped r = record { field = here r; rest = record { bytes = r.bytes; at = behind (here r) r.at } }
