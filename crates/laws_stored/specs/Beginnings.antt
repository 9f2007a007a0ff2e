-- What is said of stored bytes: that they are bytes, that they begin a stored object, where they first break the form, and what checking can answer. Assumes nothing.
use Rattle.std.specs.Prelude.{◌≡◌, ◌⊎◌, List, ◌++◌, ℕ, ◌≤◌, ◌<◌, length, take, get_or}
use Rattle.rules.specs.Base.{Outcome, ok, refuse, offset_at}
use Rattle.rules.specs.Objects.{Object, Good}
use Rattle.rules.specs.Stored.{stored, field, field_at}

-- numbers that are bytes, as those of every lent slice of bytes are
abbrev pub AreBytes : List ℕ → Type 0
AreBytes b = (i : ℕ) → get_or b i 0 < 256

-- some good object's stored bytes begin so
abbrev pub BeginsStored : List ℕ → Type 0
BeginsStored p = (o : Object) × (rest : List ℕ) × Good o × (stored o ≡ p ++ rest)

-- i is where the bytes first break the form: every beginning up to there begins a stored object, and with the field that stands there, if it is whole, none begins so.
pub record FirstBreak (b : List ℕ) (i : ℕ) : Type 0 where
  pub before : (j : ℕ) → j ≤ i → BeginsStored (take j b)
  pub here : (t : ℕ) (c : List ℕ) (z : ℕ) → field_at b i ≡ field t c z → BeginsStored (take z b) → ⊥

-- an object, or 50 at an offset that is not above the length
abbrev pub ObjectOrFifty : List ℕ → Outcome Object → Type 0
ObjectOrFifty b r = ((o : Object) × (r ≡ ok o)) ⊎ ((i : ℕ) × (i ≤ length b) × (r ≡ refuse 50 (offset_at i)))
