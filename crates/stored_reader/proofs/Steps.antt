-- Where to read on, by what is told of a field, and where the reader stands after a step. Assumes nothing.
use Prim.Native.Nat.{ℕ}
use mathlib.Core.Path.{◌≡◌, refl, ap}
use mathlib.Core.List.{List}
use Rattle.rules.specs.Stored.{over, cut_short, field, field_at}
use Rattle.rules.specs.Stored as rule
use Rattle.stored_read.specs.declared.Field.{Field}
use Rattle.stored_read.specs.declared.Field.TheVariants.{Over, CutShort, Found}
use Rattle.stored_read.specs.Told.{told}
use Rattle.stored_reader.specs.declared.Reader.{Reader}
use Rattle.stored_reader.specs.Steps.{behind, stepped}

-- WHERE TO READ ON

module _ (f : Field) (at : ℕ) where
  pub behind-found : (t s e : ℕ) → f ≡ Found t s e → e ≡ behind f at
  unfolding behind
  behind-found t s e h = rw h refl

  pub behind-short : f ≡ CutShort → at ≡ behind f at
  unfolding behind
  behind-short h = rw h refl

  pub behind-over : f ≡ Over → at ≡ behind f at
  unfolding behind
  behind-over h = rw h refl

-- AFTER A STEP

module _ (r : Reader) where
  -- where the next field begins
  pub step-found : (t : ℕ) (c : List ℕ) (z : ℕ) → field_at r.bytes.now r.at ≡ field t c z → (stepped r).rest.at ≡ z
  unfolding told behind
  step-found t c z f = ap (λ (x : rule.Field). behind (told r.at x) r.at) f

  -- where it was
  pub step-over : field_at r.bytes.now r.at ≡ over → (stepped r).rest.at ≡ r.at
  unfolding told behind
  step-over f = ap (λ (x : rule.Field). behind (told r.at x) r.at) f

  pub step-short : field_at r.bytes.now r.at ≡ cut_short → (stepped r).rest.at ≡ r.at
  unfolding told behind
  step-short f = ap (λ (x : rule.Field). behind (told r.at x) r.at) f
