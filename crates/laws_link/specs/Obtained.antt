-- The objects that there are: assembled from a source, loaded from stored bytes, or linked from two of them. Assumes nothing.
use Rattle.std.specs.Prelude.{◌≡◌, List, ℕ, ◌<◌, get_or}
use Rattle.rules.specs.Base.{ok}
use Rattle.rules.specs.Objects.{Object}
use Rattle.rules.specs.Passes.{assemble}
use Rattle.rules.specs.Linking.{link}
use Rattle.rules.specs.Stored.{check}

pub data Obtained : Object → Type 0 where
  -- what assembling accepts, with so many words lent
  assembled : {o : Object} (room : ℕ) (s : List ℕ) → assemble room s ≡ ok o → Obtained o
  -- what checking accepts of bytes: loading gives that object, where its words fit
  loaded : {o : Object} (b : List ℕ) → ((i : ℕ) → get_or b i 0 < 256) → check b ≡ ok o → Obtained o
  -- what a link of two such objects accepts, with so many words lent
  linked : {a b o : Object} (room : ℕ) → Obtained a → Obtained b → link room a b ≡ ok o → Obtained o
