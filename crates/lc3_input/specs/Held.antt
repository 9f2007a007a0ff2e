-- What was read lies in the buffer; a part of it; the byte that tells an answer. Assumes nothing.
use Rattle.std.specs.Prelude.{Bool, true, false, List, ℕ, take}
use Rattle.io.specs.Counts.{IsPrefixLen}
use Rattle.lc3_input.specs.declared.InputErr.{InputErr}
use Rattle.std.specs.declared.result.Result.{Result}
use Rattle.std.specs.declared.result.Result.TheVariants.{Ok, Err}

-- at the front of it
abbrev pub Held : List ℕ → Result ℕ InputErr → Type 0
Held buffer (Ok n) = IsPrefixLen n buffer
Held buffer (Err e) = Unit {0}

-- the first n bytes, as far as they are there
unfoldable pub first_of : ℕ → List ℕ → List ℕ
first_of n b = take n b

-- 0 accepted, 1 refused
unfoldable pub status_of : Bool → ℕ
status_of true = 48
status_of false = 49
