-- The first n bytes of a buffer; the byte of an answer. Assumes nothing.
use Prim.Native.Nat.{ℕ, min}
use mathlib.Core.Path.{◌≡◌, refl}
use mathlib.Core.Bool.{Bool, true, false}
use mathlib.Core.List.{List}
use lib.ListN.{length, take}
use Rattle.std.proofs.lemmas.List.{take_min}
use Rattle.lc3_input.specs.Held.{first_of, status_of}

pub front-part : (n : ℕ) (b : List ℕ) {m : ℕ} → m ≡ min n (length b) → take m b ≡ first_of n b
unfolding first_of
front-part n b e = rw e (take_min n b)

pub told-accepted : (b : Bool) → b ≡ true → 48 ≡ status_of b
unfolding status_of
told-accepted b e = rw e refl

pub told-refused : (b : Bool) → b ≡ false → 49 ≡ status_of b
unfolding status_of
told-refused b e = rw e refl
