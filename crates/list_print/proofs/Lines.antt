-- A refusal's line, written part by part. Assumes nothing.
use Prim.Native.Nat.{ℕ, ◌+◌, ◌/◌, ◌%◌, ◌≤◌, ◌<◌}
use mathlib.Core.Path.{◌≡◌, sym, ◌∙◌, ap}
use mathlib.Core.List.{List, [], ◌∷◌, ◌++◌}
use native.Mathlib.Nat.{zero-add}
use native.Mathlib.Omega.{arith}
use borrow.Author.Tests.{lt-ltb, le-ltb}
use lib.Dec.{ltb}
use lib.ListN.{length, length-replicate}
use Rattle.rules.specs.Base.{when◌then◌else◌, refuse, nowhere, bytes}
use Rattle.rules.specs.Buffers.{zeros}
use Rattle.rules.specs.Listing.{decimal, lf, printed}
use Rattle.rules.proofs.Bools.{either}
use Rattle.list_lines.specs.Appended.{Appended}
use Rattle.list_lines.proofs.Appending.{appended-more, appended-laid}
use Rattle.list_print.specs.Program.{Wrote}

-- a number's digits
decimal-one : (n a : ℕ) → n < 10 → a ≡ 48 + n → a ∷ [] ≡ decimal n
unfolding decimal when◌then◌else◌
decimal-one n a l e = rw (lt-ltb n 10 l) (ap (λ (x : ℕ). x ∷ []) e)

decimal-two : (n a b : ℕ) → 10 ≤ n → a ≡ 48 + n / 10 → b ≡ 48 + n % 10 → a ∷ b ∷ [] ≡ decimal n
unfolding decimal when◌then◌else◌
decimal-two n a b l e f = rw (le-ltb n 10 l, e, f)

decimal-length : (n : ℕ) → length (decimal n) ≤ 2
unfolding decimal
decimal-length n = either (λ (l : List ℕ). length l ≤ 2) (ltb n 10) (omega arith) (omega arith)

-- written
module _ (b c : List ℕ) (at e n : ℕ) where
  pub one-appended : (x : ℕ) → n < 10 → x ≡ 48 + n → Appended b c at e (x ∷ []) → Appended b c at e (decimal n)
  one-appended x l q p = rw (sym (decimal-one n x l q)) p

  pub two-appended : (x y : ℕ) → 10 ≤ n → x ≡ 48 + n / 10 → y ≡ 48 + n % 10 → Appended b c at e (x ∷ y ∷ []) → Appended b c at e (decimal n)
  two-appended x y l q r p = rw (sym (decimal-two n x y l q r)) p

-- a text from the front of a cleared buffer
wrote-appended : (z b : List ℕ) (len e : ℕ) (l : List ℕ) → z ≡ zeros len → Appended z b 0 e l → Wrote l len e b
wrote-appended z b len e l q p =
    let f : e ≡ length l = p.stop ∙ zero-add (length l) in
    record { count = f; here = appended-laid z b e len l q p; room = omega (arith, f, p.room, p.size) }

-- the line
module _ (out z : List ℕ) (n : ℕ) (q : z ≡ zeros (length out)) (h : 11 ≤ length out) where
  cleared : length z ≡ length out
  cleared = ap length q ∙ length-replicate (length out) 0

  module _ (b : List ℕ) (i : ℕ) (p : Appended z b 0 i (bytes "REFUSED ")) where
    module _ (c : List ℕ) (j : ℕ) (r : Appended b c i j (decimal n)) where
      pub feed-fits : j + 1 ≤ length c
      feed-fits = omega (arith, cleared, p.stop, p.size, r.stop, r.size, decimal-length n)

      pub line_wrote : (d : List ℕ) (e : ℕ) → Appended c d j e lf → Wrote (printed (refuse n nowhere)) (length out) e d
      unfolding printed
      line_wrote d e s = wrote-appended z d (length out) e (bytes "REFUSED " ++ decimal n ++ lf) q (appended-more (appended-more p r) s)
