-- Numbers read one after the other. Assumes nothing.
use Prim.Native.Nat.{ℕ, ◌%◌}
use mathlib.Core.Path.{◌≡◌, refl}
use mathlib.Core.List.{List}
use Rattle.test_support.specs.declared.Taken.{Taken}
use Rattle.test_support.specs.Fields.{decimal_at}
use Rattle.test_replay.specs.Asked.{lacking_at, expected_at}

pub lacking-is :
    (s : List ℕ) (i : ℕ) (a b c d e f : Taken) → a ≡ decimal_at s i → b ≡ decimal_at s a.next → c ≡ decimal_at s b.next → d ≡ decimal_at s c.next → e ≡ decimal_at s d.next → f ≡ decimal_at s e.next
    → record { blocks = a.value; words = b.value; marks = c.value; labels = d.value; relocations = e.value; names = f.value; next = f.next } ≡ lacking_at s i
unfolding lacking_at
lacking-is s i a b c d e f p q r t u v = rw (v, u, t, r, q, p) refl

pub expected-is :
    (s : List ℕ) (i : ℕ) (a b c d e f g h j : Taken) {n : ℕ} → a ≡ decimal_at s i → b ≡ decimal_at s a.next → c ≡ decimal_at s b.next → d ≡ decimal_at s c.next → e ≡ decimal_at s d.next
    → f ≡ decimal_at s e.next → g ≡ decimal_at s f.next → h ≡ decimal_at s g.next → j ≡ decimal_at s h.next → n ≡ a.value % 65536
    → record {
      answer = record { number = n; start = b.value; end = c.value; start2 = d.value; end2 = e.value; blocks = f.value; words = g.value; labels = h.value; relocations = j.value };
      next = j.next;
    }
    ≡ expected_at s i
unfolding expected_at
expected-is s i a b c d e f g h j p q r t u v w x y z = rw (z, y, x, w, v, u, t, r, q, p) refl
