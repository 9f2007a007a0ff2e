-- A number's reading, one character on, as the loop meets it. Assumes nothing.
use Prim.Native.Nat.{ℕ, ◌+◌, ◌*◌, ◌<◌, ◌≤◌}
use mathlib.Core.Path.{◌≡◌, ap, sym, ◌∙◌}
use mathlib.Core.Bool.{Bool, true, false, ◌&&◌}
use mathlib.Core.List.{List}
use native.Mathlib.Nat.{mul-le-mul}
use native.Mathlib.Omega.{arith}
use borrow.Author.Tests.{lt-ltb, le-leb, lt-leb, ltb-true, ltb-false}
use lib.Dec.{ltb}
use lib.ListN.{length, get_or}
use Rattle.rules.specs.Base.{when◌then◌else◌}
use Rattle.rules.specs.Tokens.{wordy, value}
use Rattle.rules.proofs.Bools.{and_left, and_right}
use Rattle.base_text.specs.Runs.{from}
use Rattle.base_text.proofs.Rest.{from_step, from_end}
use Rattle.lex_literals.specs.Numbers.{stopped, number_from}
use Rattle.lex_literals.specs.declared.Reading.{Reading}
use Rattle.lex_literals.specs.declared.Reading.TheVariants.{Wrong, Over}

pub scaled : (a r : ℕ) → a ≤ 65535 → r ≤ 16 → a * r ≤ 1048560
scaled a r h k = mul-le-mul h k

module _ (base bound at n : ℕ) (s : List ℕ) {i v : ℕ} {z : Reading} (h : i < length s) (e : v ≡ value (get_or s i 0)) (g : number_from base bound at i n (from s i) ≡ z) where
  pub wrong-met : {t : Bool} → base ≤ v → t ≡ wordy (get_or s i 0) → t ≡ true → Wrong i ≡ z
  unfolding number_from when◌then◌else◌
  wrong-met b w t = sym (rw (from_step s i h, ← e, le-leb _ _ b, ← w, t)) ∙ g

  pub ends-met : {t : Bool} {r : Reading} → base ≤ v → t ≡ wordy (get_or s i 0) → t ≡ false → r ≡ stopped at i n → r ≡ z
  unfolding number_from when◌then◌else◌
  ends-met b w t r = r ∙ sym (rw (from_step s i h, ← e, le-leb _ _ b, ← w, t)) ∙ g

  module _ {t : Bool} (o : t ≡ (ltb v base && ltb bound (n * base + v))) where
    pub over-met : t ≡ true → Over i ≡ z
    unfolding number_from when◌then◌else◌
    over-met q =
        let b = ltb-true v base (and_left (ltb v base) (ltb bound (n * base + v)) (sym o ∙ q)) in
        sym (rw (from_step s i h, ← e, lt-leb _ _ b, and_right (ltb v base) (ltb bound (n * base + v)) (sym o ∙ q))) ∙ g

    pub number-again : t ≡ false → v < base → number_from base bound at (i + 1) (n * base + v) (from s (i + 1)) ≡ z
    unfolding number_from when◌then◌else◌
    number-again q b =
        let k : ltb bound (n * base + v) ≡ false = rw (lt-ltb _ _ b) at (sym o ∙ q) in
        sym (rw (from_step s i h, ← e, lt-leb _ _ b, k)) ∙ g

    -- a digit that is none too many keeps the number small
    pub number_small : t ≡ false → v < base → bound ≤ 65535 → n * base + v ≤ 65535
    number_small q b m =
        let k : ltb bound (n * base + v) ≡ false = rw (lt-ltb _ _ b) at (sym o ∙ q) in
        omega (arith, ltb-false bound (n * base + v) k)

pub number-done : (base bound at n : ℕ) (s : List ℕ) {i m : ℕ} {r z : Reading} → length s ≤ i → i ≡ m → number_from base bound at i n (from s i) ≡ z → r ≡ stopped at m n → r ≡ z
unfolding number_from
number-done base bound at n s {i} {m} h e g r = r ∙ (sym (ap (λ (k : ℕ). stopped at k n) e) ∙ (sym (rw (from_end s i h)) ∙ g))
