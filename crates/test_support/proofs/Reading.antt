-- Fields read, byte by byte. Assumes nothing.
use Prim.Native.Nat.{ℕ, suc, ◌+◌, ◌*◌, ◌/◌, ◌%◌, ◌≤◌, ◌<◌}
use mathlib.Core.Path.{◌≡◌, refl, sym, ◌∙◌, ap}
use mathlib.Core.Bool.{Bool, true, false}
use mathlib.Core.List.{List, [], ◌∷◌, ◌++◌}
use native.Mathlib.Omega.{arith}
use borrow.Author.Tests.{lt-ltb, le-ltb, eq-eqb, ne_eqb}
use lib.Dec.{eqb}
use lib.ListN.{length, get_or, length-drop}
use Rattle.rules.specs.Base.{when◌then◌else◌, same}
use Rattle.rules.specs.Tokens.{value}
use Rattle.rules.proofs.Named.{same_true}
use Rattle.base_text.specs.Runs.{from, run_end}
use Rattle.base_text.specs.declared.Class.TheVariants.{Word, Digit}
use Rattle.base_text.proofs.Rest.{from_start, from_step, from_end}
use Rattle.test_support.specs.Fields.{past, between, number_from, number_of, decimal_at, part_at}
use Rattle.test_support.specs.Sources.{pair, unhexed}

-- PLACES
pub past-in : (s : List ℕ) (i : ℕ) → i < length s → i + 1 ≡ past s i
unfolding past when◌then◌else◌
past-in s i h = rw (lt-ltb i (length s) h)

pub past-out : (s : List ℕ) (i : ℕ) → length s ≤ i → i ≡ past s i
unfolding past when◌then◌else◌
past-out s i h = rw (le-ltb i (length s) h)

-- NUMBERS: what is left of the digits goes on with the number so far
pub record Counting (s : List ℕ) (v i : ℕ) : Type 0 where
  pub small : v < 1000000000000
  pub same : number_from v (from s i) ≡ number_of s

pub counting-start : (s : List ℕ) → Counting s 0 0
unfolding number_of
counting-start s = record { small = omega arith; same = rw from_start refl }

pub counting_more : {s : List ℕ} {v i d : ℕ} → Counting s v i → i < length s → d ≡ value (get_or s i 0) → Counting s ((v * 10 + d) % 1000000000000) (i + 1)
unfolding number_from
counting_more {s} {v} {i} {d} c h q = record {
  small = omega arith;
  same = sym (ap (number_from v) (from_step s i h) ∙ rw q refl) ∙ c.same;
}

pub counting-all : {s : List ℕ} {v i : ℕ} → Counting s v i → length s ≤ i → v ≡ number_of s
unfolding number_from
counting-all {s} {v} {i} c h = sym (ap (number_from v) (from_end s i h)) ∙ c.same

-- PAIRS OF DIGITS
pub pair-next : (x s : List ℕ) → length x ≡ 2 → unhexed (x ++ s) ≡ pair (get_or x 0 0) (get_or x 1 0) ∷ unhexed s
unfolding unhexed
pair-next [] s h = absurd (omega arith)
pair-next (a ∷ []) s h = absurd (let z : suc 0 ≡ 2 = h in omega arith)
pair-next (a ∷ b ∷ []) s h = refl
pair-next (a ∷ b ∷ c ∷ x) s h = absurd (let z : suc (suc (suc (length x))) ≡ 2 = h in omega arith)

pub pair-none : (s : List ℕ) → length s < 2 → unhexed s ≡ []
unfolding unhexed
pair-none [] h = refl
pair-none (a ∷ []) h = refl
pair-none (a ∷ b ∷ s) h = absurd (let z : suc (suc (length s)) < 2 = h in omega arith)

pair-at : (d : List ℕ) (i : ℕ) → i + 2 ≤ length d → unhexed (from d i) ≡ pair (get_or d i 0) (get_or d (i + 1) 0) ∷ unhexed (from d (i + 2))
unfolding unhexed
pair-at d i h =
    let e : i + 1 + 1 ≡ i + 2 = omega arith in
    rw (from_step d i (omega arith), from_step d (i + 1) (omega arith), e) refl

unhexed-length : (d : List ℕ) → length (unhexed d) ≡ length d / 2
unfolding unhexed
unhexed-length [] = omega arith
unhexed-length (a ∷ []) = let z : suc 0 / 2 ≡ 0 = omega arith in sym z
unhexed-length (a ∷ b ∷ s) = let e = unhexed-length s in let z : suc (length (unhexed s)) ≡ suc (suc (length s)) / 2 = omega (arith, e) in z

-- A TEXT AND DIGITS, side by side: what is left of both goes on with what was the same
pub alike-length : (t d : List ℕ) → (length t ≡ length d / 2 → ⊥) → false ≡ same t (unhexed d)
alike-length t d h = go (same t (unhexed d)) refl
  where
    go : (b : Bool) → same t (unhexed d) ≡ b → false ≡ same t (unhexed d)
    go true e = absurd (h (ap length (same_true t (unhexed d) e) ∙ unhexed-length d))
    go false e = sym e

pub record Alike (t d : List ℕ) (i : ℕ) : Type 0 where
  pub half : length t ≡ length d / 2
  pub left : same (from t i) (unhexed (from d (2 * i))) ≡ same t (unhexed d)

pub alike-start : (t d : List ℕ) → length t ≡ length d / 2 → Alike t d 0
alike-start t d h = record { half = h; left = rw (from_start, from_start) refl }

module _ {t d : List ℕ} {i v : ℕ} (a : Alike t d i) (h : i < length t) (q : v ≡ pair (get_or d (2 * i) 0) (get_or d (2 * i + 1) 0)) where
  pub alike-more : get_or t i 0 ≡ v → Alike t d (i + 1)
  alike-more e = record {
    half = a.half;
    left = let z : 2 * (i + 1) ≡ 2 * i + 2 = omega arith in rw z (sym (rw (from_step t i h, pair-at d (2 * i) (omega (arith, a.half)), ← q, eq-eqb (get_or t i 0) v e) refl) ∙ a.left);
  }

  pub alike-differs : (get_or t i 0 ≡ v → ⊥) → false ≡ same t (unhexed d)
  alike-differs e = sym (rw (from_step t i h, pair-at d (2 * i) (omega (arith, a.half)), ← q, ne_eqb (get_or t i 0) v e) refl) ∙ a.left

pub alike_end : {t d : List ℕ} {i : ℕ} → Alike t d i → length t ≤ i → i ≤ length t → true ≡ same t (unhexed d)
unfolding from
alike_end {t} {d} {i} a h k =
    let l : length (from d (2 * i)) < 2 = omega (arith, a.half, length-drop (2 * i) d) in
    sym (rw (from_end t i h, pair-none (from d (2 * i)) l) refl) ∙ a.left

-- FIELDS
pub decimal-is : (s : List ℕ) (i : ℕ) {e n m : ℕ} {t : List ℕ} → e ≡ run_end Digit s i → t ≡ between s i e → n ≡ number_of t → m ≡ past s e → record { value = n; next = m } ≡ decimal_at s i
unfolding decimal_at
decimal-is s i p q r u = rw (u, r, q, p) refl

module _ (s : List ℕ) (i : ℕ) {e n b : ℕ} (p : e ≡ run_end Word s i) (q : n ≡ past s e) (r : b ≡ get_or s e 0) where
  pub part-dash : {m : ℕ} → b ≡ 45 → m ≡ past s n → record { start = i; stop = e; next = m } ≡ part_at s i
  unfolding part_at when◌then◌else◌
  part-dash h u = let z : eqb (get_or s (run_end Word s i) 0) 45 ≡ true = rw (← p, ← r) (eq-eqb b 45 h) in rw (z, u, q, p) refl

  pub part-plain : (b ≡ 45 → ⊥) → record { start = i; stop = e; next = n } ≡ part_at s i
  unfolding part_at when◌then◌else◌
  part-plain h = let z : eqb (get_or s (run_end Word s i) 0) 45 ≡ false = rw (← p, ← r) (ne_eqb b 45 h) in rw (z, q, p) refl
