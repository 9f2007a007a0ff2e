-- A number's reading is the rule's, and where the number ends. Assumes nothing.
use Prim.Native.Nat.{ℕ, zero, suc, ◌+◌, ◌-◌, ◌*◌, ◌<◌, ◌≤◌}
use mathlib.Core.Path.{◌≡◌, refl, sym, ◌∙◌}
use mathlib.Core.Bool.{Bool, true, false}
use mathlib.Core.List.{List, [], ◌∷◌}
use native.Mathlib.Nat.{not-suc-le-zero}
use native.Mathlib.Omega.{arith}
use borrow.Author.Tests.{ltb-true, ltb-false, leb-true, leb-false, le-leb, eqb-true, eq-eqb, ne_eqb}
use lib.Dec.{eqb, leb, ltb}
use lib.ListN.{length, get_or}
use Rattle.rules.specs.Base.{when◌then◌else◌, within}
use Rattle.rules.specs.Tokens.{Form, digit, letter, wordy, upper, value, while, digits, read}
use Rattle.rules.proofs.While.{yes-cons, no-cons}
use Rattle.rules.proofs.Sizes.{small, digit-wordy, letter-wordy}
use Rattle.base_text.specs.Runs.{in_class, from, run_end}
use Rattle.base_text.specs.declared.Class.TheVariants as class
use Rattle.base_text.proofs.Rest.{from_step, from_end}
use Rattle.base_text.proofs.RunLaws.{run_in, run_out, run_past}
use Rattle.lex_literals.specs.Numbers.{stopped, number_from, meant_by}
use Rattle.lex_literals.specs.declared.Reading.{Reading}
use Rattle.lex_literals.specs.declared.Reading.TheVariants.{Good, Empty, Wrong, Over}
use Rattle.rules.proofs.Bools.{and_left, and_right}

low-letter : (c : ℕ) → within "A" "F" c ≡ true → letter c ≡ true
unfolding letter
low-letter c e =
    let l : 65 ≤ c = leb-true 65 c (and_left (leb 65 c) _ e) in
    let h : c ≤ 70 = leb-true c 70 (and_right (leb 65 c) _ e) in
    let k : c ≤ 90 = omega arith in
    rw (le-leb 65 c l, le-leb c 90 k)

hex-letter : (c : ℕ) → within "A" "F" (upper c) ≡ true → letter c ≡ true
unfolding upper when◌then◌else◌
hex-letter c e = go (within "a" "z" c) refl e
  where
    go : (b : Bool) → within "a" "z" c ≡ b → within "A" "F" (when b then c - 32 else c) ≡ true → letter c ≡ true
    go true w e = small c w
    go false w e = low-letter c e

value-wordy : (c : ℕ) → value c < 16 → wordy c ≡ true
unfolding value when◌then◌else◌
value-wordy c h = go (digit c) refl (within "A" "F" (upper c)) refl h
  where
    go : (d : Bool) → digit c ≡ d → (x : Bool) → within "A" "F" (upper c) ≡ x → (when d then c - 48 else when x then upper c - 55 else 99) < 16 → wordy c ≡ true
    go true e x f h = digit-wordy c e
    go false e true f h = letter-wordy c (hex-letter c f)
    go false e false f h = absurd (omega arith)

-- the rule's reading
module _ (f : Form) (small : f.base ≤ 16) (at : ℕ) where
  abbrev from' : ℕ → ℕ → List ℕ → Reading
  from' = number_from f.base f.bound at

  digit-in : (c : ℕ) → leb f.base (value c) ≡ false → wordy c ≡ true
  digit-in c e = let h : value c < f.base = leb-false _ _ e in value-wordy c (omega arith)

  later : (i n : ℕ) (l : List ℕ) → at < i → meant_by f (from' i n l) ≡ digits f n (while wordy l)
  unfolding number_from meant_by digits stopped while when◌then◌else◌
  later i n [] h = let k : i ≡ at → ⊥ = λ e. omega arith in rw (ne_eqb i at k)
  later i n (c ∷ l) h = go (leb f.base (value c)) refl (wordy c) refl (ltb f.bound (n * f.base + value c)) refl (later (i + 1) (n * f.base + value c) l (omega arith))
    where
      go :
          (b : Bool) → leb f.base (value c) ≡ b → (w : Bool) → wordy c ≡ w → (o : Bool) → ltb f.bound (n * f.base + value c) ≡ o
          → meant_by f (from' (i + 1) (n * f.base + value c) l) ≡ digits f (n * f.base + value c) (while wordy l)
          → meant_by f (when b then (when w then Wrong i else stopped at i n) else when o then Over i else from' (i + 1) (n * f.base + value c) l) ≡ digits f n (while wordy (c ∷ l))
      go true b true w o v r = rw (yes-cons wordy c l w, b)
      go true b false w o v r = let k : i ≡ at → ⊥ = λ e. omega arith in rw (no-cons wordy c l w, ne_eqb i at k)
      go false b w e true v r = rw (yes-cons wordy c l (digit-in c b), b, v)
      go false b w e false v r = rw (yes-cons wordy c l (digit-in c b), b, v) r

  pub number-means : (l : List ℕ) → meant_by f (from' at 0 l) ≡ read f (while wordy l)
  unfolding number_from meant_by digits read stopped while when◌then◌else◌
  number-means [] = rw (eq-eqb at at refl)
  number-means (c ∷ l) = go (leb f.base (value c)) refl (wordy c) refl (ltb f.bound (0 * f.base + value c)) refl (later (at + 1) (0 * f.base + value c) l (omega arith))
    where
      go :
          (b : Bool) → leb f.base (value c) ≡ b → (w : Bool) → wordy c ≡ w → (o : Bool) → ltb f.bound (0 * f.base + value c) ≡ o
          → meant_by f (from' (at + 1) (0 * f.base + value c) l) ≡ digits f (0 * f.base + value c) (while wordy l)
          → meant_by f (when b then (when w then Wrong at else stopped at at 0) else when o then Over at else from' (at + 1) (0 * f.base + value c) l) ≡ read f (while wordy (c ∷ l))
      go true b true w o v r = rw (yes-cons wordy c l w, b)
      go true b false w o v r = rw (no-cons wordy c l w, eq-eqb at at refl)
      go false b w e true v r = rw (yes-cons wordy c l (digit-in c b), b, v)
      go false b w e false v r = rw (yes-cons wordy c l (digit-in c b), b, v) r

-- where the number ends, its last word character at x: a refused one too, from the place where its reading stopped
abbrev pub Ends : List ℕ → (at bound x : ℕ) → Reading → Type 0
Ends s at bound x (Good n e) = (e ≡ x) × (n ≤ bound)
Ends s at bound x Empty = at ≡ x
Ends s at bound x (Wrong i) = run_end class.Word s i ≡ x
Ends s at bound x (Over i) = run_end class.Word s i ≡ x

module _ (s : List ℕ) (base bound at : ℕ) (small : base ≤ 16) where
  stop-ends : (i n x : ℕ) → i ≡ x → n ≤ bound → Ends s at bound x (stopped at i n)
  unfolding stopped when◌then◌else◌
  stop-ends i n x e h = go (eqb i at) refl
    where
      go : (b : Bool) → eqb i at ≡ b → Ends s at bound x (when b then Empty else Good n i)
      go true b = sym (eqb-true i at b) ∙ e
      go false b = (e, h)

  ends-from : (room i n : ℕ) → length s - i < room → n ≤ bound → Ends s at bound (run_end class.Word s i) (number_from base bound at i n (from s i))
  unfolding number_from in_class when◌then◌else◌
  ends-from zero i n r h = absurd (not-suc-le-zero r)
  ends-from (suc room) i n r h = go (ltb i (length s)) refl (λ m q k. ends-from room (i + 1) m (omega arith) k)
    where
      one : (c : ℕ) (l : List ℕ) (b : Bool) → leb base (value c) ≡ b → (w : Bool) → wordy c ≡ w → (o : Bool) → ltb bound (n * base + value c) ≡ o
          → (w ≡ false → i ≡ run_end class.Word s i)
          → (wordy c ≡ true → n * base + value c ≤ bound → Ends s at bound (run_end class.Word s i) (number_from base bound at (i + 1) (n * base + value c) l))
          → Ends s at bound (run_end class.Word s i) (when b then (when w then Wrong i else stopped at i n) else when o then Over i else number_from base bound at (i + 1) (n * base + value c) l)
      one c l true b true w o v p q = refl
      one c l true b false w o v p q = stop-ends i n (run_end class.Word s i) (p refl) h
      one c l false b w e true v p q = refl
      one c l false b w e false v p q = let k : value c < base = leb-false _ _ b in q (value-wordy c (omega arith)) (ltb-false _ _ v)

      go : (b : Bool) → ltb i (length s) ≡ b → ((m : ℕ) → i < length s → m ≤ bound → Ends s at bound (run_end class.Word s (i + 1)) (number_from base bound at (i + 1) m (from s (i + 1)))) → Ends s at bound (run_end class.Word s i) (number_from base bound at i n (from s i))
      go true b again =
          let q : i < length s = ltb-true _ _ b in
          rw (from_step s i q)
          (one (get_or s i 0) (from s (i + 1)) (leb base (value (get_or s i 0))) refl (wordy (get_or s i 0)) refl (ltb bound (n * base + value (get_or s i 0))) refl
          (λ w. sym (run_out class.Word s i q w))
          (λ w k. rw (run_in class.Word s i q w) (again _ q k)))
      go false b again = let q : length s ≤ i = ltb-false _ _ b in rw (from_end s i q) (stop-ends i n (run_end class.Word s i) (sym (run_past class.Word s i q)) h)

  pub number-ends : Ends s at bound (run_end class.Word s at) (number_from base bound at at 0 (from s at))
  number-ends = ends-from (length s - at + 1) at 0 (omega arith) (omega arith)
