-- A run of bytes of a class, one byte on, and where it ends. Assumes nothing.
use Prim.Native.Nat.{ℕ, suc, ◌+◌, ◌<◌, ◌≤◌}
use mathlib.Core.Path.{◌≡◌, refl, sym, ◌∙◌, ap}
use mathlib.Core.Bool.{Bool, true, false}
use mathlib.Core.List.{List, [], ◌∷◌}
use native.Mathlib.Omega.{arith}
use native.Mathlib.Nat.{not-suc-le-zero, le_of_suc-le-suc}
use lib.Seq.{get_or-drop}
use lib.ListN.{length, get_or, length-drop}
use Rattle.rules.specs.Tokens.{while}
use Rattle.rules.proofs.While.{yes-cons, no-cons}
use Rattle.rules.proofs.Sizes.{while-short}
use Rattle.base_text.specs.declared.Class.{Class}
use Rattle.base_text.specs.Runs.{in_class, from, run_end}
use Rattle.base_text.proofs.Rest.{from_step, from_end}

module _ (k : Class) (s : List ℕ) (i : ℕ) where
  pub run_in : i < length s → in_class k (get_or s i 0) ≡ true → run_end k s i ≡ run_end k s (i + 1)
  unfolding run_end
  run_in h t = rw (from_step s i h, yes-cons (in_class k) (get_or s i 0) (from s (i + 1)) t) (omega arith)

  pub run_out : i < length s → in_class k (get_or s i 0) ≡ false → run_end k s i ≡ i
  unfolding run_end
  run_out h t = rw (from_step s i h, no-cons (in_class k) (get_or s i 0) (from s (i + 1)) t) (omega arith)

  pub run_past : length s ≤ i → run_end k s i ≡ i
  unfolding run_end while
  run_past h = rw (from_end s i h) (omega arith)

  pub end_ge : i ≤ run_end k s i
  unfolding run_end
  end_ge = omega arith

  pub end-le : i ≤ length s → run_end k s i ≤ length s
  unfolding run_end from
  end-le h = omega (arith, while-short (in_class k) (from s i), length-drop i s)

-- as a loop meets them
module _ (k : Class) (s : List ℕ) {i x : ℕ} {t : Bool} (h : i < length s) (e : t ≡ in_class k (get_or s i 0)) where
  pub run-again : t ≡ true → run_end k s i ≡ x → run_end k s (i + 1) ≡ x
  run-again q g = sym (run_in k s i h (sym e ∙ q)) ∙ g

  pub run-stop : t ≡ false → run_end k s i ≡ x → i ≡ x
  run-stop q g = sym (run_out k s i h (sym e ∙ q)) ∙ g

pub run-over : (k : Class) (s : List ℕ) {i x : ℕ} → length s ≤ i → run_end k s i ≡ x → i ≡ x
run-over k s h g = sym (run_past k s _ h) ∙ g

-- a loop that ends with the list
pub run-whole : (k : Class) (s : List ℕ) {i x : ℕ} → length s ≤ i → i ≤ length s → run_end k s i ≡ x → length s ≡ x
run-whole k s {i} h l g = let e : length s ≡ i = omega arith in e ∙ run-over k s h g

-- the byte at a run's end is not of the class
after-while : (p : ℕ → Bool) (l : List ℕ) → length (while p l) < length l → p (get_or l (length (while p l)) 0) ≡ false
unfolding while
after-while p [] h = absurd (not-suc-le-zero h)
after-while p (c ∷ l) h = go (p c) refl (after-while p l) h
  where
    go :
        (b : Bool) → p c ≡ b → (length (while p l) < length l → p (get_or l (length (while p l)) 0) ≡ false)
        → length {A = ℕ} (elim b [ true ↦ c ∷ while p l | false ↦ [] ]) < suc (length l)
        → p (get_or (c ∷ l) (length {A = ℕ} (elim b [ true ↦ c ∷ while p l | false ↦ [] ])) 0) ≡ false
    go true e f h = f (le_of_suc-le-suc h)
    go false e f h = e

pub run-stops : (k : Class) (s : List ℕ) (at : ℕ) → run_end k s at < length s → in_class k (get_or s (run_end k s at) 0) ≡ false
unfolding run_end from
run-stops k s at h =
    ap (in_class k) (sym (get_or-drop at s (length (while (in_class k) (from s at))) 0))
    ∙ after-while (in_class k) (from s at) (omega (arith, length-drop at s))
