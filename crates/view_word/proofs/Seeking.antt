-- The first number for which a test holds, as a loop finds it. Assumes nothing.
use Rattle.std.proofs.Common.{◌≡◌, ℕ, suc, ◌+◌, ◌-◌, ◌<◌, ◌≤◌, Bool, true, false, sym, refl, ◌∙◌, arith}
use Rattle.view_word.specs.First.{first_from, first}

-- none of the numbers below k
pub record Seeking (holds : ℕ → Bool) (n k : ℕ) : Type 0 where
  pub within : k ≤ n
  pub same : first_from holds k (n - k) ≡ first holds n

one_more : (n k : ℕ) → k < n → n - k ≡ suc (n - (k + 1))
one_more n k h = omega arith

step-on : (holds : ℕ → Bool) (k m : ℕ) → holds k ≡ false → first_from holds k (suc m) ≡ first_from holds (k + 1) m
unfolding first_from
step-on holds k m e = rw (first_from, e) refl

step-found : (holds : ℕ → Bool) (k m : ℕ) → holds k ≡ true → first_from holds k (suc m) ≡ k
unfolding first_from
step-found holds k m e = rw (first_from, e) refl

pub seek-start : (holds : ℕ → Bool) (n : ℕ) → Seeking holds n 0
unfolding first
seek-start holds n = let z : n - 0 ≡ n = omega arith in record { within = omega arith; same = rw z refl }

module _ {holds : ℕ → Bool} {n k : ℕ} where
  pub seek-on : {t : Bool} → Seeking holds n k → k < n → t ≡ holds k → t ≡ false → Seeking holds n (k + 1)
  seek-on s h e f = record { within = omega arith; same = sym (rw (one_more n k h) (step-on holds k (n - (k + 1)) (sym e ∙ f))) ∙ s.same }

  pub seek_found : {t : Bool} → Seeking holds n k → k < n → t ≡ holds k → t ≡ true → k ≡ first holds n
  seek_found s h e f = sym (rw (one_more n k h) (step-found holds k (n - (k + 1)) (sym e ∙ f))) ∙ s.same

  pub seek-none : Seeking holds n k → n ≤ k → n ≡ first holds n
  unfolding first_from
  seek-none s h = let z : n - k ≡ 0 = omega arith in let y : n ≡ k = omega (arith, s.within) in y ∙ (rw z at s.same)
