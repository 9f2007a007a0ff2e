-- What a loop that fills a list from the front keeps, and what is laid into a buffer that was cleared. Assumes nothing.
use Rattle.std.proofs.Common.{◌≡◌, ℕ, zero, suc, ◌+◌, ◌-◌, ◌<◌, List, [], ◌∷◌, ◌++◌, length, drop, replicate, refl, sym, ap, ◌∙◌, add-one}
use Rattle.std.proofs.Math.ListN.{set, take, length-replicate}
use Rattle.std.proofs.lemmas.List.{drop-replicate}
use lib.Seq.{take-length}
use native.Mathlib.Nat.{zero-add}
use native.Mathlib.Nat.{not-suc-le-zero, le_of_suc-le-suc}
use lib.Seq.{paste}
use Rattle.rules.specs.Buffers.{zeros, lay}

module _ {A : Type 0} (blank : A) where
  one_more : (i : ℕ) (d : List A) → i < length d → set (replicate i blank ++ drop i d) i blank ≡ replicate (suc i) blank ++ drop (suc i) d
  one_more i [] h = absurd (not-suc-le-zero h)
  one_more zero (x ∷ d) h = refl
  one_more (suc i) (x ∷ d) h = ap (λ (l : List A). blank ∷ l) (one_more i d (le_of_suc-le-suc h))

  -- the first i are blanks, the rest as it was: one blank on
  pub blank_more : (d b : List A) (i : ℕ) → b ≡ replicate i blank ++ drop i d → i < length d
      → set b i blank ≡ replicate (i + 1) blank ++ drop (i + 1) d
  blank_more d b i e h =
      ap (λ (l : List A). set l i blank) e ∙ one_more i d h
      ∙ ap (λ (k : ℕ). replicate k blank ++ drop k d) (sym (add-one i))

-- what is laid after a clearing is laid in a buffer as long as the one that was lent
pub laid-after : (l out z r : List ℕ) → r ≡ lay l (length z) → z ≡ zeros (length out) → r ≡ lay l (length out)
laid-after l out z r q e = q ∙ ap (lay l) (ap length e ∙ length-replicate (length out) 0)

-- what is pasted at the front of blanks has blanks behind
pub front : {A : Type 0} (s z r : List A) (n : ℕ) (y : A) → z ≡ replicate n y → r ≡ paste z 0 s (length s) → r ≡ s ++ replicate (n - length s) y
front {A} s z r n y e p =
    p ∙ ap (λ (l : List A). take (length s) s ++ drop (0 + length s) l) e
    ∙ (λ i. take-length s i ++ drop (zero-add (length s) i) (replicate n y))
    ∙ ap (λ (l : List A). s ++ l) (drop-replicate (length s) n y)
