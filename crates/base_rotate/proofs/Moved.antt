-- What stands in a list after two neighbouring parts are exchanged. Assumes nothing.
use Prim.Native.Nat.{ℕ, ◌+◌, ◌-◌, ◌≤◌, ◌<◌}
use mathlib.Core.Path.{◌≡◌, ap, sym, ◌∙◌}
use mathlib.Core.List.{List, ◌++◌, append_assoc}
use native.Mathlib.Omega.{arith}
use lib.ListN.{length, take, drop, get_or, length-append, get_or-append}
use lib.Seq.{slice, drop_at, length-take-le, length-slice, get_or-append-add, get_or-take, get_or-drop}
use Rattle.base_rotate.specs.Turned.{turned}

module _ (b : List ℕ) (lo mid hi : ℕ) (h : lo ≤ mid) (k : mid ≤ hi) (l : hi ≤ length b) where
  size_low : length (take lo b) ≡ lo
  size_low = length-take-le lo b (omega arith)

  size_back : length (slice lo mid b) ≡ mid - lo
  size_back = length-slice lo mid b (omega arith)

  size-front : length (slice mid hi b) ≡ hi - mid
  size-front = length-slice mid hi b l

  pub get-low : (i : ℕ) → i < lo → get_or (turned lo mid hi b) i 0 ≡ get_or b i 0
  unfolding turned
  get-low i m =
      get_or-append (take lo b) (slice mid hi b ++ (slice lo mid b ++ drop hi b)) 0 i (omega (arith, size_low)) ∙ get_or-take lo b i 0 m

  pub get-front : (j : ℕ) → mid + j < hi → get_or (turned lo mid hi b) (lo + j) 0 ≡ get_or b (mid + j) 0
  unfolding turned
  get-front j m =
      ap (λ (x : ℕ). get_or (turned lo mid hi b) (x + j) 0) (sym size_low)
      ∙ get_or-append-add (take lo b) (slice mid hi b ++ (slice lo mid b ++ drop hi b)) j 0
      ∙ get_or-append (slice mid hi b) (slice lo mid b ++ drop hi b) 0 j (omega (arith, size-front))
      ∙ get_or-drop mid (take hi b) j 0
      ∙ get_or-take hi b (mid + j) 0 m

  pub get-back : (j : ℕ) → lo + j < mid → get_or (turned lo mid hi b) (lo + (hi - mid + j)) 0 ≡ get_or b (lo + j) 0
  unfolding turned
  get-back j m =
      ap (λ (x : ℕ). get_or (turned lo mid hi b) (x + (hi - mid + j)) 0) (sym size_low)
      ∙ get_or-append-add (take lo b) (slice mid hi b ++ (slice lo mid b ++ drop hi b)) (hi - mid + j) 0
      ∙ ap (λ (x : ℕ). get_or (slice mid hi b ++ (slice lo mid b ++ drop hi b)) (x + j) 0) (sym size-front)
      ∙ get_or-append-add (slice mid hi b) (slice lo mid b ++ drop hi b) j 0
      ∙ get_or-append (slice lo mid b) (drop hi b) 0 j (omega (arith, size_back))
      ∙ get_or-drop lo (take mid b) j 0
      ∙ get_or-take mid b (lo + j) 0 m

  -- what stands behind both is as it was
  pub get-rest : drop hi (turned lo mid hi b) ≡ drop hi b
  unfolding turned
  get-rest =
      let e : turned lo mid hi b ≡ (take lo b ++ (slice mid hi b ++ slice lo mid b)) ++ drop hi b =
      ap (λ (x : List ℕ). take lo b ++ x) (sym (append_assoc (slice mid hi b) (slice lo mid b) (drop hi b)))
      ∙ sym (append_assoc (take lo b) (slice mid hi b ++ slice lo mid b) (drop hi b)) in
      let n : length (take lo b ++ (slice mid hi b ++ slice lo mid b)) ≡ hi =
      omega (arith, length-append (take lo b) (slice mid hi b ++ slice lo mid b), length-append (slice mid hi b) (slice lo mid b), size_low, size_back, size-front) in
      ap (drop hi) e ∙ drop_at (take lo b ++ (slice mid hi b ++ slice lo mid b)) (drop hi b) hi n
