-- What stands in a table after a row is put in. Assumes nothing.
use mathlib.Core.Path.{◌≡◌, sym, ◌∙◌, ap}
use mathlib.Core.List.{List, ◌++◌}
use Prim.Native.Nat.{ℕ, ◌+◌, ◌-◌, ◌≤◌, ◌<◌}
use native.Mathlib.Omega.{arith}
use lib.ListN.{length, take, drop, get_or, length-append, length-take, length-drop, get_or-append}
use lib.Seq.{get_or-append-add, get_or-take, get_or-drop, length-take-le}
use Rattle.base_rows.specs.Opened.{inserted}

module _ (t : List ℕ) (n k : ℕ) (vs : List ℕ) (h : k ≤ n) (r : n + length vs ≤ length t) where
  head : length (take k t) ≡ k
  head = length-take-le k t (omega arith)

  front : length (take k t ++ vs) ≡ k + length vs
  front = length-append (take k t) vs ∙ ap (λ (x : ℕ). x + length vs) head

  pub get-before : (i : ℕ) → i < k → get_or (inserted t n k vs) i 0 ≡ get_or t i 0
  get-before i l =
      get_or-append (take k t ++ vs) (take (n - k) (drop k t) ++ drop (n + length vs) t) 0 i (omega (arith, front))
      ∙ (get_or-append (take k t) vs 0 i (omega (arith, head)) ∙ get_or-take k t i 0 l)

  pub get-new : (j : ℕ) → j < length vs → get_or (inserted t n k vs) (k + j) 0 ≡ get_or vs j 0
  get-new j l =
      get_or-append (take k t ++ vs) (take (n - k) (drop k t) ++ drop (n + length vs) t) 0 (k + j) (omega (arith, front))
      ∙ (ap (λ (x : ℕ). get_or (take k t ++ vs) (x + j) 0) (sym head) ∙ get_or-append-add (take k t) vs j 0)

  pub get_after : (j : ℕ) → k + j < n → get_or (inserted t n k vs) (k + length vs + j) 0 ≡ get_or t (k + j) 0
  get_after j l =
      ap (λ (x : ℕ). get_or (inserted t n k vs) (x + j) 0) (sym front)
      ∙ (get_or-append-add (take k t ++ vs) (take (n - k) (drop k t) ++ drop (n + length vs) t) j 0
      ∙ (get_or-append (take (n - k) (drop k t)) (drop (n + length vs) t) 0 j (omega (arith, length-take (n - k) (drop k t), length-drop k t))
      ∙ (get_or-take (n - k) (drop k t) j 0 (omega arith) ∙ get_or-drop k t j 0)))

  -- what is not in use stays
  pub get-past : (j : ℕ) → get_or (inserted t n k vs) (n + length vs + j) 0 ≡ get_or t (n + length vs + j) 0
  get-past j =
      let moved : length (take (n - k) (drop k t)) ≡ n - k = length-take-le (n - k) (drop k t) (omega (arith, length-drop k t)) in
      let e : n + length vs + j ≡ length (take k t ++ vs) + (length (take (n - k) (drop k t)) + j) = omega (arith, front) in
      ap (λ (x : ℕ). get_or (inserted t n k vs) x 0) e
      ∙ (get_or-append-add (take k t ++ vs) (take (n - k) (drop k t) ++ drop (n + length vs) t) (length (take (n - k) (drop k t)) + j) 0
      ∙ (get_or-append-add (take (n - k) (drop k t)) (drop (n + length vs) t) j 0 ∙ get_or-drop (n + length vs) t j 0))
