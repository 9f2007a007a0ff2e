-- What `best` does row by row, and that only the rows which can begin with the first byte take part. Assumes nothing.
use Prim.Native.Nat.{ℕ, ◌≤◌, ◌<◌}
use mathlib.Core.Path.{◌≡◌, refl, ap, sym, ◌∙◌}
use mathlib.Core.Bool.{Bool, true, false, not}
use mathlib.Core.List.{List, [], ◌∷◌}
use mathlib.Core.Option.{Option, none, some}
use native.Mathlib.Omega.{arith}
use borrow.Author.Tests.{lt-ltb, le-ltb}
use lib.Dec.{ltb}
use lib.ListN.{take, drop}
use Rattle.rules.specs.Base.{when◌then◌else◌}
use Rattle.rules.specs.Regex.{Regex, null, after, dead, longest}
use Rattle.rules.specs.Patterns.{Row, best}
use Rattle.rules.specs.Tokens.{Match}
use Rattle.rules.proofs.Shapes.{dead-step}

-- one row's part in `best`
unfoldable pub pick : Option ℕ → Row → (ℕ → Match → Match) → ℕ → Match → List ℕ → Match
pick none r f n m s = f n m
pick (some k) r f n m s = elim (ltb n k) [ true ↦ f k (r.make (take k s) (drop k s)) | false ↦ f n m ]

pub best-cons : (r : Row) (rs : List Row) (n : ℕ) (m : Match) (s : List ℕ) → best (r ∷ rs) n m s ≡ pick (longest r.pattern s) r (λ k x. best rs k x s) n m s
unfolding best pick
best-cons r rs n m s = go (longest r.pattern s)
  where
    go : (o : Option ℕ) → elim o as (λ x. Match) [ none ↦ best rs n m s | some k ↦ elim (ltb n k) [ true ↦ best rs k (r.make (take k s) (drop k s)) s | false ↦ best rs n m s ] ] ≡ pick o r (λ k x. best rs k x s) n m s
    go none = refl
    go (some k) = refl

module _ (r : Row) (rs : List Row) (n : ℕ) (m : Match) (s : List ℕ) where
  best-at : {o : Option ℕ} → longest r.pattern s ≡ o → best (r ∷ rs) n m s ≡ pick o r (λ k x. best rs k x s) n m s
  best-at e = best-cons r rs n m s ∙ ap (λ (o : Option ℕ). pick o r (λ k x. best rs k x s) n m s) e

  -- a row that does not match
  pub row-none : longest r.pattern s ≡ none → best (r ∷ rs) n m s ≡ best rs n m s
  unfolding pick
  row-none e = best-at e

  -- a row that matches more than the best so far
  pub row_more : {k : ℕ} → longest r.pattern s ≡ some k → n < k → best (r ∷ rs) n m s ≡ best rs k (r.make (take k s) (drop k s)) s
  unfolding pick
  row_more {k} e h = best-at e ∙ rw (lt-ltb n k h, pick)

  -- a row that matches no more than the best so far
  pub row-less : {k : ℕ} → longest r.pattern s ≡ some k → k ≤ n → best (r ∷ rs) n m s ≡ best rs n m s
  unfolding pick
  row-less {k} e h = best-at e ∙ rw (le-ltb n k h, pick)

  -- a row whose match is empty at most
  row-empty : (b : Bool) → longest r.pattern s ≡ (when b then some 0 else none) → best (r ∷ rs) n m s ≡ best rs n m s
  unfolding when◌then◌else◌
  row-empty true e = row-less e (omega arith)
  row-empty false e = row-none e

longest-dead : (r : Regex) (c : ℕ) (s : List ℕ) → dead (after c r) ≡ true → longest r (c ∷ s) ≡ (when null r then some 0 else none)
unfolding longest
longest-dead r c s e = dead-step r none 0 c s e

pick_same : (o : Option ℕ) (r : Row) (f g : ℕ → Match → Match) → ((n : ℕ) (m : Match) → f n m ≡ g n m) → (n : ℕ) (m : Match) (s : List ℕ) → pick o r f n m s ≡ pick o r g n m s
unfolding pick
pick_same none r f g h n m s = h n m
pick_same (some k) r f g h n m s = go (ltb n k)
  where
    go : (b : Bool) → ◌≡◌ {A = Match} (elim b [ true ↦ f k (r.make (take k s) (drop k s)) | false ↦ f n m ]) (elim b [ true ↦ g k (r.make (take k s) (drop k s)) | false ↦ g n m ])
    go true = h k (r.make (take k s) (drop k s))
    go false = h n m

-- which rows can begin with c, and those rows
unfoldable pub alive : ℕ → List Row → List Bool
alive c [] = []
alive c (r ∷ rs) = not (dead (after c r.pattern)) ∷ alive c rs

unfoldable pub masked : List Bool → List Row → List Row
masked bs [] = []
masked [] (r ∷ rs) = []
masked (true ∷ bs) (r ∷ rs) = r ∷ masked bs rs
masked (false ∷ bs) (r ∷ rs) = masked bs rs

pub only-alive : (c : ℕ) (s : List ℕ) (rs : List Row) (n : ℕ) (m : Match) → best rs n m (c ∷ s) ≡ best (masked (alive c rs) rs) n m (c ∷ s)
unfolding alive masked
only-alive c s [] n m = refl
only-alive c s (r ∷ rs) n m = go (dead (after c r.pattern)) refl (only-alive c s rs)
  where
    go : (b : Bool) → dead (after c r.pattern) ≡ b → ((k : ℕ) (x : Match) → best rs k x (c ∷ s) ≡ best (masked (alive c rs) rs) k x (c ∷ s)) → best (r ∷ rs) n m (c ∷ s) ≡ best (masked (not b ∷ alive c rs) (r ∷ rs)) n m (c ∷ s)
    go true e h = row-empty r rs n m (c ∷ s) (null r.pattern) (longest-dead r.pattern c s e) ∙ h n m
    go false e h =
        best-cons r rs n m (c ∷ s)
        ∙ pick_same (longest r.pattern (c ∷ s)) r (λ k x. best rs k x (c ∷ s)) (λ k x. best (masked (alive c rs) rs) k x (c ∷ s)) h n m (c ∷ s)
        ∙ sym (best-cons r (masked (alive c rs) rs) n m (c ∷ s))

-- no row is left
pub rows_end : (n : ℕ) (m : Match) (s : List ℕ) → best [] n m s ≡ m
unfolding best
rows_end n m s = refl
