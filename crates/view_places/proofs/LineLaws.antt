-- Lines and columns, one byte on. Assumes nothing.
use Prim.Native.Nat.{ℕ, ◌+◌, ◌-◌, ◌<◌, ◌≤◌}
use mathlib.Core.Path.{◌≡◌, refl, sym, ◌∙◌, ap}
use mathlib.Core.Bool.{Bool, true, false, cond, ◌&&◌, ◌||◌}
use mathlib.Core.List.{List, [], ◌∷◌}
use lib.Dec.{eqb}
use native.Mathlib.Omega.{arith}
use lib.ListN.{length, get_or, take}
use Rattle.std.specs.List.{count_by}
use Rattle.std.proofs.lemmas.List.Recursion.{is_count_by}
use Rattle.std.proofs.lemmas.List.Sums.{count_by-le-length}
use borrow.Author.Tests.{eq-eqb, ne_eqb}
use Rattle.rules.specs.Base.{when◌then◌else◌, is}
use Rattle.rules.specs.Tokens.{line}
use Rattle.base_text.specs.Runs.{from}
use Rattle.base_text.proofs.Rest.{from_start, from_step, from_end, begins-at}
use Rattle.view_places.specs.Lines.{feed, feeds, moved, since_from, since, line_start, line_stop, ends_line}

module _ (b : ℕ) where
  pub feed-ten : b ≡ 10 → 1 ≡ feed b
  unfolding feed when◌then◌else◌
  feed-ten h = rw (eq-eqb b 10 h)

  pub feed-other : (b ≡ 10 → ⊥) → 0 ≡ feed b
  unfolding feed when◌then◌else◌
  feed-other h = rw (ne_eqb b 10 h)

  pub feed-small : feed b ≤ 1
  unfolding feed when◌then◌else◌
  feed-small = go (eqb b 10)
    where
      go : (t : Bool) → (when t then 1 else 0) ≤ 1
      go true = omega arith
      go false = omega arith

  pub feed-one : {f : ℕ} → f ≡ feed b → f ≤ 1
  feed-one e = omega (arith, e, feed-small)

  pub moved-ten : (k : ℕ) → b ≡ 10 → 0 ≡ moved k b
  unfolding moved when◌then◌else◌
  moved-ten k h = rw (eq-eqb b 10 h)

  pub moved_other : (k : ℕ) → (b ≡ 10 → ⊥) → k + 1 ≡ moved k b
  unfolding moved when◌then◌else◌
  moved_other k h = rw (ne_eqb b 10 h)

  pub moved-small : (k : ℕ) → moved k b ≤ k + 1
  unfolding moved when◌then◌else◌
  moved-small k = go (eqb b 10)
    where
      go : (t : Bool) → (when t then 0 else (k + 1)) ≤ k + 1
      go true = omega arith
      go false = omega arith

pub moved-one : (b k : ℕ) {m : ℕ} → m ≡ moved k b → m ≤ k + 1
moved-one b k e = omega (arith, e, moved-small b k)

pub feeds-on : (s : List ℕ) (i : ℕ) → i < length s → feeds (from s i) ≡ feed (get_or s i 0) + feeds (from s (i + 1))
unfolding feeds
feeds-on s i h = rw (from_step s i h)

pub feeds-none : (s : List ℕ) (i : ℕ) → length s ≤ i → feeds (from s i) ≡ 0
unfolding feeds
feeds-none s i h = rw (from_end s i h)

pub since-on : (k : ℕ) (s : List ℕ) (i : ℕ) → i < length s → since_from k (from s i) ≡ since_from (moved k (get_or s i 0)) (from s (i + 1))
unfolding since_from
since-on k s i h = rw (from_step s i h)

pub since_none : (k : ℕ) (s : List ℕ) (i : ℕ) → length s ≤ i → since_from k (from s i) ≡ k
unfolding since_from
since_none k s i h = rw (from_end s i h)

-- as the loops meet them
module _ (s : List ℕ) {i : ℕ} where
  pub feeds-again : (n : ℕ) {f : ℕ} → i < length s → f ≡ feed (get_or s i 0) → n + feeds (from s i) ≡ feeds s → (n + f) + feeds (from s (i + 1)) ≡ feeds s
  feeds-again n h e g = omega (arith, e, g, feeds-on s i h)

  pub feeds-over : {n : ℕ} → length s ≤ i → n + feeds (from s i) ≡ feeds s → n ≡ feeds s
  feeds-over h g = omega (arith, g, feeds-none s i h)

  pub since-again : (k : ℕ) {m : ℕ} → i < length s → m ≡ moved k (get_or s i 0) → since_from k (from s i) ≡ since s → since_from m (from s (i + 1)) ≡ since s
  since-again k h e g = ap (λ (x : ℕ). since_from x (from s (i + 1))) e ∙ sym (since-on k s i h) ∙ g

  pub since-over : {k : ℕ} → length s ≤ i → since_from k (from s i) ≡ since s → k ≡ since s
  since-over h g = sym (since_none _ s i h) ∙ g

pub feeds-start : (s : List ℕ) → 0 + feeds (from s 0) ≡ feeds s
feeds-start s = omega (arith, ap feeds (from_start s))

pub since-start : (s : List ℕ) → since_from 0 (from s 0) ≡ since s
unfolding since
since-start s = ap (since_from 0) (from_start s)

-- a line's end, one byte on: a line that ends here is empty, any other goes on
abbrev cons-unless : Bool → ℕ → List ℕ → List ℕ
cons-unless b c l = elim b [ true ↦ [] | false ↦ c ∷ l ]

module _ (s : List ℕ) (i : ℕ) where
  line_at : {t : Bool} → i < length s → t ≡ ends_line s i → line (from s i) ≡ cons-unless t (get_or s i 0) (line (from s (i + 1)))
  unfolding line ends_line
  line_at h e =
      rw (from_step s i h, e)
      (ap (λ (b : Bool). cons-unless (eqb (get_or s i 0) 10 || (eqb (get_or s i 0) 13 && b)) (get_or s i 0) (line (from s (i + 1)))) (begins-at (is "\n") refl s (i + 1)))

  pub stop-again : {t : Bool} {x : ℕ} → i < length s → t ≡ ends_line s i → t ≡ false → line_stop s i ≡ x → line_stop s (i + 1) ≡ x
  unfolding line_stop
  stop-again h e f g = omega (arith, g, ap length (rw f at (line_at h e)))

  pub stop-here : {t : Bool} {x : ℕ} → i < length s → t ≡ ends_line s i → t ≡ true → line_stop s i ≡ x → i ≡ x
  unfolding line_stop
  stop-here h e f g = omega (arith, g, ap length (rw f at (line_at h e)))

  pub stop-over : {x : ℕ} → length s ≤ i → line_stop s i ≡ x → i ≡ x
  unfolding line_stop line
  stop-over h g = omega (arith, g, ap (λ (l : List ℕ). length (line l)) (from_end s i h))

-- a line's beginning, by the part before a place
pub start_is : (s : List ℕ) (p : ℕ) {m : ℕ} → m ≡ since (take (p - 0) s) → p - m ≡ line_start s p
unfolding line_start
start_is s p e = let z : p - 0 ≡ p = omega arith in rw e (rw z refl)

-- the line feeds are the bytes that are 10
pub feeds_count : (s : List ℕ) → feeds s ≡ count_by (λ b. eqb b 10) s
unfolding feeds feed when◌then◌else◌
feeds_count = is_count_by feeds (λ b. eqb b 10) refl (λ b s. one (eqb b 10) (feeds s))
  where
    one : (t : Bool) (n : ℕ) → (when t then 1 else 0) + n ≡ cond t (1 + n) n
    one true n = omega arith
    one false n = omega arith

-- no more line feeds than bytes
pub feeds-few : (s : List ℕ) → feeds s ≤ length s
feeds-few s = rw (feeds_count s) (count_by-le-length _ s)
