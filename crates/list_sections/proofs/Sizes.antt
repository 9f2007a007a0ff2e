-- How long lines are, and what the loops that add them up keep. Assumes nothing.
use Prim.Native.Nat.{ℕ, ◌+◌, ◌*◌, ◌≤◌, ◌<◌}
use mathlib.Core.Path.{◌≡◌, refl, sym, ◌∙◌, ap}
use mathlib.Core.Bool.{true}
use mathlib.Core.List.{List, ◌++◌, flat_map}
use native.Mathlib.Omega.{arith}
use borrow.Author.Tests.{leb-true}
use lib.Dec.{leb}
use lib.ListN.{length, get_or, length-append}
use Rattle.rules.specs.Base.{bytes}
use Rattle.rules.specs.Objects.{good_name, label_token}
use Rattle.rules.specs.Buffers.{tab, name_row, label_row, reloc_row, LabelsOk}
use Rattle.rules.specs.Listing.{hex4, lf, label_line, reloc_line}
use Rattle.list_lines.proofs.Appending.{rows_more}
use Rattle.list_sections.specs.Fronts.{label_front, reloc_front}
use Rattle.list_sections.specs.Sizes.{Sized, SizedAll}
use Rattle.list_sections.proofs.Texts.{line_defined, line-outer}
use Rattle.list_sections.proofs.Blocks.{line-reloc}
use Rattle.rules.proofs.Bools.{and_right}

front-size : (a : ℕ) → length (label_front a) ≡ 11
unfolding label_front hex4
front-size a = refl

reloc-size : (a : ℕ) → length (reloc_front a) ≡ 9
unfolding reloc_front hex4
reloc-size a = refl

line-size : (u v : List ℕ) → length ((u ++ v) ++ lf) ≡ length u + length v + 1
line-size u v = length-append (u ++ v) lf ∙ ap (λ (n : ℕ). n + 1) (length-append u v)

module _ (ls ns : List ℕ) (k : ℕ) (n : List ℕ) (e : n ≡ name_row ls ns k) (s : length (name_row ls ns k) ≤ 64) where
  pub sized-defined : get_or ls (k * 4 + 1) 0 ≡ 0 → Sized (length n + 12) (label_line (label_row ls ns k))
  sized-defined z =
      let q : length (label_line (label_row ls ns k)) ≡ length (label_front (get_or ls (k * 4) 0)) + length (name_row ls ns k) + 1 = ap length (line_defined ls ns k z) ∙ line-size (label_front (get_or ls (k * 4) 0)) (name_row ls ns k) in
      let p : length n ≡ length (name_row ls ns k) = ap length e in
      record { size = omega (arith, q, p, front-size (get_or ls (k * 4) 0)); small = omega (arith, p) }

  pub sized-outer : (get_or ls (k * 4 + 1) 0 ≡ 0 → ⊥) → Sized (length n + 8) (label_line (label_row ls ns k))
  sized-outer z =
      let q : length (label_line (label_row ls ns k)) ≡ 7 + length (name_row ls ns k) + 1 = ap length (line-outer ls ns k z) ∙ line-size (bytes "EXTERN ") (name_row ls ns k) in
      let p : length n ≡ length (name_row ls ns k) = ap length e in
      record { size = omega (arith, q, p); small = omega (arith, p) }

pub sized-reloc : (rs ls ns : List ℕ) (k j : ℕ) (n : List ℕ) → j ≡ get_or rs (k * 2 + 1) 0 → n ≡ name_row ls ns j → length (name_row ls ns (get_or rs (k * 2 + 1) 0)) ≤ 64 → Sized (length n + 10) (reloc_line (reloc_row rs ls ns k))
sized-reloc rs ls ns k j n i e s =
    let p : length n ≡ length (name_row ls ns (get_or rs (k * 2 + 1) 0)) = ap length (e ∙ ap (name_row ls ns) i) in
    let q : length (reloc_line (reloc_row rs ls ns k)) ≡ length (reloc_front (get_or rs (k * 2) 0)) + length (name_row ls ns (get_or rs (k * 2 + 1) 0)) + 1 =
    ap length (line-reloc rs ls ns k) ∙ line-size (reloc_front (get_or rs (k * 2) 0)) (name_row ls ns (get_or rs (k * 2 + 1) 0)) in
    record { size = omega (arith, q, p, reloc-size (get_or rs (k * 2) 0)); small = omega (arith, p) }

pub good-short : (n : List ℕ) → good_name n ≡ true → length n ≤ 64
unfolding good_name
good-short n e = leb-true (length n) 64 (and_right (label_token n) (leb (length n) 64) e)

pub label-short : (n : ℕ) (ls ns : List ℕ) → LabelsOk n ls ns → (k : ℕ) → k < n → length (name_row ls ns k) ≤ 64
label-short n ls ns v k l = good-short (name_row ls ns k) (v.rows k l).name

-- LINES ADDED UP
pub record Added {A : Type 0} (f : A → List ℕ) (g : ℕ → A) (n k size : ℕ) : Type 0 where
  pub sum : size ≡ length (flat_map f (tab k g))
  pub small : size ≤ k * 76
  pub within : k ≤ n

module _ {A : Type 0} (f : A → List ℕ) (g : ℕ → A) (n : ℕ) where
  pub added_none : Added f g n 0 0
  unfolding flat_map
  added_none = record { sum = refl; small = omega arith; within = omega arith }

  pub added_more : (k size m : ℕ) → Added f g n k size → k < n → Sized m (f (g k)) → Added f g n (k + 1) (size + m)
  added_more k size m a l s = record {
    sum = rw (rows_more f g k) (sym (length-append (flat_map f (tab k g)) (f (g k)) ∙ (let p = a.sum in let q = s.size in omega arith)));
    small = omega (arith, a.small, s.small);
    within = omega arith;
  }

  pub added-all : (count k size : ℕ) → Added f g n k size → n ≤ k → n ≤ count → SizedAll count size (flat_map f (tab n g))
  added-all count k size a h c = let e : k ≡ n = omega (arith, a.within) in record { size = rw e at a.sum; small = omega (arith, a.small) }
