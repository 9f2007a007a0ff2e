-- Bytes of a class, one on and many on, and what a run of them is. Assumes nothing.
use Prim.Native.Nat.{ℕ, zero, suc, ◌+◌, ◌-◌, ◌≤◌, ◌<◌}
use mathlib.Core.Path.{◌≡◌, refl, sym, ◌∙◌, ap}
use mathlib.Core.Bool.{Bool, true, false, not, ◌&&◌, ◌||◌}
use mathlib.Core.List.{List, [], ◌∷◌}
use native.Mathlib.Nat.{not-suc-le-zero, le_of_suc-le-suc}
use native.Mathlib.Omega.{arith}
use lib.Dec.{ltb, eqb}
use lib.ListN.{length, get_or, take, drop, length-drop}
use lib.Seq.{get_or-drop, take-length}
use Rattle.rules.proofs.Bools.{and_left, and_right}
use Rattle.base_text.specs.Runs.{plain, in_class, from, run_end}
use Rattle.base_text.specs.declared.Class.{Class}
use Rattle.base_text.specs.declared.Class.TheVariants.{Ascii, Plain}
use Rattle.base_text.proofs.Rest.{from_step, from_end}
use Rattle.base_text.proofs.RunLaws.{run_in, run_past}
use Rattle.base_runs.specs.Every.{every}

-- A LOOP OVER ALL BYTES: what the first i are, beside the rest

and-true : (a : Bool) → (a && true) ≡ a
and-true true = refl
and-true false = refl

and-and : (a b c : Bool) → ((a && b) && c) ≡ (a && (b && c))
and-and true b c = refl
and-and false b c = refl

-- what is known of the first i bytes
pub record Looked (k : Class) (s : List ℕ) (a : Bool) (i : ℕ) : Type 0 where
  pub same : (a && every k (from s i)) ≡ every k s

module _ (k : Class) (s : List ℕ) where
  pub looked-start : Looked k s true 0
  unfolding from
  looked-start = record { same = refl }

  pub looked-next : {i : ℕ} {a t : Bool} → Looked k s a i → i < length s → t ≡ in_class k (get_or s i 0) → Looked k s (a && t) (i + 1)
  unfolding every
  looked-next {i} {a} {t} l h e = record { same = and-and a t (every k (from s (i + 1))) ∙ rw e (sym (ap (λ (x : List ℕ). a && every k x) (from_step s i h))) ∙ l.same }

  pub looked-end : {i : ℕ} {a : Bool} → Looked k s a i → length s ≤ i → a ≡ every k s
  unfolding every
  looked-end {i} {a} l h = sym (and-true a) ∙ sym (ap (λ (x : List ℕ). a && every k x) (from_end s i h)) ∙ l.same

pub ascii-next : (s : List ℕ) {i : ℕ} {a : Bool} → Looked Ascii s a i → i < length s → Looked Ascii s (a && ltb (get_or s i 0) 128) (i + 1)
unfolding in_class
ascii-next s l h = looked-next Ascii s l h refl

-- four tests at once
inter : (a b c d : Bool) → ((a && b) && (c && d)) ≡ ((a && c) && (b && d))
inter false b c d = refl
inter true true c d = refl
inter true false true d = refl
inter true false false d = refl

four : (q b f r q' b' f' r' : Bool) → ((q && q') && (b && b') && (f && f') && (r && r')) ≡ ((q && b && f && r) && (q' && b' && f' && r'))
four q b f r q' b' f' r' =
    ap (λ (x : Bool). (x && (f && f')) && (r && r')) (inter q q' b b')
    ∙ ap (λ (x : Bool). x && (r && r')) (inter (q && b) (q' && b') f f')
    ∙ inter (q && b && f) (q' && b' && f') r r'

plain-is : (c : ℕ) → (not (eqb c 34) && not (eqb c 92) && not (eqb c 10) && not (eqb c 13)) ≡ plain c
unfolding plain
plain-is c = go (eqb c 34) (eqb c 92) (eqb c 10) (eqb c 13)
  where
    go : (q b f r : Bool) → (not q && not b && not f && not r) ≡ not (q || b || f || r)
    go true b f r = refl
    go false true f r = refl
    go false false true r = refl
    go false false false r = refl

pub plain-next :
    (s : List ℕ) {i : ℕ} (q b f r : Bool) → Looked Plain s (q && b && f && r) i → i < length s
    → Looked Plain s ((q && not (eqb (get_or s i 0) 34)) && (b && not (eqb (get_or s i 0) 92)) && (f && not (eqb (get_or s i 0) 10)) && (r && not (eqb (get_or s i 0) 13))) (i + 1)
unfolding in_class
plain-next s {i} q b f r l h = rw (four q b f r (not (eqb (get_or s i 0) 34)) (not (eqb (get_or s i 0) 92)) (not (eqb (get_or s i 0) 10)) (not (eqb (get_or s i 0) 13))) (looked-next Plain s l h (plain-is (get_or s i 0)))

-- A RUN, many bytes on

every_first : (k : Class) (s : List ℕ) (n j : ℕ) → every k (take n s) ≡ true → j < n → j < length s → in_class k (get_or s j 0) ≡ true
unfolding every
every_first k s zero j e h l = absurd (not-suc-le-zero h)
every_first k [] (suc n) j e h l = absurd (not-suc-le-zero l)
every_first k (b ∷ s) (suc n) zero e h l = and_left (in_class k b) _ e
every_first k (b ∷ s) (suc n) (suc j) e h l = every_first k s n j (and_right (in_class k b) _ e) (le_of_suc-le-suc h) (le_of_suc-le-suc l)

run_on : (k : Class) (s : List ℕ) (i n : ℕ) → i + n ≤ length s → ((j : ℕ) → j < n → in_class k (get_or s (i + j) 0) ≡ true) → run_end k s i ≡ run_end k s (i + n)
run_on k s i zero l h = let e : i + 0 ≡ i = omega arith in rw e
run_on k s i (suc n) l h =
    let e : i + suc n ≡ (i + n) + 1 = omega arith in
    run_on k s i n (omega arith) (λ j q. h j (omega arith)) ∙ run_in k s (i + n) (omega arith) (h n (omega arith)) ∙ ap (run_end k s) (sym e)

-- the runs from a place and from another end at one
pub record Reaching (s : List ℕ) (at i : ℕ) : Type 0 where
  pub same : run_end Plain s i ≡ run_end Plain s at
  pub within : i ≤ length s

module _ (s : List ℕ) (at : ℕ) where
  pub reaching-start : (length s ≤ at → ⊥) → Reaching s at at
  reaching-start h = record { same = refl; within = omega arith }

  pub reaching-past : length s ≤ at → at ≡ run_end Plain s at
  reaching-past h = sym (run_past Plain s at h)

  module _ (i : ℕ) (r : Reaching s at i) where
    pub reaching-step : (p : List ℕ) {t : Bool} → 32 ≤ length s - i → p ≡ take ((i + 32) - i) (drop i s) → t ≡ every Plain p → t ≡ true → Reaching s at (i + 32)
    reaching-step p l e d y =
        let n : (i + 32) - i ≡ 32 = omega arith in
        let w : i + 32 ≤ length s = omega (arith, r.within) in
        let q : every Plain (take 32 (drop i s)) ≡ true = ap (λ (m : ℕ). every Plain (take m (drop i s))) (sym n) ∙ ap (every Plain) (sym e) ∙ sym d ∙ y in
        let long : 32 ≤ length (drop i s) = omega (arith, length-drop i s) in
        record {
          same = sym (run_on Plain s i 32 w (λ j h. ap (in_class Plain) (sym (get_or-drop i s j 0)) ∙ every_first Plain (drop i s) 32 j q h (omega (arith, long)))) ∙ r.same;
          within = w;
        }

    pub reaching-end : {x : ℕ} → x ≡ run_end Plain s i → x ≡ run_end Plain s at
    reaching-end e = e ∙ r.same

-- ALL OF THEM

pub all-run : (s : List ℕ) {t : Bool} → t ≡ every Ascii s → t ≡ true → length s ≡ run_end Ascii s 0
all-run s e y =
    let q : every Ascii (take (length s) s) ≡ true = ap (every Ascii) (take-length s) ∙ sym e ∙ y in
    sym (run_on Ascii s 0 (length s) (omega arith) (λ j h. let z : 0 + j ≡ j = omega arith in rw z (every_first Ascii s (length s) j q h h)) ∙ run_past Ascii s (0 + length s) (omega arith) ∙ omega arith)
