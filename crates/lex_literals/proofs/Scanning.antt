-- The scan of a string, by runs of plain bytes and what stands between them. Assumes nothing.
use Prim.Native.Nat.{ℕ, suc, ◌+◌, ◌-◌, ◌<◌, ◌≤◌}
use mathlib.Core.Path.{◌≡◌, refl, sym, ◌∙◌, ap}
use mathlib.Core.Bool.{Bool, true, false, ◌&&◌, ◌||◌, not}
use mathlib.Core.List.{List, [], ◌∷◌}
use native.Mathlib.Omega.{arith}
use lib.Dec.{eqb}
use lib.ListN.{length, drop, length-drop}
use lib.Seq.{drop-drop}
use Rattle.rules.specs.Base.{when◌then◌else◌}
use Rattle.rules.specs.Tokens.{while, begins, escape}
use Rattle.rules.proofs.Bools.{never}
use Rattle.base_text.specs.Runs.{plain, in_class, from, run_end}
use Rattle.base_text.specs.declared.Class.TheVariants.{Plain}
use Rattle.base_text.proofs.Rest.{from_step}
use Rattle.base_text.proofs.RunLaws.{end_ge}
use Rattle.lex_literals.specs.Strings.{line_stops, closes, opens, adds, behind, special, scan}
use Rattle.lex_literals.specs.declared.Scanned.{Scanned}
use Rattle.lex_literals.specs.declared.Scanned.TheVariants.{Closed, Open}
use Rattle.lex_literals.specs.declared.Special.{Special}
use Rattle.lex_literals.specs.declared.Special.TheVariants.{Ends, Quote, Adds}
use Rattle.lex_literals.proofs.StringRule.{from-rest}
use Rattle.lex_literals.proofs.StringSteps.{size-le}

-- A RUN OF PLAIN BYTES

-- one plain byte ends no line and no string, opens no escape and is one character
plain-on : (n i c : ℕ) (l : List ℕ) → plain c ≡ true → scan false n i (c ∷ l) ≡ scan false (n + 1) (i + 1) l
unfolding plain scan line_stops closes opens adds when◌then◌else◌
plain-on n i c l = go (eqb c 34) (eqb c 92) (eqb c 10) (eqb c 13)
  where
    go :
        (q b f r : Bool) → not (q || b || f || r) ≡ true
        → (when f || (r && begins (λ d. eqb d 10) l) then Open i else when q then Closed n (i + 1) else scan b (n + (when b then 0 else 1)) (i + 1) l) ≡ scan false (n + 1) (i + 1) l
    go true b f r e = never cc
    go false true f r e = never cc
    go false false true r e = never cc
    go false false false true e = never cc
    go false false false false e = refl

run_on : (n i : ℕ) (l : List ℕ) → scan false n i l ≡ scan false (n + length (while (in_class Plain) l)) (i + length (while (in_class Plain) l)) (drop (length (while (in_class Plain) l)) l)
unfolding while in_class
run_on n i [] = let e : n + 0 ≡ n = omega arith in let f : i + 0 ≡ i = omega arith in rw (e, f)
run_on n i (c ∷ l) = go (plain c) refl (run_on (n + 1) (i + 1) l)
  where
    go :
        (b : Bool) → plain c ≡ b
        → scan false (n + 1) (i + 1) l ≡ scan false (n + 1 + length (while (in_class Plain) l)) (i + 1 + length (while (in_class Plain) l)) (drop (length (while (in_class Plain) l)) l)
        → scan false n i (c ∷ l)
        ≡ scan false (n + length {A = ℕ} (elim b [ true ↦ c ∷ while (in_class Plain) l | false ↦ [] ])) (i + length {A = ℕ} (elim b [ true ↦ c ∷ while (in_class Plain) l | false ↦ [] ])) (drop (length {A = ℕ} (elim b [ true ↦ c ∷ while (in_class Plain) l | false ↦ [] ])) (c ∷ l))
    go true p again =
        let k = length (while (in_class Plain) l) in
        let e : n + 1 + k ≡ n + suc k = omega arith in
        let f : i + 1 + k ≡ i + suc k = omega arith in
        plain-on n i c l p ∙ again ∙ rw (e, f)
    go false p again = let e : n + 0 ≡ n = omega arith in let f : i + 0 ≡ i = omega arith in rw (e, f)

-- WHAT STANDS AT ITS END

-- what it makes of a scan with n characters up to place i
abbrev Meets : List ℕ → (n i : ℕ) → Special → Type 0
Meets s n i (Ends k) = scan false n i (from s i) ≡ Open k
Meets s n i Quote = (scan false n i (from s i) ≡ Closed n (i + 1)) × (i < length s)
Meets s n i (Adds a k) = (scan false n i (from s i) ≡ scan false (n + a) k (from s k)) × (i + a ≤ k) × (i < k) × (i < length s)

module _ (s : List ℕ) (n i : ℕ) where
  meets-behind : (l : List ℕ) → from s (i + 1) ≡ l → scan false n i (from s i) ≡ scan true (n + 0) (i + 1) l → i < length s → Meets s n i (behind (i + 1) l)
  unfolding behind scan closes opens adds when◌then◌else◌
  meets-behind [] e g h = g
  meets-behind (d ∷ l) e g h = go (line_stops d l) g
    where
      go : (t : Bool) → scan false n i (from s i) ≡ (when t then Open (i + 1) else scan (opens true d) (n + 0 + adds true d) (i + 1 + 1) l) → Meets s n i (when t then Ends (i + 1) else Adds (length (escape d)) (i + 1 + 1))
      go true g = g
      go false g =
          let z : n + 0 ≡ n = omega arith in
          let r : from s (i + 1 + 1) ≡ l = from-rest s (i + 1) d l e in
          (g ∙ rw (z, r), omega (arith, size-le d), omega arith, h)

  meets-special : Meets s n i (special i (from s i))
  unfolding special scan line_stops closes opens adds from when◌then◌else◌
  meets-special = by-list (from s i) refl
    where
      by-list : (l : List ℕ) → from s i ≡ l → Meets s n i (special i l)
      by-list [] e = ap (scan false n i) e
      by-list (c ∷ l) e = by-line (line_stops c l) refl (ap (scan false n i) e)
        where
          inside : i < length s
          inside = let h : length s - i ≡ suc (length l) = sym (length-drop i s) ∙ ap length e in omega (arith, h)

          rest : from s (i + 1) ≡ l
          rest = from-rest s i c l e

          by_byte : (q b : Bool) → scan false n i (from s i) ≡ (when q then Closed n (i + 1) else scan b (n + (when b then 0 else 1)) (i + 1) l) → Meets s n i (when q then Quote else when b then behind (i + 1) l else Adds 1 (i + 1))
          by_byte true b g = (g, inside)
          by_byte false true g = meets-behind l rest g inside
          by_byte false false g = (g ∙ rw rest, omega arith, omega arith, inside)

          by-line : (t : Bool) → line_stops c l ≡ t → scan false n i (from s i) ≡ (when t then Open i else when eqb c 34 then Closed n (i + 1) else scan (eqb c 92) (n + (when eqb c 92 then 0 else 1)) (i + 1) l) → Meets s n i (when t then Ends i else when eqb c 34 then Quote else when eqb c 92 then behind (i + 1) l else Adds 1 (i + 1))
          by-line true u g = g
          by-line false u g = by_byte (eqb c 34) (eqb c 92) g

-- A LOOP

-- n characters up to place i
pub record Scanning (s : List ℕ) (at n i : ℕ) : Type 0 where
  pub same : scan false n i (from s i) ≡ scan false 0 at (from s at)
  pub few : n ≤ i

module _ (s : List ℕ) (at : ℕ) where
  pub scanning-start : Scanning s at 0 at
  scanning-start = record { same = refl; few = omega arith }

  -- behind a run of plain bytes
  module _ {n i j : ℕ} (q : Scanning s at n i) (e : j ≡ run_end Plain s i) where
    pub run-after : i ≤ j
    run-after = rw e (end_ge Plain s i)

    pub run_fits : n + (j - i) ≤ j
    run_fits = omega (arith, q.few, run-after)

    behind-run : Scanning s at (n + (j - i)) j
    unfolding run_end from
    behind-run =
        let k = length (while (in_class Plain) (from s i)) in
        let f : j ≡ i + k = e in
        let g : j - i ≡ k = omega (arith, f) in
        let d : from s (i + k) ≡ drop k (from s i) = sym (drop-drop k i s) in
        record { same = rw (g, f, d) (sym (run_on n i (from s i))) ∙ q.same; few = run_fits }

    -- and what stands there
    module _ {r : Special} (f : r ≡ special j (from s j)) where
      met : Meets s (n + (j - i)) j r
      met = rw f (meets-special s (n + (j - i)) j)

      pub scanning-ends : {k : ℕ} → r ≡ Ends k → Open k ≡ scan false 0 at (from s at)
      scanning-ends g = sym (rw g at met) ∙ behind-run.same

      pub scanning-quote : r ≡ Quote → Closed (n + (j - i)) (j + 1) ≡ scan false 0 at (from s at)
      scanning-quote g = sym (rw g at met).0 ∙ behind-run.same

      pub quote-inside : r ≡ Quote → j < length s
      quote-inside g = (rw g at met).1

      module _ {a k : ℕ} (g : r ≡ Adds a k) where
        on : Meets s (n + (j - i)) j (Adds a k)
        on = rw g at met

        pub adds_fit : n + (j - i) + a ≤ k
        adds_fit = omega (arith, run_fits, on.1)

        pub scanning-on : Scanning s at (n + (j - i) + a) k
        scanning-on = record { same = sym on.0 ∙ behind-run.same; few = adds_fit }

        pub scanning-less : length s - k < length s - i
        scanning-less = omega (arith, run-after, on.2, on.3)
