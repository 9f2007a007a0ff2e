-- The directives by name. Assumes nothing.
use Prim.Native.Nat.{ℕ}
use mathlib.Core.Path.{◌≡◌, refl, sym, ◌∙◌, ap}
use mathlib.Core.Bool.{Bool, true, false, ◌&&◌}
use mathlib.Core.List.{List, [], ◌∷◌, map}
use native.Mathlib.Omega.{arith}
use lib.Dec.{eqb}
use lib.ListN.{length, get_or, length-map}
use Rattle.rules.specs.Base.{when◌then◌else◌, bytes, same}
use Rattle.rules.specs.Tokens.{upper}
use Rattle.rules.specs.Words.{directives}
use Rattle.rules.proofs.Named.{same_true}
use Rattle.base_text.proofs.Rest.{from_start, from_step, from_end}
use Rattle.parse_rows.specs.Rows.{code_from}

-- a list of four
four-list : (s : List ℕ) → length s ≡ 4 → s ≡ get_or s 0 0 ∷ get_or s 1 0 ∷ get_or s 2 0 ∷ get_or s 3 0 ∷ []
four-list s h = sym (from_start s) ∙ rw (from_step s 0 (omega arith), from_step s 1 (omega arith), from_step s 2 (omega arith), from_step s 3 (omega arith), from_end s 4 (omega arith))

-- what is the name of a directive has its code
code-found : (w k : List ℕ) {t : Bool} {n : ℕ} → n ≡ code_from 32 k directives → t ≡ same w k → t ≡ true → n ≡ code_from 32 w directives
code-found w k e p q = e ∙ ap (λ (x : List ℕ). code_from 32 x directives) (sym (same_true w k (sym p ∙ q)))

-- the six, as the code meets them
module _ (w : List ℕ) {t : Bool} where
  pub code-orig : t ≡ same w (bytes "ORIG") → t ≡ true → 32 ≡ code_from 32 w directives
  unfolding directives code_from when◌then◌else◌
  code-orig = code-found w (bytes "ORIG") refl

  pub code-fill : t ≡ same w (bytes "FILL") → t ≡ true → 33 ≡ code_from 32 w directives
  unfolding directives code_from when◌then◌else◌
  code-fill = code-found w (bytes "FILL") refl

  pub code-blkw : t ≡ same w (bytes "BLKW") → t ≡ true → 34 ≡ code_from 32 w directives
  unfolding directives code_from when◌then◌else◌
  code-blkw = code-found w (bytes "BLKW") refl

  pub code-stringz : t ≡ same w (map upper (bytes "STRINGZ")) → t ≡ true → 35 ≡ code_from 32 w directives
  unfolding directives code_from when◌then◌else◌ upper
  code-stringz = code-found w (bytes "STRINGZ") refl

  pub code-end : t ≡ same w (map upper (bytes "END")) → t ≡ true → 36 ≡ code_from 32 w directives
  unfolding directives code_from when◌then◌else◌ upper
  code-end = code-found w (bytes "END") refl

  pub code-external : t ≡ same w (map upper (bytes "EXTERNAL")) → t ≡ true → 37 ≡ code_from 32 w directives
  unfolding directives code_from when◌then◌else◌ upper
  code-external = code-found w (bytes "EXTERNAL") refl

-- a name of another length than a directive's
other-size : (s k : List ℕ) → (length s ≡ length k → ⊥) → same (map upper s) k ≡ false
other-size s k h = go (same (map upper s) k) refl
  where
    go : (b : Bool) → same (map upper s) k ≡ b → b ≡ false
    go true e = absurd (h (sym (length-map s upper) ∙ ap length (same_true (map upper s) k e)))
    go false e = refl

-- four letters, one by one
laid : (a b c d e f g h : ℕ) → ((((eqb a e && eqb b f) && eqb c g) && eqb d h) ≡ same (a ∷ b ∷ c ∷ d ∷ []) (e ∷ f ∷ g ∷ h ∷ []))
laid a b c d e f g h = go (eqb a e) (eqb b f) (eqb c g) (eqb d h)
  where
    go : (x y z t : Bool) → (((x && y) && z) && t) ≡ (x && (y && (z && (t && true))))
    go false y z t = refl
    go true false z t = refl
    go true true false t = refl
    go true true true false = refl
    go true true true true = refl

pub four_same : (s k : List ℕ) {a b c d : ℕ} → length s ≡ 4 → length k ≡ 4 → a ≡ upper (get_or s 0 0) → b ≡ upper (get_or s 1 0) → c ≡ upper (get_or s 2 0) → d ≡ upper (get_or s 3 0) → (((eqb a (get_or k 0 0) && eqb b (get_or k 1 0)) && eqb c (get_or k 2 0)) && eqb d (get_or k 3 0)) ≡ same (map upper s) k
four_same s k {a} {b} {c} {d} h l p q u v =
    let x : map upper s ≡ a ∷ b ∷ c ∷ d ∷ [] = ap (map upper) (four-list s h) ∙ rw (p, q, u, v) in
    let y : k ≡ get_or k 0 0 ∷ get_or k 1 0 ∷ get_or k 2 0 ∷ get_or k 3 0 ∷ [] = four-list k l in
    laid a b c d (get_or k 0 0) (get_or k 1 0) (get_or k 2 0) (get_or k 3 0)
    ∙ sym (ap (λ (m : List ℕ). same m k) x ∙ ap (same (a ∷ b ∷ c ∷ d ∷ [])) y)

-- no directive
pub four-none : (s : List ℕ) {f b o : Bool} → length s ≡ 4 → f ≡ same (map upper s) (bytes "FILL") → f ≡ false → b ≡ same (map upper s) (bytes "BLKW") → b ≡ false → o ≡ same (map upper s) (bytes "ORIG") → o ≡ false → 38 ≡ code_from 32 (map upper s) directives
unfolding directives code_from when◌then◌else◌
four-none s h p f q b r o =
    let z : same (map upper s) (bytes "STRINGZ") ≡ false = other-size s _ (λ e. omega arith) in
    let e : same (map upper s) (bytes "END") ≡ false = other-size s _ (λ e. omega arith) in
    let x : same (map upper s) (bytes "EXTERNAL") ≡ false = other-size s _ (λ e. omega arith) in
    rw (sym r ∙ o, sym p ∙ f, sym q ∙ b, z, e, x, code_from)

pub code-none : (s : List ℕ) {z e x : Bool} → (length s ≡ 4 → ⊥) → z ≡ same (map upper s) (map upper (bytes "STRINGZ")) → z ≡ false → e ≡ same (map upper s) (map upper (bytes "END")) → e ≡ false → x ≡ same (map upper s) (map upper (bytes "EXTERNAL")) → x ≡ false → 38 ≡ code_from 32 (map upper s) directives
unfolding directives code_from when◌then◌else◌ upper
code-none s h p z q e r x =
    let o : same (map upper s) (bytes "ORIG") ≡ false = other-size s _ h in
    let f : same (map upper s) (bytes "FILL") ≡ false = other-size s _ h in
    let b : same (map upper s) (bytes "BLKW") ≡ false = other-size s _ h in
    rw (o, f, b, sym p ∙ z, sym q ∙ e, sym r ∙ x, code_from)
