-- A token by its first byte, and the spaces before it. Assumes nothing.
use Prim.Native.Nat.{ℕ, ◌+◌, ◌-◌, ◌<◌, ◌≤◌}
use mathlib.Core.Path.{◌≡◌, refl, sym, ◌∙◌, ap}
use mathlib.Core.Bool.{Bool, true, false, ◌&&◌, ◌||◌}
use mathlib.Core.List.{List, ◌∷◌}
use native.Mathlib.Omega.{arith}
use native.Mathlib.Nat.{add-zero}
use borrow.Author.Tests.{ne_eqb, le-leb, lt-leb, leb-true, eqb-true, ltb-true, ltb-false}
use lib.Dec.{eqb, leb, ltb}
use lib.ListN.{length, get_or, drop, length-drop}
use Rattle.rules.specs.Base.{when◌then◌else◌, within}
use Rattle.rules.specs.Tokens.{match, blank, digit, letter, space, upper, while, dec, number_after, word_at, directive_after, after_hash, after_minus, after_x, after_r, after_quote, token_at, next_token}
use Rattle.rules.proofs.Sizes.{small, while-short}
use Rattle.rules.proofs.Next.{here, next-end, next_here, here-blank}
use Rattle.rules.proofs.Bools.{never}
use Rattle.base_text.specs.Runs.{in_class, from, run_end}
use Rattle.base_text.specs.declared.Class.TheVariants as class
use Rattle.base_text.proofs.Rest.{from_step}
use Rattle.base_text.proofs.RunLaws.{run_in, run_out, run_past, run-stops}
use Rattle.lex_token.specs.Coded.{marked, coded_as, coded, told}
use Rattle.lex_token.specs.declared.Token.TheVariants.{Directive, Colon, Comma, NewLine}
use Rattle.lex_token.specs.declared.Next.{Next}
use Rattle.lex_token.specs.declared.Next.TheVariants.{Took, End, Refused}
use Rattle.lex_token.proofs.NumberTold.{word_end}
use Rattle.lex.specs.Ways.{after_return, after_semicolon, after_other}

X-letter : letter 88 ≡ true
unfolding letter
X-letter = refl

R-letter : letter 82 ≡ true
unfolding letter
R-letter = refl

-- a letter is no digit, hash or minus
letter-low : (c : ℕ) → letter c ≡ true → 65 ≤ c
unfolding letter
letter-low c e = go (leb 65 c) refl (leb 97 c) refl (eqb c 95) refl e
  where
    go : (a : Bool) → leb 65 c ≡ a → (b : Bool) → leb 97 c ≡ b → (u : Bool) → eqb c 95 ≡ u → (a && leb c 90 || b && leb c 122 || u) ≡ true → 65 ≤ c
    go true a b p u q e = leb-true 65 c a
    go false a true p u q e = let l : 97 ≤ c = leb-true 97 c p in omega arith
    go false a false p true q e = let l : c ≡ 95 = eqb-true c 95 q in omega arith
    go false a false p false q e = never cc

module _ (c : ℕ) (s : List ℕ) where
  module _ (l : letter c ≡ true) where
    no_digit : digit c ≡ false
    unfolding digit
    no_digit =
        let h : 65 ≤ c = letter-low c l in
        let k : 48 ≤ c = omega arith in
        let m : 57 < c = omega arith in
        rw (le-leb 48 c k, lt-leb c 57 m)

    no_byte : (k : ℕ) → k < 65 → eqb c k ≡ false
    no_byte k h = ne_eqb c k (λ e. omega (arith, letter-low c l))

    pub letter-x : upper c ≡ 88 → token_at c s ≡ after_x c s
    unfolding token_at when◌then◌else◌
    letter-x e = rw (no_digit, no_byte 35 (omega arith), no_byte 45 (omega arith), e)

    pub letter-r : upper c ≡ 82 → token_at c s ≡ after_r c s
    unfolding token_at when◌then◌else◌
    letter-r e = rw (no_digit, no_byte 35 (omega arith), no_byte 45 (omega arith), e)

    pub letter-word : (upper c ≡ 82 → ⊥) → (upper c ≡ 88 → ⊥) → token_at c s ≡ word_at (c ∷ s)
    unfolding token_at when◌then◌else◌
    letter-word n m = rw (no_digit, no_byte 35 (omega arith), no_byte 45 (omega arith), ne_eqb (upper c) 88 m, ne_eqb (upper c) 82 n, l)

  -- what is no letter is none in upper case
  no-upper : (k : ℕ) → letter k ≡ true → letter c ≡ false → eqb (upper c) k ≡ false
  unfolding upper when◌then◌else◌
  no-upper k y n = ne_eqb (upper c) k (go (within "a" "z" c) refl)
    where
      go : (b : Bool) → within "a" "z" c ≡ b → (when b then c - 32 else c) ≡ k → ⊥
      go true e h = never (cc (small c e))
      go false e h = never (cc (ap letter h))

  pub digit-first : digit c ≡ true → token_at c s ≡ number_after 0 dec (c ∷ s)
  unfolding token_at when◌then◌else◌
  digit-first e = rw e

  pub hash-first : c ≡ 35 → token_at c s ≡ after_hash s
  unfolding token_at digit when◌then◌else◌
  hash-first e = rw e

  pub minus-first : c ≡ 45 → token_at c s ≡ after_minus s
  unfolding token_at digit when◌then◌else◌
  minus-first e = rw e

  pub other-first : letter c ≡ false → digit c ≡ false → (c ≡ 35 → ⊥) → (c ≡ 45 → ⊥) → token_at c s ≡ after_other c s
  unfolding token_at after_other when◌then◌else◌
  other-first l d n m = rw (d, ne_eqb c 35 n, ne_eqb c 45 m, no-upper 88 X-letter l, no-upper 82 R-letter l, l)

-- the rule's last tests, by places
module _ (s : List ℕ) (start : ℕ) where
  abbrev first : ℕ
  first = get_or s start 0

  abbrev rest : List ℕ
  rest = from s (start + 1)

  abbrev other : Next
  other = told s start (after_other first rest)

  pub is-comma : first ≡ 44 → Took Comma start (start + 1) ≡ other
  unfolding told here coded coded_as marked after_other when◌then◌else◌
  is-comma e = rw e

  pub is-line : first ≡ 10 → Took NewLine start (start + 1) ≡ other
  unfolding told here coded coded_as marked after_other when◌then◌else◌
  is-line e = rw e

  pub is-colon : first ≡ 58 → Took Colon start (start + 1) ≡ other
  unfolding told here coded coded_as marked after_other when◌then◌else◌
  is-colon e = rw e

  pub is-comment : first ≡ 59 → told s start (after_semicolon rest) ≡ other
  unfolding after_other after_semicolon when◌then◌else◌
  is-comment e = rw e

  pub is-quote : first ≡ 34 → told s start (after_quote rest) ≡ other
  unfolding after_other when◌then◌else◌
  is-quote e = rw e

  pub is-return : first ≡ 13 → told s start (after_return rest) ≡ other
  unfolding after_other after_return space when◌then◌else◌
  is-return e = rw e

  pub is-dot : {x : ℕ} → first ≡ 46 → x ≡ run_end class.Word s (start + 1) → Took Directive start x ≡ other
  unfolding told here coded coded_as after_other directive_after when◌then◌else◌
  is-dot e f = rw e (ap (Took Directive start) (f ∙ sym (word_end s start 1 (start + 1) refl)))

  pub is_none :
      space first ≡ false → (first ≡ 44 → ⊥) → (first ≡ 10 → ⊥) → (first ≡ 59 → ⊥) → (first ≡ 46 → ⊥) → (first ≡ 34 → ⊥) → (first ≡ 13 → ⊥) → (first ≡ 58 → ⊥)
      → Refused 10 start (start + 1) ≡ other
  unfolding told here coded after_other when◌then◌else◌
  is_none s a b c d e f g = rw (ne_eqb _ 46 d, ne_eqb _ 34 e, ne_eqb _ 58 g, ne_eqb _ 44 a, ne_eqb _ 59 c, ne_eqb _ 10 b, ne_eqb _ 13 f, s)

-- spaces and tabs are skipped
space-first : (c : ℕ) (s : List ℕ) → space c ≡ true → token_at c s ≡ match blank (1 + length (while space s))
unfolding token_at digit letter upper space when◌then◌else◌
space-first c s e = go (eqb c 32) refl (eqb c 9) refl e
  where
    go : (a : Bool) → eqb c 32 ≡ a → (b : Bool) → eqb c 9 ≡ b → (a || b) ≡ true → token_at c s ≡ match blank (1 + length (while space s))
    go true a b p e = rw (eqb-true c 32 a)
    go false a true p e = rw (eqb-true c 9 p)
    go false a false p e = never cc

module _ (s : List ℕ) (at : ℕ) where
  one-space : run_end class.Space s (at + 1) ≡ at + (1 + length (while space (drop (at + 1) s)))
  unfolding run_end in_class from
  one-space = omega arith

  space-past : at < length s → space (get_or s at 0) ≡ true → next_token s at ≡ next_token s (run_end class.Space s at)
  unfolding in_class
  space-past h e =
      let k = length (while space (drop (at + 1) s)) in
      next_here s at h
      ∙ rw (space-first (get_or s at 0) (drop (at + 1) s) e)
      (here-blank s at (1 + k) (omega arith) (omega (arith, while-short space (drop (at + 1) s), length-drop (at + 1) s))
      ∙ ap (next_token s) (sym (run_in class.Space s at h e ∙ one-space)))

  pub spaces : next_token s at ≡ next_token s (run_end class.Space s at)
  unfolding in_class
  spaces = go (ltb at (length s)) refl (space (get_or s at 0)) refl
    where
      go : (a : Bool) → ltb at (length s) ≡ a → (b : Bool) → space (get_or s at 0) ≡ b → next_token s at ≡ next_token s (run_end class.Space s at)
      go true a true e = space-past (ltb-true _ _ a) e
      go true a false e = ap (next_token s) (sym (run_out class.Space s at (ltb-true _ _ a) e))
      go false a b e = ap (next_token s) (sym (run_past class.Space s at (ltb-false _ _ a)))

  module _ {start : ℕ} (p : start ≡ run_end class.Space s at) where
    pub no-space : start < length s → space (get_or s start 0) ≡ false
    unfolding in_class
    no-space h = rw (← p) at (run-stops class.Space s at (rw (← p) h))

    pub next-told : {r : Next} → start < length s → r ≡ told s start (token_at (get_or s start 0) (from s (start + 1))) → r ≡ coded (next_token s at)
    unfolding told from
    next-told h e = e ∙ ap coded (sym (next_here s start h) ∙ ap (next_token s) p ∙ sym spaces)

    pub next-done : length s ≤ start → End start ≡ coded (next_token s at)
    unfolding coded coded_as marked when◌then◌else◌
    next-done h = sym (ap coded (spaces ∙ ap (next_token s) (sym p) ∙ next-end s start h))

-- each first byte, by places
module _ (s : List ℕ) (start : ℕ) (h : start < length s) where
  abbrev here-told : Next
  here-told = told s start (token_at (first s start) (rest s start))

  module _ {u : ℕ} (l : letter (first s start) ≡ true) (p : u ≡ upper (first s start)) where
    pub told-r : u ≡ 82 → told s start (after_r (first s start) (rest s start)) ≡ here-told
    told-r e = ap (told s start) (sym (letter-r (first s start) (rest s start) l (sym p ∙ e)))

    pub told-x : u ≡ 88 → told s start (after_x (first s start) (rest s start)) ≡ here-told
    told-x e = ap (told s start) (sym (letter-x (first s start) (rest s start) l (sym p ∙ e)))

    pub told-word : (u ≡ 82 → ⊥) → (u ≡ 88 → ⊥) → told s start (word_at (from s start)) ≡ here-told
    told-word n m =
        ap (told s start)
        (ap word_at (from_step s start h) ∙ sym (letter-word (first s start) (rest s start) l (λ e. n (p ∙ e)) (λ e. m (p ∙ e))))

  pub told-digit : digit (first s start) ≡ true → told s start (number_after 0 dec (from s (start + 0))) ≡ here-told
  told-digit d = ap (told s start) (ap (number_after 0 dec) (rw add-zero (from_step s start h)) ∙ sym (digit-first (first s start) (rest s start) d))

  pub told-hash : first s start ≡ 35 → told s start (after_hash (rest s start)) ≡ here-told
  told-hash e = ap (told s start) (sym (hash-first (first s start) (rest s start) e))

  pub told-minus : first s start ≡ 45 → told s start (after_minus (rest s start)) ≡ here-told
  told-minus e = ap (told s start) (sym (minus-first (first s start) (rest s start) e))

  pub told-other : letter (first s start) ≡ false → digit (first s start) ≡ false → (first s start ≡ 35 → ⊥) → (first s start ≡ 45 → ⊥) → told s start (after_other (first s start) (rest s start)) ≡ here-told
  told-other l d n m = ap (told s start) (sym (other-first (first s start) (rest s start) l d n m))
