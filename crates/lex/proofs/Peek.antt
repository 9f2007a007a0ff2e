-- The next token by the first byte behind spaces: a colon, a comma and a line feed are tokens by themselves, and a mark begins with its own byte. Assumes nothing.
use Prim.Native.Nat.{ℕ, ◌+◌, ◌*◌, ◌<◌, ◌≤◌}
use mathlib.Core.Path.{◌≡◌, refl, sym, ◌∙◌, ap}
use mathlib.Core.Bool.{Bool, true, false, ◌&&◌, ◌||◌}
use mathlib.Core.List.{List, [], ◌∷◌}
use mathlib.Core.Logic.{◌⊎◌, inl, inr, ⊎_elim}
use native.Mathlib.Omega.{arith}
use borrow.Author.Tests.{eqb-true, ltb-true, ltb-false}
use lib.Dec.{eqb, leb, ltb}
use lib.ListN.{length, get_or, drop}
use Rattle.rules.specs.Base.{when◌then◌else◌, is, Outcome, ok, span}
use Rattle.rules.specs.Tokens.{Kind, number, register, mark, word, directive, text, Found, token, blank, bad, Match, match, Form, while, digit, letter, space, wordy, upper, value, begins, digits, read, dec, dec_neg, hex, hex_neg, reg, number_after, wrong_after, word_at, directive_after, after_hash, after_minus, after_x, after_r, Quoted, open', closed, quoted, line, after_quote, token_at, token_in, next_token}
use Rattle.rules.specs.Statements.{is_mark, token_is, stop_at}
use Rattle.rules.proofs.Ahead.{is-token, is-refused, stop-token}
use Rattle.rules.proofs.Next.{here, next-end, next_here}
use Rattle.rules.proofs.Bools.{never, either, either-if, and_left}
use Rattle.base_text.specs.Runs.{from, run_end}
use Rattle.base_text.specs.declared.Class.TheVariants as class
use Rattle.base_text.proofs.Rest.{inside}
use Rattle.lex_token.specs.declared.Lexeme.{Lexeme}
use Rattle.lex_token.specs.Coded.{marked, coded_as, coded}
use Rattle.lex_token.specs.Flat.{flat_next}
use Rattle.lex.specs.Sorts.{Stands}
use Rattle.lex.specs.Ways.{after_semicolon}
use Rattle.lex.proofs.First.{spaces, no-space}
use Rattle.lex.proofs.Told.{comment-past, next-line}
use Rattle.lex.proofs.Standing.{stands-flat}

impossible : {A : Type 0} → ◌≡◌ {A = Bool} false true → A
impossible e = never cc

-- A BYTE THAT IS A TOKEN BY ITSELF
abbrev pub alone : ℕ → Bool
alone c = is ":" c || is "," c || is "\n" c

by-alone : (P : ℕ → Type 0) → P 58 → P 44 → P 10 → (c : ℕ) → alone c ≡ true → P c
by-alone P x y z c e = go (eqb c 58) (eqb c 44) (eqb c 10) refl refl refl e
  where
    go : (a b d : Bool) → eqb c 58 ≡ a → eqb c 44 ≡ b → eqb c 10 ≡ d → (a || b || d) ≡ true → P c
    go true b d p q r e = rw (eqb-true c 58 p) x
    go false true d p q r e = rw (eqb-true c 44 q) y
    go false false true p q r e = rw (eqb-true c 10 r) z
    go false false false p q r e = never cc

alone-token : (s : List ℕ) (c : ℕ) → alone c ≡ true → token_at c s ≡ match (token (mark c)) 1
unfolding token_at digit letter upper when◌then◌else◌
alone-token s = by-alone (λ c. token_at c s ≡ match (token (mark c)) 1) refl refl refl

alone-inside : (c : ℕ) → alone c ≡ true → 0 < c
alone-inside = by-alone (λ c. 0 < c) (omega arith) (omega arith) (omega arith)

-- what stands at a place stands where spaces lead to it
pub stands_from : (s : List ℕ) (i j : ℕ) (t : Lexeme) → next_token s i ≡ next_token s j → Stands s j t → Stands s i t
stands_from s i j t e h = record {
  token = λ l. e ∙ h.token l;
  bad = λ l. e ∙ h.bad l;
  label = h.label;
  size = h.size;
  reserved = h.reserved;
  code = h.code;
  known = h.known;
}

module _ (s : List ℕ) (at p : ℕ) (e : p ≡ run_end class.Space s at) where
  pub peek-from : next_token s at ≡ next_token s p
  peek-from = spaces s at ∙ ap (next_token s) (sym e)

  module _ (c : ℕ) (q : c ≡ get_or s p 0) (a : alone c ≡ true) where
    pub peek : next_token s at ≡ ok (token_in (mark c) (span p (p + 1)))
    unfolding here
    peek =
        let l : p < length s = inside s p (omega (arith, alone-inside c a)) in
        peek-from ∙ next_here s p l ∙ rw (← q, alone-token (drop (p + 1) s) c a)

    pub peek_is : (m : ℕ) → token_is (is_mark m) s at ≡ eqb c m
    unfolding is_mark
    peek_is m = is-token (is_mark m) s at _ peek

    pub peek-stop : stop_at s at ≡ p + 1
    peek-stop = stop-token s at _ peek

    pub peek-stands : Stands s at (flat_next (marked c p (p + 1)))
    unfolding coded coded_as
    peek-stands = stands-flat s at _ (sym (ap (λ (o : Outcome _). flat_next (coded o)) peek))

-- THE FIRST BYTE OF A MARK, AND OF WHAT IS BLANK

-- a mark begins with its byte, or is the newline that begins with a carriage return; what is blank begins with a semicolon or a space
abbrev Begins : ℕ → Kind → Type 0
Begins c (mark m) = (c ≡ m) ⊎ ((c ≡ 13) × (m ≡ 10))
Begins c (number x) = Unit {0}
Begins c (register x) = Unit {0}
Begins c (word w) = Unit {0}
Begins c (directive w) = Unit {0}
Begins c (text t) = Unit {0}

abbrev First : ℕ → Found → Type 0
First c (token k) = Begins c k
First c blank = (c ≡ 59) ⊎ (space c ≡ true)
First c (bad n) = Unit {0}

module _ (c : ℕ) where
  abbrev Fits : Match → Type 0
  Fits m = First c m.found

  digits-fit : (f : Form) → ((x : ℕ) → Begins c (f.kind x)) → (n : ℕ) (s : List ℕ) → First c (digits f n s)
  unfolding digits
  digits-fit f h n [] = h n
  digits-fit f h n (d ∷ s) = either (First c) _ tt (either (First c) _ tt (digits-fit f h (n * f.base + value d) s))

  number_fits : (n : ℕ) (f : Form) → ((x : ℕ) → Begins c (f.kind x)) → (s : List ℕ) → Fits (number_after n f s)
  unfolding number_after read
  number_fits n f h s = go (while wordy s)
    where
      go : (t : List ℕ) → First c (read f t)
      go [] = tt
      go (d ∷ t) = digits-fit f h 0 (d ∷ t)

  hash-fits : (s : List ℕ) → Fits (after_hash s)
  unfolding after_hash wrong_after dec dec_neg
  hash-fits s = either Fits _ (number_fits 2 dec_neg (λ x. tt) (drop 1 s)) (either Fits _ (number_fits 1 dec (λ x. tt) s) (either Fits _ tt tt))

  minus-fits : (s : List ℕ) → Fits (after_minus s)
  unfolding after_minus wrong_after dec_neg
  minus-fits s = either Fits _ (number_fits 1 dec_neg (λ x. tt) s) tt

  x_fits : (s : List ℕ) → Fits (after_x c s)
  unfolding after_x word_at hex hex_neg
  x_fits s = either Fits _ (number_fits 2 hex_neg (λ x. tt) (drop 1 s)) (either Fits _ (number_fits 1 hex (λ x. tt) s) tt)

  r-fits : (s : List ℕ) → Fits (after_r c s)
  unfolding after_r word_at reg
  r-fits s = either Fits _ (number_fits 1 reg (λ x. tt) s) tt

  quote-fits : (s : List ℕ) → Fits (after_quote s)
  unfolding after_quote
  quote-fits s = go (quoted false (line s))
    where
      go : (q : Quoted) → Fits (elim q [ open' ↦ match (bad 7) (1 + length (line s)) | closed t n ↦ match (when leb (length t) 65534 then token (text t) else bad 8) (1 + n) ])
      go open' = tt
      go (closed t n) = either (First c) (leb (length t) 65534) tt tt

  return-first : (b : Bool) → (eqb c 13 && b) ≡ true → c ≡ 13
  return-first b e = eqb-true c 13 (and_left (eqb c 13) b e)

  first_fits : (s : List ℕ) → Fits (token_at c s)
  unfolding token_at word_at directive_after dec
  first_fits s =
      either Fits _ (number_fits 0 dec (λ x. tt) (c ∷ s))
      (either Fits _ (hash-fits s)
      (either Fits _ (minus-fits s)
      (either Fits _ (x_fits s)
      (either Fits _ (r-fits s)
      (either Fits _ tt
      (either Fits _ tt
      (either Fits _ (quote-fits s)
      (either Fits _ (inl refl)
      (either Fits _ (inl refl)
      (either-if Fits _ (λ e. inl (eqb-true c 59 e))
      (either Fits _ (inl refl)
      (either-if Fits _ (λ e. inr (return-first (begins (is "\n") s) e, refl))
      (either-if Fits _ (λ e. inr e) tt)))))))))))))

-- A MARK THAT IS THE NEXT TOKEN
module _ (s : List ℕ) (at p : ℕ) (e : p ≡ run_end class.Space s at) (c : ℕ) (q : c ≡ get_or s p 0) (m : ℕ) (n : 0 < m) (y : token_is (is_mark m) s at ≡ true) where
  -- a newline may begin with a carriage return, or stand behind a comment
  abbrev Leads : Type 0
  Leads = (c ≡ m) ⊎ ((m ≡ 10) × ((c ≡ 13) ⊎ (c ≡ 59)))

  is-mark : (k : Kind) → is_mark m k ≡ true → k ≡ mark m
  unfolding is_mark
  is-mark (mark x) h = ap mark (eqb-true x m h)
  is-mark (number x) h = never cc
  is-mark (register x) h = never cc
  is-mark (word w) h = never cc
  is-mark (directive w) h = never cc
  is-mark (text t) h = never cc

  -- where a token is known, it is the mark
  is-the-mark : (k : Kind) (a z : ℕ) → next_token s at ≡ ok (token_in k (span a z)) → k ≡ mark m
  is-the-mark k a z h = is-mark k (sym (is-token (is_mark m) s at _ h) ∙ y)

  no_end : length s ≤ p → Leads
  no_end l = let z : mark 0 ≡ mark m = is-the-mark (mark 0) p p (peek-from s at p e ∙ next-end s p l) in let w : 0 ≡ m = cc in absurd (omega arith)

  module _ (l : p < length s) where
    here-is : next_token s at ≡ here p (token_at c (drop (p + 1) s)) (drop (p + 1) s)
    here-is = peek-from s at p e ∙ next_here s p l ∙ rw (← q)

    abbrev end : ℕ
    end = run_end class.Line s (p + 1)

    behind-comment : c ≡ 59 → m ≡ 10
    unfolding token_at after_semicolon digit letter upper when◌then◌else◌ from
    behind-comment z = go (ltb end (length s)) refl
      where
        on : next_token s at ≡ next_token s end
        on = here-is ∙ rw z (comment-past s p l refl)

        go : (b : Bool) → ltb end (length s) ≡ b → m ≡ 10
        go true b = let w : mark 10 ≡ mark m = is-the-mark (mark 10) end (end + 1) (on ∙ next-line s p l refl (ltb-true _ _ b)) in sym (cc)
        go false b = let w : mark 0 ≡ mark m = is-the-mark (mark 0) end end (on ∙ next-end s end (ltb-false _ _ b)) in let v : 0 ≡ m = cc in absurd (omega arith)

    by-found : (f : Found) (k : ℕ) → First c f → next_token s at ≡ here p (match f k) (drop (p + 1) s) → Leads
    unfolding here
    by-found (token x) k h z = go (is-the-mark x p (p + k) z) h
      where
        go : x ≡ mark m → Begins c x → Leads
        go w h = ⊎_elim (λ a. inl a) (λ a. inr (a.1, inl a.0)) (rw w at h)
    by-found blank k h z = ⊎_elim (λ a. inr (behind-comment a, inr a)) (λ a. impossible (sym (no-space s at e l) ∙ rw q at a)) h
    by-found (bad x) k h z = impossible (sym (is-refused (is_mark m) s at _ z) ∙ y)

  pub peek-leads : Leads
  peek-leads = go (ltb p (length s)) refl
    where
      go : (b : Bool) → ltb p (length s) ≡ b → Leads
      go true b = let f = token_at c (drop (p + 1) s) in by-found (ltb-true _ _ b) f.found f.size (first_fits c (drop (p + 1) s)) (here-is (ltb-true _ _ b))
      go false b = no_end (ltb-false _ _ b)

-- no mark m is the next token where another byte stands behind the spaces, if for a newline neither a carriage return nor a semicolon does
pub peek-not : (s : List ℕ) (at p : ℕ) → p ≡ run_end class.Space s at → (c : ℕ) → c ≡ get_or s p 0 → (m : ℕ) → 0 < m → (c ≡ m → ⊥) → (m ≡ 10 → (c ≡ 13) ⊎ (c ≡ 59) → ⊥) → token_is (is_mark m) s at ≡ false
peek-not s at p e c q m n x z = go (token_is (is_mark m) s at) refl
  where
    go : (b : Bool) → token_is (is_mark m) s at ≡ b → b ≡ false
    go true y = ⊎_elim (λ a. absurd (x a)) (λ a. absurd (z a.0 a.1)) (peek-leads s at p e c q m n y)
    go false y = refl

-- a byte that is not 0 stands inside
pub peek-inside : (s : List ℕ) (p c : ℕ) → c ≡ get_or s p 0 → 0 < c → p + 1 ≤ length s
peek-inside s p c q n = omega (arith, inside s p (omega arith))
