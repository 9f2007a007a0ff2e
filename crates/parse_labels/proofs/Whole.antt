-- Where a token begins and where a word ends: behind the spaces, and behind all word characters. Assumes nothing.
use Prim.Native.Nat.{ℕ, ◌+◌, ◌*◌, ◌<◌}
use mathlib.Core.Path.{◌≡◌, refl, sym, ◌∙◌, ap, subst}
use mathlib.Core.Bool.{Bool, true, false}
use mathlib.Core.List.{List, [], ◌∷◌}
use mathlib.Core.Logic.{◌⊎◌, inl, inr, ⊎_elim}
use borrow.Author.Tests.{eqb-true, ltb-true, ltb-false}
use lib.Dec.{leb, ltb}
use lib.ListN.{length, get_or, drop}
use Rattle.rules.specs.Base.{when◌then◌else◌, ok, span}
use Rattle.rules.specs.Tokens.{Kind, number, register, mark, word, directive, text, Found, token, blank, bad, Match, match, Form, while, wordy, space, value, begins, digits, read, dec, dec_neg, hex, hex_neg, reg, number_after, wrong_after, word_at, directive_after, after_hash, after_minus, after_x, after_r, Quoted, open', closed, quoted, line, after_quote, digit, letter, upper, token_at, Token, token_in, next_token}
use Rattle.rules.specs.Statements.{is_mark, ends}
use Rattle.rules.proofs.Next.{here, next-end, next_here}
use Rattle.rules.proofs.Bools.{never, either, either-if}
use Rattle.base_text.specs.Runs.{in_class, from, run_end}
use Rattle.base_text.specs.declared.Class.TheVariants as class
use Rattle.base_text.proofs.Rest.{from_step}
use Rattle.lex.specs.Ways.{after_semicolon}
use Rattle.lex.proofs.First.{no-space}
use Rattle.lex.proofs.Told.{comment-past, next-line}
use Rattle.lex.proofs.Peek.{peek-from}

impossible : {A : Type 0} → ◌≡◌ {A = Bool} false true → A
impossible e = never cc

-- A MATCH OF n BYTES, where k word characters stand: a word has them all; what is blank begins with a semicolon or a space
abbrev Covers : (n k : ℕ) → Kind → Type 0
Covers n k (word w) = n ≡ k
Covers n k (number x) = Unit {0}
Covers n k (register x) = Unit {0}
Covers n k (mark m) = Unit {0}
Covers n k (directive w) = Unit {0}
Covers n k (text t) = Unit {0}

abbrev Spans : (c n k : ℕ) → Found → Type 0
Spans c n k (token x) = Covers n k x
Spans c n k blank = (c ≡ 59) ⊎ (space c ≡ true)
Spans c n k (bad m) = Unit {0}

module _ (c : ℕ) (s : List ℕ) where
  abbrev letters : ℕ
  letters = length (while wordy (c ∷ s))

  abbrev Fits : Match → Type 0
  Fits m = Spans c m.size letters m.found

  digits-fit : (n : ℕ) (f : Form) → ((x : ℕ) → Covers n letters (f.kind x)) → (v : ℕ) (l : List ℕ) → Spans c n letters (digits f v l)
  unfolding digits
  digits-fit n f h v [] = h v
  digits-fit n f h v (d ∷ l) = either (Spans c n letters) _ tt (either (Spans c n letters) _ tt (digits-fit n f h (v * f.base + value d) l))

  number_fits : (n : ℕ) (f : Form) → ((k x : ℕ) → Covers k letters (f.kind x)) → (l : List ℕ) → Fits (number_after n f l)
  unfolding number_after read
  number_fits n f h l = go (while wordy l)
    where
      go : (t : List ℕ) → Spans c (n + length t) letters (read f t)
      go [] = tt
      go (d ∷ t) = digits-fit (n + length (d ∷ t)) f (h (n + length (d ∷ t))) 0 (d ∷ t)

  word_fits : Fits (word_at (c ∷ s))
  unfolding word_at
  word_fits = refl

  hash-fits : Fits (after_hash s)
  unfolding after_hash wrong_after dec dec_neg
  hash-fits = either Fits _ (number_fits 2 dec_neg (λ k x. tt) (drop 1 s)) (either Fits _ (number_fits 1 dec (λ k x. tt) s) (either Fits _ tt tt))

  minus-fits : Fits (after_minus s)
  unfolding after_minus wrong_after dec_neg
  minus-fits = either Fits _ (number_fits 1 dec_neg (λ k x. tt) s) tt

  x_fits : Fits (after_x c s)
  unfolding after_x hex hex_neg
  x_fits = either Fits _ (number_fits 2 hex_neg (λ k x. tt) (drop 1 s)) (either Fits _ (number_fits 1 hex (λ k x. tt) s) word_fits)

  r-fits : Fits (after_r c s)
  unfolding after_r reg
  r-fits = either Fits _ (number_fits 1 reg (λ k x. tt) s) word_fits

  quote-fits : Fits (after_quote s)
  unfolding after_quote
  quote-fits = go (quoted false (line s))
    where
      go : (q : Quoted) → Fits (elim q [ open' ↦ match (bad 7) (1 + length (line s)) | closed t n ↦ match (when leb (length t) 65534 then token (text t) else bad 8) (1 + n) ])
      go open' = tt
      go (closed t n) = either (Spans c (1 + n) letters) (leb (length t) 65534) tt tt

  token-fits : Fits (token_at c s)
  unfolding token_at directive_after dec
  token-fits =
      either Fits _ (number_fits 0 dec (λ k x. tt) (c ∷ s))
      (either Fits _ hash-fits
      (either Fits _ minus-fits
      (either Fits _ x_fits
      (either Fits _ r-fits
      (either Fits _ word_fits
      (either Fits _ tt
      (either Fits _ quote-fits
      (either Fits _ tt
      (either Fits _ tt
      (either-if Fits _ (λ e. inl (eqb-true c 59 e))
      (either Fits _ tt
      (either Fits _ tt
      (either-if Fits _ (λ e. inr e) tt)))))))))))))

-- A TOKEN from q on that is no newline and not the source's end: it begins at p, behind the spaces, and if it is a word, it ends behind all word characters
pub record Whole (s : List ℕ) (p : ℕ) (t : Token) : Type 0 where
  pub start : t.place.start ≡ p
  pub stop : (w : List ℕ) → t.kind ≡ word w → t.place.stop ≡ run_end class.Word s p

module _ (s : List ℕ) (q p : ℕ) (e : p ≡ run_end class.Space s q) (t : Token) (h : next_token s q ≡ ok t) (n : ends t.kind ≡ false) where
  abbrev c : ℕ
  c = get_or s p 0

  abbrev rest : List ℕ
  rest = drop (p + 1) s

  no_end : {A : Type 0} (m a z : ℕ) → ends (mark m) ≡ true → next_token s q ≡ ok (token_in (mark m) (span a z)) → A
  no_end m a z y k = let w : token_in (mark m) (span a z) ≡ t = cc (sym k ∙ h) in impossible (sym n ∙ (ap (λ (x : Token). ends x.kind) (sym w) ∙ y))

  within : p < length s
  unfolding ends is_mark
  within = go (ltb p (length s)) refl
    where
      go : (b : Bool) → ltb p (length s) ≡ b → p < length s
      go true b = ltb-true _ _ b
      go false b = no_end 0 p p refl (peek-from s q p e ∙ next-end s p (ltb-false _ _ b))

  here-is : next_token s q ≡ here p (token_at c rest) rest
  here-is = peek-from s q p e ∙ next_here s p within

  abbrev end : ℕ
  end = run_end class.Line s (p + 1)

  no-comment : {A : Type 0} → c ≡ 59 → A
  unfolding ends is_mark token_at after_semicolon digit letter upper when◌then◌else◌ from
  no-comment {A} z = go (ltb end (length s)) refl
    where
      on : next_token s q ≡ next_token s end
      on = here-is ∙ rw z (comment-past s p within refl)

      go : (b : Bool) → ltb end (length s) ≡ b → A
      go true b = no_end 10 end (end + 1) refl (on ∙ next-line s p within refl (ltb-true _ _ b))
      go false b = no_end 0 end end refl (on ∙ next-end s end (ltb-false _ _ b))

  run_long : (k : ℕ) → k ≡ length (while wordy (c ∷ rest)) → p + k ≡ run_end class.Word s p
  unfolding run_end in_class from
  run_long k y = rw (from_step s p within) (ap (λ (x : ℕ). p + x) y)

  by-found : (f : Found) (k : ℕ) → Spans c k (length (while wordy (c ∷ rest))) f → next_token s q ≡ here p (match f k) rest → Whole s p t
  unfolding here
  by-found (token x) k f z =
      let w : token_in x (span p (p + k)) ≡ t = cc (sym z ∙ h) in
      let v : Whole s p (token_in x (span p (p + k))) = record { start = refl; stop = λ u y. run_long k (rw y at f) } in
      subst (Whole s p) w v
  by-found blank k f z = ⊎_elim no-comment (λ a. impossible (sym (no-space s q e within) ∙ a)) f
  by-found (bad m) k f z = never (cc (sym z ∙ h))

  pub whole : Whole s p t
  whole = let m = token_at c rest in by-found m.found m.size (token-fits c rest) here-is
