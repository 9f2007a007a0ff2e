-- The ways from a token's first byte, as the code takes them. Assumes nothing.
use Prim.Native.Nat.{ℕ, ◌+◌, ◌-◌, ◌<◌, ◌≤◌}
use mathlib.Core.Path.{◌≡◌, refl, sym, ◌∙◌, ap}
use mathlib.Core.Bool.{Bool, true, false, not}
use mathlib.Core.List.{List, [], ◌∷◌, map}
use native.Mathlib.Omega.{arith}
use borrow.Author.Tests.{eq-eqb, ne_eqb, le-leb, lt-leb, le-ltb, lt-ltb, not-false, eqb-true}
use lib.Dec.{eqb, leb, ltb}
use lib.ListN.{length, get_or, take, drop, length-drop}
use lib.Seq.{drop-drop}
use Rattle.rules.specs.Base.{when◌then◌else◌, ok, span}
use Rattle.rules.specs.Tokens.{Match, match, token, mark, register, bad, text, digit, letter, wordy, upper, value, while, begins, dec, dec_neg, hex, hex_neg, reg, number_after, wrong_after, word_at, after_hash, after_minus, after_x, after_r, Quoted, open', closed, quoted, line, after_quote, token_at, token_in, next_token}
use Rattle.rules.proofs.While.{yes-cons, no-cons}
use Rattle.rules.proofs.Sizes.{while-short}
use Rattle.rules.proofs.Shown.{take_while}
use Rattle.rules.proofs.Next.{here, next-end, next_here, here-blank}
use Rattle.rules.proofs.Bools.{never}
use Rattle.base_text.specs.Runs.{in_class, from, run_end}
use Rattle.base_text.specs.declared.Class.TheVariants as class
use Rattle.base_text.proofs.Rest.{from_step, begins-at, inside}
use Rattle.base_text.proofs.RunLaws.{run-stops}
use Rattle.lex_reserved.specs.Ident.{ident_of}
use Rattle.lex_literals.specs.Strings.{scan}
use Rattle.lex_literals.specs.declared.Scanned.TheVariants.{Closed, Open}
use Rattle.lex_literals.proofs.StringRule.{scanned, scan-means}
use Rattle.lex_token.specs.Coded.{marked, coded_as, coded, told}
use Rattle.lex_token.specs.declared.Token.TheVariants.{Reg, Ident, String, NewLine}
use Rattle.lex_token.specs.declared.Next.{Next}
use Rattle.lex_token.specs.declared.Next.TheVariants.{Took, End, Refused}
use Rattle.lex_token.proofs.NumberTold.{word_end}
use Rattle.lex.specs.Ways.{short_register, after_return, after_semicolon}
use Rattle.lex.proofs.OneDigit.{short-is, no_digit, short-after}

pub drop-from : (s : List ℕ) (k i j : ℕ) → i + k ≡ j → drop k (from s i) ≡ from s j
unfolding from
drop-from s k i j e = drop-drop k i s ∙ ap (λ (n : ℕ). drop n s) e

-- a list begins with a byte of a class as its run has one
begins-none : (p : ℕ → Bool) (l : List ℕ) → length (while p l) ≤ 0 → begins p l ≡ false
unfolding begins while
begins-none p [] h = refl
begins-none p (c ∷ l) h = go (p c) h
  where
    go : (b : Bool) → length {A = ℕ} (elim b [ true ↦ c ∷ while p l | false ↦ [] ]) ≤ 0 → b ≡ false
    go true h = absurd (omega arith)
    go false h = refl

begins-some : (p : ℕ → Bool) (l : List ℕ) → 0 < length (while p l) → begins p l ≡ true
unfolding begins while
begins-some p [] h = absurd (omega arith)
begins-some p (c ∷ l) h = go (p c) h
  where
    go : (b : Bool) → 0 < length {A = ℕ} (elim b [ true ↦ c ∷ while p l | false ↦ [] ]) → b ≡ true
    go true h = refl
    go false h = absurd (omega arith)

while-none : (p : ℕ → Bool) (l : List ℕ) → begins p l ≡ false → length (while p l) ≡ 0
unfolding begins while
while-none p [] h = refl
while-none p (c ∷ l) h = rw (no-cons p c l h)

while-some : (p : ℕ → Bool) (l : List ℕ) → begins p l ≡ true → eqb (length (while p l)) 0 ≡ false
unfolding begins while
while-some p [] h = never cc
while-some p (c ∷ l) h = rw (yes-cons p c l h) (ne_eqb (length (c ∷ while p l)) 0 (λ e. omega arith))

-- a word
pub word-told : (s : List ℕ) (start : ℕ) {e : ℕ} {i : _} → e ≡ run_end class.Word s start → i ≡ ident_of (map upper (take (e - start) (drop start s))) → Took (Ident i) start e ≡ told s start (word_at (from s start))
unfolding told here coded coded_as word_at run_end in_class from
word-told s start {e} {i} p q =
    let n : e - start ≡ length (while wordy (drop start s)) = omega arith in
    let w : i ≡ ident_of (map upper (while wordy (drop start s))) = q ∙ rw n (ap (λ (l : List ℕ). ident_of (map upper l)) (sym (take_while wordy (drop start s)))) in
    cc

module _ (s : List ℕ) (start : ℕ) (h : start < length s) where
  abbrev rest : List ℕ
  rest = from s (start + 1)

  abbrev first : ℕ
  first = get_or s start 0

  abbrev told_as : Match → Next
  told_as = told s start

  word-here : first ∷ rest ≡ from s start
  word-here = sym (from_step s start h)

  -- R and one digit
  pub r-short : {n : ℕ} → n ≡ short_register s (start + 1) → n < 8 → Took (Reg n) start (start + 2) ≡ told_as (after_r first rest)
  unfolding told here coded coded_as wordy digit letter
  r-short {n} p l =
      let q = short-is s (start + 1) n p l in
      let i : start + 1 < length s = inside s (start + 1) (omega (arith, q.low)) in
      let w : begins wordy (from s (start + 1 + 1)) ≡ false = begins-at wordy refl s (start + 1 + 1) ∙ q.alone in
      let d : begins digit (from s (start + 1 + 1)) ≡ false = begins-at digit refl s (start + 1 + 1) ∙ no_digit (get_or s (start + 1 + 1) 0) q.alone in
      let t : after_r first rest ≡ match (token (register (get_or s (start + 1) 0 - 48))) 2 = rw (from_step s (start + 1) i) (short-after first (get_or s (start + 1) 0) (from s (start + 1 + 1)) q.low q.high w d) in
      sym (ap told_as t ∙ ap (λ (k : ℕ). Took (Reg k) start (start + 2)) (sym q.is))

  -- R
  module _ {e : ℕ} (p : e ≡ run_end class.Digit s (start + 1)) where
    run_long : start + 1 + length (while digit rest) ≡ e
    unfolding run_end in_class
    run_long = sym p

    pub r-alone : e ≤ start + 1 → told_as (word_at (from s start)) ≡ told_as (after_r first rest)
    unfolding after_r when◌then◌else◌
    r-alone k = sym (ap told_as (rw (begins-none digit rest (omega (arith, run_long)), word-here)))

    module _ {b : ℕ} {t : Bool} (k : start + 1 < e) (q : b ≡ get_or s e 0) (w : t ≡ wordy b) where
      after : begins wordy (drop (length (while digit rest)) rest) ≡ t
      unfolding wordy digit letter
      after = rw (drop-from s (length (while digit rest)) (start + 1) e run_long, begins-at wordy refl s e) (sym (w ∙ ap wordy q))

      pub r-word : t ≡ true → told_as (word_at (from s start)) ≡ told_as (after_r first rest)
      unfolding after_r when◌then◌else◌
      r-word y = sym (ap told_as (rw (begins-some digit rest (omega (arith, run_long)), after, y, word-here)))

      pub r-reg : t ≡ false → told_as (number_after 1 reg rest) ≡ told_as (after_r first rest)
      unfolding after_r when◌then◌else◌
      r-reg y = sym (ap told_as (rw (begins-some digit rest (omega (arith, run_long)), after, y)))

  -- the byte after the first
  module _ {b : ℕ} (q : b ≡ get_or s (start + 1) 0) where
    second : (k : ℕ) → 0 < k → begins (λ d. eqb d k) rest ≡ eqb b k
    second k l = begins-at (λ d. eqb d k) (ne_eqb 0 k (λ e. omega arith)) s (start + 1) ∙ ap (λ (x : ℕ). eqb x k) (sym q)

    pub second-in : {k : ℕ} → b ≡ k → 0 < k → start + 2 ≤ length s
    second-in e l = omega (arith, inside s (start + 1) (omega arith))

    past-second : drop 1 rest ≡ from s (start + 2)
    past-second = drop-from s 1 (start + 1) (start + 2) (omega arith)

    -- x
    pub x-minus : b ≡ 45 → told_as (number_after 2 hex_neg (from s (start + 2))) ≡ told_as (after_x first rest)
    unfolding after_x when◌then◌else◌
    x-minus e = sym (ap told_as (rw (second 45 (omega arith), eq-eqb b 45 e, past-second)))

    module _ {v : ℕ} (n : b ≡ 45 → ⊥) (f : v ≡ value b) where
      low : begins (λ d. ltb (value d) 16) rest ≡ ltb v 16
      unfolding value digit upper when◌then◌else◌
      low = begins-at (λ d. ltb (value d) 16) refl s (start + 1) ∙ ap (λ (x : ℕ). ltb x 16) (ap value (sym q) ∙ sym f)

      pub x-digit : v < 16 → told_as (number_after 1 hex rest) ≡ told_as (after_x first rest)
      unfolding after_x when◌then◌else◌
      x-digit l = sym (ap told_as (rw (second 45 (omega arith), ne_eqb b 45 n, low, lt-ltb v 16 l)))

      pub x-word : 16 ≤ v → told_as (word_at (from s start)) ≡ told_as (after_x first rest)
      unfolding after_x when◌then◌else◌
      x-word l = sym (ap told_as (rw (second 45 (omega arith), ne_eqb b 45 n, low, le-ltb v 16 l, word-here)))

    -- #
    pub hash-minus : b ≡ 45 → told_as (number_after 2 dec_neg (from s (start + 2))) ≡ told_as (after_hash rest)
    unfolding after_hash when◌then◌else◌
    hash-minus e = sym (ap told_as (rw (second 45 (omega arith), eq-eqb b 45 e, past-second)))

    pub hash-plain : (b ≡ 45 → ⊥) → (b ≡ 35 → ⊥) → told_as (number_after 1 dec rest) ≡ told_as (after_hash rest)
    unfolding after_hash when◌then◌else◌
    hash-plain n m = sym (ap told_as (rw (second 45 (omega arith), ne_eqb b 45 n, while-none (λ d. eqb d 35) rest (second 35 (omega arith) ∙ ne_eqb b 35 m))))

    -- -
    pub minus-plain : (b ≡ 35 → ⊥) → told_as (number_after 1 dec_neg rest) ≡ told_as (after_minus rest)
    unfolding after_minus when◌then◌else◌
    minus-plain m = sym (ap told_as (rw (while-none (λ d. eqb d 35) rest (second 35 (omega arith) ∙ ne_eqb b 35 m))))

    wrong-told : (n at : ℕ) {x : ℕ} → start + n ≡ at → x ≡ run_end class.Word s at → Refused 4 start x ≡ told_as (wrong_after n (from s at))
    unfolding told here coded wrong_after
    wrong-told n at e f = ap (Refused 4 start) (f ∙ sym (word_end s start n at e))

    module _ {k : ℕ} (e : b ≡ 35) (p : k ≡ run_end class.Hash s (start + 1)) where
      abbrev hashes : ℕ
      hashes = length (while (λ d. eqb d 35) rest)

      hash-long : start + 1 + hashes ≡ k
      unfolding run_end in_class
      hash-long = sym p

      some : eqb hashes 0 ≡ false
      some = while-some (λ d. eqb d 35) rest (second 35 (omega arith) ∙ eq-eqb b 35 e)

      past : drop hashes rest ≡ from s k
      past = drop-from s hashes (start + 1) k hash-long

      pub minus-hash : {x : ℕ} → x ≡ run_end class.Word s k → Refused 4 start x ≡ told_as (after_minus rest)
      unfolding after_minus when◌then◌else◌
      minus-hash f = wrong-told (hashes + 1) k (omega (arith, hash-long)) f ∙ sym (ap told_as (rw (some, past)))

      module _ {d : ℕ} (n : b ≡ 45 → ⊥) (g : d ≡ get_or s k 0) where
        minus-then : begins (λ d. eqb d 45) (drop hashes rest) ≡ eqb d 45
        minus-then = rw past (begins-at (λ d. eqb d 45) refl s k ∙ ap (λ (x : ℕ). eqb x 45) (sym g))

        pub hash-hash-minus : {x : ℕ} → d ≡ 45 → x ≡ run_end class.Word s (k + 1) → Refused 4 start x ≡ told_as (after_hash rest)
        unfolding after_hash when◌then◌else◌
        hash-hash-minus m f =
            wrong-told (hashes + 2) (k + 1) (omega (arith, hash-long)) f
            ∙ sym (ap told_as (rw (second 45 (omega arith), ne_eqb b 45 n, some, minus-then, eq-eqb d 45 m, drop-from s (hashes + 1) (start + 1) (k + 1) (omega (arith, hash-long)))))

        pub hash-hash : {x : ℕ} → (d ≡ 45 → ⊥) → x ≡ run_end class.Word s k → Refused 4 start x ≡ told_as (after_hash rest)
        unfolding after_hash when◌then◌else◌
        hash-hash m f =
            wrong-told (hashes + 1) k (omega (arith, hash-long)) f
            ∙ sym (ap told_as (rw (second 45 (omega arith), ne_eqb b 45 n, some, minus-then, ne_eqb d 45 m, past)))

    -- a carriage return
    pub return-line : b ≡ 10 → Took NewLine start (start + 2) ≡ told_as (after_return rest)
    unfolding told here coded coded_as marked after_return when◌then◌else◌
    return-line e = sym (rw (second 10 (omega arith), eq-eqb b 10 e))

    pub return_alone : (b ≡ 10 → ⊥) → Refused 10 start (start + 1) ≡ told_as (after_return rest)
    unfolding told here coded after_return when◌then◌else◌
    return_alone n = sym (rw (second 10 (omega arith), ne_eqb b 10 n))

  -- a string
  abbrev shown : Quoted → Next
  shown q = told s start (elim q [ open' ↦ match (bad 7) (1 + length (line rest)) | closed t n ↦ match (when leb (length t) 65534 then token (text t) else bad 8) (1 + n) ])

  module _ {n e : ℕ} (p : Closed n e ≡ scan false 0 (start + 1) rest) where
    by-closed : (r : Next) → ((t : List ℕ) (m : ℕ) → n ≡ length t → e ≡ start + (1 + m) → r ≡ shown (closed t m)) → r ≡ told_as (after_quote rest)
    unfolding after_quote scanned
    by-closed r f = go (quoted false (line rest)) (p ∙ scan-means false 0 (start + 1) rest)
      where
        go : (q : Quoted) → Closed n e ≡ scanned 0 (start + 1) (length (line rest)) q → r ≡ shown q
        go open' z = never cc
        go (closed t m) z =
            let a : n ≡ 0 + length t = cc in
            let b : e ≡ start + 1 + m = cc in
            f t m (omega arith) (omega arith)

    pub quote-took : n ≤ 65534 → Took String start e ≡ told_as (after_quote rest)
    unfolding told here coded coded_as when◌then◌else◌
    quote-took l = by-closed _ (λ t m a b. let k : length t ≤ 65534 = omega arith in rw (le-leb _ _ k) (ap (Took String start) b))

    pub quote-big : 65534 < n → Refused 8 start e ≡ told_as (after_quote rest)
    unfolding told here coded when◌then◌else◌
    quote-big l = by-closed _ (λ t m a b. let k : 65534 < length t = omega arith in rw (lt-leb _ _ k) (ap (Refused 8 start) b))

  pub quote-open : {e : ℕ} → Open e ≡ scan false 0 (start + 1) rest → Refused 7 start e ≡ told_as (after_quote rest)
  unfolding after_quote scanned told here coded
  quote-open {e} p = go (quoted false (line rest)) (p ∙ scan-means false 0 (start + 1) rest)
    where
      go : (q : Quoted) → Open e ≡ scanned 0 (start + 1) (length (line rest)) q → Refused 7 start e ≡ shown q
      go open' z =
          let b : e ≡ start + 1 + length (line rest) = cc in
          ap (Refused 7 start) (omega arith)
      go (closed t m) z = never cc

  -- a comment
  module _ {e : ℕ} (p : e ≡ run_end class.Line s (start + 1)) where
    pub comment-past : here start (after_semicolon rest) (drop (start + 1) s) ≡ next_token s e
    unfolding after_semicolon run_end in_class from
    comment-past =
        let n : start + (1 + length (while (λ d. not (eqb d 10)) rest)) ≡ e = omega arith in
        let l : start + (1 + length (while (λ d. not (eqb d 10)) rest)) ≤ length s = omega (arith, while-short (λ d. not (eqb d 10)) rest, length-drop (start + 1) s) in
        here-blank s start (1 + length (while (λ d. not (eqb d 10)) rest)) (omega arith) l ∙ ap (next_token s) n

    past-comment : told_as (after_semicolon rest) ≡ coded (next_token s e)
    unfolding told
    past-comment = ap coded comment-past

    line-feed : e < length s → get_or s e 0 ≡ 10
    unfolding in_class
    line-feed l = eqb-true (get_or s e 0) 10 (not-false (eqb (get_or s e 0) 10) (rw (← p) at (run-stops class.Line s (start + 1) (rw (← p) l))))

    pub next-line : e < length s → next_token s e ≡ ok (token_in (mark 10) (span e (e + 1)))
    unfolding here token_at digit letter upper when◌then◌else◌
    next-line l = next_here s e l ∙ rw (line-feed l)

    pub comment-line : e < length s → Took NewLine e (e + 1) ≡ told_as (after_semicolon rest)
    unfolding coded coded_as marked when◌then◌else◌
    comment-line l = sym (past-comment ∙ ap coded (next-line l))

    pub comment-end : length s ≤ e → End e ≡ told_as (after_semicolon rest)
    unfolding coded coded_as marked when◌then◌else◌
    comment-end l = sym (past-comment ∙ ap coded (next-end s e l))
