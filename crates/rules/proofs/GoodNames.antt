-- A label token's text, which stands in upper case, is itself one label token: a name that an object may have. Assumes nothing.
use mathlib.Core.Path.{◌≡◌, refl, sym, ◌∙◌, ap}
use mathlib.Core.Bool.{Bool, true, false, ◌&&◌, ◌||◌, not}
use mathlib.Core.List.{List, [], ◌∷◌, map}
use mathlib.Core.Option.{Option, none, some}
use Prim.Native.Nat.{ℕ, ◌+◌, ◌-◌, ◌*◌, ◌≤◌, ◌<◌}
use native.Mathlib.Omega.{arith}
use lib.Dec.{eqb, leb, ltb}
use lib.ListN.{length, drop}
use borrow.Author.Tests.{leb-true, eqb-true, eq-eqb, le-leb}
use Rattle.rules.specs.Base.{when◌then◌else◌, same}
use Rattle.rules.specs.Base.{is}
use Rattle.rules.specs.Tokens.{mark, word, text, Found, token, blank, bad, Match, match, Form, digit, letter, space, wordy, upper, value, while, begins, dec, dec_neg, hex, hex_neg, reg, digits, read, number_after, wrong_after, word_at, directive_after, after_hash, after_minus, after_x, after_r, line, Quoted, open', closed, quoted, after_quote, token_at}
use Rattle.rules.specs.Words.{Row, find, instructions}
use Rattle.rules.specs.Statements.{as_word, as_label}
use Rattle.rules.specs.Objects.{label_word, label_token, good_name}
use Rattle.rules.proofs.Bools.{either, never}
use Rattle.rules.proofs.Tables.{none-some}
use Rattle.rules.proofs.Run.{same_run, true_run, false_run}

-- UPPER CASE CHANGES NO CLASS

-- a byte is a small letter, or its own upper case
small : (c : ℕ) (P : ℕ → Type 0) → (97 ≤ c → c < 123 → P (c - 32)) → (upper c ≡ c → P c) → P (upper c)
unfolding upper when◌then◌else◌
small c P f g = go (leb 97 c) (leb c 122) refl refl g
  where
    go : (a b : Bool) → leb 97 c ≡ a → leb c 122 ≡ b → ((when a && b then c - 32 else c) ≡ c → P c) → P (when a && b then c - 32 else c)
    go true true p q h = f (leb-true 97 c p) (let l = leb-true c 122 q in omega (arith, l))
    go true false p q h = h refl
    go false b p q h = h refl

upper-twice : (c : ℕ) → upper (upper c) ≡ upper c
unfolding upper when◌then◌else◌
upper-twice c = small c (λ x. upper x ≡ x) (λ l h. same_run (λ x. upper (x - 32)) (λ x. x - 32) 97 26 tt c l h) (λ e. e)

wordy-upper : (c : ℕ) → wordy (upper c) ≡ wordy c
unfolding wordy digit letter
wordy-upper c = small c (λ x. wordy x ≡ wordy c) (λ l h. sym (true_run (λ x. wordy (x - 32)) 97 26 tt c l h) ∙ true_run wordy 97 26 tt c l h) (λ e. refl)

digit-upper : (c : ℕ) → digit (upper c) ≡ digit c
unfolding digit
digit-upper c = small c (λ x. digit x ≡ digit c) (λ l h. sym (false_run (λ x. digit (x - 32)) 97 26 tt c l h) ∙ false_run digit 97 26 tt c l h) (λ e. refl)

letter-upper : (c : ℕ) → letter (upper c) ≡ letter c
unfolding letter
letter-upper c = small c (λ x. letter x ≡ letter c) (λ l h. sym (true_run (λ x. letter (x - 32)) 97 26 tt c l h) ∙ true_run letter 97 26 tt c l h) (λ e. refl)

value-upper : (c : ℕ) → value (upper c) ≡ value c
unfolding value digit upper when◌then◌else◌
value-upper c = small c (λ x. value x ≡ value c) (λ l h. same_run (λ x. value (x - 32)) value 97 26 tt c l h) (λ e. refl)

or_no : (a b : Bool) → (a || b) ≡ false → a ≡ false
or_no true b e = never cc
or_no false b e = refl

digit-wordy : (c : ℕ) → wordy c ≡ false → digit c ≡ false
unfolding wordy
digit-wordy c e = or_no (digit c) (letter c) e

hex-wordy : (c : ℕ) → 65 ≤ c → c ≤ 70 → true ≡ wordy c
unfolding wordy digit letter
hex-wordy c l h = true_run wordy 65 6 tt c l (omega (arith, h))

-- a byte that is no word character has no digit's value
plain_value : (c : ℕ) → wordy c ≡ false → ltb (value c) 16 ≡ false
unfolding value when◌then◌else◌
plain_value c e = go (digit c) (leb 65 (upper c)) (leb (upper c) 70) (digit-wordy c e) refl refl
  where
    go : (d a b : Bool) → d ≡ false → leb 65 (upper c) ≡ a → leb (upper c) 70 ≡ b → ltb (when d then c - 48 else (when a && b then upper c - 55 else 99)) 16 ≡ false
    go true a b q x y = never cc
    go false true true q x y = never (cc (hex-wordy (upper c) (leb-true 65 (upper c) x) (leb-true (upper c) 70 y), wordy-upper c))
    go false true false q x y = refl
    go false false b q x y = refl

-- RUNS

-- a run of word characters in upper case is one
run-upper : (s : List ℕ) → while wordy (map upper (while wordy s)) ≡ map upper (while wordy s)
unfolding while
run-upper [] = refl
run-upper (c ∷ s) = go (wordy c) refl (run-upper s)
  where
    again : (b : Bool) → wordy (upper c) ≡ b → b ≡ true → while wordy (map upper (while wordy s)) ≡ map upper (while wordy s) → (elim b as (λ x. List ℕ) [ true ↦ upper c ∷ while wordy (map upper (while wordy s)) | false ↦ [] ]) ≡ upper c ∷ map upper (while wordy s)
    again true q r ih = ap (λ (x : List ℕ). upper c ∷ x) ih
    again false q r ih = never cc

    go : (b : Bool) → wordy c ≡ b → while wordy (map upper (while wordy s)) ≡ map upper (while wordy s) → while wordy (map upper (elim b as (λ x. List ℕ) [ true ↦ c ∷ while wordy s | false ↦ [] ])) ≡ map upper (elim b as (λ x. List ℕ) [ true ↦ c ∷ while wordy s | false ↦ [] ])
    go true q ih = again (wordy (upper c)) refl (wordy-upper c ∙ q) ih
    go false q ih = refl

-- the run begins as its source does, for a class that upper case keeps and that has word characters only
run-begins : (p : ℕ → Bool) → ((c : ℕ) → p (upper c) ≡ p c) → ((c : ℕ) → wordy c ≡ false → p c ≡ false) → (s : List ℕ) → begins p (map upper (while wordy s)) ≡ begins p s
unfolding begins while
run-begins p u w [] = refl
run-begins p u w (c ∷ s) = go (wordy c) refl
  where
    go : (b : Bool) → wordy c ≡ b → begins p (map upper (elim b as (λ x. List ℕ) [ true ↦ c ∷ while wordy s | false ↦ [] ])) ≡ p c
    go true q = u c
    go false q = sym (w c q)

-- what follows the digits
after-digits : (s : List ℕ) → begins wordy (drop (length (while digit (map upper (while wordy s)))) (map upper (while wordy s))) ≡ begins wordy (drop (length (while digit s)) s)
unfolding begins while
after-digits [] = refl
after-digits (c ∷ s) = by_word (wordy c) (digit c) refl refl (after-digits s)
  where
    inner : (e d : Bool) → digit (upper c) ≡ e → e ≡ d → begins wordy (drop (length (while digit (map upper (while wordy s)))) (map upper (while wordy s))) ≡ begins wordy (drop (length (while digit s)) s)
        → begins wordy (drop (length {A = ℕ} (elim e as (λ x. List ℕ) [ true ↦ upper c ∷ while digit (map upper (while wordy s)) | false ↦ [] ])) (upper c ∷ map upper (while wordy s))) ≡ begins wordy (drop (length {A = ℕ} (elim d as (λ x. List ℕ) [ true ↦ c ∷ while digit s | false ↦ [] ])) (c ∷ s))
    inner true true x q ih = ih
    inner true false x q ih = never cc
    inner false true x q ih = never cc
    inner false false x q ih = wordy-upper c

    by_word : (b d : Bool) → wordy c ≡ b → digit c ≡ d → begins wordy (drop (length (while digit (map upper (while wordy s)))) (map upper (while wordy s))) ≡ begins wordy (drop (length (while digit s)) s)
        → begins wordy (drop (length (while digit (map upper (elim b as (λ x. List ℕ) [ true ↦ c ∷ while wordy s | false ↦ [] ])))) (map upper (elim b as (λ x. List ℕ) [ true ↦ c ∷ while wordy s | false ↦ [] ]))) ≡ begins wordy (drop (length {A = ℕ} (elim d as (λ x. List ℕ) [ true ↦ c ∷ while digit s | false ↦ [] ])) (c ∷ s))
    by_word true d q r ih = inner (digit (upper c)) d refl (digit-upper c ∙ r) ih
    by_word false true q r ih = never (cc (digit-wordy c q))
    by_word false false q r ih = sym q

not-minus : (c : ℕ) → wordy c ≡ true → eqb c 45 ≡ false
unfolding wordy digit letter
not-minus c w = go (eqb c 45) refl
  where
    go : (b : Bool) → eqb c 45 ≡ b → b ≡ false
    go true q = never (cc (sym w ∙ ap wordy (eqb-true c 45 q)))
    go false q = refl

not-hash : (c : ℕ) → letter c ≡ true → eqb c 35 ≡ false
unfolding letter
not-hash c w = go (eqb c 35) refl
  where
    go : (b : Bool) → eqb c 35 ≡ b → b ≡ false
    go true q = never (cc (sym w ∙ ap letter (eqb-true c 35 q)))
    go false q = refl

begins-plain : (s : List ℕ) → begins (is "-") (map upper (while wordy s)) ≡ false
unfolding begins while
begins-plain [] = refl
begins-plain (c ∷ s) = go (wordy c) refl
  where
    go : (b : Bool) → wordy c ≡ b → begins (is "-") (map upper (elim b as (λ x. List ℕ) [ true ↦ c ∷ while wordy s | false ↦ [] ])) ≡ false
    go true q = not-minus (upper c) (wordy-upper c ∙ q)
    go false q = refl

-- WHAT IS NO WORD
abbrev Other : Found → Type 0
Other f = (w : List ℕ) → f ≡ token (word w) → ⊥

digits-other : (f : Form) → ((n : ℕ) → Other (token (f.kind n))) → (n : ℕ) (s : List ℕ) → Other (digits f n s)
unfolding digits
digits-other f h n [] = h n
digits-other f h n (c ∷ s) = either Other (leb f.base (value c)) (λ w e. (never cc)) (either Other (ltb f.bound (n * f.base + value c)) (λ w e. (never cc)) (digits-other f h (n * f.base + value c) s))

number-other : (n : ℕ) (f : Form) → ((n : ℕ) → Other (token (f.kind n))) → (s : List ℕ) → Other (number_after n f s).found
unfolding number_after read
number-other n f h s = go (while wordy s)
  where
    go : (r : List ℕ) → Other (read f r)
    go [] = λ w e. (never cc)
    go (c ∷ r) = digits-other f h 0 (c ∷ r)

dec-other : (n : ℕ) (s : List ℕ) → Other (number_after n dec s).found
unfolding dec
dec-other n s = number-other n dec (λ k w e. (never cc)) s

dec_neg-other : (n : ℕ) (s : List ℕ) → Other (number_after n dec_neg s).found
unfolding dec_neg
dec_neg-other n s = number-other n dec_neg (λ k w e. (never cc)) s

hex-other : (n : ℕ) (s : List ℕ) → Other (number_after n hex s).found
unfolding hex
hex-other n s = number-other n hex (λ k w e. (never cc)) s

hex_neg-other : (n : ℕ) (s : List ℕ) → Other (number_after n hex_neg s).found
unfolding hex_neg
hex_neg-other n s = number-other n hex_neg (λ k w e. (never cc)) s

reg-other : (n : ℕ) (s : List ℕ) → Other (number_after n reg s).found
unfolding reg
reg-other n s = number-other n reg (λ k w e. (never cc)) s

wrong-other : (n : ℕ) (s : List ℕ) → Other (wrong_after n s).found
unfolding wrong_after
wrong-other n s = λ w e. (never cc)

-- WORDS AGAIN

-- the word that a match is, read anew from its own text
pub record Again (m : Match) (w : List ℕ) : Type 0 where
  pub first : ℕ
  pub rest : List ℕ
  pub is : w ≡ first ∷ rest
  pub same : token_at first rest ≡ match (token (word w)) (length w)

abbrev Reads : Match → Type 0
Reads m = (w : List ℕ) → m.found ≡ token (word w) → Again m w

other-reads : (m : Match) → Other m.found → Reads m
other-reads m h w e = absurd (h w e)

twice : (s : List ℕ) → map upper (map upper s) ≡ map upper s
twice [] = refl
twice (c ∷ s) = (let p = upper-twice c in let q = twice s in λ i. p i ∷ q i)

-- a word from c on, where its text is read as a word too
module _ (c : ℕ) (s : List ℕ) (y : wordy c ≡ true) (h : token_at (upper c) (map upper (while wordy s)) ≡ word_at (upper c ∷ map upper (while wordy s))) where
  whole : while wordy (c ∷ s) ≡ c ∷ while wordy s
  unfolding while
  whole = go (wordy c) y
    where
      go : (b : Bool) → b ≡ true → (elim b as (λ x. List ℕ) [ true ↦ c ∷ while wordy s | false ↦ [] ]) ≡ c ∷ while wordy s
      go true q = refl
      go false q = never cc

  text-again : word_at (upper c ∷ map upper (while wordy s)) ≡ match (token (word (upper c ∷ map upper (while wordy s)))) (length (upper c ∷ map upper (while wordy s)))
  unfolding word_at
  text-again =
      let r : while wordy (upper c ∷ map upper (while wordy s)) ≡ upper c ∷ map upper (while wordy s) = rw whole at (run-upper (c ∷ s)) in
      let u : map upper (upper c ∷ map upper (while wordy s)) ≡ upper c ∷ map upper (while wordy s) = twice (c ∷ while wordy s) in
      rw (r, u)

  word-reads : Reads (word_at (c ∷ s))
  unfolding word_at
  word-reads w e =
      let q : map upper (while wordy (c ∷ s)) ≡ w = cc in
      let i : w ≡ upper c ∷ map upper (while wordy s) = sym q ∙ ap (map upper) whole in
      record { first = upper c; rest = map upper (while wordy s); is = i; same = rw i (h ∙ text-again) }

letter-wordy : (c : ℕ) → letter c ≡ true → wordy c ≡ true
unfolding wordy
letter-wordy c e = go (digit c) (letter c) e
  where
    go : (a b : Bool) → b ≡ true → (a || b) ≡ true
    go true b q = refl
    go false b q = q

-- a byte whose upper case is a letter
upper-wordy : (c d : ℕ) → upper c ≡ d → wordy d ≡ true → wordy c ≡ true
upper-wordy c d e w = sym (wordy-upper c) ∙ (ap wordy e ∙ w)

X-wordy : wordy 88 ≡ true
unfolding wordy digit letter
X-wordy = refl

R-wordy : wordy 82 ≡ true
unfolding wordy digit letter
R-wordy = refl

X-token : (s : List ℕ) → token_at 88 s ≡ after_x 88 s
unfolding token_at digit upper when◌then◌else◌
X-token s = refl

R-token : (s : List ℕ) → token_at 82 s ≡ after_r 82 s
unfolding token_at digit upper when◌then◌else◌
R-token s = refl

X-reads : (c : ℕ) (s : List ℕ) → upper c ≡ 88 → Reads (after_x c s)
unfolding after_x when◌then◌else◌
X-reads c s q = either Reads (begins (is "-") s) (other-reads _ (hex_neg-other 2 (drop 1 s))) (go (begins (λ d. ltb (value d) 16) s) refl)
  where
    text : begins (λ d. ltb (value d) 16) s ≡ false → token_at (upper c) (map upper (while wordy s)) ≡ word_at (upper c ∷ map upper (while wordy s))
    text e =
        let b : begins (λ d. ltb (value d) 16) (map upper (while wordy s)) ≡ false = run-begins (λ d. ltb (value d) 16) (λ d. ap (λ (x : ℕ). ltb x 16) (value-upper d)) plain_value s ∙ e in
        rw q (X-token (map upper (while wordy s)) ∙ X-word (begins (is "-") (map upper (while wordy s))) (begins (λ d. ltb (value d) 16) (map upper (while wordy s))) (begins-plain s) b)
      where
        X-word : (x y : Bool) → x ≡ false → y ≡ false → (when x then number_after 2 hex_neg (drop 1 (map upper (while wordy s))) else (when y then number_after 1 hex (map upper (while wordy s)) else word_at (88 ∷ map upper (while wordy s)))) ≡ word_at (88 ∷ map upper (while wordy s))
        X-word x y e f = rw (e, f)

    go : (b : Bool) → begins (λ d. ltb (value d) 16) s ≡ b → Reads (when b then number_after 1 hex s else word_at (c ∷ s))
    go true e = other-reads _ (hex-other 1 s)
    go false e = word-reads c s (upper-wordy c 88 q X-wordy) (text e)

R-reads : (c : ℕ) (s : List ℕ) → upper c ≡ 82 → Reads (after_r c s)
unfolding after_r when◌then◌else◌
R-reads c s q = go (begins digit s && not (begins wordy (drop (length (while digit s)) s))) refl
  where
    same_test : (begins digit (map upper (while wordy s)) && not (begins wordy (drop (length (while digit (map upper (while wordy s)))) (map upper (while wordy s))))) ≡ (begins digit s && not (begins wordy (drop (length (while digit s)) s)))
    same_test = let a = run-begins digit digit-upper digit-wordy s in let b = after-digits s in λ i. a i && not (b i)

    R-word : (x : Bool) → x ≡ false → (when x then number_after 1 reg (map upper (while wordy s)) else word_at (82 ∷ map upper (while wordy s))) ≡ word_at (82 ∷ map upper (while wordy s))
    R-word x e = rw e

    go : (b : Bool) → (begins digit s && not (begins wordy (drop (length (while digit s)) s))) ≡ b → Reads (when b then number_after 1 reg s else word_at (c ∷ s))
    go true e = other-reads _ (reg-other 1 s)
    go false e = word-reads c s (upper-wordy c 82 q R-wordy) (rw q (R-token (map upper (while wordy s)) ∙ R-word _ (same_test ∙ e)))

-- a letter that is neither
letter-token : (u : ℕ) (s : List ℕ) → digit u ≡ false → letter u ≡ true → eqb (upper u) 88 ≡ false → eqb (upper u) 82 ≡ false → token_at u s ≡ word_at (u ∷ s)
unfolding token_at when◌then◌else◌
letter-token u s d l x r = rw (d, not-hash u l, not-minus u (letter-wordy u l), x, r, l)

letter-reads : (c : ℕ) (s : List ℕ) → digit c ≡ false → letter c ≡ true → eqb (upper c) 88 ≡ false → eqb (upper c) 82 ≡ false → Reads (word_at (c ∷ s))
letter-reads c s d l x r = word-reads c s (letter-wordy c l) (letter-token (upper c) (map upper (while wordy s)) (digit-upper c ∙ d) (letter-upper c ∙ l) (ap (λ (v : ℕ). eqb v 88) (upper-twice c) ∙ x) (ap (λ (v : ℕ). eqb v 82) (upper-twice c) ∙ r))

hash-other : (s : List ℕ) → Reads (after_hash s)
unfolding after_hash
hash-other s = either Reads (begins (is "-") s) (other-reads _ (dec_neg-other 2 (drop 1 s))) (either Reads (eqb (length (while (is "#") s)) 0) (other-reads _ (dec-other 1 s)) (either Reads (begins (is "-") (drop (length (while (is "#") s)) s)) (other-reads _ (wrong-other _ _)) (other-reads _ (wrong-other _ _))))

minus-other : (s : List ℕ) → Reads (after_minus s)
unfolding after_minus
minus-other s = either Reads (eqb (length (while (is "#") s)) 0) (other-reads _ (dec_neg-other 1 s)) (other-reads _ (wrong-other _ _))

directive-other : (s : List ℕ) → Reads (directive_after s)
unfolding directive_after
directive-other s = other-reads _ (λ w e. (never cc))

quote-other : (s : List ℕ) → Reads (after_quote s)
unfolding after_quote when◌then◌else◌
quote-other s = go (quoted false (line s))
  where
    fits : (b : Bool) (t : List ℕ) (n : ℕ) → Reads (match (when b then token (text t) else bad 8) n)
    fits true t n = other-reads _ (λ w e. (never cc))
    fits false t n = other-reads _ (λ w e. (never cc))

    go : (q : Quoted) → Reads (elim q as (λ x. Match) [
      | open' ↦ match (bad 7) (1 + length (line s))
      | closed t n ↦ match (when leb (length t) 65534 then token (text t) else bad 8) (1 + n)
    ])
    go open' = other-reads _ (λ w e. (never cc))
    go (closed t n) = fits (leb (length t) 65534) t (1 + n)

plain-match : (f : Found) (n : ℕ) → Other f → Reads (match f n)
plain-match f n h = other-reads (match f n) h

-- what begins with a byte that is no letter, digit, `#` or `-`
abbrev others : ℕ → List ℕ → Match
others c s =
    when is "." c then directive_after s
    else when is "\"" c then after_quote s
    else when is ":" c then match (token (mark c)) 1
    else when is "," c then match (token (mark c)) 1
    else when is ";" c then match blank (1 + length (while (λ d. not (is "\n" d)) s))
    else when is "\n" c then match (token (mark c)) 1
    else when is "\r" c && begins (is "\n") s then match (token (mark 10)) 2
    else when space c then match blank (1 + length (while space s))
    else match (bad 10) 1

mark-other : (n m : ℕ) → Reads (match (token (mark n)) m)
mark-other n m = plain-match (token (mark n)) m (λ w e. (never cc))

blank-other : (m : ℕ) → Reads (match blank m)
blank-other m = plain-match blank m (λ w e. (never cc))

bad-other : (n m : ℕ) → Reads (match (bad n) m)
bad-other n m = plain-match (bad n) m (λ w e. (never cc))

others-read : (c : ℕ) (s : List ℕ) → Reads (others c s)
others-read c s =
    let spaces = either Reads (space c) (blank-other (1 + length (while space s))) (bad-other 10 1) in
    let returns = either Reads (is "\r" c && begins (is "\n") s) (mark-other 10 2) spaces in
    let lines = either Reads (is "\n" c) (mark-other c 1) returns in
    let comments = either Reads (is ";" c) (blank-other (1 + length (while (λ d. not (is "\n" d)) s))) lines in
    let commas = either Reads (is "," c) (mark-other c 1) comments in
    let colons = either Reads (is ":" c) (mark-other c 1) commas in
    let quotes = either Reads (is "\"" c) (quote-other s) colons in
    either Reads (is "." c) (directive-other s) quotes

pub word-again : (c : ℕ) (s : List ℕ) → Reads (token_at c s)
unfolding token_at when◌then◌else◌
word-again c s = by-digit (digit c) refl
  where
    by-letter : digit c ≡ false → is "X" (upper c) ≡ false → is "R" (upper c) ≡ false → (b : Bool) → letter c ≡ b → Reads (when b then word_at (c ∷ s) else others c s)
    by-letter d x r true l = letter-reads c s d l x r
    by-letter d x r false l = others-read c s

    by-R : digit c ≡ false → is "X" (upper c) ≡ false → (b : Bool) → is "R" (upper c) ≡ b → Reads (when b then after_r c s else when letter c then word_at (c ∷ s) else others c s)
    by-R d x true r = R-reads c s (eqb-true (upper c) 82 r)
    by-R d x false r = by-letter d x r (letter c) refl

    by-X : digit c ≡ false → (b : Bool) → is "X" (upper c) ≡ b → Reads (when b then after_x c s else when is "R" (upper c) then after_r c s else when letter c then word_at (c ∷ s) else others c s)
    by-X d true x = X-reads c s (eqb-true (upper c) 88 x)
    by-X d false x = by-R d x (is "R" (upper c)) refl

    by-digit : (b : Bool) → digit c ≡ b → Reads (when b then number_after 0 dec (c ∷ s) else when is "#" c then after_hash s else when is "-" c then after_minus s else when is "X" (upper c) then after_x c s else when is "R" (upper c) then after_r c s else when letter c then word_at (c ∷ s) else others c s)
    by-digit true d = other-reads _ (dec-other 0 (c ∷ s))
    by-digit false d = either Reads (is "#" c) (hash-other s) (either Reads (is "-" c) (minus-other s) (by-X d (is "X" (upper c)) refl))

-- THE THEOREM: a label token's text is a good name

same_refl : (w : List ℕ) → same w w ≡ true
same_refl [] = refl
same_refl (c ∷ w) = rw (eq-eqb c c refl) (same_refl w)

label-good : (w : List ℕ) → find w instructions ≡ none → label_word w (token (word w)) ≡ true
unfolding label_word as_label as_word
label-good w f = go (find w instructions) f
  where
    go : (o : Option Row) → o ≡ none → ◌≡◌ {A = Bool} (elim (elim o as (λ x. Option (List ℕ)) [ none ↦ some w | some r ↦ none ]) [ none ↦ false | some u ↦ same w u ]) true
    go none e = same_refl w
    go (some r) e = absurd (none-some (sym e))

token-good : (d : ℕ) (t u : List ℕ) → u ≡ d ∷ t → token_at d t ≡ match (token (word u)) (length u) → find u instructions ≡ none → label_token u ≡ true
unfolding label_token
token-good d t u i h f =
    let k : token_at d t ≡ match (token (word (d ∷ t))) (length (d ∷ t)) = rw i at h in
    let g : label_word (d ∷ t) (token (word (d ∷ t))) ≡ true = label-good (d ∷ t) (rw i at f) in
    rw (i, k, eq-eqb (length (d ∷ t)) (length (d ∷ t)) refl) g

pub word_good : (c : ℕ) (s w : List ℕ) (n : ℕ) → token_at c s ≡ match (token (word w)) n → find w instructions ≡ none → length w ≤ 64 → good_name w ≡ true
unfolding good_name
word_good c s w n e f l =
    let a = word-again c s w (ap (λ (m : Match). m.found) e) in
    rw (token-good a.first a.rest w a.is a.same f, le-leb (length w) 64 l)
