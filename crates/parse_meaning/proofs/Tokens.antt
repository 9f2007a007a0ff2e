-- What a token that was read is: a register is at most 7, and a string's characters stand after its quote. Assumes nothing.
use mathlib.Core.Path.{◌≡◌, refl, sym}
use mathlib.Core.Bool.{Bool, true, false}
use mathlib.Core.List.{List, [], ◌∷◌}
use Prim.Native.Nat.{ℕ, ◌+◌, ◌*◌, ◌≤◌}
use native.Mathlib.Omega.{arith}
use borrow.Author.Tests.{ltb-false}
use lib.Dec.{leb, ltb}
use lib.ListN.{length, drop, get_or}
use Rattle.rules.specs.Base.{when◌then◌else◌, Outcome, ok, refused}
use Rattle.rules.specs.Tokens.{Kind, number, register, mark, word, directive, text, Found, token, blank, bad, Match, match, Form, while, wordy, value, digits, read, dec, dec_neg, hex, hex_neg, reg, number_after, wrong_after, word_at, directive_after, after_hash, after_minus, after_x, after_r, Quoted, open', closed, quoted, line, after_quote, token_at, Token, next_token}
use Rattle.rules.proofs.Bools.{either}
use Rattle.rules.proofs.Next.{next-induction}
use Rattle.base_text.specs.Runs.{from}
use Rattle.parse_meaning.specs.Reading.{chars_at}
use Rattle.parse_meaning.proofs.Chars.{chars-closed}

-- of a token whose bytes after the first begin the list l
abbrev Means : List ℕ → Kind → Type 0
Means l (number x) = Unit {0}
Means l (register x) = x ≤ 7
Means l (mark c) = Unit {0}
Means l (word w) = Unit {0}
Means l (directive w) = Unit {0}
Means l (text t) = (m : ℕ) × (quoted false (line l) ≡ closed t m)

abbrev Finds : List ℕ → Found → Type 0
Finds l (token k) = Means l k
Finds l blank = Unit {0}
Finds l (bad m) = Unit {0}

module _ (l : List ℕ) where
  abbrev Here : Match → Type 0
  Here m = Finds l m.found

  -- a number stays within its form's bound
  digits-mean : (f : Form) → ((x : ℕ) → x ≤ f.bound → Means l (f.kind x)) → (n : ℕ) → n ≤ f.bound → (s : List ℕ) → Finds l (digits f n s)
  unfolding digits when◌then◌else◌
  digits-mean f h n b [] = h n b
  digits-mean f h n b (c ∷ s) = either (Finds l) (leb f.base (value c)) tt (go (ltb f.bound (n * f.base + value c)) refl (λ q. digits-mean f h (n * f.base + value c) q s))
    where
      go : (t : Bool) → ltb f.bound (n * f.base + value c) ≡ t → (n * f.base + value c ≤ f.bound → Finds l (digits f (n * f.base + value c) s)) → Finds l (when t then bad f.over else digits f (n * f.base + value c) s)
      go true e again = tt
      go false e again = again (ltb-false _ _ e)

  read-means : (f : Form) → ((x : ℕ) → x ≤ f.bound → Means l (f.kind x)) → (s : List ℕ) → Finds l (read f s)
  unfolding read
  read-means f h [] = tt
  read-means f h (c ∷ s) = digits-mean f h 0 (omega arith) (c ∷ s)

  number-means : (n : ℕ) (f : Form) → ((x : ℕ) → x ≤ f.bound → Means l (f.kind x)) → (s : List ℕ) → Here (number_after n f s)
  unfolding number_after
  number-means n f h s = read-means f h (while wordy s)

  dec-means : (n : ℕ) (s : List ℕ) → Here (number_after n dec s)
  unfolding dec
  dec-means n s = number-means n dec (λ x b. tt) s

  dec_neg-means : (n : ℕ) (s : List ℕ) → Here (number_after n dec_neg s)
  unfolding dec_neg
  dec_neg-means n s = number-means n dec_neg (λ x b. tt) s

  hex-means : (n : ℕ) (s : List ℕ) → Here (number_after n hex s)
  unfolding hex
  hex-means n s = number-means n hex (λ x b. tt) s

  hex_neg-means : (n : ℕ) (s : List ℕ) → Here (number_after n hex_neg s)
  unfolding hex_neg
  hex_neg-means n s = number-means n hex_neg (λ x b. tt) s

  reg-means : (n : ℕ) (s : List ℕ) → Here (number_after n reg s)
  unfolding reg
  reg-means n s = number-means n reg (λ x b. b) s

  wrong-means : (n : ℕ) (s : List ℕ) → Here (wrong_after n s)
  unfolding wrong_after
  wrong-means n s = tt

  word-means : (s : List ℕ) → Here (word_at s)
  unfolding word_at
  word-means s = tt

  hash-means : (s : List ℕ) → Here (after_hash s)
  unfolding after_hash
  hash-means s =
      either Here _ (dec_neg-means 2 (drop 1 s))
      (either Here _ (dec-means 1 s)
      (either Here _ (wrong-means _ _) (wrong-means _ _)))

  minus-means : (s : List ℕ) → Here (after_minus s)
  unfolding after_minus
  minus-means s = either Here _ (dec_neg-means 1 s) (wrong-means _ _)

  directive-means : (s : List ℕ) → Here (directive_after s)
  unfolding directive_after
  directive-means s = tt

  x-means : (c : ℕ) (s : List ℕ) → Here (after_x c s)
  unfolding after_x
  x-means c s = either Here _ (hex_neg-means 2 (drop 1 s)) (either Here _ (hex-means 1 s) (word-means (c ∷ s)))

  r-means : (c : ℕ) (s : List ℕ) → Here (after_r c s)
  unfolding after_r
  r-means c s = either Here _ (reg-means 1 s) (word-means (c ∷ s))

  quote-means : Here (after_quote l)
  unfolding after_quote
  quote-means = go (quoted false (line l)) refl
    where
      go : (q : Quoted) → quoted false (line l) ≡ q → Here (elim q [ open' ↦ match (bad 7) (1 + length (line l)) | closed t n ↦ match (when leb (length t) 65534 then token (text t) else bad 8) (1 + n) ])
      go open' e = tt
      go (closed t n) e = either (Finds l) (leb (length t) 65534) (n, e) tt

  token-means : (c : ℕ) → Here (token_at c l)
  unfolding token_at
  token-means c =
      either Here _ (dec-means 0 (c ∷ l))
      (either Here _ (hash-means l)
      (either Here _ (minus-means l)
      (either Here _ (x-means c l)
      (either Here _ (r-means c l)
      (either Here _ (word-means (c ∷ l))
      (either Here _ (directive-means l)
      (either Here _ quote-means
      (either Here _ tt
      (either Here _ tt
      (either Here _ tt
      (either Here _ tt
      (either Here _ tt
      (either Here _ tt tt)))))))))))))

-- OF THE NEXT TOKEN: its place rises, too
abbrev Right : List ℕ → Kind → ℕ → Type 0
Right s (number x) i = Unit {0}
Right s (register x) i = x ≤ 7
Right s (mark c) i = Unit {0}
Right s (word w) i = Unit {0}
Right s (directive w) i = Unit {0}
Right s (text t) i = t ≡ chars_at s (i + 1)

abbrev Rights : List ℕ → Outcome Token → Type 0
Rights s (ok t) = (t.place.start ≤ t.place.stop) × Right s t.kind t.place.start
Rights s (refused r) = Unit {0}

right : (s : List ℕ) (i : ℕ) (k : Kind) → Means (drop (i + 1) s) k → Right s k i
unfolding from
right s i (number x) h = tt
right s i (register x) h = h
right s i (mark c) h = tt
right s i (word w) h = tt
right s i (directive w) h = tt
right s i (text t) h = sym (chars-closed s t (i + 1) h.0 h.1)

rights : (s : List ℕ) (i : ℕ) → Rights s (next_token s i)
rights s = next-induction s (λ i o. Rights s o) (λ i h. (omega arith, tt)) (λ i n k h e l u w. (omega arith, right s i k (ap-found i n k e))) (λ i n m h e l u. tt) (λ i n h e l u q. q)
  where
    ap-found : (i n : ℕ) (k : Kind) → token_at (get_or s i 0) (drop (i + 1) s) ≡ match (token k) n → Means (drop (i + 1) s) k
    ap-found i n k e = rw e at (token-means (drop (i + 1) s) (get_or s i 0))

module _ (s : List ℕ) (i : ℕ) (t : Token) (e : next_token s i ≡ ok t) where
  here : (t.place.start ≤ t.place.stop) × Right s t.kind t.place.start
  here = rw e at (rights s i)

  pub token-rises : t.place.start ≤ t.place.stop
  token-rises = here.0

  pub register-small : (x : ℕ) → t.kind ≡ register x → x ≤ 7
  register-small x q = rw q at here.1

  pub text-stands : (c : List ℕ) → t.kind ≡ text c → c ≡ chars_at s (t.place.start + 1)
  text-stands c q = rw q at here.1
