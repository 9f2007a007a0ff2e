-- What a token's match shows of the bytes that it covers. Assumes nothing.
use Prim.Native.Nat.{ℕ, ◌+◌, ◌-◌, ◌*◌}
use mathlib.Core.Path.{◌≡◌, refl, ap}
use mathlib.Core.Bool.{Bool, true, false}
use mathlib.Core.List.{List, [], ◌∷◌, map}
use mathlib.Core.Logic.{◌⊎◌, inl, inr}
use native.Mathlib.Omega.{arith}
use lib.Dec.{leb, eqb}
use borrow.Author.Tests.{eqb-true}
use lib.ListN.{length, drop, take}
use Rattle.rules.specs.Base.{when◌then◌else◌}
use Rattle.rules.specs.Tokens.{Kind, number, register, mark, word, directive, text, Found, token, blank, bad, Match, match, Form, while, wordy, upper, value, digits, read, dec, dec_neg, hex, hex_neg, reg, number_after, wrong_after, word_at, directive_after, after_hash, after_minus, after_x, after_r, Quoted, open', closed, quoted, line, after_quote, token_at}
use Rattle.rules.proofs.Bools.{either, either-if}

-- the characters of a string; none of one that has no end
unfoldable pub chars : Quoted → List ℕ
chars open' = []
chars (closed t n) = t

-- of n bytes that the list l begins with
abbrev pub Tells : List ℕ → ℕ → Kind → Type 0
Tells l n (number x) = Unit {0}
Tells l n (register x) = Unit {0}
Tells l n (mark c) = (c ≡ 58) ⊎ ((c ≡ 44) ⊎ (c ≡ 10))
Tells l n (word w) = w ≡ map upper (take n l)
Tells l n (directive w) = w ≡ map upper (take (n - 1) (drop 1 l))
Tells l n (text t) = t ≡ chars (quoted false (line (drop 1 l)))

abbrev pub Shows : List ℕ → ℕ → Found → Type 0
Shows l n (token k) = Tells l n k
Shows l n blank = Unit {0}
Shows l n (bad m) = Unit {0}

abbrev Right : List ℕ → Match → Type 0
Right l m = Shows l m.size m.found

-- the longest beginning is as many bytes of the list
pub take_while : (p : ℕ → Bool) (l : List ℕ) → while p l ≡ take (length (while p l)) l
unfolding while
take_while p [] = refl
take_while p (c ∷ l) = go (p c) (take_while p l)
  where
    go : (b : Bool) → while p l ≡ take (length (while p l)) l → (elim b [ true ↦ c ∷ while p l | false ↦ [] ]) ≡ take (length {A = ℕ} (elim b [ true ↦ c ∷ while p l | false ↦ [] ])) (c ∷ l)
    go true e = ap (λ (t : List ℕ). c ∷ t) e
    go false e = refl

module _ (l : List ℕ) where
  digits-right : (k : ℕ) (f : Form) → ((x : ℕ) → Tells l k (f.kind x)) → (n : ℕ) (s : List ℕ) → Shows l k (digits f n s)
  unfolding digits
  digits-right k f h n [] = h n
  digits-right k f h n (c ∷ s) = either (Shows l k) _ tt (either (Shows l k) _ tt (digits-right k f h (n * f.base + value c) s))

  read_right : (k : ℕ) (f : Form) → ((x : ℕ) → Tells l k (f.kind x)) → (s : List ℕ) → Shows l k (read f s)
  unfolding read
  read_right k f h [] = tt
  read_right k f h (c ∷ s) = digits-right k f h 0 (c ∷ s)

  number-right : (n : ℕ) (f : Form) → ((k x : ℕ) → Tells l k (f.kind x)) → (s : List ℕ) → Right l (number_after n f s)
  unfolding number_after
  number-right n f h s = read_right (n + length (while wordy s)) f (h (n + length (while wordy s))) (while wordy s)

  dec-right : (n : ℕ) (s : List ℕ) → Right l (number_after n dec s)
  unfolding dec
  dec-right n s = number-right n dec (λ k x. tt) s

  dec_neg-right : (n : ℕ) (s : List ℕ) → Right l (number_after n dec_neg s)
  unfolding dec_neg
  dec_neg-right n s = number-right n dec_neg (λ k x. tt) s

  hex-right : (n : ℕ) (s : List ℕ) → Right l (number_after n hex s)
  unfolding hex
  hex-right n s = number-right n hex (λ k x. tt) s

  hex_neg-right : (n : ℕ) (s : List ℕ) → Right l (number_after n hex_neg s)
  unfolding hex_neg
  hex_neg-right n s = number-right n hex_neg (λ k x. tt) s

  reg-right : (n : ℕ) (s : List ℕ) → Right l (number_after n reg s)
  unfolding reg
  reg-right n s = number-right n reg (λ k x. tt) s

  wrong-right : (n : ℕ) (s : List ℕ) → Right l (wrong_after n s)
  unfolding wrong_after
  wrong-right n s = tt

  word-right : Right l (word_at l)
  unfolding word_at
  word-right = ap (map upper) (take_while wordy l)

  hash-right : (s : List ℕ) → Right l (after_hash s)
  unfolding after_hash
  hash-right s =
      either (Right l) _ (dec_neg-right 2 (drop 1 s))
      (either (Right l) _ (dec-right 1 s)
      (either (Right l) _ (wrong-right _ _) (wrong-right _ _)))

  minus-right : (s : List ℕ) → Right l (after_minus s)
  unfolding after_minus
  minus-right s = either (Right l) _ (dec_neg-right 1 s) (wrong-right _ _)

module _ (c : ℕ) (s : List ℕ) where
  abbrev Here : Match → Type 0
  Here = Right (c ∷ s)

  x-right : Here (after_x c s)
  unfolding after_x
  x-right = either Here _ (hex_neg-right (c ∷ s) 2 (drop 1 s)) (either Here _ (hex-right (c ∷ s) 1 s) (word-right (c ∷ s)))

  r-right : Here (after_r c s)
  unfolding after_r
  r-right = either Here _ (reg-right (c ∷ s) 1 s) (word-right (c ∷ s))

  directive-right : Here (directive_after s)
  unfolding directive_after
  directive-right =
      let e : 1 + length (while wordy s) - 1 ≡ length (while wordy s) = omega arith in
      rw e (ap (map upper) (take_while wordy s))

  quote-right : Here (after_quote s)
  unfolding after_quote chars
  quote-right = go (quoted false (line s)) refl
    where
      go : (q : Quoted) → quoted false (line s) ≡ q → Here (elim q [ open' ↦ match (bad 7) (1 + length (line s)) | closed t n ↦ match (when leb (length t) 65534 then token (text t) else bad 8) (1 + n) ])
      go open' e = tt
      go (closed t n) e = either (Shows (c ∷ s) (1 + n)) (leb (length t) 65534) (rw e refl) tt

  mark-right : (k n : ℕ) → eqb c k ≡ true → (k ≡ 58) ⊎ ((k ≡ 44) ⊎ (k ≡ 10)) → Here (match (token (mark c)) n)
  mark-right k n e h = rw (eqb-true c k e) h

  pub token-right : Here (token_at c s)
  unfolding token_at
  token-right =
      either Here _ (dec-right (c ∷ s) 0 (c ∷ s))
      (either Here _ (hash-right (c ∷ s) s)
      (either Here _ (minus-right (c ∷ s) s)
      (either Here _ x-right
      (either Here _ r-right
      (either Here _ (word-right (c ∷ s))
      (either Here _ directive-right
      (either Here _ quote-right
      (either-if Here _ (λ e. mark-right 58 1 e (inl refl))
      (either-if Here _ (λ e. mark-right 44 1 e (inr (inl refl)))
      (either Here _ tt
      (either-if Here _ (λ e. mark-right 10 1 e (inr (inr refl)))
      (either Here _ (inr (inr refl))
      (either Here _ tt tt)))))))))))))
