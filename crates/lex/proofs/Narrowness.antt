-- What the rules tell of the next token has small numbers: a register's, a reserved word's code and a refusal's fit in a byte. Assumes nothing.
use Prim.Native.Nat.{ℕ, ◌+◌, ◌*◌, ◌≤◌}
use mathlib.Core.Path.{◌≡◌, refl, subst}
use mathlib.Core.Bool.{Bool, true, false}
use mathlib.Core.List.{List, [], ◌∷◌}
use mathlib.Core.Logic.{inl, inr}
use native.Mathlib.Omega.{arith}
use lib.Dec.{leb, ltb}
use borrow.Author.Tests.{ltb-false}
use lib.ListN.{length, drop, get_or}
use Rattle.rules.specs.Base.{when◌then◌else◌, Outcome, same}
use Rattle.rules.specs.Words.{Row, instructions}
use Rattle.rules.specs.Tokens.{plus, minus, Kind, number, register, mark, word, directive, text, Found, token, blank, bad, Match, match, Form, while, wordy, value, digits, read, dec, dec_neg, hex, hex_neg, reg, number_after, wrong_after, word_at, directive_after, after_hash, after_minus, after_x, after_r, Quoted, open', closed, quoted, line, after_quote, token_at, next_token}
use Rattle.rules.specs.Tokens as tokens
use Rattle.rules.proofs.Bools.{either}
use Rattle.rules.proofs.Instructions.{instructions-count}
use Rattle.rules.proofs.Shown.{Tells}
use Rattle.rules.proofs.Next.{next-induction}
use Rattle.lex_reserved.specs.Ident.{place_from, ident_of}
use Rattle.lex_token.specs.Coded.{marked, coded_as, coded}
use Rattle.lex_token.specs.Flat.{flat_ident, flat_next, Narrow}

-- a register or a refusal fits in a byte
abbrev Mild : Found → Type 0
Mild (token (register x)) = x ≤ 255
Mild (token (number x)) = Unit {0}
Mild (token (mark x)) = Unit {0}
Mild (token (word x)) = Unit {0}
Mild (token (directive x)) = Unit {0}
Mild (token (text x)) = Unit {0}
Mild blank = Unit {0}
Mild (bad m) = m ≤ 255

abbrev Calm : Match → Type 0
Calm m = Mild m.found

-- a form whose numbers up to its bound, and whose refusals, are mild
record Gentle (f : Form) : Type 0 where
  pub kinds : (x : ℕ) → x ≤ f.bound → Mild (token (f.kind x))
  pub wrong : f.wrong ≤ 255
  pub over : f.over ≤ 255
  pub none : f.none ≤ 255

module _ (f : Form) (g : Gentle f) where
  digits-mild : (n : ℕ) → n ≤ f.bound → (s : List ℕ) → Mild (digits f n s)
  unfolding digits when◌then◌else◌
  digits-mild n l [] = g.kinds n l
  digits-mild n l (c ∷ s) =
      either Mild (leb f.base (value c)) g.wrong
      (go (ltb f.bound (n * f.base + value c)) refl (λ (h : n * f.base + value c ≤ f.bound). digits-mild (n * f.base + value c) h s))
    where
      go : (b : Bool) → ltb f.bound (n * f.base + value c) ≡ b → (n * f.base + value c ≤ f.bound → Mild (digits f (n * f.base + value c) s)) → Mild (when b then bad f.over else digits f (n * f.base + value c) s)
      go true e ih = g.over
      go false e ih = ih (ltb-false _ _ e)

  read-mild : (s : List ℕ) → Mild (read f s)
  unfolding read
  read-mild [] = g.none
  read-mild (c ∷ s) = digits-mild 0 (omega arith) (c ∷ s)

  number-calm : (n : ℕ) (s : List ℕ) → Calm (number_after n f s)
  unfolding number_after
  number-calm n s = read-mild (while wordy s)

dec-gentle : Gentle dec
unfolding dec
dec-gentle = record { kinds = λ x l. tt; wrong = omega arith; over = omega arith; none = omega arith }

dec_neg-gentle : Gentle dec_neg
unfolding dec_neg
dec_neg-gentle = record { kinds = λ x l. tt; wrong = omega arith; over = omega arith; none = omega arith }

hex-gentle : Gentle hex
unfolding hex
hex-gentle = record { kinds = λ x l. tt; wrong = omega arith; over = omega arith; none = omega arith }

hex_neg-gentle : Gentle hex_neg
unfolding hex_neg
hex_neg-gentle = record { kinds = λ x l. tt; wrong = omega arith; over = omega arith; none = omega arith }

reg-gentle : Gentle reg
unfolding reg
reg-gentle = record { kinds = λ x l. omega arith; wrong = omega arith; over = omega arith; none = omega arith }

wrong-calm : (n : ℕ) (s : List ℕ) → Calm (wrong_after n s)
unfolding wrong_after
wrong-calm n s = omega arith

word-calm : (s : List ℕ) → Calm (word_at s)
unfolding word_at
word-calm s = tt

hash-calm : (s : List ℕ) → Calm (after_hash s)
unfolding after_hash
hash-calm s =
    either Calm _ (number-calm dec_neg dec_neg-gentle 2 (drop 1 s))
    (either Calm _ (number-calm dec dec-gentle 1 s)
    (either Calm _ (wrong-calm _ _) (wrong-calm _ _)))

minus-calm : (s : List ℕ) → Calm (after_minus s)
unfolding after_minus
minus-calm s = either Calm _ (number-calm dec_neg dec_neg-gentle 1 s) (wrong-calm _ _)

module _ (c : ℕ) (s : List ℕ) where
  x-calm : Calm (after_x c s)
  unfolding after_x
  x-calm = either Calm _ (number-calm hex_neg hex_neg-gentle 2 (drop 1 s)) (either Calm _ (number-calm hex hex-gentle 1 s) (word-calm (c ∷ s)))

  r-calm : Calm (after_r c s)
  unfolding after_r
  r-calm = either Calm _ (number-calm reg reg-gentle 1 s) (word-calm (c ∷ s))

  directive-calm : Calm (directive_after s)
  unfolding directive_after
  directive-calm = tt

  quote-calm : Calm (after_quote s)
  unfolding after_quote
  quote-calm = go (quoted false (line s))
    where
      go : (q : Quoted) → Calm (elim q [ open' ↦ match (bad 7) (1 + length (line s)) | closed t n ↦ match (when leb (length t) 65534 then token (text t) else bad 8) (1 + n) ])
      go open' = omega arith
      go (closed t n) = either Mild (leb (length t) 65534) tt (omega arith)

  token-calm : Calm (token_at c s)
  unfolding token_at
  token-calm =
      either Calm _ (number-calm dec dec-gentle 0 (c ∷ s))
      (either Calm _ (hash-calm s)
      (either Calm _ (minus-calm s)
      (either Calm _ x-calm
      (either Calm _ r-calm
      (either Calm _ (word-calm (c ∷ s))
      (either Calm _ directive-calm
      (either Calm _ quote-calm
      (either Calm _ tt
      (either Calm _ tt
      (either Calm _ tt
      (either Calm _ tt
      (either Calm _ tt
      (either Calm _ tt (omega arith))))))))))))))

-- a reserved word's code is its place among the instructions
code-small : (k : ℕ) (w : List ℕ) (rs : List Row) (a e : ℕ) → k + length rs ≤ 255 → Narrow (flat_ident (place_from k w rs) a e)
unfolding place_from
code-small k w [] a e l = record { known = omega arith; small = λ x. omega arith }
code-small k w (r ∷ rs) a e l =
    either (λ i. Narrow (flat_ident i a e)) (same w r.key)
    (record { known = omega arith; small = λ x. omega arith })
    (code-small (k + 1) w rs a e (omega arith))

module _ (s : List ℕ) where
  abbrev Kept : ℕ → Outcome tokens.Token → Type 0
  Kept i o = Narrow (flat_next (coded o))

  kept-token : (k : Kind) (a e n : ℕ) (l : List ℕ) → Mild (token k) → Tells l n k → Narrow (flat_next (coded_as k a e))
  unfolding coded_as marked when◌then◌else◌ ident_of
  kept-token (number (plus x)) a e n l m t = record { known = omega arith; small = λ x. omega arith }
  kept-token (number (minus x)) a e n l m t = record { known = omega arith; small = λ x. omega arith }
  kept-token (register x) a e n l m t = record { known = omega arith; small = λ y. m }
  kept-token (mark c) a e n l m (inl p) = rw p (record { known = omega arith; small = λ x. omega arith })
  kept-token (mark c) a e n l m (inr (inl p)) = rw p (record { known = omega arith; small = λ x. omega arith })
  kept-token (mark c) a e n l m (inr (inr p)) = rw p (record { known = omega arith; small = λ x. omega arith })
  kept-token (word w) a e n l m t = code-small 0 w instructions a e (omega (arith, instructions-count))
  kept-token (directive w) a e n l m t = record { known = omega arith; small = λ x. omega arith }
  kept-token (text w) a e n l m t = record { known = omega arith; small = λ x. omega arith }

  calm-at : (i n : ℕ) (f : Found) → token_at (get_or s i 0) (drop (i + 1) s) ≡ match f n → Mild f
  calm-at i n f e = subst Calm e (token-calm (get_or s i 0) (drop (i + 1) s))

  pub next-narrow : (at : ℕ) → Narrow (flat_next (coded (next_token s at)))
  unfolding coded coded_as marked when◌then◌else◌
  next-narrow at =
      next-induction s Kept
      (λ i h. record { known = omega arith; small = λ x. omega arith })
      (λ i n k h e l u t. kept-token k i (i + n) n (get_or s i 0 ∷ drop (i + 1) s) (calm-at i n (token k) e) t)
      (λ i n m h e l u. record { known = omega arith; small = λ x. calm-at i n (bad m) e })
      (λ i n h e l u p. p)
      at
