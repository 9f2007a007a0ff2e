-- What the lexer answers of a name tells whether it is one label token. Assumes nothing.
use mathlib.Core.Path.{◌≡◌, refl, sym, ◌∙◌, ap}
use mathlib.Core.Bool.{Bool, true, false, ◌&&◌}
use mathlib.Core.Option.{Option, none, some}
use mathlib.Core.List.{List, [], ◌∷◌, map}
use Prim.Native.Nat.{ℕ, suc, ◌+◌, ◌≤◌, ◌<◌}
use native.Mathlib.Omega.{arith}
use lib.Dec.{eqb}
use lib.ListN.{length, take, drop}
use lib.Seq.{take-length}
use borrow.Author.Tests.{eqb-true, ne_eqb, lt-leb, le-leb}
use Rattle.rules.specs.Base.{when◌then◌else◌, Outcome, same}
use Rattle.rules.specs.Tokens.{Kind, number, register, mark, word, directive, text, plus, minus, Found, token, blank, bad, match, token_at, Token, next_token, upper}
use Rattle.rules.specs.Words.{Row, instructions, find}
use Rattle.rules.specs.Statements.{as_word, as_label}
use Rattle.rules.specs.Objects.{label_word, label_token, good_name}
use Rattle.rules.proofs.Sizes.{Within, token-within}
use Rattle.rules.proofs.Shown.{Shows, token-right}
use Rattle.rules.proofs.Next.{here, here-blank, next_here, next-end, next-induction}
use Rattle.lex_reserved.specs.Ident.{place_from, ident_of}
use Rattle.lex_reserved.specs.declared.Ident.TheVariants as ident
use Rattle.lex_token.specs.Coded.{marked, coded_as, coded}
use Rattle.lex_token.specs.declared.Token.TheVariants as tok
use Rattle.lex_token.specs.declared.Next.TheVariants.{Took, End}
use Rattle.object_names.specs.Whole.{is_label, whole_label}

pub no-right : (b : Bool) → (b && false) ≡ false
no-right true = refl
no-right false = refl

-- what `find` says, `ident_of` says
free : Option Row → Bool
free none = true
free (some r) = false

ident-free : (k : ℕ) (w : List ℕ) (rs : List Row) → is_label (place_from k w rs) ≡ free (find w rs)
unfolding place_from find when◌then◌else◌ free
ident-free k w [] = refl
ident-free k w (r ∷ rs) = go (same w r.key) (ident-free (k + 1) w rs)
  where
    go : (b : Bool) → is_label (place_from (k + 1) w rs) ≡ free (find w rs) → is_label (when b then ident.Reserved k else place_from (k + 1) w rs) ≡ free (elim b [ true ↦ some r | false ↦ find w rs ])
    go true e = refl
    go false e = e

-- the judgement of a match of n bytes that begins the list l
abbrev Judged : List ℕ → ℕ → Found → Bool
Judged l n f = eqb n (length l) && label_word l f

abbrev as_free : List ℕ → Option Row → Option (List ℕ)
as_free w o = elim o [ none ↦ some w | some r ↦ none ]

word-judged : (l w : List ℕ) → label_word l (token (word w)) ≡ (free (find w instructions) && same l w)
unfolding label_word as_label as_word free
word-judged l w = go (find w instructions)
  where
    go : (o : Option Row) → (elim (as_free w o) [ none ↦ false | some u ↦ same l u ]) ≡ (free o && same l w)
    go none = refl
    go (some r) = refl

-- a word in upper case that is not reserved
pub word-free : (l : List ℕ) → is_label (ident_of (map upper l)) ≡ true → same l (map upper l) ≡ true → label_word l (token (word (map upper l))) ≡ true
unfolding ident_of
word-free l e u = word-judged l (map upper l) ∙ rw (sym (ident-free 0 (map upper l) instructions) ∙ e, u) refl

-- a word from the first byte on
word-whole : (l w : List ℕ) (n : ℕ) → w ≡ map upper (take n l) → Judged l n (token (word w)) ≡ (whole_label l (coded_as (word w) 0 n) && same l (map upper l))
unfolding coded_as ident_of
word-whole l w n e = go (eqb n (length l)) refl
  where
    go : (b : Bool) → eqb n (length l) ≡ b → (b && label_word l (token (word w))) ≡ ((is_label (place_from 0 w instructions) && eqb 0 0 && b) && same l (map upper l))
    go true q =
        let m : w ≡ map upper l = e ∙ ap (map upper) (ap (λ (k : ℕ). take k l) (eqb-true n (length l) q) ∙ take-length l) in
        let f = sym (ident-free 0 w instructions) in
        word-judged l w ∙ ((λ i. f i && same l (m i)) ∙ last (is_label (place_from 0 w instructions)))
      where
        last : (b : Bool) → (b && same l (map upper l)) ≡ ((b && true && true) && same l (map upper l))
        last true = refl
        last false = refl
    go false q = last (is_label (place_from 0 w instructions))
      where
        last : (b : Bool) → false ≡ ((b && true && false) && same l (map upper l))
        last true = refl
        last false = refl

mark-never : (l : List ℕ) (c a e : ℕ) → whole_label l (marked c a e) ≡ false
unfolding marked when◌then◌else◌
mark-never l c a e = go (eqb c 0) (eqb c 58) (eqb c 44)
  where
    go : (p q r : Bool) → whole_label l (when p then End a else when q then Took tok.Colon a e else when r then Took tok.Comma a e else Took tok.NewLine a e) ≡ false
    go true q r = refl
    go false true r = refl
    go false false true = refl
    go false false false = refl

-- a token from the first byte on
token-whole : (l : List ℕ) (n : ℕ) (k : Kind) → Shows l n (token k) → Judged l n (token k) ≡ (whole_label l (coded_as k 0 n) && same l (map upper l))
unfolding coded_as label_word as_label as_word
token-whole l n (word w) h = word-whole l w n h
token-whole l n (number (plus x)) h = no-right (eqb n (length l))
token-whole l n (number (minus x)) h = no-right (eqb n (length l))
token-whole l n (register x) h = no-right (eqb n (length l))
token-whole l n (mark c) h = no-right (eqb n (length l)) ∙ ap (λ (b : Bool). b && same l (map upper l)) (sym (mark-never l c 0 n))
token-whole l n (directive x) h = no-right (eqb n (length l))
token-whole l n (text x) h = no-right (eqb n (length l))

-- a token from a later byte on is not whole
late-never : (l : List ℕ) (k : Kind) (i e : ℕ) → 1 ≤ i → whole_label l (coded_as k i e) ≡ false
unfolding coded_as
late-never l (word w) i e h =
    let z : eqb i 0 ≡ false = ne_eqb i 0 (λ (q : i ≡ 0). omega arith) in
    ap (λ (b : Bool). is_label (ident_of w) && b && eqb e (length l)) z ∙ last (is_label (ident_of w))
  where
    last : (b : Bool) → (b && false && eqb e (length l)) ≡ false
    last true = refl
    last false = refl
late-never l (number (plus x)) i e h = refl
late-never l (number (minus x)) i e h = refl
late-never l (register x) i e h = refl
late-never l (mark c) i e h = mark-never l c i e
late-never l (directive x) i e h = refl
late-never l (text x) i e h = refl

abbrev Late : List ℕ → ℕ → Outcome Token → Type 0
Late l i o = 1 ≤ i → whole_label l (coded o) ≡ false

next-late : (l : List ℕ) (i : ℕ) → Late l i (next_token l i)
unfolding coded
next-late l i =
    next-induction l (Late l)
    (λ i h q. late-never l (mark 0) i i q)
    (λ i n k h e a b w q. late-never l k i (i + n) q)
    (λ i n m h e a b q. refl)
    (λ i n h e a b ih q. ih (omega arith))
    i

-- each match from the first byte on
match-whole : (l : List ℕ) (f : Found) (n : ℕ) → 1 ≤ n → n ≤ length l → Shows l n f
    → Judged l n f ≡ (whole_label l (coded (here 0 (match f n) (drop 1 l))) && same l (map upper l))
unfolding here coded label_word
match-whole l (token k) n a b h = let e : 0 + n ≡ n = omega arith in rw e (token-whole l n k h)
match-whole l blank n a b h =
    let q : 0 + n ≤ length l = omega arith in
    let p : here 0 (match blank n) (drop (0 + 1) l) ≡ next_token l (0 + n) = here-blank l 0 n a q in
    no-right (eqb n (length l)) ∙ ap (λ (t : Bool). t && same l (map upper l)) (sym (ap (λ (o : Outcome Token). whole_label l (coded o)) p ∙ next-late l (0 + n) (omega arith)))
match-whole l (bad m) n a b h = no-right (eqb n (length l))

pub token-law : (l : List ℕ) → (whole_label l (coded (next_token l 0)) && same l (map upper l)) ≡ label_token l
unfolding label_token coded coded_as marked when◌then◌else◌
token-law [] = ap (λ (o : Outcome Token). whole_label [] (coded o) && true) (next-end [] 0 (omega arith))
token-law (c ∷ s) =
    let w : Within (suc (length s)) (token_at c s) = token-within c s in
    ap (λ (o : Outcome Token). whole_label (c ∷ s) (coded o) && same (c ∷ s) (map upper (c ∷ s))) (next_here (c ∷ s) 0 (omega arith))
    ∙ sym (match-whole (c ∷ s) (token_at c s).found (token_at c s).size w.least w.most (token-right c s))

-- THE ANSWERS
pub name-long : (l : List ℕ) → 64 < length l → false ≡ good_name l
unfolding good_name
name-long l h = sym (ap (λ (b : Bool). label_token l && b) (lt-leb (length l) 64 h) ∙ no-right (label_token l))

pub name-fits : (l : List ℕ) {p q : Bool} → length l ≤ 64 → p ≡ whole_label l (coded (next_token l 0)) → q ≡ same l (map upper l) → (p && q) ≡ good_name l
unfolding good_name
name-fits l h e f = (λ i. e i && f i) ∙ (token-law l ∙ sym (ap (λ (b : Bool). label_token l && b) (le-leb (length l) 64 h) ∙ with (label_token l)))
  where
    with : (b : Bool) → (b && true) ≡ b
    with true = refl
    with false = refl
