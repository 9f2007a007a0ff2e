-- The table's longest match by the first byte: what it is and how long, case by case. Assumes nothing.
use Prim.Native.Nat.{ℕ, ◌+◌, ◌≤◌, ◌<◌}
use mathlib.Core.Path.{◌≡◌, refl, ap, sym, ◌∙◌}
use mathlib.Core.Bool.{Bool, true, false, not, ◌&&◌, ◌||◌}
use mathlib.Core.Logic.{⊎_elim}
use mathlib.Core.List.{List, [], ◌∷◌, map}
use mathlib.Core.Option.{none, some}
use native.Mathlib.Nat.{zero-add}
use native.Mathlib.Omega.{arith}
use borrow.Author.Tests.{eqb-true, not-true, not-false}
use lib.Dec.{eqb, ltb}
use lib.ListN.{length, take, drop, length-take}
use lib.Seq.{drop-drop}
use Rattle.rules.specs.Base.{when◌then◌else◌, is}
use Rattle.rules.specs.Regex.{Regex, fail, empty, byte, ◌then◌, ◌or◌, star, null, after, longest, longest_from, matching}
use Rattle.rules.specs.Patterns.{c1, or1, d, w*, maybe, some1, best}
use Rattle.rules.specs.Tokens.{Match, match, Found, token, word, bad, while, begins, wordy, digit, letter, upper, value, read, dec, number_after, wrong_after, word_at, after_x, after_minus, after_hash, after_r, reg, blank, mark, space, directive, directive_after, after_quote, dec_neg, hex, hex_neg}
use Rattle.rules.proofs.Regex.{longest-right}
use Rattle.rules.proofs.Shapes.{star-no, star-long, class-star, class2-star, class-plus, class-one, one_of, class-maybe, maybe-apart}
use Rattle.rules.proofs.Best.{row-none, row_more, row-less, rows_end}
use Rattle.rules.proofs.Starts.{rows_at, hex_digit, hex-value, hex-wordy}
use Rattle.rules.proofs.Heads.{drop-taken, begins-apart, begins-within, begins-same, while-same, while-longer, while-none, while-one, begins-count}
use Rattle.rules.proofs.Sizes.{digit-wordy, letter-wordy}
use Rattle.rules.proofs.While.{yes-cons}
use Rattle.rules.proofs.Bools.{never, and_left, and_right}

longest-fits : (r : Regex) (s : List ℕ) (k : ℕ) → longest r s ≡ some k → k ≤ length s
longest-fits r s k e =
    ⊎_elim
    (λ a. let q : a.0 ≡ k = cc a.2 in omega (arith, a.1.fits))
    (λ a. never (cc a.1))
    (longest-right r s)

-- a row's match is as long as it was found to be
sized : (r : Regex) (f : Found) (t : List ℕ) (k : ℕ) → longest r t ≡ some k → match f (length (take k t)) ≡ match f k
sized r f t k e = let h : k ≤ length t = longest-fits r t k e in ap (match f) (omega (arith, length-take k t))

-- and where it is n bytes and then a class repeated, its text is known
made :
    (r : Regex) (f : List ℕ → Found) (p : ℕ → Bool) (n : ℕ) (t : List ℕ) (k : ℕ) → longest r t ≡ some k → k ≡ n + length (while p (drop n t))
    → match (f (drop n (take k t))) (length (take k t)) ≡ match (f (while p (drop n t))) (n + length (while p (drop n t)))
made r f p n t k e q = sized r _ t k e ∙ rw q (ap (λ (w : List ℕ). match (f w) (n + length (while p (drop n t)))) (drop-taken p n t))

-- both choices of a test, each with what it knows of the test
pub by-test : {A : Type 0} (P : A → Type 0) (b : Bool) {x y : A} → (b ≡ true → P x) → (b ≡ false → P y) → P (when b then x else y)
unfolding when◌then◌else◌
by-test P true p q = p refl
by-test P false p q = q refl

pub if_yes : {A : Type 0} {b : Bool} (x y : A) → b ≡ true → (when b then x else y) ≡ x
unfolding when◌then◌else◌
if_yes x y e = rw e

pub if_no : {A : Type 0} {b : Bool} (x y : A) → b ≡ false → (when b then x else y) ≡ y
unfolding when◌then◌else◌
if_no x y e = rw e

-- what holds of the byte k holds of a byte that is k
is-so : (k : ℕ) (q : ℕ → Bool) {b : Bool} → q k ≡ b → (x : ℕ) → eqb x k ≡ true → q x ≡ b
is-so k q h x e = rw (eqb-true x k e) h

minus-plain : wordy 45 ≡ false
unfolding digit letter wordy
minus-plain = refl

minus-hex : hex_digit 45 ≡ false
unfolding digit
minus-hex = refl

hash-plain : wordy 35 ≡ false
unfolding digit letter wordy
hash-plain = refl

-- after the hashes: -?\w*  \w*
abbrev minus-word : Regex
minus-word = (empty or byte (is "-")) then star (byte wordy)

abbrev just-word : Regex
just-word = star (byte wordy)

hash-ends-minus : (x : ℕ) → is "#" x ≡ true → after x minus-word ≡ fail
unfolding matching digit letter wordy
hash-ends-minus x e = rw (eqb-true x 35 e)

hash-ends-word : (x : ℕ) → is "#" x ≡ true → after x just-word ≡ fail
hash-ends-word x e = star-no wordy x (is-so 35 wordy hash-plain x e)

null-minus : null minus-word ≡ true
unfolding null
null-minus = refl

null_word : null just-word ≡ true
unfolding null
null_word = refl

-- \r?\n
newline-alone : (s : List ℕ) → longest (maybe (c1 "\r") then c1 "\n") (10 ∷ s) ≡ some 1
unfolding matching
newline-alone [] = refl
newline-alone (x ∷ s) = refl

newline-after : (s : List ℕ) → longest (maybe (c1 "\r") then c1 "\n") (13 ∷ s) ≡ (when begins (is "\n") s then some 2 else none)
unfolding matching
newline-after s = one_of (is "\n") 1 s

module _ (c : ℕ) (s : List ℕ) where
  -- m is the best of these rows
  abbrev pub From : List ℕ → Match → Type 0
  From ks m = best (rows_at ks) 0 (match (bad 10) 1) (c ∷ s) ≡ m

  pub digit-rows : digit c ≡ true → From (1 ∷ []) (number_after 0 dec (c ∷ s))
  unfolding rows_at number_after
  digit-rows e =
      let l = class-star digit wordy c s e in
      row_more _ _ 0 _ _ l (omega arith) ∙ rows_end _ _ _ ∙ made _ (read dec) wordy 0 (c ∷ s) _ l (rw (yes-cons wordy c s (digit-wordy c e)) (omega arith))

  abbrev word_size : ℕ
  word_size = 1 + length (while wordy s)

  word_made : letter c ≡ true → match (token (word (map upper (take word_size (c ∷ s))))) (length (take word_size (c ∷ s))) ≡ word_at (c ∷ s)
  unfolding word_at
  word_made e =
      made _ (λ t. token (word (map upper t))) wordy 0 (c ∷ s) _ (class-star letter wordy c s e) (rw (yes-cons wordy c s (letter-wordy c e)) (omega arith))
      ∙ ap (match _) (zero-add _)

  pub x-rows : (is "X" c || is "x" c) ≡ true → letter c ≡ true → From (3 ∷ 8 ∷ 10 ∷ []) (after_x c s)
  unfolding rows_at after_x number_after
  x-rows x l =
      let hex-row = class2-star (λ k. is "X" k || is "x" k) hex_digit wordy c s x in
      let minus-row = class2-star (λ k. is "X" k || is "x" k) (is "-") wordy c s x in
      let word_row = class-star letter wordy c s l in
      by-test (From (3 ∷ 8 ∷ 10 ∷ [])) (begins (is "-") s)
      (λ m.
      row-none _ _ 0 _ _ (hex-row ∙ if_no _ _ (begins-apart (is "-") hex_digit (is-so 45 hex_digit minus-hex) s m))
      ∙ row_more _ _ 0 _ _ (minus-row ∙ if_yes _ _ m) (omega arith)
      ∙ row-less _ _ _ _ _ word_row (rw (while-none wordy s (begins-apart (is "-") wordy (is-so 45 wordy minus-plain) s m)) (omega arith))
      ∙ rows_end _ _ _
      ∙ made _ (read hex_neg) wordy 2 (c ∷ s) _ (minus-row ∙ if_yes _ _ m) refl)
      (λ m.
      by-test (From (3 ∷ 8 ∷ 10 ∷ [])) (begins (λ k. ltb (value k) 16) s)
      (λ h.
      let b : begins hex_digit s ≡ true = begins-same hex_digit (λ k. ltb (value k) 16) hex-value s ∙ h in
      let n = while-one wordy s (begins-within hex_digit wordy hex-wordy s b) in
      row_more _ _ 0 _ _ (hex-row ∙ if_yes _ _ b) (omega arith)
      ∙ row-none _ _ _ _ _ (minus-row ∙ if_no _ _ m)
      ∙ row-less _ _ _ _ _ word_row (omega (arith, n))
      ∙ rows_end _ _ _
      ∙ made _ (read hex) wordy 1 (c ∷ s) _ (hex-row ∙ if_yes _ _ b) (omega (arith, n)))
      (λ h.
      row-none _ _ 0 _ _ (hex-row ∙ if_no _ _ (begins-same hex_digit (λ k. ltb (value k) 16) hex-value s ∙ h))
      ∙ row-none _ _ _ _ _ (minus-row ∙ if_no _ _ m)
      ∙ row_more _ _ _ _ _ word_row (omega arith)
      ∙ rows_end _ _ _
      ∙ word_made l))

  abbrev hashes : ℕ
  hashes = length (while (is "#") s)

  plain-hash : begins (is "#") s ≡ true → while wordy s ≡ []
  plain-hash b = while-none wordy s (begins-apart (is "#") wordy (is-so 35 wordy hash-plain) s b)

  plain-minus : begins (is "-") s ≡ true → while wordy s ≡ []
  plain-minus b = while-none wordy s (begins-apart (is "-") wordy (is-so 45 wordy minus-plain) s b)

  pub minus-rows : is "-" c ≡ true → From (4 ∷ 6 ∷ []) (after_minus s)
  unfolding rows_at after_minus number_after wrong_after
  minus-rows e =
      let number-row = class-star (is "-") wordy c s e in
      let hash-row = class-plus (is "-") (is "#") just-word null_word hash-ends-word c s e in
      by-test (From (4 ∷ 6 ∷ [])) (eqb hashes 0)
      (λ h.
      row_more _ _ 0 _ _ number-row (omega arith)
      ∙ row-none _ _ _ _ _ (hash-row ∙ if_no _ _ (begins-count (is "#") s ∙ ap not h))
      ∙ rows_end _ _ _
      ∙ made _ (read dec_neg) wordy 1 (c ∷ s) _ number-row refl)
      (λ h. wrong (begins-count (is "#") s ∙ ap not h) (hash-row ∙ if_yes _ _ (begins-count (is "#") s ∙ ap not h) ∙ star-long wordy none (1 + hashes) (drop hashes s)))
    where
      wrong :
          begins (is "#") s ≡ true → longest (c1 "-" then some1 (c1 "#") then just-word) (c ∷ s) ≡ some (1 + hashes + length (while wordy (drop hashes s)))
          → From (4 ∷ 6 ∷ []) (match (bad 4) (hashes + 1 + length (while wordy (drop hashes s))))
      wrong b l =
          row_more _ _ 0 _ _ (class-star (is "-") wordy c s e) (omega arith)
          ∙ row_more _ _ _ _ _ l (rw (plain-hash b) (omega (arith, while-one (is "#") s b)))
          ∙ rows_end _ _ _
          ∙ sized _ _ _ _ l
          ∙ ap (match (bad 4)) (omega arith)

  pub hash-rows : is "#" c ≡ true → From (2 ∷ 5 ∷ 7 ∷ []) (after_hash s)
  unfolding rows_at after_hash number_after wrong_after
  hash-rows e =
      by-test (From (2 ∷ 5 ∷ 7 ∷ [])) (begins (is "-") s)
      (λ m.
      row_more _ _ 0 _ _ number-row (omega arith)
      ∙ row_more _ _ _ _ _ (minus-row ∙ if_yes _ _ m) (rw (plain-minus m) (omega arith))
      ∙ row-none _ _ _ _ _ (hash-row ∙ if_no _ _ (begins-apart (is "-") (is "#") (is-so 45 (is "#") refl) s m))
      ∙ rows_end _ _ _
      ∙ made _ (read dec_neg) wordy 2 (c ∷ s) _ (minus-row ∙ if_yes _ _ m) refl)
      (λ m.
      by-test (From (2 ∷ 5 ∷ 7 ∷ [])) (eqb hashes 0)
      (λ h.
      row_more _ _ 0 _ _ number-row (omega arith)
      ∙ row-none _ _ _ _ _ (minus-row ∙ if_no _ _ m)
      ∙ row-none _ _ _ _ _ (hash-row ∙ if_no _ _ (begins-count (is "#") s ∙ ap not h))
      ∙ rows_end _ _ _
      ∙ made _ (read dec) wordy 1 (c ∷ s) _ number-row refl)
      (λ h.
      let b : begins (is "#") s ≡ true = begins-count (is "#") s ∙ ap not h in
      by-test (From (2 ∷ 5 ∷ 7 ∷ [])) (begins (is "-") (drop hashes s))
      (λ n. wrong m b _ (hash-row ∙ if_yes _ _ b ∙ rest ∙ if_yes _ _ n ∙ ap some with-minus) (omega (arith, while-one (is "#") s b)))
      (λ n. wrong m b _ (hash-row ∙ if_yes _ _ b ∙ rest ∙ if_no _ _ n ∙ ap some (omega arith)) (omega (arith, while-one (is "#") s b)))))
    where
      number-row : longest (c1 "#" then maybe d then w*) (c ∷ s) ≡ some (1 + length (while wordy s))
      number-row = class-maybe (is "#") digit wordy digit-wordy c s e

      minus-row : longest (c1 "#" then c1 "-" then w*) (c ∷ s) ≡ (when begins (is "-") s then some (2 + length (while wordy (drop 1 s))) else none)
      minus-row = class2-star (is "#") (is "-") wordy c s e

      hash-row : longest (c1 "#" then some1 (c1 "#") then maybe (c1 "-") then w*) (c ∷ s) ≡ (when begins (is "#") s then longest_from minus-word none (1 + hashes) (drop hashes s) else none)
      hash-row = class-plus (is "#") (is "#") minus-word null-minus hash-ends-minus c s e

      rest : longest_from minus-word none (1 + hashes) (drop hashes s) ≡ (when begins (is "-") (drop hashes s) then some (1 + hashes + 1 + length (while wordy (drop 1 (drop hashes s)))) else some (1 + hashes + length (while wordy (drop hashes s))))
      rest = maybe-apart (is "-") wordy (is-so 45 wordy minus-plain) none (1 + hashes) (drop hashes s)

      with-minus : 1 + hashes + 1 + length (while wordy (drop 1 (drop hashes s))) ≡ hashes + 2 + length (while wordy (drop (hashes + 1) s))
      with-minus = rw (drop-drop 1 hashes s) (omega arith)

      wrong : begins (is "-") s ≡ false → begins (is "#") s ≡ true → (k : ℕ) → longest (c1 "#" then some1 (c1 "#") then maybe (c1 "-") then w*) (c ∷ s) ≡ some k → 1 < k → From (2 ∷ 5 ∷ 7 ∷ []) (match (bad 4) k)
      wrong m b k l more =
          row_more _ _ 0 _ _ number-row (omega arith)
          ∙ row-none _ _ _ _ _ (minus-row ∙ if_no _ _ m)
          ∙ row_more _ _ _ _ _ l (rw (plain-hash b) more)
          ∙ rows_end _ _ _
          ∙ sized _ _ _ _ l

  pub r-rows : (is "R" c || is "r" c) ≡ true → letter c ≡ true → From (9 ∷ 10 ∷ []) (after_r c s)
  unfolding rows_at after_r number_after
  r-rows r l = by-test (From (9 ∷ 10 ∷ [])) _ (λ b. alone (and_left _ _ b) (not-true _ (and_right (begins digit s) _ b))) (more (begins digit s) refl)
    where
      word_row : longest (byte letter then w*) (c ∷ s) ≡ some word_size
      word_row = class-star letter wordy c s l

      digits-row : begins digit s ≡ true → longest (or1 "R" "r" then some1 d) (c ∷ s) ≡ some (1 + length (while digit s))
      digits-row b = class2-star (λ k. is "R" k || is "r" k) digit digit c s r ∙ if_yes _ _ b ∙ ap some (omega (arith, while-one digit s b))

      alone : begins digit s ≡ true → begins wordy (drop (length (while digit s)) s) ≡ false → From (9 ∷ 10 ∷ []) (number_after 1 reg s)
      alone b n =
          let w : while wordy s ≡ while digit s = while-same digit wordy digit-wordy s n in
          row_more _ _ 0 _ _ (digits-row b) (omega arith)
          ∙ row-less _ _ _ _ _ word_row (rw w (omega arith))
          ∙ rows_end _ _ _
          ∙ made _ (read reg) wordy 1 (c ∷ s) _ (digits-row b) (rw w)

      more : (x : Bool) → begins digit s ≡ x → (x && not (begins wordy (drop (length (while digit s)) s))) ≡ false → From (9 ∷ 10 ∷ []) (word_at (c ∷ s))
      more true b n =
          row_more _ _ 0 _ _ (digits-row b) (omega arith)
          ∙ row_more _ _ _ _ _ word_row (omega (arith, while-longer digit wordy digit-wordy s (not-false _ n)))
          ∙ rows_end _ _ _
          ∙ word_made l
      more false b n =
          row-none _ _ 0 _ _ (class2-star (λ k. is "R" k || is "r" k) digit digit c s r ∙ if_no _ _ b)
          ∙ row_more _ _ _ _ _ word_row (omega arith)
          ∙ rows_end _ _ _
          ∙ word_made l

  pub letter-rows : letter c ≡ true → From (10 ∷ []) (word_at (c ∷ s))
  unfolding rows_at
  letter-rows l = row_more _ _ 0 _ _ (class-star letter wordy c s l) (omega arith) ∙ rows_end _ _ _ ∙ word_made l

  pub point-rows : is "." c ≡ true → From (11 ∷ []) (directive_after s)
  unfolding rows_at directive_after
  point-rows e =
      let l = class-star (is ".") wordy c s e in
      row_more _ _ 0 _ _ l (omega arith) ∙ rows_end _ _ _ ∙ made _ (λ t. token (directive (map upper t))) wordy 1 (c ∷ s) _ l refl

  pub quote-rows : is "\"" c ≡ true → From (12 ∷ []) (after_quote s)
  unfolding rows_at
  quote-rows e = row_more _ _ 0 _ _ (class-one (is "\"") c s e) (omega arith) ∙ rows_end _ _ _

  pub colon-rows : is ":" c ≡ true → From (13 ∷ []) (match (token (mark c)) 1)
  unfolding rows_at
  colon-rows e = row_more _ _ 0 _ _ (class-one (is ":") c s e) (omega arith) ∙ rows_end _ _ _ ∙ ap (λ (k : ℕ). match (token (mark k)) 1) (sym (eqb-true c 58 e))

  pub comma-rows : is "," c ≡ true → From (14 ∷ []) (match (token (mark c)) 1)
  unfolding rows_at
  comma-rows e = row_more _ _ 0 _ _ (class-one (is ",") c s e) (omega arith) ∙ rows_end _ _ _ ∙ ap (λ (k : ℕ). match (token (mark k)) 1) (sym (eqb-true c 44 e))

  pub comment-rows : is ";" c ≡ true → From (15 ∷ []) (match blank (1 + length (while (λ k. not (is "\n" k)) s)))
  unfolding rows_at
  comment-rows e =
      let l = class-star (is ";") (λ k. not (is "\n" k)) c s e in
      row_more _ _ 0 _ _ l (omega arith) ∙ rows_end _ _ _ ∙ sized _ _ _ _ l

  pub space-rows : space c ≡ true → From (0 ∷ []) (match blank (1 + length (while space s)))
  unfolding rows_at
  space-rows e =
      let l = class-star space space c s e in
      row_more _ _ 0 _ _ l (omega arith) ∙ rows_end _ _ _ ∙ sized _ _ _ _ l

  pub lf-rows : is "\n" c ≡ true → From (16 ∷ []) (match (token (mark c)) 1)
  unfolding rows_at
  lf-rows e = rw (eqb-true c 10 e) (row_more _ _ 0 _ (10 ∷ s) (newline-alone s) (omega arith) ∙ rows_end _ _ _)

  pub cr-rows : is "\r" c ≡ true → From (16 ∷ []) (when begins (is "\n") s then match (token (mark 10)) 2 else match (bad 10) 1)
  unfolding rows_at
  cr-rows e =
      rw (eqb-true c 13 e)
      (by-test (λ m. best (rows_at (16 ∷ [])) 0 (match (bad 10) 1) (13 ∷ s) ≡ m) (begins (is "\n") s)
      (λ b. row_more _ _ 0 _ (13 ∷ s) (newline-after s ∙ if_yes _ _ b) (omega arith) ∙ rows_end _ _ _ ∙ sized _ _ (13 ∷ s) 2 (newline-after s ∙ if_yes _ _ b))
      (λ b. row-none _ _ 0 _ (13 ∷ s) (newline-after s ∙ if_no _ _ b) ∙ rows_end _ _ _))

  pub no_rows : From [] (match (bad 10) 1)
  unfolding rows_at
  no_rows = rows_end _ _ _
