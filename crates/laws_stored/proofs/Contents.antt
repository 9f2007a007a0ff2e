-- What the field at an offset says, by its tag and length. Assumes nothing.
use mathlib.Core.Path.{◌≡◌, refl, sym, ◌∙◌, ap}
use mathlib.Core.List.{List, [], ◌∷◌}
use mathlib.Core.Option.{none, some}
use Prim.Native.Nat.{ℕ, zero, suc, ◌+◌, ◌-◌, ◌*◌, ◌≤◌, ◌<◌}
use native.Mathlib.Omega.{arith}
use lib.ListN.{length, take, drop, get_or, length-take, length-drop}
use lib.Seq.{drop-drop, get_or-take, get_or-drop, take-nil}
use Rattle.rules.specs.Objects.{outer, defined}
use Rattle.rules.specs.Stored.{sets, gap, Item, fin, block, run, label, reloc, words, meant}
use Rattle.laws_stored.specs.Offsets.{number_at, numbers_at, part_at, length_at, next_at}
use Rattle.laws_stored.proofs.Framed.{field-there}
use Rattle.laws_stored.proofs.Accepted.{Finds, Mute}

-- BY CONTENT

meant-fin : (c : List ℕ) → length c ≡ 0 → meant 0 c ≡ some fin
unfolding meant
meant-fin [] e = refl
meant-fin (a ∷ c) e = absurd (omega arith)

mute-fin : (c : List ℕ) → (length c ≡ 0 → ⊥) → meant 0 c ≡ none
unfolding meant
mute-fin [] e = absurd (e refl)
mute-fin (a ∷ c) e = refl

meant-block : (c : List ℕ) → length c ≡ 4 → meant 1 c ≡ some (block (number_at c 0) (number_at c 2))
unfolding meant
meant-block [] e = absurd (omega arith)
meant-block (a ∷ []) e = absurd (omega arith)
meant-block (a ∷ b ∷ []) e = absurd (omega arith)
meant-block (a ∷ b ∷ c ∷ []) e = absurd (omega arith)
meant-block (a ∷ b ∷ c ∷ d ∷ []) e = refl
meant-block (a ∷ b ∷ c ∷ d ∷ f ∷ g) e = absurd (omega arith)

mute-block : (c : List ℕ) → (length c ≡ 4 → ⊥) → meant 1 c ≡ none
unfolding meant
mute-block [] e = refl
mute-block (a ∷ []) e = refl
mute-block (a ∷ b ∷ []) e = refl
mute-block (a ∷ b ∷ c ∷ []) e = refl
mute-block (a ∷ b ∷ c ∷ d ∷ []) e = absurd (e refl)
mute-block (a ∷ b ∷ c ∷ d ∷ f ∷ g) e = refl

meant-gap : (c : List ℕ) → length c ≡ 2 → meant 3 c ≡ some (run (gap (number_at c 0)))
unfolding meant
meant-gap [] e = absurd (omega arith)
meant-gap (a ∷ []) e = absurd (omega arith)
meant-gap (a ∷ b ∷ []) e = refl
meant-gap (a ∷ b ∷ c ∷ d) e = absurd (omega arith)

mute-gap : (c : List ℕ) → (length c ≡ 2 → ⊥) → meant 3 c ≡ none
unfolding meant
mute-gap [] e = refl
mute-gap (a ∷ []) e = refl
mute-gap (a ∷ b ∷ []) e = absurd (e refl)
mute-gap (a ∷ b ∷ c ∷ d) e = refl

meant-defined : (c : List ℕ) → 2 ≤ length c → meant 4 c ≡ some (label (drop 2 c) (defined (number_at c 0)))
unfolding meant
meant-defined [] l = absurd (omega arith)
meant-defined (a ∷ []) l = absurd (omega arith)
meant-defined (a ∷ b ∷ n) l = refl

mute-defined : (c : List ℕ) → length c < 2 → meant 4 c ≡ none
unfolding meant
mute-defined [] l = refl
mute-defined (a ∷ []) l = refl
mute-defined (a ∷ b ∷ n) l = absurd (omega arith)

meant-outer : (c : List ℕ) → meant 5 c ≡ some (label c outer)
unfolding meant
meant-outer c = refl

meant-reloc : (c : List ℕ) → 2 ≤ length c → meant 6 c ≡ some (reloc (number_at c 0) (drop 2 c))
unfolding meant
meant-reloc [] l = absurd (omega arith)
meant-reloc (a ∷ []) l = absurd (omega arith)
meant-reloc (a ∷ b ∷ n) l = refl

mute-reloc : (c : List ℕ) → length c < 2 → meant 6 c ≡ none
unfolding meant
mute-reloc [] l = refl
mute-reloc (a ∷ []) l = refl
mute-reloc (a ∷ b ∷ n) l = absurd (omega arith)

mute-other : (t : ℕ) (c : List ℕ) → 7 ≤ t → meant t c ≡ none
unfolding meant
mute-other zero c l = absurd (omega arith)
mute-other (suc zero) c l = absurd (omega arith)
mute-other (suc (suc zero)) c l = absurd (omega arith)
mute-other (suc (suc (suc zero))) c l = absurd (omega arith)
mute-other (suc (suc (suc (suc zero)))) c l = absurd (omega arith)
mute-other (suc (suc (suc (suc (suc zero))))) c l = absurd (omega arith)
mute-other (suc (suc (suc (suc (suc (suc zero)))))) c l = absurd (omega arith)
mute-other (suc (suc (suc (suc (suc (suc (suc t))))))) c l = refl

-- n numbers are n
pub length-numbers : (b : List ℕ) (i n : ℕ) → length (numbers_at b i n) ≡ n
unfolding numbers_at
length-numbers b i zero = refl
length-numbers b i (suc n) = ap suc (length-numbers b (i + 2) n)

-- words, two bytes each
number-shift : (a b : ℕ) (c : List ℕ) (i j : ℕ) → j ≡ i + 2 → number_at (a ∷ b ∷ c) j ≡ number_at c i
number-shift a b c i j e =
    let f : j + 1 ≡ suc (suc (i + 1)) = omega arith in
    let g : j ≡ suc (suc i) = omega arith in
    rw (f, g) refl

numbers-shift : (a b : ℕ) (c : List ℕ) (i j n : ℕ) → j ≡ i + 2 → numbers_at (a ∷ b ∷ c) j n ≡ numbers_at c i n
unfolding numbers_at
numbers-shift a b c i j zero e = refl
numbers-shift a b c i j (suc n) e =
    let h = number-shift a b c i j e in
    let t = numbers-shift a b c (i + 2) (j + 2) n (omega arith) in
    cc

words_are : (n : ℕ) (c : List ℕ) → length c ≡ n * 2 → words c ≡ some (numbers_at c 0 n)
unfolding words numbers_at
words_are zero [] e = refl
words_are zero (a ∷ c) e = absurd (omega arith)
words_are (suc n) [] e = absurd (omega arith)
words_are (suc n) (a ∷ []) e = absurd (omega arith)
words_are (suc n) (a ∷ b ∷ c) e = rw (words_are n c (omega arith), numbers-shift a b c 0 2 n (omega arith)) refl

words-odd : (n : ℕ) (c : List ℕ) → length c ≡ n * 2 + 1 → words c ≡ none
unfolding words
words-odd zero [] e = absurd (omega arith)
words-odd zero (a ∷ []) e = refl
words-odd zero (a ∷ b ∷ c) e = absurd (omega arith)
words-odd (suc n) [] e = absurd (omega arith)
words-odd (suc n) (a ∷ []) e = refl
words-odd (suc n) (a ∷ b ∷ c) e = rw (words-odd n c (omega arith)) refl

meant-sets : (n : ℕ) (c : List ℕ) → length c ≡ n * 2 → meant 2 c ≡ some (run (sets (numbers_at c 0 n)))
unfolding meant
meant-sets n c e = rw (words_are n c e) refl

mute-sets : (n : ℕ) (c : List ℕ) → length c ≡ n * 2 + 1 → meant 2 c ≡ none
unfolding meant
mute-sets n c e = rw (words-odd n c e) refl

-- PARTS OF BYTES

pub length_part : (b : List ℕ) (i n : ℕ) → i + n ≤ length b → length (part_at b i n) ≡ n
unfolding part_at
length_part b i n l = omega (arith, length-take n (drop i b), length-drop i b)

get_d_part : (b : List ℕ) (i n k : ℕ) → k < n → get_or (part_at b i n) k 0 ≡ get_or b (i + k) 0
unfolding part_at
get_d_part b i n k l = get_or-take n (drop i b) k 0 l ∙ get_or-drop i b k 0

pub number-part : (b : List ℕ) (i n k : ℕ) → k + 1 < n → number_at (part_at b i n) k ≡ number_at b (i + k)
number-part b i n k l =
    let e : i + (k + 1) ≡ i + k + 1 = omega arith in
    rw (get_d_part b i n k (omega arith), get_d_part b i n (k + 1) l, e) refl

pub numbers-part : (b : List ℕ) (i m k n : ℕ) → k + n * 2 ≤ m → numbers_at (part_at b i m) k n ≡ numbers_at b (i + k) n
unfolding numbers_at
numbers-part b i m k zero l = refl
numbers-part b i m k (suc n) l =
    let e : i + (k + 2) ≡ i + k + 2 = omega arith in
    let h = number-part b i m k (omega arith) in
    let t : numbers_at (part_at b i m) (k + 2) n ≡ numbers_at b (i + k + 2) n = rw e at (numbers-part b i m (k + 2) n (omega arith)) in
    cc

take_less : (k n : ℕ) (l : List ℕ) → drop k (take n l) ≡ take (n - k) (drop k l)
take_less zero n l = let e : n - 0 ≡ n = omega arith in rw e refl
take_less (suc k) zero l = let e : 0 - suc k ≡ 0 = omega arith in rw e refl
take_less (suc k) (suc n) [] = sym (take-nil (suc n - suc k))
take_less (suc k) (suc n) (a ∷ l) = let e : suc n - suc k ≡ n - k = omega arith in rw e (take_less k n l)

pub drop-part : (b : List ℕ) (i n k : ℕ) → drop k (part_at b i n) ≡ part_at b (i + k) (n - k)
unfolding part_at
drop-part b i n k = take_less k n (drop i b) ∙ ap (take (n - k)) (drop-drop k i b)

-- BY TAG AND LENGTH, AT AN OFFSET. The tag and the whole content are there.

module _ (b : List ℕ) (at : ℕ) (fits : next_at b at ≤ length b) where
  size : length (part_at b (at + 3) (length_at b at)) ≡ length_at b at
  size = length_part b (at + 3) (length_at b at) fits

  found : (t : ℕ) (i : Item) → get_or b at 0 ≡ t → meant t (part_at b (at + 3) (length_at b at)) ≡ some i → Finds b at i (next_at b at)
  found t i e m = record { tag = t; body = part_at b (at + 3) (length_at b at); there = rw (← e) (field-there b at fits); says = m }

  unsaid : (t : ℕ) → get_or b at 0 ≡ t → meant t (part_at b (at + 3) (length_at b at)) ≡ none → Mute b at
  unsaid t e m = record { tag = t; body = part_at b (at + 3) (length_at b at); after = next_at b at; there = rw (← e) (field-there b at fits); says = m }

  -- x00, empty, ends the bytes
  pub find-fin : get_or b at 0 ≡ 0 → length_at b at ≡ 0 → Finds b at fin (next_at b at)
  find-fin e l = found 0 fin e (meant-fin (part_at b (at + 3) (length_at b at)) (size ∙ l))

  pub mute-fin-at : get_or b at 0 ≡ 0 → (length_at b at ≡ 0 → ⊥) → Mute b at
  mute-fin-at e l = unsaid 0 e (mute-fin (part_at b (at + 3) (length_at b at)) (λ n. l (sym size ∙ n)))

  -- the number at the front of the content
  first : 2 ≤ length_at b at → number_at (part_at b (at + 3) (length_at b at)) 0 ≡ number_at b (at + 3)
  first l = let e : at + 3 + 0 ≡ at + 3 = omega arith in rw e at (number-part b (at + 3) (length_at b at) 0 (omega arith))

  second : 4 ≤ length_at b at → number_at (part_at b (at + 3) (length_at b at)) 2 ≡ number_at b (at + 5)
  second l = let e : at + 3 + 2 ≡ at + 5 = omega arith in rw e at (number-part b (at + 3) (length_at b at) 2 (omega arith))

  -- what comes after that number
  others : drop 2 (part_at b (at + 3) (length_at b at)) ≡ part_at b (at + 5) (length_at b at - 2)
  others = let e : at + 3 + 2 ≡ at + 5 = omega arith in rw e at (drop-part b (at + 3) (length_at b at) 2)

  -- x01 block: start, word count
  pub find-block : get_or b at 0 ≡ 1 → length_at b at ≡ 4 → Finds b at (block (number_at b (at + 3)) (number_at b (at + 5))) (next_at b at)
  find-block e l =
      let p = first (omega arith) in
      let q = second (omega arith) in
      found 1 (block (number_at b (at + 3)) (number_at b (at + 5))) e (meant-block (part_at b (at + 3) (length_at b at)) (size ∙ l) ∙ (cc))

  pub mute-block-at : get_or b at 0 ≡ 1 → (length_at b at ≡ 4 → ⊥) → Mute b at
  mute-block-at e l = unsaid 1 e (mute-block (part_at b (at + 3) (length_at b at)) (λ n. l (sym size ∙ n)))

  -- x02 set words
  pub find-sets : (n : ℕ) → get_or b at 0 ≡ 2 → length_at b at ≡ n * 2 → Finds b at (run (sets (numbers_at b (at + 3) n))) (next_at b at)
  find-sets n e l =
      let z : at + 3 + 0 ≡ at + 3 = omega arith in
      let p : numbers_at (part_at b (at + 3) (length_at b at)) 0 n ≡ numbers_at b (at + 3) n = rw z at (numbers-part b (at + 3) (length_at b at) 0 n (omega arith)) in
      found 2 (run (sets (numbers_at b (at + 3) n))) e (meant-sets n (part_at b (at + 3) (length_at b at)) (size ∙ l) ∙ (cc))

  pub mute-sets-at : (n : ℕ) → get_or b at 0 ≡ 2 → length_at b at ≡ n * 2 + 1 → Mute b at
  mute-sets-at n e l = unsaid 2 e (mute-sets n (part_at b (at + 3) (length_at b at)) (size ∙ l))

  -- x03 count of unset words
  pub find-gap : get_or b at 0 ≡ 3 → length_at b at ≡ 2 → Finds b at (run (gap (number_at b (at + 3)))) (next_at b at)
  find-gap e l = let p = first (omega arith) in found 3 (run (gap (number_at b (at + 3)))) e (meant-gap (part_at b (at + 3) (length_at b at)) (size ∙ l) ∙ (cc))

  pub mute-gap-at : get_or b at 0 ≡ 3 → (length_at b at ≡ 2 → ⊥) → Mute b at
  mute-gap-at e l = unsaid 3 e (mute-gap (part_at b (at + 3) (length_at b at)) (λ n. l (sym size ∙ n)))

  -- x04 defined label: address, name
  pub find-defined : get_or b at 0 ≡ 4 → 2 ≤ length_at b at → Finds b at (label (part_at b (at + 5) (length_at b at - 2)) (defined (number_at b (at + 3)))) (next_at b at)
  find-defined e l =
      let p = first l in
      let q = others in
      found 4 (label (part_at b (at + 5) (length_at b at - 2)) (defined (number_at b (at + 3)))) e (meant-defined (part_at b (at + 3) (length_at b at)) (rw size l) ∙ (cc))

  pub mute-defined-at : get_or b at 0 ≡ 4 → length_at b at < 2 → Mute b at
  mute-defined-at e l = unsaid 4 e (mute-defined (part_at b (at + 3) (length_at b at)) (rw size l))

  -- x05 external: name
  pub find-outer : get_or b at 0 ≡ 5 → Finds b at (label (part_at b (at + 3) (length_at b at)) outer) (next_at b at)
  find-outer e = found 5 (label (part_at b (at + 3) (length_at b at)) outer) e (meant-outer (part_at b (at + 3) (length_at b at)))

  -- x06 relocation: address, name
  pub find-reloc : get_or b at 0 ≡ 6 → 2 ≤ length_at b at → Finds b at (reloc (number_at b (at + 3)) (part_at b (at + 5) (length_at b at - 2))) (next_at b at)
  find-reloc e l =
      let p = first l in
      let q = others in
      found 6 (reloc (number_at b (at + 3)) (part_at b (at + 5) (length_at b at - 2))) e (meant-reloc (part_at b (at + 3) (length_at b at)) (rw size l) ∙ (cc))

  pub mute-reloc-at : get_or b at 0 ≡ 6 → length_at b at < 2 → Mute b at
  mute-reloc-at e l = unsaid 6 e (mute-reloc (part_at b (at + 3) (length_at b at)) (rw size l))

  -- other tags
  pub mute-other-at : 7 ≤ get_or b at 0 → Mute b at
  mute-other-at l = unsaid (get_or b at 0) refl (mute-other (get_or b at 0) (part_at b (at + 3) (length_at b at)) l)
