-- The characters of a string written, plain bytes in runs and the others one by one. Assumes nothing.
use mathlib.Core.Path.{◌≡◌, refl, sym, ◌∙◌, ap}
use mathlib.Core.List.{List, [], ◌∷◌, ◌++◌, map, append_assoc, append-nil, map-append}
use Prim.Native.Nat.{ℕ, zero, suc, ◌+◌, ◌-◌, ◌≤◌, ◌<◌}
use mathlib.Core.Bool.{Bool, true, false}
use native.Mathlib.Nat.{not-suc-le-zero, le_of_suc-le-suc}
use native.Mathlib.Omega.{arith}
use lib.ListN.{length, get_or, take, length-append, length-map, length-drop}
use lib.Seq.{get_or-drop, length-take-le, take-suc}
use Rattle.rules.specs.Tokens.{while}
use Rattle.rules.specs.Objects.{word}
use Rattle.rules.proofs.Sizes.{while-short}
use Rattle.base_text.specs.Runs.{in_class, from, run_end}
use Rattle.base_text.specs.declared.Class.TheVariants.{Plain}
use Rattle.lex_literals.specs.declared.StringChar.{StringChar}
use Rattle.lex_literals.specs.declared.StringChar.TheVariants.{Char, Done}
use Rattle.lex_literals.specs.Strings.{char_at}
use Rattle.parse_meaning.specs.Reading.{chars_at, plain_at}
use Rattle.parse_meaning.proofs.Chars.{chars-on, chars-done, chars-fit, char-past, char-inside, run-size, run-after, chars-run}
use Rattle.pass2_words.specs.Writing.{Room, Wrote}
use Rattle.pass2_words.proofs.Cells.{wrote_none, wrote-more}

-- the characters before the place i are written, and k words are in use
pub record Putting (src ws₀ ms₀ ws ms : List ℕ) (used at i k : ℕ) : Type 0 where
  pub done : List ℕ
  pub split : chars_at src at ≡ done ++ chars_at src i
  pub wrote : Wrote ws₀ ms₀ ws ms used (map word done)
  pub upto : k ≡ used + length done
  pub room : Room ws₀ ms₀ used (length (chars_at src at))
  pub long : length ws ≡ length ws₀
  pub long-marks : length ms ≡ length ms₀

pub putting-start : (src ws ms : List ℕ) (used at : ℕ) → Room ws ms used (length (chars_at src at)) → Putting src ws ms ws ms used at at used
putting-start src ws ms used at r = record { done = []; split = refl; wrote = wrote_none ws ms used; upto = omega arith; room = r; long = refl; long-marks = refl }

-- A RUN OF PLAIN BYTES

while-at : (p : ℕ → Bool) (l : List ℕ) (j : ℕ) → j < length (while p l) → get_or (while p l) j 0 ≡ get_or l j 0
unfolding while
while-at p [] j h = refl
while-at p (c ∷ l) j h = go (p c) j h (while-at p l)
  where
    go : (b : Bool) (j : ℕ) → j < length {A = ℕ} (elim b [ true ↦ c ∷ while p l | false ↦ [] ]) → ((j : ℕ) → j < length (while p l) → get_or (while p l) j 0 ≡ get_or l j 0) → get_or (elim b [ true ↦ c ∷ while p l | false ↦ [] ]) j 0 ≡ get_or (c ∷ l) j 0
    go true zero h r = refl
    go true (suc j) h r = r j (le_of_suc-le-suc h)
    go false j h r = absurd (not-suc-le-zero h)

module _ (src : List ℕ) (i : ℕ) where
  plain_at_lem : (j : ℕ) → j < length (plain_at src i) → get_or (plain_at src i) j 0 ≡ get_or src (i + j) 0
  unfolding plain_at from
  plain_at_lem j h = while-at (in_class Plain) (from src i) j h ∙ get_or-drop i src j 0

  plain-inside : (j : ℕ) → j < length (plain_at src i) → i + j < length src
  unfolding plain_at from
  plain-inside j h = omega (arith, while-short (in_class Plain) (from src i), length-drop i src)

-- the first j of n plain bytes are written
pub record Writing (src ws₀ ms₀ ws ms : List ℕ) (i n used j : ℕ) : Type 0 where
  pub wrote : Wrote ws₀ ms₀ ws ms used (map word (take j (plain_at src i)))
  pub whole : n ≡ length (plain_at src i)
  pub within : j ≤ n
  pub room : Room ws₀ ms₀ used n
  pub long : length ws ≡ length ws₀
  pub long-marks : length ms ≡ length ms₀

pub writing_start : (src ws ms : List ℕ) (i n used : ℕ) → n ≡ length (plain_at src i) → Room ws ms used n → Writing src ws ms ws ms i n used 0
writing_start src ws ms i n used e r = record { wrote = wrote_none ws ms used; whole = e; within = omega arith; room = r; long = refl; long-marks = refl }

module _ (src ws₀ ms₀ ws ms : List ℕ) (i n used j : ℕ) (v : Writing src ws₀ ms₀ ws ms i n used j) where
  module _ (h : j < n) where
    pub writing-inside : i + j < length src
    writing-inside = plain-inside src i j (omega (arith, v.whole))

    pub writing-on : (ws' ms' : List ℕ) (w : ℕ) → w ≡ get_or src (i + j) 0 → Wrote ws ms ws' ms' (used + j) (word w ∷ []) → length ws' ≡ length ws → length ms' ≡ length ms → Writing src ws₀ ms₀ ws' ms' i n used (j + 1)
    writing-on ws' ms' w e p l m =
        let q = plain_at src i in
        let b : j < length q = omega (arith, v.whole) in
        let s : length (map word (take j q)) ≡ j = length-map (take j q) word ∙ length-take-le j q (omega arith) in
        let x = wrote-more ws₀ ms₀ ws ms ws' ms' used (map word (take j q)) (word w ∷ []) v.wrote (rw s p) in
        let z : j + 1 ≡ suc j = omega arith in
        let y : map word (take (j + 1) q) ≡ map word (take j q) ++ word w ∷ [] = rw (z, take-suc q j 0 b, map-append word (take j q) (get_or q j 0 ∷ []), plain_at_lem src i j b, ← e) in
        record { wrote = rw y x; whole = v.whole; within = omega arith; room = v.room; long = l ∙ v.long; long-marks = m ∙ v.long-marks }

-- BY RUNS

module _ (src ws₀ ms₀ ws ms : List ℕ) (used at i k : ℕ) (v : Putting src ws₀ ms₀ ws ms used at i k) (j : ℕ) (e : j ≡ run_end Plain src i) where
  behind-run : length (chars_at src at) ≡ length v.done + ((j - i) + length (chars_at src j))
  behind-run = omega (arith, ap length v.split ∙ length-append v.done (chars_at src i), run-size src i j e, ap length (chars-run src i j e) ∙ length-append (plain_at src i) (chars_at src j))

  pub run_room_lem : Room ws ms k (j - i)
  run_room_lem = record { words = omega (arith, v.room.words, v.long, v.upto, behind-run); marks = omega (arith, v.room.marks, v.long-marks, v.upto, behind-run) }

  pub putting-run : (ws' ms' : List ℕ) → Wrote ws ms ws' ms' k (map word (plain_at src i)) → length ws' ≡ length ws → length ms' ≡ length ms → Putting src ws₀ ms₀ ws' ms' used at j (k + (j - i))
  putting-run ws' ms' p l m =
      let u : k ≡ used + length (map word v.done) = v.upto ∙ ap (λ (n : ℕ). used + n) (sym (length-map v.done word)) in
      let x = wrote-more ws₀ ms₀ ws ms ws' ms' used (map word v.done) (map word (plain_at src i)) v.wrote (rw (← u) p) in
      record {
        done = v.done ++ plain_at src i;
        split = v.split ∙ (ap (λ (t : List ℕ). v.done ++ t) (chars-run src i j e) ∙ sym (append_assoc v.done (plain_at src i) (chars_at src j)));
        wrote = rw (map-append word v.done (plain_at src i)) x;
        upto = omega (arith, v.upto, length-append v.done (plain_at src i), run-size src i j e);
        room = v.room;
        long = l ∙ v.long;
        long-marks = m ∙ v.long-marks;
      }

-- ONE CHARACTER BEHIND A RUN

module _ (src ws₀ ms₀ ws ms : List ℕ) (used at i k : ℕ) (v : Putting src ws₀ ms₀ ws ms used at i k) (o : StringChar) (h : o ≡ char_at i (from src i)) where
  module _ (c j : ℕ) (q : o ≡ Char c j) where
    here : char_at i (from src i) ≡ Char c j
    here = sym h ∙ q

    all : length (chars_at src at) ≡ length v.done + (1 + length (chars_at src j))
    all = ap length v.split ∙ (length-append v.done (chars_at src i) ∙ ap (λ (l : List ℕ). length v.done + length l) (chars-on src i c j here) ∙ omega arith)

    pub putting-room : Room ws ms k 1
    putting-room = record { words = omega (arith, v.room.words, v.long, v.upto, all); marks = omega (arith, v.room.marks, v.long-marks, v.upto, all) }

    pub putting-less : length src - j < length src - i
    putting-less = omega (arith, char-past src i c j here, char-inside src i c j here)

    pub putting-on : (ws' ms' : List ℕ) (w : ℕ) → w ≡ c → Wrote ws ms ws' ms' k (word w ∷ []) → length ws' ≡ length ws → length ms' ≡ length ms → Putting src ws₀ ms₀ ws' ms' used at j (k + 1)
    putting-on ws' ms' w e p l m =
        let u : k ≡ used + length (map word v.done) = v.upto ∙ ap (λ (n : ℕ). used + n) (sym (length-map v.done word)) in
        let x = wrote-more ws₀ ms₀ ws ms ws' ms' used (map word v.done) (word c ∷ []) v.wrote (rw (← u, ← e) p) in
        record {
          done = v.done ++ (c ∷ []);
          split = v.split ∙ (ap (λ (l : List ℕ). v.done ++ l) (chars-on src i c j here) ∙ sym (append_assoc v.done (c ∷ []) (chars_at src j)));
          wrote = rw (map-append word v.done (c ∷ [])) x;
          upto = omega (arith, v.upto, length-append v.done (c ∷ []));
          room = v.room;
          long = l ∙ v.long;
          long-marks = m ∙ v.long-marks;
        }

  pub putting-done : o ≡ Done → Wrote ws₀ ms₀ ws ms used (map word (chars_at src at)) × (k ≡ used + length (chars_at src at))
  putting-done q =
      let e : chars_at src at ≡ v.done = v.split ∙ (ap (λ (l : List ℕ). v.done ++ l) (chars-done src i (sym h ∙ q)) ∙ append-nil v.done) in
      (rw e v.wrote, rw e v.upto)

-- a run, and what stands behind it
module _
    (src ws₀ ms₀ ws ms ws₁ ms₁ : List ℕ) (used at i k j : ℕ) (o : StringChar)
    (v : Putting src ws₀ ms₀ ws ms used at i k) (e : j ≡ run_end Plain src i) (p : Wrote ws ms ws₁ ms₁ k (map word (plain_at src i)))
    (l : length ws₁ ≡ length ws) (m : length ms₁ ≡ length ms) (h : o ≡ char_at j (from src j))
  where
    run : Putting src ws₀ ms₀ ws₁ ms₁ used at j (k + (j - i))
    run = putting-run src ws₀ ms₀ ws ms used at i k v j e ws₁ ms₁ p l m

    pub behind-room : (c n : ℕ) → o ≡ Char c n → Room ws₁ ms₁ (k + (j - i)) 1
    behind-room = putting-room src ws₀ ms₀ ws₁ ms₁ used at j (k + (j - i)) run o h

    pub behind-fits : (c n : ℕ) → o ≡ Char c n → k + (j - i) + 1 ≤ length ws
    behind-fits c n q = omega (arith, (behind-room c n q).words, l)

    pub behind-less : (c n : ℕ) → o ≡ Char c n → length src - n < length src - i
    behind-less c n q = omega (arith, putting-less src ws₀ ms₀ ws₁ ms₁ used at j (k + (j - i)) run o h c n q, run-after src i j e)

    pub behind-on : (c n : ℕ) → o ≡ Char c n → (ws₂ ms₂ : List ℕ) (w : ℕ) → w ≡ c → Wrote ws₁ ms₁ ws₂ ms₂ (k + (j - i)) (word w ∷ []) → length ws₂ ≡ length ws₁ → length ms₂ ≡ length ms₁ → Putting src ws₀ ms₀ ws₂ ms₂ used at n (k + (j - i) + 1)
    behind-on = putting-on src ws₀ ms₀ ws₁ ms₁ used at j (k + (j - i)) run o h

    pub behind-done : o ≡ Done → Wrote ws₀ ms₀ ws₁ ms₁ used (map word (chars_at src at)) × (k + (j - i) ≡ used + length (chars_at src at))
    behind-done = putting-done src ws₀ ms₀ ws₁ ms₁ used at j (k + (j - i)) run o h

-- past the source there is no character
pub no-chars : (src : List ℕ) (q : ℕ) → length src ≤ q → chars_at src q ≡ chars_at src (q + 1)
no-chars src q h = empty (chars_at src q) (chars_at src (q + 1)) (omega (arith, chars-fit src q)) (omega (arith, chars-fit src (q + 1)))
  where
    empty : (l m : List ℕ) → length l ≡ 0 → length m ≡ 0 → l ≡ m
    empty [] [] a b = refl
    empty [] (y ∷ m) a b = absurd (omega arith)
    empty (x ∷ l) m a b = absurd (omega arith)

-- A STRING AND ITS ZERO
module _ (src ws ms : List ℕ) (used q at : ℕ) (e : chars_at src at ≡ chars_at src (q + 1)) (r : Room ws ms used (length (chars_at src (q + 1)) + 1)) where
  module _ (ws₁ ms₁ : List ℕ) (k : ℕ) (p : Wrote ws ms ws₁ ms₁ used (map word (chars_at src at)) × (k ≡ used + length (chars_at src at))) where
    pub string-done : (ws₂ ms₂ : List ℕ) → Wrote ws₁ ms₁ ws₂ ms₂ k (word 0 ∷ []) → Wrote ws ms ws₂ ms₂ used (map word (chars_at src (q + 1) ++ 0 ∷ [])) × (k + 1 ≡ used + (length (chars_at src (q + 1)) + 1))
    string-done ws₂ ms₂ w =
        let u : k ≡ used + length (map word (chars_at src at)) = p.1 ∙ ap (λ (n : ℕ). used + n) (sym (length-map (chars_at src at) word)) in
        let x = wrote-more ws ms ws₁ ms₁ ws₂ ms₂ used (map word (chars_at src at)) (word 0 ∷ []) p.0 (rw (← u) w) in
        (rw (map-append word (chars_at src (q + 1)) (0 ∷ []), ← e) x, omega (arith, p.1, ap length e))
