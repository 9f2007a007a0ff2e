-- A plain name is one label token in upper case. Assumes nothing.
use mathlib.Core.Path.{◌≡◌, refl, sym, ◌∙◌, ap}
use mathlib.Core.Bool.{Bool, true, false, ◌&&◌, ◌||◌, not, and-true}
use mathlib.Core.List.{List, [], ◌∷◌, ◌++◌, map}
use Prim.Native.Nat.{ℕ, ◌+◌, ◌-◌, ◌≤◌, ◌<◌}
use native.Mathlib.Omega.{arith}
use lib.Dec.{leb}
use lib.ListN.{length, get_or, take, drop, length-drop, take-append-drop}
use lib.Seq.{drop-drop, take_all, take-add}
use borrow.Author.Tests.{eqb-true, eq-eqb, ne_eqb, leb-true, le-leb, lt-leb}
use Rattle.rules.specs.Base.{when◌then◌else◌, is, within, same}
use Rattle.rules.specs.Tokens.{digit, letter, wordy, upper, while, word_at, token_at}
use Rattle.rules.specs.Objects.{label_token, good_name}
use Rattle.rules.proofs.Bools.{never, and_left, and_right}
use Rattle.base_text.specs.Runs.{from}
use Rattle.base_text.proofs.Rest.{from_start, from_step, from_end}
use Rattle.base_text.proofs.ByteLaws.{upper-low}
use Rattle.lex_reserved.specs.Ident.{ident_of}
use Rattle.lex_reserved.specs.declared.Ident.{Ident}
use Rattle.lex_reserved.proofs.Rule.{ident-long}
use Rattle.object_names.specs.Whole.{is_label}
use Rattle.object_names.specs.Plain.{capital, beginning, all_capital, plain, CapitalFront}
use Rattle.object_names.proofs.Judged.{no-right, word-free}

-- THE LOOPS

-- byte by byte: the whole is capital if what was looked at is, and what is left
pub record FoundTo (s : List ℕ) (good : Bool) (i : ℕ) : Type 0 where
  pub same : (good && all_capital (from s i)) ≡ all_capital s

pub part-start : (s : List ℕ) → FoundTo s true 0
part-start s = record { same = ap all_capital (from_start s) }

module _ (s : List ℕ) {i : ℕ} {g : Bool} (f : FoundTo s g i) where
  pub part-next : {x : Bool} → i < length s → x ≡ capital (get_or s i 0) → FoundTo s (g && x) (i + 1)
  part-next {x} h p = record {
    same = regroup g x (all_capital (from s (i + 1))) ∙ (ap (λ (b : Bool). g && b) (sym (ap all_capital (from_step s i h) ∙ ap (λ (b : Bool). b && all_capital (from s (i + 1))) (sym p))) ∙ f.same);
  }
    where
      regroup : (a b c : Bool) → ((a && b) && c) ≡ (a && (b && c))
      regroup true b c = refl
      regroup false b c = refl

  pub part_end : length s ≤ i → g ≡ all_capital s
  part_end h = sym (ap (λ (l : List ℕ). g && all_capital l) (from_end s i h) ∙ and-true g) ∙ f.same

-- step by step: what is left is capital if the whole is
all_append : (x y : List ℕ) → all_capital (x ++ y) ≡ (all_capital x && all_capital y)
all_append [] y = refl
all_append (c ∷ x) y = ap (λ (b : Bool). capital c && b) (all_append x y) ∙ regroup (capital c) (all_capital x) (all_capital y)
  where
    regroup : (a b c : Bool) → (a && (b && c)) ≡ ((a && b) && c)
    regroup true b c = refl
    regroup false b c = refl

-- up to i every byte is capital
pub record CapitalTo (s : List ℕ) (i : ℕ) : Type 0 where
  pub within : i ≤ length s
  pub same : all_capital (from s i) ≡ all_capital s

pub to_start : (s : List ℕ) → CapitalTo s 0
to_start s = record { within = omega arith; same = ap all_capital (from_start s) }

module _ (s : List ℕ) {i : ℕ} (f : CapitalTo s i) where
  cut : (e : ℕ) → i ≤ e → all_capital (from s i) ≡ (all_capital (take (e - i) (drop i s)) && all_capital (from s e))
  unfolding from
  cut e l =
      let k : i + (e - i) ≡ e = omega arith in
      ap all_capital (sym (take-append-drop (e - i) (drop i s))) ∙ (all_append (take (e - i) (drop i s)) (drop (e - i) (drop i s))
      ∙ ap (λ (r : List ℕ). all_capital (take (e - i) (drop i s)) && all_capital r) (drop-drop (e - i) i s ∙ ap (λ (n : ℕ). drop n s) k))

  module _ {x : Bool} {e : ℕ} (p : x ≡ all_capital (take (e - i) (drop i s))) (l : i ≤ e) where
    pub to-next : x ≡ true → e ≤ length s → CapitalTo s e
    to-next q h = record { within = h; same = sym (cut e l ∙ ap (λ (b : Bool). b && all_capital (from s e)) (sym p ∙ q)) ∙ f.same }

    pub to-stop : x ≡ false → false ≡ all_capital s
    to-stop q = sym (cut e l ∙ ap (λ (b : Bool). b && all_capital (from s e)) (sym p ∙ q)) ∙ f.same

  pub to_end : {x : Bool} → x ≡ all_capital (take (length s - i) (drop i s)) → x ≡ all_capital s
  unfolding from
  to_end p = p ∙ (ap all_capital (take_all (length s - i) (drop i s) (omega (arith, length-drop i s))) ∙ f.same)

take-join : (s : List ℕ) (i e : ℕ) → i ≤ e → take e s ≡ take i s ++ take (e - i) (drop i s)
take-join s i e l = let k : e ≡ i + (e - i) = omega arith in ap (λ (n : ℕ). take n s) k ∙ take-add i (e - i) s

pub front-more : {s : List ℕ} {i e : ℕ} {x : Bool} → CapitalFront s i → x ≡ all_capital (take (e - i) (drop i s)) → x ≡ true → i ≤ e → e ≤ length s → CapitalFront s e
front-more {s} {i} {e} f p q l h = record { within = h; front = ap all_capital (take-join s i e l) ∙ (all_append (take i s) (take (e - i) (drop i s)) ∙ rw (f.front, sym p ∙ q) refl) }

-- a part of the front
pub front-part : {s : List ℕ} {n start end : ℕ} → CapitalFront s n → start ≤ end → end ≤ n → all_capital (take (end - start) (drop start s)) ≡ true
front-part {s} {n} {start} {end} f l h =
    let a = ap all_capital (sym (take-join s end n h)) ∙ f.front in
    let b = and_left (all_capital (take end s)) (all_capital (take (n - end) (drop end s))) (sym (all_append (take end s) (take (n - end) (drop end s))) ∙ a) in
    and_right (all_capital (take start s)) (all_capital (take (end - start) (drop start s))) (sym (all_append (take start s) (take (end - start) (drop start s))) ∙ (ap all_capital (sym (take-join s start end l)) ∙ b))

-- BYTES

or_cases : (a b : Bool) {P : Type 0} → (a || b) ≡ true → (a ≡ true → P) → (b ≡ true → P) → P
or_cases true b e p q = p refl
or_cases false b e p q = q e

-- a capital letter lies below the small ones
low-letter : (c : ℕ) → within "A" "Z" c ≡ true → c < 97
low-letter c e = omega (arith, leb-true c 90 (and_right (leb 65 c) (leb c 90) e))

low-underscore : (c : ℕ) → is "_" c ≡ true → c < 97
low-underscore c e = omega (arith, eqb-true c 95 e)

low-capital : (c : ℕ) → capital c ≡ true → c < 97
unfolding capital digit
low-capital c e =
    or_cases (within "A" "Z" c || digit c) (is "_" c) e
    (λ q. or_cases (within "A" "Z" c) (digit c) q (low-letter c) (λ d. omega (arith, leb-true c 57 (and_right (leb 48 c) (leb c 57) d))))
    (low-underscore c)

capital-wordy : (c : ℕ) → capital c ≡ true → wordy c ≡ true
unfolding capital wordy letter digit
capital-wordy c e = go (within "0" "9" c) (within "A" "Z" c) (within "a" "z" c) (is "_" c) e
  where
    go : (d a b u : Bool) → (a || d || u) ≡ true → (d || (a || b || u)) ≡ true
    go true a b u e = refl
    go false true b u e = refl
    go false false true u e = refl
    go false false false u e = e

all-wordy : (s : List ℕ) → all_capital s ≡ true → while wordy s ≡ s
unfolding while
all-wordy [] e = refl
all-wordy (c ∷ s) e = rw (capital-wordy c (and_left (capital c) (all_capital s) e), while) (ap (λ (l : List ℕ). c ∷ l) (all-wordy s (and_right (capital c) (all_capital s) e)))

all_upper_lem : (s : List ℕ) → all_capital s ≡ true → same s (map upper s) ≡ true
all_upper_lem [] e = refl
all_upper_lem (c ∷ s) e = rw (eq-eqb c (upper c) (upper-low c (low-capital c (and_left (capital c) (all_capital s) e)))) (all_upper_lem s (and_right (capital c) (all_capital s) e))

-- THE TOKEN

record Begins (c : ℕ) : Type 0 where
  letter : letter c ≡ true
  digit : digit c ≡ false
  hash : is "#" c ≡ false
  minus : is "-" c ≡ false
  no-x : is "X" (upper c) ≡ false
  no-r : is "R" (upper c) ≡ false

not-true : (a : Bool) → not a ≡ true → a ≡ false
not-true true e = never cc
not-true false e = refl

-- by where the byte lies
begins-at : (c : ℕ) → 65 ≤ c → c ≤ 95 → letter c ≡ true → is "R" c ≡ false → is "X" c ≡ false → Begins c
unfolding digit
begins-at c a b l r x =
    let u : upper c ≡ c = sym (upper-low c (omega arith)) in
    record {
      letter = l;
      digit = ap (λ (q : Bool). leb 48 c && q) (lt-leb c 57 (omega arith)) ∙ no-right (leb 48 c);
      hash = ne_eqb c 35 (λ (e : c ≡ 35). omega arith);
      minus = ne_eqb c 45 (λ (e : c ≡ 45). omega arith);
      no-x = rw u x;
      no-r = rw u r;
    }

begins : (c : ℕ) → beginning c ≡ true → Begins c
unfolding beginning letter
begins c e =
    let q = and_left ((within "A" "Z" c || is "_" c) && not (is "R" c)) (not (is "X" c)) e in
    let p = and_left (within "A" "Z" c || is "_" c) (not (is "R" c)) q in
    let r = not-true (is "R" c) (and_right (within "A" "Z" c || is "_" c) (not (is "R" c)) q) in
    let x = not-true (is "X" c) (and_right ((within "A" "Z" c || is "_" c) && not (is "R" c)) (not (is "X" c)) e) in
    or_cases (within "A" "Z" c) (is "_" c) p
    (λ h. begins-at c (leb-true 65 c (and_left (leb 65 c) (leb c 90) h)) (omega (arith, leb-true c 90 (and_right (leb 65 c) (leb c 90) h))) (rw h refl) r x)
    (λ h. begins-at c (omega (arith, eqb-true c 95 h)) (omega (arith, eqb-true c 95 h)) (rw h (all-or (within "A" "Z" c) (within "a" "z" c))) r x)
  where
    all-or : (a b : Bool) → (a || b || true) ≡ true
    all-or true b = refl
    all-or false true = refl
    all-or false false = refl

begins-token : (c : ℕ) (s : List ℕ) → Begins c → token_at c s ≡ word_at (c ∷ s)
unfolding token_at when◌then◌else◌
begins-token c s b = rw (b.digit, b.hash, b.minus, b.no-x, b.no-r, b.letter) refl

plain-good : (l : List ℕ) → length l ≤ 64 → plain l ≡ true → true ≡ good_name l
unfolding good_name label_token word_at
plain-good [] h e = never cc
plain-good (c ∷ s) h e =
    let q = and_right (beginning c) (all_capital (c ∷ s) && is_label (ident_of (map upper (c ∷ s)))) e in
    let a = and_left (all_capital (c ∷ s)) (is_label (ident_of (map upper (c ∷ s)))) q in
    let i = and_right (all_capital (c ∷ s)) (is_label (ident_of (map upper (c ∷ s)))) q in
    rw (
      begins-token c s (begins c (and_left (beginning c) (all_capital (c ∷ s) && is_label (ident_of (map upper (c ∷ s)))) e)),
      all-wordy (c ∷ s) a,
      eq-eqb (length (c ∷ s)) (length (c ∷ s)) refl,
      word-free (c ∷ s) i (all_upper_lem (c ∷ s) a),
      le-leb (length (c ∷ s)) 64 h,
    ) refl

pub plain-told : (l : List ℕ) {x : Bool} → length l ≤ 64 → x ≡ plain l → x ≡ true → true ≡ good_name l
plain-told l h p e = plain-good l h (sym p ∙ e)

-- THE ANSWERS, by the first byte

pub plain_word : (l : List ℕ) {x y z : Bool} {i : Ident} → (length l ≡ 0 → ⊥) → x ≡ beginning (get_or l 0 0) → x ≡ true → y ≡ all_capital l → y ≡ true
    → i ≡ ident_of (map upper l) → z ≡ is_label i → z ≡ plain l
plain_word [] h p e q f k m = absurd (h refl)
plain_word (c ∷ s) h p e q f k m = m ∙ (ap is_label k ∙ sym (rw (sym p ∙ e, sym q ∙ f) refl))

pub plain-long : (l : List ℕ) {x y : Bool} → (length l ≡ 0 → ⊥) → x ≡ beginning (get_or l 0 0) → x ≡ true → y ≡ all_capital l → y ≡ true → 5 < length l → true ≡ plain l
plain-long l h p e q f k = plain_word l h p e q f (ident-long l (omega arith) k) refl

-- a long word of capital bytes
pub capital-good : (l : List ℕ) {x : Bool} → all_capital l ≡ true → 5 < length l → length l ≤ 64 → x ≡ beginning (get_or l 0 0) → x ≡ true → true ≡ good_name l
capital-good l a k h p e = plain-told l h (plain-long l (λ z. omega (arith, z, k)) p e (sym a) refl k) refl
