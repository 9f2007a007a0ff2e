-- The texts of spaces, numbers and counts as they are put. Assumes nothing.
use Prim.Native.Nat.{ℕ, zero, suc, ◌+◌, ◌-◌, ◌/◌, ◌%◌, ◌^◌, ◌≤◌, ◌<◌, min}
use mathlib.Core.Path.{◌≡◌, refl, sym, ◌∙◌, ap}
use mathlib.Core.List.{List, [], ◌∷◌, append-nil}
use native.Mathlib.Nat.{pow-zero, pow-suc, mod-eq_of_lt}
use native.Mathlib.Omega.{arith}
use borrow.Author.Tests.{lt-ltb, le-ltb, eq-eqb, ne_eqb}
use lib.ListN.{length, get_or, take, drop, replicate}
use borrow.Rule.Slice.PartMut.{put_mid}
use Rattle.io.specs.Digits.{hex_digit_ascii, last_digits, IsDigitCount}
use Rattle.rules.specs.Base.{when◌then◌else◌}
use Rattle.rules.specs.Listing.{hex4}
use Rattle.view_text.specs.Put.{Put}
use Rattle.view_text.specs.Texts.{spaces, gap, padded, digits_in, decimal, counted, hex_text, hex_text2}
use Rattle.view_text.proofs.Putting.{put_same, put-more, put-from, fill-in}

-- SPACES
pub spaces-in : {b r : List ℕ} (at n g : ℕ) → at < length b → n ≡ min g (length b - at) → r ≡ replicate (length (take (at + n - at) (drop at b))) 32 → Put b (put_mid at (at + n - at) b r) at (at + n) (spaces g)
unfolding spaces
spaces-in at n g h e p = fill-in at n g 32 h e p

-- NUMBERS. The fewest digits are the digits
less : (k : ℕ) → suc k - 1 ≡ k
less k = omega arith

pow-least : (k : ℕ) → 1 ≤ 10 ^ k
pow-least zero = let e = pow-zero 10 in omega (arith, e)
pow-least (suc k) = let e = pow-suc 10 k in let h = pow-least k in omega (arith, e, h)

digit : (d : ℕ) → d < 10 → hex_digit_ascii d ≡ 48 + d
digit d h = rw (lt-ltb d 10 h)

alone : (f n : ℕ) → n < 10 → digits_in f n ≡ (48 + n) ∷ []
unfolding digits_in
alone zero n h = refl
alone (suc f) n h = rw (lt-ltb n 10 h, digits_in) refl

spelled : (k f n : ℕ) → n ≤ f → IsDigitCount 10 1 n k → last_digits 10 k n ≡ digits_in f n
unfolding digits_in
spelled zero f n h (a, b, c) = absurd (omega arith)
spelled (suc zero) f n h (a, b, c) =
    let l : n < 10 = b in
    ap (λ (d : ℕ). d ∷ []) (ap hex_digit_ascii (mod-eq_of_lt l) ∙ digit n l) ∙ sym (alone f n l)
spelled (suc (suc k)) zero n h (a, b, c) =
    let e = pow-suc 10 k in let l = pow-least k in let m : 10 ^ suc k ≤ n = rw (← less (suc k)) (c (omega arith)) in absurd (omega (arith, e, l, m))
spelled (suc (suc k)) (suc f) n h (a, b, c) =
    let e = pow-suc 10 k in
    let e2 = pow-suc 10 (suc k) in
    let l = pow-least k in
    let m : 10 ^ suc k ≤ n = rw (← less (suc k)) (c (omega arith)) in
    let t : 10 ≤ n = omega (arith, e, l, m) in
    let i : last_digits 10 (suc k) (n / 10) ≡ digits_in f (n / 10) = spelled (suc k) f (n / 10) (omega arith) (omega arith, omega (arith, e2), λ _. rw (less k) (omega (arith, e, m))) in
    let g : hex_digit_ascii (n % 10) ≡ 48 + n % 10 = digit (n % 10) (omega arith) in
    rw (i, g, le-ltb n 10 t, digits_in) refl

pub decimal-put : {b c : List ℕ} {at e : ℕ} {t : List ℕ} (n k : ℕ) → Put b c at e t → t ≡ last_digits 10 k n → IsDigitCount 10 1 n k → Put b c at e (decimal n)
unfolding decimal
decimal-put n k p q h = put_same (q ∙ spelled k n n (omega arith) h) p

-- a number with what it counts
pub count-one : {b c d f : List ℕ} {at k l e : ℕ} (n : ℕ) (w : List ℕ) → n ≡ 1 → Put b c at k (decimal n) → Put c d k l (32 ∷ []) → Put d f l e w → Put b f at e (counted n w)
unfolding counted when◌then◌else◌
count-one n w h p q r = rw (eq-eqb n 1 h) (put_same (sym (append-nil _)) (put-more (put-more p q) r))

pub count-many : {b c d f g : List ℕ} {at k l m e : ℕ} (n : ℕ) (w : List ℕ) → (n ≡ 1 → ⊥) → Put b c at k (decimal n) → Put c d k l (32 ∷ []) → Put d f l m w → Put f g m e (115 ∷ []) → Put b g at e (counted n w)
unfolding counted when◌then◌else◌
count-many n w h p q r s = rw (ne_eqb n 1 h) (put-more (put-more (put-more p q) r) s)

-- a text padded up to a column of its line
pub pad-put : {b c d : List ℕ} {at m e : ℕ} (column : ℕ) (t : List ℕ) → Put b c at m t → Put c d m e (spaces (gap (m - at) column)) → Put b d at e (padded column t)
unfolding padded
pad-put column t p q = put-from (λ n. spaces (gap n column)) t p q

-- hexadecimal digits
pub hex-all : (v : ℕ) (t : List ℕ) → t ≡ hex4 v → 120 ∷ get_or t 0 0 ∷ get_or t 1 0 ∷ get_or t 2 0 ∷ get_or t 3 0 ∷ [] ≡ hex_text v
unfolding hex_text hex4
hex-all v t h = rw h refl

pub hex-put : {b c : List ℕ} {at e : ℕ} (v : ℕ) {t : List ℕ} → t ≡ hex_text v → Put b c at e t → Put b c at e (hex_text v)
hex-put v h p = put_same h p

pub hex2-put : {b c d f : List ℕ} {at m l e : ℕ} (v : ℕ) (t : List ℕ) → t ≡ hex4 v → Put b c at m (120 ∷ []) → Put c d m l (get_or t 2 0 ∷ []) → Put d f l e (get_or t 3 0 ∷ []) → Put b f at e (hex_text2 v)
unfolding hex_text2 hex4
hex2-put v t h p q r = put_same (rw h refl) (put-more (put-more p q) r)
