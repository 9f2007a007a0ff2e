-- A line and its carets as they are put. Assumes nothing.
use Prim.Native.Nat.{ℕ, ◌+◌, ◌-◌, ◌<◌, ◌≤◌, min}
use mathlib.Core.Path.{◌≡◌, refl, sym, ap}
use mathlib.Core.Bool.{true, false, ◌&&◌, ◌||◌}
use mathlib.Core.List.{List, [], ◌∷◌, ◌++◌, map, map-append}
use native.Mathlib.Numerals.{add-one}
use native.Mathlib.Omega.{arith}
use borrow.Author.Tests.{lt-ltb, le-ltb, le-leb, lt-leb, eq-eqb, ne_eqb}
use lib.Dec.{eqb, leb, ltb}
use lib.ListN.{length, get_or, take, drop}
use lib.Seq.{take-suc, take_all}
use Rattle.rules.specs.Base.{when◌then◌else◌, bytes}
use Rattle.lex_token.specs.Meant.{part}
use Rattle.view_places.specs.Lines.{line_start, line_stop}
use Rattle.view_text.specs.Put.{Put}
use Rattle.view_text.proofs.Putting.{put-none, put_same, put-more}
use Rattle.view_line.specs.Shown.{shown_byte, under_byte, window_start, window_stop, between, shown_line, carets, caret_line, underlined}

-- the loop over a text whose bytes are put changed: none, one more, all
module _ (f : ℕ → ℕ) (t : List ℕ) where
  pub mapped-more : {b c d : List ℕ} {at m e i x : ℕ} → i < length t → x ≡ f (get_or t i 0) → Put b c at m (map f (take i t)) → Put c d m e (x ∷ []) → Put b d at e (map f (take (i + 1) t))
  mapped-more {i = i} h g p q =
      put_same (sym (rw (add-one, take-suc t i 0 h, map-append, g) refl)) (put-more p q)

  pub mapped-all : {b c : List ℕ} {at e i : ℕ} → length t ≤ i → Put b c at e (map f (take i t)) → Put b c at e (map f t)
  mapped-all h p = put_same (ap (map f) (take_all _ t h)) p

-- a byte as it is shown, and what stands under one
module _ (b : ℕ) where
  pub shown-as-is : (eqb b 9 || (leb 32 b && ltb b 127)) ≡ true → b ≡ shown_byte b
  unfolding shown_byte when◌then◌else◌
  shown-as-is h = rw h

  pub shown-hidden : (eqb b 9 || (leb 32 b && ltb b 127)) ≡ false → 63 ≡ shown_byte b
  unfolding shown_byte when◌then◌else◌
  shown-hidden h = rw h

  pub under-tab : (mark : ℕ) → b ≡ 9 → b ≡ under_byte mark b
  unfolding under_byte when◌then◌else◌
  under-tab mark h = rw (eq-eqb b 9 h)

  pub under-other : (mark : ℕ) → (b ≡ 9 → ⊥) → mark ≡ under_byte mark b
  unfolding under_byte when◌then◌else◌
  under-other mark h = rw (ne_eqb b 9 h)

-- the window
module _ (first last place : ℕ) where
  pub window-whole : {d : ℕ} → d ≡ last - first → d ≤ 100 → first ≡ window_start first last place
  unfolding window_start when◌then◌else◌
  window-whole e h = rw (le-leb (last - first) 100 (omega (arith, e, h)))

  pub window-part : {d m k : ℕ} → d ≡ last - first → 100 < d → m ≡ place - first → k ≡ m - 60 → first + k ≡ window_start first last place
  unfolding window_start when◌then◌else◌
  window-part e h f g = rw (lt-leb (last - first) 100 (omega (arith, e, h)), g, f)

pub window-stops : (start last : ℕ) {d k : ℕ} → d ≡ last - start → k ≡ min 100 d → start + k ≡ window_stop start last
unfolding window_stop
window-stops start last e f = rw (f, e)

-- a window's end lies in the source
pub window-in : (start last n : ℕ) {w : ℕ} → w ≡ window_stop start last → start ≤ n → last ≤ n → w ≤ n
unfolding window_stop
window-in start last n e h g = omega arith

pub window_on : (start last : ℕ) {w : ℕ} → w ≡ window_stop start last → start ≤ w
unfolding window_stop
window_on start last e = omega arith

pub least-in : (e : ℕ) {w n k : ℕ} → k ≡ min e w → w ≤ n → k ≤ n
least-in e q h = omega arith

-- what stands for bytes that are left out
pub between-some : {b c : List ℕ} {at e x y : ℕ} (t : List ℕ) → x < y → Put b c at e t → Put b c at e (between x y t)
unfolding between when◌then◌else◌
between-some {x = x} {y = y} t h p = rw (lt-ltb x y h) p

pub between_none : (b : List ℕ) (at x y : ℕ) (t : List ℕ) → y ≤ x → Put b b at at (between x y t)
unfolding between when◌then◌else◌
between_none b at x y t h = rw (le-ltb x y h) (put-none b at)

-- the lines
module _ (s : List ℕ) {b c d f g i : List ℕ} {at j k l m e : ℕ} where
  pub line-put :
      (first start stop last : ℕ)
      → Put b c at j (bytes "    ") → Put c d j k (between first start (bytes "...")) → Put d f k l (map shown_byte (take (stop - start) (drop start s)))
      → Put f g l m (between stop last (bytes "...")) → Put g i m e (10 ∷ []) → Put b i at e (shown_line s first start stop last)
  unfolding shown_line part
  line-put first start stop last p q r t u = put-more (put-more (put-more (put-more p q) r) t) u

  pub caret-line-put :
      (first start place stop : ℕ)
      → Put b c at j (bytes "    ") → Put c d j k (between first start (bytes "   ")) → Put d f k l (map (under_byte 32) (take (place - start) (drop start s)))
      → Put f g l m (carets s place stop) → Put g i m e (10 ∷ []) → Put b i at e (caret_line s first start place stop)
  unfolding caret_line part
  caret-line-put first start place stop p q r t u = put-more (put-more (put-more (put-more p q) r) t) u

module _ (s : List ℕ) {b c : List ℕ} {at e place stop : ℕ} where
  pub carets-some : place < stop → Put b c at e (map (under_byte 94) (take (stop - place) (drop place s))) → Put b c at e (carets s place stop)
  unfolding carets part when◌then◌else◌
  carets-some h p = rw (lt-ltb place stop h) p

  pub carets-one : stop ≤ place → Put b c at e (94 ∷ []) → Put b c at e (carets s place stop)
  unfolding carets when◌then◌else◌
  carets-one h p = rw (le-ltb place stop h) p

pub underlined-put :
    (s : List ℕ) (place end : ℕ) {b c d : List ℕ} {at m e first last start stop k : ℕ}
    → first ≡ line_start s place → last ≡ line_stop s first → start ≡ window_start first last place → stop ≡ window_stop start last → k ≡ min end stop
    → Put b c at m (shown_line s first start stop last) → Put c d m e (caret_line s first start place k) → Put b d at e (underlined s place end)
unfolding underlined
underlined-put s place end {first = first} {last} {start} {stop} {k} p q r t u x y =
    put_same (let z : shown_line s first start stop last ++ caret_line s first start place k ≡ underlined s place end = cc in z) (put-more x y)
