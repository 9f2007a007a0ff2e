-- A refusal's texts as they are put. Assumes nothing.
use Prim.Native.Nat.{ℕ, ◌+◌, ◌-◌, ◌≤◌, ◌<◌}
use mathlib.Core.Path.{◌≡◌, sym, ◌∙◌, ap}
use mathlib.Core.Bool.{Bool, true, false, ◌&&◌}
use mathlib.Core.List.{List, [], ◌∷◌}
use native.Mathlib.Omega.{arith}
use borrow.Author.Tests.{leb-true, eq-eqb, ne_eqb, le-leb, lt-leb}
use lib.Dec.{leb, ltb}
use lib.ListN.{length, take}
use Rattle.rules.specs.Base.{when◌then◌else◌, bytes}
use Rattle.rules.specs.Answers.{refusal_name}
use Rattle.rules.proofs.Bools.{and_left, and_right}
use Rattle.view_text.specs.Put.{Put}
use Rattle.view_text.specs.Texts.{decimal}
use Rattle.view_text.proofs.Putting.{put-none, put_same, put-more}
use Rattle.view_places.specs.Lines.{feeds, since, line_start, line_stop}
use Rattle.view_places.proofs.LineLaws.{feeds-few}
use Rattle.view_line.specs.Shown.{underlined}
use Rattle.view_note.specs.Notes.{note_text}
use Rattle.view_refusal.specs.Meanings.{meaning}
use Rattle.view_refusal.specs.Refusals.{title, position_text, end_words, heading_text, placeless_text, placed, second_text, placed_text, refusal_text}

pub title-put :
    (n : ℕ) {b c d f g h i : List ℕ} {at j k l m o e x : ℕ}
    → x ≡ n → Put b c at j (bytes "REFUSED ") → Put c d j k (decimal x) → Put d f k l (32 ∷ []) → Put f g l m (refusal_name n) → Put g h m o (bytes ": ")
    → Put h i o e (meaning n) → Put b i at e (title n)
unfolding title
title-put n r p q s t u v = put-more (put-more (put-more (put-more (put-more p (put_same (ap decimal r) q)) s) t) u) v

-- one more than the feeds before a place, and than the bytes behind the last
pub feeds-fit : (s : List ℕ) {x : ℕ} → x ≡ feeds s → x ≤ length s
feeds-fit s q = omega (arith, feeds-few s)

pub position-put :
    (file s : List ℕ) (place : ℕ) {b c d f g h i : List ℕ} {at j k l m o e x y u v : ℕ}
    → x ≡ feeds (take (place - 0) s) → y ≡ since (take (place - 0) s) → u ≡ x + 1 → v ≡ y + 1
    → Put b c at j file → Put c d j k (58 ∷ []) → Put d f k l (decimal u) → Put f g l m (58 ∷ []) → Put g h m o (decimal v) → Put h i o e (bytes ": ")
    → Put b i at e (position_text file s place)
unfolding position_text
position-put file s place {x = x} {y} {u} {v} q r w z p1 p2 p3 p4 p5 p6 =
    let n : place - 0 ≡ place = omega arith in
    let a : u ≡ feeds (take place s) + 1 = w ∙ ap (λ (k : ℕ). k + 1) (q ∙ ap (λ (k : ℕ). feeds (take k s)) n) in
    let b : v ≡ since (take place s) + 1 = z ∙ ap (λ (k : ℕ). k + 1) (r ∙ ap (λ (k : ℕ). since (take k s)) n) in
    put-more (put-more (put-more (put-more (put-more p1 p2) (put_same (ap decimal a) p3)) p4) (put_same (ap decimal b) p5)) p6

-- the end of the source, the end of a line, neither
module _ (s : List ℕ) (place : ℕ) where
  module _ {b c : List ℕ} {at e : ℕ} where
    pub end-source : place ≡ length s → Put b c at e (bytes " (the end of the source)") → Put b c at e (end_words s place)
    unfolding end_words when◌then◌else◌
    end-source h p = rw (eq-eqb place (length s) h) p

    pub end_line :
        {first last : ℕ} → (place ≡ length s → ⊥) → first ≡ line_start s place → last ≡ line_stop s first → last ≤ place
        → Put b c at e (bytes " (the end of the line)") → Put b c at e (end_words s place)
    unfolding end_words when◌then◌else◌
    end_line h q r l p = rw (ne_eqb place (length s) h, ← q, ← r, le-leb _ place l) p

  pub end_none :
      (b : List ℕ) (at : ℕ) {first last : ℕ} → (place ≡ length s → ⊥) → first ≡ line_start s place → last ≡ line_stop s first → place < last
      → Put b b at at (end_words s place)
  unfolding end_words when◌then◌else◌
  end_none b at h q r l = rw (ne_eqb place (length s) h, ← q, ← r, lt-leb _ place l) (put-none b at)

pub heading-put :
    (file s : List ℕ) (n place : ℕ) {b c d f g : List ℕ} {at j k l e : ℕ}
    → Put b c at j (position_text file s place) → Put c d j k (title n) → Put d f k l (end_words s place) → Put f g l e (10 ∷ [])
    → Put b g at e (heading_text file s n place)
unfolding heading_text
heading-put file s n place p q r t = put-more (put-more (put-more p q) r) t

pub placeless-put :
    (file : List ℕ) (n : ℕ) {b c d f g : List ℕ} {at j k l e : ℕ}
    → Put b c at j file → Put c d j k (bytes ": ") → Put d f k l (title n) → Put f g l e (10 ∷ []) → Put b g at e (placeless_text file n)
unfolding placeless_text
placeless-put file n p q r t = put-more (put-more (put-more p q) r) t

-- what a place that can be shown has
module _ (s : List ℕ) (start end : ℕ) {t : Bool} (q : t ≡ placed s start end) where
  pub placed-in : t ≡ true → start ≤ length s
  unfolding placed
  placed-in h = leb-true start (length s) (and_right (ltb 0 end) _ (and_left (ltb 0 end && leb start (length s)) _ (sym q ∙ h)))

  pub placed-taken : t ≡ true → length s ≤ 262144
  unfolding placed
  placed-taken h = leb-true (length s) 262144 (and_right (ltb 0 end && leb start (length s)) _ (sym q ∙ h))

  pub second-put :
      (file : List ℕ) {b c d f : List ℕ} {at j k e : ℕ}
      → t ≡ true → Put b c at j (position_text file s start) → Put c d j k (bytes "and here\n") → Put d f k e (underlined s start end)
      → Put b f at e (second_text file s start end)
  unfolding second_text when◌then◌else◌
  second-put file h p r u = rw (sym q ∙ h) (put-more (put-more p r) u)

  pub second_none : (file b : List ℕ) (at : ℕ) → t ≡ false → Put b b at at (second_text file s start end)
  unfolding second_text when◌then◌else◌
  second_none file b at h = rw (sym q ∙ h) (put-none b at)

  module _ (file : List ℕ) (n start2 end2 : ℕ) {b c : List ℕ} {at e : ℕ} where
    pub refusal-placed : (n ≡ 11 → ⊥) → t ≡ true → Put b c at e (placed_text file s n start end start2 end2) → Put b c at e (refusal_text file s n start end start2 end2)
    unfolding refusal_text when◌then◌else◌
    refusal-placed g h p = rw (ne_eqb n 11 g, sym q ∙ h) p

    pub refusal-not-placed : (n ≡ 11 → ⊥) → t ≡ false → Put b c at e (placeless_text file n) → Put b c at e (refusal_text file s n start end start2 end2)
    unfolding refusal_text when◌then◌else◌
    refusal-not-placed g h p = rw (ne_eqb n 11 g, sym q ∙ h) p

pub refusal-whole :
    (file s : List ℕ) (n start end start2 end2 : ℕ) {b c : List ℕ} {at e : ℕ}
    → n ≡ 11 → Put b c at e (placeless_text file n) → Put b c at e (refusal_text file s n start end start2 end2)
unfolding refusal_text when◌then◌else◌
refusal-whole file s n start end start2 end2 h p = rw (eq-eqb n 11 h) p

pub placed-put :
    (file s : List ℕ) (n start end start2 end2 : ℕ) {b c d f g : List ℕ} {at j k l e : ℕ}
    → Put b c at j (heading_text file s n start) → Put c d j k (underlined s start end) → Put d f k l (note_text s n start) → Put f g l e (second_text file s start2 end2)
    → Put b g at e (placed_text file s n start end start2 end2)
unfolding placed_text
placed-put file s n start end start2 end2 p q r t = put-more (put-more (put-more p q) r) t
