-- The lines of labels and words as they are put. Assumes nothing.
use Rattle.std.specs.declared.option.Option as O
use Rattle.std.specs.declared.option.Option.TheVariants.{Some, None}
use Rattle.std.proofs.Common.{◌≡◌, ℕ, ◌+◌, ◌-◌, ◌%◌, ◌<◌, ◌≤◌, List, [], ◌∷◌, ◌++◌, refl, append_assoc, arith, le-ltb, lt-ltb, le-leb}
use mathlib.Core.Option.{Option, some}
use borrow.Author.Tests.{lt-leb}
use Rattle.rules.specs.Base.{when◌then◌else◌, bytes}
use Rattle.rules.specs.Listing.{hex_digit, hex4}
use Rattle.rules.specs.Words as R
use Rattle.rules.specs.Words.{line}
use Rattle.view_text.specs.Put.{Put}
use Rattle.view_text.specs.Texts.{spaces, gap, padded, hex_text}
use Rattle.view_text.proofs.Putting.{put-none, put_same, put-more, put-from}
use Rattle.view_text.proofs.Texts.{pad-put}
use Rattle.view_instruction.specs.Lines.{line_text, line_reach}
use Rattle.view_instruction.specs.Spelled.{reached}
use Rattle.view_word.specs.Labels.{label_at, name_text, label_line}
use Rattle.view_word.specs.Words.{front, label_behind, reached_note, char_note, note_by, beside, noted, set_line, unset_line, waiting_line}

pub label-put : {b c d f g : List ℕ} {at j k l e : ℕ} (a : ℕ) (name : List ℕ) → Put b c at j (hex_text a) → Put c d j k (spaces (gap (j - at) 14)) → Put d f k l name → Put f g l e (10 ∷ []) → Put b g at e (label_line a name)
unfolding label_line
label-put a name p1 p2 p3 p4 = put-more (put-more (pad-put 14 (hex_text a) p1 p2) p3) p4

pub front-put :
    {b c d f g h i : List ℕ} {at j k l m o e : ℕ} (a : ℕ) (shown name : List ℕ) →
    Put b c at j (hex_text a) → Put c d j k (spaces (gap (j - at) 7)) → Put d f k l shown → Put f g l m (spaces (gap (l - at) 14)) → Put g h m o name → Put h i o e (spaces (gap (o - at) 32)) →
    Put b i at e (front a shown name)
unfolding front
front-put a shown name p1 p2 p3 p4 p5 p6 = pad-put 32 _ (put-more (pad-put 14 _ (put-more (pad-put 7 (hex_text a) p1 p2) p3) p4) p5) p6

module _ {b : List ℕ} {at : ℕ} (start w : ℕ) where
  pub char_below : w < 32 → Put b b at at (beside (at - start) (char_note w))
  unfolding char_note beside when◌then◌else◌
  char_below h = put_same (rw (lt-leb 32 w h) refl) (put-none b at)

  pub char-above : 127 ≤ w → Put b b at at (beside (at - start) (char_note w))
  unfolding char_note beside when◌then◌else◌
  char-above h = put_same (rw (le-leb 32 w (omega arith), le-ltb w 127 h) refl) (put-none b at)

  pub char-put :
      {c d f g : List ℕ} {j k l e x : ℕ} → 32 ≤ w → w < 127 → x ≡ w → Put b c at j (spaces (gap (at - start) 52)) → Put c d j k (59 ∷ 32 ∷ 39 ∷ []) → Put d f k l (x ∷ []) → Put f g l e (39 ∷ []) →
      Put b g at e (beside (at - start) (char_note w))
  unfolding char_note beside when◌then◌else◌
  char-put h h2 q p1 p2 p3 p4 = put_same (rw (le-leb 32 w h, lt-ltb w 127 h2, q, append_assoc, append_assoc) refl) (put-more (put-more (put-more p1 p2) p3) p4)

module _ (ls ns : List ℕ) (n : ℕ) {b : List ℕ} {at : ℕ} where
  pub behind-put : (k : ℕ) {c d : List ℕ} {j e : ℕ} {name : List ℕ} → k < n → name ≡ name_text ls ns n k → Put b c at j (32 ∷ []) → Put c d j e name → Put b d at e (label_behind ls ns n k)
  unfolding label_behind when◌then◌else◌
  behind-put k h q p1 p2 = put_same (rw (lt-ltb k n h, q) refl) (put-more p1 p2)

  pub behind-none : (k : ℕ) → n ≤ k → Put b b at at (label_behind ls ns n k)
  unfolding label_behind when◌then◌else◌
  behind-none k h = put_same (rw (le-ltb k n h) refl) (put-none b at)

  pub reached-put :
      (target start : ℕ) {c d f g : List ℕ} {j k l e row : ℕ} → Put b c at j (spaces (gap (at - start) 52)) → Put c d j k (59 ∷ 32 ∷ []) → Put d f k l (hex_text target) →
      row ≡ label_at ls n target → Put f g l e (label_behind ls ns n row) → Put b g at e (beside (at - start) (some (reached_note ls ns n target)))
  unfolding beside reached_note
  reached-put target start p1 p2 p3 q p4 = put_same (rw (q, append_assoc, append_assoc) refl) (put-more (put-more (put-more p1 p2) p3) p4)

  pub note-offset :
      (start a w d t : ℕ) {e : ℕ} {c : List ℕ} {r : O.Option ℕ} → r ≡ Some d → t ≡ (a + 1 + d) % 65536 → Put b c at e (beside (at - start) (some (reached_note ls ns n t))) →
      Put b c at e (beside (at - start) (note_by ls ns n a w (reached r)))
  unfolding note_by reached
  note-offset start a w d t q z p = rw (q) (put_same (rw z refl) p)

  pub note-char :
      (start a w : ℕ) {e : ℕ} {c : List ℕ} {r : O.Option ℕ} → r ≡ None → Put b c at e (beside (at - start) (char_note w)) → Put b c at e (beside (at - start) (note_by ls ns n a w (reached r)))
  unfolding note_by reached
  note-char start a w q p = rw (q) p

  pub set-put :
      (k a w : ℕ) {c d f g : List ℕ} {j l m e : ℕ} (x name : List ℕ) (y : R.Line) (z : Option ℕ) → x ≡ hex_text w → name ≡ name_text ls ns n k → y ≡ line w → z ≡ line_reach y →
      Put b c at j (front a x name) → Put c d j l (line_text y) → Put d f l m (beside (l - at) (note_by ls ns n a w z)) → Put f g m e (10 ∷ []) → Put b g at e (set_line ls ns n k a w)
  unfolding set_line noted
  set-put k a w x name y z q1 q2 q3 q4 p1 p2 p3 p4 =
      put_same (rw (q4, q3, q2, q1) refl) (put-more (put-from (λ u. beside u (note_by ls ns n a w z)) (front a x name ++ line_text y) (put-more p1 p2) p3) p4)

  pub unset-put : (k a : ℕ) {c d : List ℕ} {j e : ℕ} {name : List ℕ} → name ≡ name_text ls ns n k → Put b c at j (front a (bytes "-") name) → Put c d j e (bytes ".blkw, not set" ++ (10 ∷ [])) → Put b d at e (unset_line ls ns n k a)
  unfolding unset_line
  unset-put k a q p1 p2 = put_same (rw (q, append_assoc) refl) (put-more p1 p2)

  pub waiting-put :
      (k a outer : ℕ) {c d f g h : List ℕ} {j l m o e : ℕ} {name name2 : List ℕ} → name ≡ name_text ls ns n k → name2 ≡ name_text ls ns n outer → Put b c at j (front a (bytes "x0000") name) →
      Put c d j l (bytes ".fill ") → Put d f l m name2 → Put f g m o (spaces (gap (m - at) 52)) → Put g h o e (bytes "; external, known after a link" ++ (10 ∷ [])) → Put b h at e (waiting_line ls ns n k a outer)
  unfolding waiting_line noted beside padded hex_text hex4 hex_digit when◌then◌else◌
  waiting-put k a outer q1 q2 p1 p2 p3 p4 p5 =
      put_same (rw (q1, q2) (simp append_assoc refl)) (put-more (pad-put 52 _ (put-more (put-more p1 p2) p3) p4) p5)
