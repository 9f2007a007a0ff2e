-- The note's texts as they are put. Assumes nothing.
use Prim.Native.Nat.{ℕ, ◌+◌, ◌-◌, ◌≤◌, ◌<◌}
use mathlib.Core.Path.{◌≡◌, refl}
use mathlib.Core.List.{List, [], ◌∷◌}
use borrow.Author.Tests.{lt-ltb, le-ltb, eq-eqb, ne_eqb}
use Rattle.rules.specs.Base.{when◌then◌else◌, bytes}
use Rattle.rules.specs.Words.{signed, offset}
use Rattle.lex.specs.Label.{label_text}
use Rattle.parse_labels.specs.Names.{name_from, Between}
use Rattle.parse.specs.declared.Statement.{Statement}
use Rattle.view_text.specs.Put.{Put}
use Rattle.view_text.specs.Texts.{decimal, digits_in, counted}
use Rattle.view_text.proofs.Putting.{put-none, put_same, put-more}
use Rattle.view_far.specs.declared.Sought.TheVariants.{Operand, Label}
use Rattle.std.specs.declared.option.Option as O
use Rattle.std.specs.declared.option.Option.TheVariants.{Some, None}
use Rattle.view_far.specs.Far.{aims_at, has_label, where_is, distance_text, reach_text, far_line, far_to, far_from, far_note}
use Rattle.view_far.specs.Seeking.{tested, range_by, aimed, Pointed, Tells}
use Rattle.view_far.proofs.Naming.{Aims, aims-found, between-name}
use Rattle.view_far.proofs.Finding.{found-passes}

-- HOW FAR
pub distance-after : {b c d : List ℕ} {at m e v : ℕ} (n : ℕ) → n < 32768 → v ≡ n → Put b c at m (counted v (bytes "word")) → Put c d m e (bytes " after") → Put b d at e (distance_text n)
unfolding distance_text when◌then◌else◌
distance-after n h q p r = rw (lt-ltb n 32768 h, ← q) (put-more p r)

pub distance-before : {b c d : List ℕ} {at m e v : ℕ} (n : ℕ) → 32768 ≤ n → v ≡ 65536 - n → Put b c at m (counted v (bytes "word")) → Put c d m e (bytes " before") → Put b d at e (distance_text n)
unfolding distance_text when◌then◌else◌
distance-before n h q p r = rw (le-ltb n 32768 h, ← q) (put-more p r)

-- HOW FAR IT REACHES
reach9 : bytes "this operand reaches from 256 before it to 255 after it" ≡ reach_text (signed 9)
unfolding reach_text decimal digits_in
reach9 = refl

reach11 : bytes "this operand reaches from 1024 before it to 1023 after it" ≡ reach_text (signed 11)
unfolding reach_text decimal digits_in
reach11 = refl

pub reach_near : {b c : List ℕ} {at e : ℕ} (n : ℕ) → n ≡ 512 → Put b c at e (bytes "this operand reaches from 256 before it to 255 after it") → Put b c at e (reach_text (range_by n))
unfolding when◌then◌else◌
reach_near n h p = rw (eq-eqb n 512 h) (put_same reach9 p)

pub reach_far : {b c : List ℕ} {at e : ℕ} (n : ℕ) → (n ≡ 512 → ⊥) → Put b c at e (bytes "this operand reaches from 1024 before it to 1023 after it") → Put b c at e (reach_text (range_by n))
unfolding when◌then◌else◌
reach_far n h p = rw (ne_eqb n 512 h) (put_same reach11 p)

-- THE LINE
pub line-put :
    (s : List ℕ) (st : Statement) (d : ℕ) {b c g h i j k l t : List ℕ} {at m n o q r u e : ℕ}
    → t ≡ label_text s st.label_start st.label_end
    → Put b c at m (bytes "note: ") → Put c g m n t → Put g h n o (bytes " is ") → Put h i o q (distance_text d) → Put i j q r (bytes " the next instruction; ") → Put j k r u (reach_text (range_by st.reach)) → Put k l u e (10 ∷ [])
    → Put b l at e (far_line s (aimed s st) d)
unfolding far_line
line-put s st d z p v w x y a f = put-more (put-more (put-more (put-more (put-more (put-more p (put_same z v)) w) x) y) a) f

-- FROM THE INSTRUCTION TO THE LABEL
module _ (s : List ℕ) (st : Statement) (n : Between s st.label_start st.label_end) (r : O.Option (Statement × ℕ)) (t : Tells s (where_is (tested s (Label st.label_start st.label_end)) s) r) where
  same_test : tested s (Label st.label_start st.label_end) ≡ has_label (name_from s st.label_start (st.label_end - st.label_start))
  unfolding tested
  same_test = rw (between-name s st.label_start st.label_end n) refl

  pub label_small : (l : Statement) (b : ℕ) → r ≡ Some (l, b) → b < 65536
  label_small l b q = (t.there l b q).small

  pub to-there : {b c : List ℕ} {at e d : ℕ} (a : ℕ) (l : Statement) (v : ℕ) → r ≡ Some (l, v) → d ≡ offset v (a + 1) → Put b c at e (far_line s (aimed s st) d) → Put b c at e (far_to s a (aimed s st))
  unfolding far_to
  to-there a l v q z p = rw (← same_test, (t.there l v q).is, far_to, ← z) p

  pub to_none : (a : ℕ) (b : List ℕ) (at : ℕ) → r ≡ None → Put b b at at (far_to s a (aimed s st))
  unfolding far_to
  to_none a b at q = rw (← same_test, t.nowhere q, far_to) (put-none b at)

-- THE NOTE
module _ (s : List ℕ) (place : ℕ) (r : O.Option (Statement × ℕ)) (t : Tells s (where_is (tested s (Operand place)) s) r) where
  module _ (st : Statement) (a : ℕ) (q : r ≡ Some (st, a)) where
    it : Pointed s (where_is (aims_at place) s) st a
    unfolding tested
    it = t.there st a q

    aim : Aims s st it.stmt
    aim = let x = it in aims-found st place s x.at x.stmt x.faithful (found-passes (aims_at place) s _ x.is)

    pub note-between : Between s st.label_start st.label_end
    note-between = aim.between

    pub note-small : a < 65536
    note-small = it.small

    pub note-put : {b c : List ℕ} {at e : ℕ} → Put b c at e (far_to s a (aimed s st)) → Put b c at e (far_note s place)
    unfolding far_note far_from
    note-put p = rw (it.is, far_note, aim.is, far_from) p

  pub note-none : (b : List ℕ) (at : ℕ) → r ≡ None → Put b b at at (far_note s place)
  unfolding far_note tested
  note-none b at q = rw (t.nowhere q, far_note) (put-none b at)
