-- The pieces of an object's view as they are put. Assumes nothing.
use Rattle.std.proofs.Common.{◌≡◌, ℕ, suc, ◌+◌, ◌-◌, ◌*◌, ◌%◌, ◌<◌, ◌≤◌, Bool, true, false, List, [], ◌∷◌, ◌++◌, get_or, sym, refl, ap, append_assoc, arith, le-ltb, lt-ltb, eq-eqb, ne_eqb}
use Rattle.rules.specs.Base.{when◌then◌else◌, bytes}
use Rattle.rules.specs.Objects.{Counts}
use Rattle.rules.specs.Buffers.{Buffers, name_row}
use Rattle.view_text.specs.Put.{Put}
use Rattle.view_text.specs.Texts.{counted, hex_text}
use Rattle.view_text.proofs.Putting.{put-none, put_same, put-more}
use Rattle.view_word.specs.First.{first}
use Rattle.view_word.specs.Labels.{defined_row, last_at, reloc_at, own_lines}
use Rattle.view_word.specs.Words.{set_line, unset_line, waiting_line}
use Rattle.view_object.specs.Pieces.{place, heading, place_of, block_line, above, marked_line, word_line, address_lines, address_text, placed_text, word_at, word_text, label_address, apart, external_line, bare_line, apart_line, gap_before, label_text, rest_text, piece_text}
use Rattle.view_object.specs.Found.{found}
use Rattle.std.specs.Prelude.{Some, None}
use Rattle.std.specs.declared.option.Option as O
use Rattle.view_object.specs.declared.Place as D

-- a count, and what stands behind it
pub counted-put : {b c d : List ℕ} {at m e : ℕ} (n x : ℕ) (w t : List ℕ) → x ≡ n → Put b c at m (counted x w) → Put c d m e t → Put b d at e (counted n w ++ t)
counted-put n x w t q p r = put_same (rw q refl) (put-more p r)

pub heading-put :
    {b0 b1 b2 b3 b4 b5 : List ℕ} {p1 p2 p3 p4 e : ℕ} (c : Counts) →
    Put b0 b1 0 p1 (bytes "ACCEPTED: ") → Put b1 b2 p1 p2 (counted c.blocks (bytes "block") ++ bytes ", ") → Put b2 b3 p2 p3 (counted c.words (bytes "word") ++ bytes ", ") →
    Put b3 b4 p3 p4 (counted c.labels (bytes "label") ++ bytes ", ") → Put b4 b5 p4 e (counted c.relocs (bytes "relocation") ++ (10 ∷ [])) → Put b0 b5 0 e (heading c)
unfolding heading
heading-put c r1 r2 r3 r4 r5 = put_same (simp append_assoc refl) (put-more (put-more (put-more (put-more r1 r2) r3) r4) r5)

pub block-put :
    {b0 b1 b2 b3 b4 b5 b6 : List ℕ} {p1 p2 p3 p4 p5 e : ℕ} (start size last w : ℕ) → last ≡ (start + size + 65535) % 65536 → w ≡ size →
    Put b0 b1 0 p1 (bytes "\nBLOCK ") → Put b1 b2 p1 p2 (hex_text start) → Put b2 b3 p2 p3 (bytes " to ") → Put b3 b4 p3 p4 (hex_text last) → Put b4 b5 p4 p5 (bytes ", ") →
    Put b5 b6 p5 e (counted w (bytes "word") ++ (10 ∷ [])) → Put b0 b6 0 e (block_line start size)
unfolding block_line
block-put start size last w q1 q2 r1 r2 r3 r4 r5 r6 =
    put_same
    (rw (q1, q2) (sym (append_assoc (bytes "\nBLOCK " ++ hex_text start ++ bytes " to " ++ hex_text ((start + size + 65535) % 65536) ++ bytes ", ") (counted size (bytes "word")) (10 ∷ []))))
    (put-more (put-more (put-more (put-more (put-more r1 r2) r3) r4) r5) r6)

module _ {b : List ℕ} (start size before : ℕ) where
  pub above-first : {c : List ℕ} {e : ℕ} → before ≡ 0 → Put b c 0 e (block_line start size) → Put b c 0 e (above (place start size before))
  unfolding above when◌then◌else◌
  above-first h p = put_same (rw (eq-eqb before 0 h) refl) p

  pub above_other : (before ≡ 0 → ⊥) → Put b b 0 0 (above (place start size before))
  unfolding above when◌then◌else◌
  above_other h = put_same (rw (ne_eqb before 0 h) refl) (put-none b 0)

module _ (c : Counts) (ls rs ns : List ℕ) (k a w : ℕ) {b d : List ℕ} {at e : ℕ} where
  pub marked-waiting :
      {r x y : ℕ} → r ≡ reloc_at rs c.relocs a → r < c.relocs → x ≡ get_or rs (r * 2 + 1) 0 → y ≡ x → Put b d at e (waiting_line ls ns c.labels k a y) →
      Put b d at e (marked_line c ls rs ns k a w (reloc_at rs c.relocs a))
  unfolding marked_line when◌then◌else◌
  marked-waiting {r} q h u v p = put_same (rw (sym q, lt-ltb r c.relocs h, v, u) refl) p

  pub marked-set :
      {r : ℕ} → r ≡ reloc_at rs c.relocs a → c.relocs ≤ r → Put b d at e (set_line ls ns c.labels k a w) → Put b d at e (marked_line c ls rs ns k a w (reloc_at rs c.relocs a))
  unfolding marked_line when◌then◌else◌
  marked-set {r} q h p = put_same (rw (sym q, le-ltb r c.relocs h) refl) p

  pub word-unset : (mark : ℕ) → mark ≡ 0 → Put b d at e (unset_line ls ns c.labels k a) → Put b d at e (word_line c ls rs ns k a w mark)
  unfolding word_line when◌then◌else◌
  word-unset mark h p = put_same (rw (eq-eqb mark 0 h) refl) p

  pub word_set : (mark : ℕ) → (mark ≡ 0 → ⊥) → Put b d at e (marked_line c ls rs ns k a w (reloc_at rs c.relocs a)) → Put b d at e (word_line c ls rs ns k a w mark)
  unfolding word_line when◌then◌else◌
  word_set mark h p = put_same (rw (ne_eqb mark 0 h) refl) p

module _ (c : Counts) (ls rs ns : List ℕ) (w mark : ℕ) {b d f : List ℕ} {m e : ℕ} where
  pub address-put :
      (a k : ℕ) {at : ℕ} → k ≡ last_at ls c.labels a c.labels → Put b d at m (own_lines ls ns a k c.labels) → Put d f m e (word_line c ls rs ns k a w mark) → Put b f at e (address_text c ls rs ns a w mark)
  unfolding address_text address_lines
  address-put a k q p r = put_same (rw q refl) (put-more p r)

  pub placed-put :
      (start size before a : ℕ) → a ≡ (start + before) % 65536 → Put b d 0 m (above (place start size before)) → Put d f m e (address_text c ls rs ns a w mark) →
      Put b f 0 e (placed_text c ls rs ns (place start size before) w mark)
  unfolding placed_text
  placed-put start size before a q p r = put_same (rw q refl) (put-more p r)

module _ (c : Counts) (u : Buffers) (i : ℕ) {b : List ℕ} {o : O.Option D.Place} where
  pub word_in :
      (p : D.Place) {d : List ℕ} {e w mark : ℕ} → o ≡ Some p → found o ≡ place_of u.blocks c.blocks i → w ≡ get_or u.words i 0 → mark ≡ get_or u.marks i 0 →
      Put b d 0 e (placed_text c u.labels u.relocs u.names (place p.start p.size p.before) w mark) → Put b d 0 e (word_text c u i)
  unfolding word_text word_at found
  word_in p q f g h x = put_same (rw (sym f, q, g, h) refl) x

  pub word_out : o ≡ None → found o ≡ place_of u.blocks c.blocks i → Put b b 0 0 (word_text c u i)
  unfolding word_text word_at found
  word_out q f = put_same (rw (sym f, q) refl) (put-none b 0)

-- LABELS
module _ {b : List ℕ} (k j : ℕ) where
  pub gap-first : {c : List ℕ} {e : ℕ} → k ≡ j → Put b c 0 e (10 ∷ []) → Put b c 0 e (gap_before k j)
  unfolding gap_before when◌then◌else◌
  gap-first h p = put_same (rw (eq-eqb k j h) refl) p

  pub gap_other : (k ≡ j → ⊥) → Put b b 0 0 (gap_before k j)
  unfolding gap_before when◌then◌else◌
  gap_other h = put_same (rw (ne_eqb k j h) refl) (put-none b 0)

pub external-put : {b c d f : List ℕ} {at j m e : ℕ} (name : List ℕ) → Put b c at j (bytes "EXTERNAL ") → Put c d j m name → Put d f m e (10 ∷ []) → Put b f at e (external_line name)
unfolding external_line
external-put name p q r = put-more (put-more p q) r

pub bare-put :
    {b c d f g h : List ℕ} {at j k l m e : ℕ} (a : ℕ) (name : List ℕ) → Put b c at j (bytes "LABEL ") → Put c d j k (hex_text a) → Put d f k l (32 ∷ []) → Put f g l m name →
    Put g h m e (bytes ", where no word is\n") → Put b h at e (bare_line a name)
unfolding bare_line
bare-put a name p q r s t = put_same (simp append_assoc refl) (put-more (put-more (put-more (put-more p q) r) s) t)

module _ (ls ns : List ℕ) (k : ℕ) {b c : List ℕ} {at e : ℕ} {d : Bool} {name : List ℕ} where
  pub apart-bare-put : {a : ℕ} → d ≡ defined_row ls k → d ≡ true → a ≡ label_address ls k → name ≡ name_row ls ns k → Put b c at e (bare_line a name) → Put b c at e (apart_line ls ns k)
  unfolding apart_line when◌then◌else◌
  apart-bare-put q h u v p = put_same (rw (sym q, h, u, v) refl) p

  pub apart-external-put : d ≡ defined_row ls k → d ≡ false → name ≡ name_row ls ns k → Put b c at e (external_line name) → Put b c at e (apart_line ls ns k)
  unfolding apart_line when◌then◌else◌
  apart-external-put q h v p = put_same (rw (sym q, h, v) refl) p

module _ (c : Counts) (bs ls ns : List ℕ) (k : ℕ) {b : List ℕ} {t : Bool} where
  pub label-put :
      {d f : List ℕ} {m e j : ℕ} → t ≡ apart c.blocks bs ls k → t ≡ true → j ≡ first (apart c.blocks bs ls) c.labels → Put b d 0 m (gap_before k j) → Put d f m e (apart_line ls ns k) →
      Put b f 0 e (label_text c bs ls ns k)
  unfolding label_text when◌then◌else◌
  label-put q h u p r = put_same (rw (sym q, h, u) refl) (put-more p r)

  pub label-none : t ≡ apart c.blocks bs ls k → t ≡ false → Put b b 0 0 (label_text c bs ls ns k)
  unfolding label_text when◌then◌else◌
  label-none q h = put_same (rw (sym q, h) refl) (put-none b 0)

-- PIECES
module _ (c : Counts) (u : Buffers) (i : ℕ) {b : List ℕ} where
  pub rest-word : {d : List ℕ} {e : ℕ} → i < c.words → Put b d 0 e (word_text c u i) → Put b d 0 e (rest_text c u i)
  unfolding rest_text when◌then◌else◌
  rest-word h p = put_same (rw (lt-ltb i c.words h) refl) p

  pub rest-label :
      {d : List ℕ} {e : ℕ} → c.words ≤ i → i - c.words < c.labels → Put b d 0 e (label_text c u.blocks u.labels u.names (i - c.words)) → Put b d 0 e (rest_text c u i)
  unfolding rest_text when◌then◌else◌
  rest-label h l p = put_same (rw (le-ltb i c.words h, lt-ltb (i - c.words) c.labels l) refl) p

  pub rest-none : c.words ≤ i → c.labels ≤ i - c.words → Put b b 0 0 (rest_text c u i)
  unfolding rest_text when◌then◌else◌
  rest-none h l = put_same (rw (le-ltb i c.words h, le-ltb (i - c.words) c.labels l) refl) (put-none b 0)

module _ (c : Counts) (u : Buffers) (p : ℕ) {b d : List ℕ} {e : ℕ} where
  pub piece-first : p ≡ 0 → Put b d 0 e (heading c) → Put b d 0 e (piece_text c u p)
  unfolding piece_text
  piece-first h q = put_same (rw h refl) q

  pub piece-rest : (p ≡ 0 → ⊥) → Put b d 0 e (rest_text c u (p - 1)) → Put b d 0 e (piece_text c u p)
  unfolding piece_text
  piece-rest h q = let z : suc (p - 1) ≡ p = omega arith in put_same (ap (piece_text c u) z) q
