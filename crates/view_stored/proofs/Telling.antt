-- The words for what stands at a place of stored bytes, as they are put. Assumes nothing.
use Prim.Native.Nat.{ℕ, ◌-◌}
use mathlib.Core.Path.{◌≡◌, refl, sym, ◌∙◌, ap}
use mathlib.Core.Bool.{Bool, true, false}
use mathlib.Core.List.{List}
use native.Mathlib.Omega.{arith}
use borrow.Author.Tests.{ne_eqb}
use lib.Dec.{eqb}
use Rattle.rules.specs.Base.{when◌then◌else◌, bytes}
use Rattle.rules.specs.Answers.{answer}
use Rattle.rules.specs.Stored.{field_at, check}
use Rattle.laws_stored.specs.Offsets.{part_at}
use Rattle.object_answer.specs.declared.Answer.{Answer}
use Rattle.object_answer.specs.Meant.{meant}
use Rattle.stored_read.specs.Told.{told}
use Rattle.stored_read.specs.declared.Field.{Field}
use Rattle.stored_read.specs.declared.Field.TheVariants.{Over, CutShort, Found}
use Rattle.view_text.specs.Put.{Put}
use Rattle.view_text.specs.Texts.{decimal}
use Rattle.view_text.proofs.Putting.{put_same, put-more}
use Rattle.view_stored.specs.Broken.{tag_text, field_text, ends_at, wrong_text, offset_text, broken_text}

-- a text put at a place
module _ {b c : List ℕ} {at e : ℕ} where
  -- A TAG
  module _ (t : ℕ) where
    pub tag-end : t ≡ 0 → Put b c at e (bytes "the end with content, or before all words of a block") → Put b c at e (tag_text t)
    unfolding tag_text when◌then◌else◌
    tag-end h p = rw h p

    pub tag-block : t ≡ 1 → Put b c at e (bytes "a block with no words, not above the last, past xFE00, before all words of the last, after a label, or one too many") → Put b c at e (tag_text t)
    unfolding tag_text when◌then◌else◌
    tag-block h p = rw h p

    pub tag-set : t ≡ 2 → Put b c at e (bytes "set words where there are none, half a one, above 16,384, more than their block lacks, or behind others that are not full") → Put b c at e (tag_text t)
    unfolding tag_text when◌then◌else◌
    tag-set h p = rw h p

    pub tag-unset : t ≡ 3 → Put b c at e (bytes "unset words where there are none, more than their block lacks, or behind others") → Put b c at e (tag_text t)
    unfolding tag_text when◌then◌else◌
    tag-unset h p = rw h p

    pub tag-label : t ≡ 4 → Put b c at e (bytes "a label with no good name, not above the last, before all words of a block, after a relocation, or one too many") → Put b c at e (tag_text t)
    unfolding tag_text when◌then◌else◌
    tag-label h p = rw h p

    pub tag-external : t ≡ 5 → Put b c at e (bytes "an external with no good name, not above the last, before all words of a block, after a relocation, or one too many") → Put b c at e (tag_text t)
    unfolding tag_text when◌then◌else◌
    tag-external h p = rw h p

    pub tag-relocation : t ≡ 6 → Put b c at e (bytes "a relocation at no set word 0, of no external, not above the last, or one too many") → Put b c at e (tag_text t)
    unfolding tag_text when◌then◌else◌
    tag-relocation h p = rw h p

    pub tag-other :
        (t ≡ 0 → ⊥) → (t ≡ 1 → ⊥) → (t ≡ 2 → ⊥) → (t ≡ 3 → ⊥) → (t ≡ 4 → ⊥) → (t ≡ 5 → ⊥) → (t ≡ 6 → ⊥) → Put b c at e (bytes "no field has this tag") → Put b c at e (tag_text t)
    unfolding tag_text when◌then◌else◌
    tag-other n0 n1 n2 n3 n4 n5 n6 p = rw (ne_eqb t 0 n0, ne_eqb t 1 n1, ne_eqb t 2 n2, ne_eqb t 3 n3, ne_eqb t 4 n4, ne_eqb t 5 n5, ne_eqb t 6 n6) p

  -- A FIELD
  module _ (f : Field) where
    pub field-over : f ≡ Over → Put b c at e (bytes "the field that ends the bytes is missing") → Put b c at e (field_text f)
    unfolding field_text
    field-over h p = rw h p

    pub field_cut : f ≡ CutShort → Put b c at e (bytes "a field that is cut short") → Put b c at e (field_text f)
    unfolding field_text
    field_cut h p = rw h p

    pub field_found : (t start end : ℕ) → f ≡ Found t start end → Put b c at e (tag_text t) → Put b c at e (field_text f)
    unfolding field_text
    field_found t start end h p = rw h p

-- WHAT IS WRONG
pub ends-told : (b : List ℕ) (i : ℕ) (p : List ℕ) (r : Answer) → p ≡ part_at b 0 (i - 0) → meant r ≡ answer (check p) → eqb r.number 0 ≡ ends_at b i
unfolding ends_at
ends-told b i p r q h =
    let z : i - 0 ≡ i = omega arith in
    let k : r.number ≡ (answer (check (part_at b 0 i))).number = ap (λ a. a.number) h ∙ ap (λ (x : List ℕ). (answer (check x)).number) (rw z at q) in
    ap (λ (n : ℕ). eqb n 0) k

module _ {b c : List ℕ} {at e : ℕ} (s : List ℕ) (i : ℕ) (t : Bool) (h : t ≡ ends_at s i) where
  pub wrong-after : t ≡ true → Put b c at e (bytes "bytes after the end") → Put b c at e (wrong_text s i)
  unfolding wrong_text when◌then◌else◌
  wrong-after k p = rw (sym h ∙ k) p

  pub wrong-here : t ≡ false → (x : Field) → x ≡ told i (field_at s i) → Put b c at e (field_text x) → Put b c at e (wrong_text s i)
  unfolding wrong_text when◌then◌else◌
  wrong-here k x q p = rw (sym h ∙ k, ← q) p

-- THE LINE
pub offset-put :
    {b c d f : List ℕ} {at i j e : ℕ} (n m : ℕ) → m ≡ n → Put b c at i (bytes "    at byte ") → Put c d i j (decimal m) → Put d f j e (bytes ": ") → Put b f at e (offset_text n)
unfolding offset_text
offset-put n m r p1 p2 p3 = put_same (rw r refl) (put-more (put-more p1 p2) p3)

pub broken-line :
    {b c d f : List ℕ} {at i j e : ℕ} (s : List ℕ) (n : ℕ) → Put b c at i (offset_text n) → Put c d i j (wrong_text s n) → Put d f j e (bytes "\n") → Put b f at e (broken_text s n)
unfolding broken_text
broken-line s n p1 p2 p3 = put-more (put-more p1 p2) p3
