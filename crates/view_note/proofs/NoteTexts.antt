-- A note's texts as they are put. Assumes nothing.
use Prim.Native.Nat.{ℕ, zero, suc}
use mathlib.Core.Path.{◌≡◌, refl, sym, ◌∙◌, ap}
use mathlib.Core.Bool.{Bool, true, false}
use mathlib.Core.List.{List, [], ◌∷◌, ◌++◌}
use native.Mathlib.Decide.{dec_lt}
use native.Mathlib.Omega.{arith}
use borrow.Author.Tests.{eq-eqb, ne_eqb}
use Rattle.rules.specs.Base.{when◌then◌else◌, bytes}
use Rattle.rules.specs.Words.{Field}
use Rattle.rules.specs.Statements.{as_number}
use Rattle.lex_token.specs.Meant.{kind_at}
use Rattle.lex_token.specs.declared.Lexeme.{Lexeme}
use Rattle.lex_token.specs.Flat.{fault_sort}
use Rattle.lex.specs.Label.{label_text}
use Rattle.lex.specs.Sorts.{kind_by, Stands, NoFault}
use Rattle.parse_field.specs.Coded.{field_of}
use Rattle.parse_field.specs.declared.Field as code
use Rattle.parse_field.specs.declared.Field.TheVariants as field
use Rattle.view_text.specs.Put.{Put}
use Rattle.view_text.specs.Texts.{decimal, digits_in}
use Rattle.view_text.proofs.Putting.{put-none, put_same, put-more}
use Rattle.view_due.specs.declared.Due.{Due}
use Rattle.view_due.specs.declared.Due.TheVariants.{Statement, Directive, Comma, LineEnd, Operand}
use Rattle.view_due.specs.declared.Place.{Place}
use Rattle.view_due.specs.Wanted.{due_at, label_before}
use Rattle.view_due.specs.Coded.{meant, span_of}
use Rattle.view_far.specs.Far.{far_note}
use Rattle.view_note.specs.Notes.{low_text, range_text, field_text, num_text, number_text, number_at, takes_text, operand_text, labelled, label_words, said, said_at, has_note, due_note, note_text}

-- WHAT A FIELD TAKES, as the code has it
abbrev pub takes : code.Field → List ℕ
takes field.Dr = bytes "a register"
takes field.Sr = bytes "a register"
takes field.RegOrImm = bytes "a register or a number from -16 to 15"
takes field.Offset6 = bytes "a number from -32 to 31"
takes field.Near9 = bytes "a label or a number from -256 to 255"
takes field.Near11 = bytes "a label or a number from -1024 to 1023"
takes field.Trap = bytes "a number from 0 to 255"
takes field.Word = bytes "a number from 0 to 65535"
takes field.Fill = bytes "a label or a number from -32768 to 65535"
takes field.Name = bytes "a label"
takes field.Text = bytes "a string"

takes-is : (f : code.Field) → takes f ≡ field_text (field_of f)
unfolding field_text range_text low_text decimal digits_in
takes-is field.Dr = refl
takes-is field.Sr = refl
takes-is field.RegOrImm = refl
takes-is field.Offset6 = refl
takes-is field.Near9 = refl
takes-is field.Near11 = refl
takes-is field.Trap = refl
takes-is field.Word = refl
takes-is field.Fill = refl
takes-is field.Name = refl
takes-is field.Text = refl

pub field_put : (f g : code.Field) {b c : List ℕ} {at e : ℕ} → f ≡ g → Put b c at e (takes g) → Put b c at e (field_text (field_of f))
field_put f g h p = rw h (put_same (takes-is g) p)

-- A NUMBER
module _ (s : List ℕ) (i : ℕ) (t : Lexeme) (h : Stands s i t) where
  number_is : (l : NoFault t) → number_at s i ≡ number_text (kind_by s t.sort t)
  unfolding number_at
  number_is l = rw (h.token l, number_at)

  pub number_put : {b c : List ℕ} {at e v : ℕ} → t.sort ≡ 0 → v ≡ t.value → Put b c at e (decimal v) → Put b c at e (number_at s i)
  unfolding number_text num_text as_number
  number_put k q p = let z : number_at s i ≡ decimal t.value = number_is (omega arith) ∙ rw k refl in put_same (ap decimal q ∙ sym z) p

  pub negative-put : {b c d : List ℕ} {at m e v : ℕ} → t.sort ≡ 1 → v ≡ t.value → Put b c at m (45 ∷ []) → Put c d m e (decimal v) → Put b d at e (number_at s i)
  unfolding number_text num_text as_number
  negative-put k q p r =
      let z : number_at s i ≡ bytes "-" ++ decimal t.value = number_is (omega arith) ∙ rw k refl in
      put_same (sym z) (put-more p (put_same (ap decimal q) r))

  none-there : (k : ℕ) → (k ≡ 0 → ⊥) → (k ≡ 1 → ⊥) → number_text (kind_by s k t) ≡ []
  unfolding number_text as_number kind_at
  none-there zero x y = absurd (x refl)
  none-there (suc zero) x y = absurd (y refl)
  none-there (suc (suc zero)) x y = refl
  none-there (suc (suc (suc zero))) x y = refl
  none-there (suc (suc (suc (suc zero)))) x y = refl
  none-there (suc (suc (suc (suc (suc zero))))) x y = refl
  none-there (suc (suc (suc (suc (suc (suc zero)))))) x y = refl
  none-there (suc (suc (suc (suc (suc (suc (suc zero))))))) x y = refl
  none-there (suc (suc (suc (suc (suc (suc (suc (suc zero)))))))) x y = refl
  none-there (suc (suc (suc (suc (suc (suc (suc (suc (suc zero))))))))) x y = refl
  none-there (suc (suc (suc (suc (suc (suc (suc (suc (suc (suc k)))))))))) x y = refl

  pub number-none : (b : List ℕ) (at : ℕ) → (t.sort ≡ 0 → ⊥) → (t.sort ≡ 1 → ⊥) → Put b b at at (number_at s i)
  unfolding number_at
  number-none b at x y = go (dec_lt t.sort fault_sort)
    where
      go : Dec (NoFault t) → Put b b at at (number_at s i)
      go (yes l) = put_same (sym (number_is l ∙ none-there t.sort x y)) (put-none b at)
      go (no l) = rw (h.bad (omega arith), number_at) (put-none b at)

-- OPERANDS
pub takes-put :
    (s : List ℕ) (place : ℕ) (f : Field) {b c d g h i : List ℕ} {at j k l m e : ℕ}
    → Put b c at j (bytes "this operand takes ") → Put c d j k (field_text f) → Put d g k l (bytes ", and ") → Put g h l m (number_at s place) → Put h i m e (bytes " stands here")
    → Put b i at e (takes_text s place f)
unfolding takes_text
takes-put s place f p q r t u = put-more (put-more (put-more (put-more p q) r) t) u

module _ (s : List ℕ) (n place : ℕ) (f : Field) where
  pub operand-range : {b c : List ℕ} {at e : ℕ} → n ≡ 15 → Put b c at e (takes_text s place f) → Put b c at e (operand_text s n place f)
  unfolding operand_text when◌then◌else◌
  operand-range h p = rw (eq-eqb n 15 h) p

  pub operand-kind : {b c d : List ℕ} {at m e : ℕ} → (n ≡ 15 → ⊥) → Put b c at m (field_text f) → Put c d m e (bytes " is due here") → Put b d at e (operand_text s n place f)
  unfolding operand_text when◌then◌else◌
  operand-kind h p q = rw (ne_eqb n 15 h) (put-more p q)

-- LABELS
module _ (s : List ℕ) (place : ℕ) (x : Place) (q : span_of x ≡ label_before s place) where
  pub label-none : (b : List ℕ) (at : ℕ) → x.end ≡ 0 → Put b b at at (label_words s place)
  unfolding label_words labelled when◌then◌else◌
  label-none b at h = rw (← q, eq-eqb x.end 0 h) (put-none b at)

  pub label-some :
      (w : List ℕ) {b c d f : List ℕ} {at j k e : ℕ}
      → (x.end ≡ 0 → ⊥) → w ≡ label_text s x.start x.end → Put b c at j (bytes "; ") → Put c d j k w → Put d f k e (bytes " before it was read as a label")
      → Put b f at e (label_words s place)
  unfolding label_words labelled when◌then◌else◌
  label-some w h g p r t = rw (← q, ne_eqb x.end 0 h) (put-more (put-more p (put_same g r)) t)

-- WHAT IS DUE
module _ (s : List ℕ) (n place : ℕ) (d : Due) (q : meant d ≡ due_at s place) where
  pub said-statement : {b c f : List ℕ} {at j e : ℕ} → d ≡ Statement → Put b c at j (bytes "an instruction or a directive is due here") → Put c f j e (label_words s place) → Put b f at e (said_at s n place)
  unfolding said_at said meant
  said-statement h p r = rw (← q, h, meant, said) (put-more p r)

  module _ {b c : List ℕ} {at e : ℕ} where
    pub said-directive : d ≡ Directive → Put b c at e (bytes "the directives are .orig, .fill, .blkw, .stringz, .end and .external") → Put b c at e (said_at s n place)
    unfolding said_at said meant
    said-directive h p = rw (← q, h, meant, said) p

    pub said-comma : d ≡ Comma → Put b c at e (bytes "a comma is due here") → Put b c at e (said_at s n place)
    unfolding said_at said meant
    said-comma h p = rw (← q, h, meant, said) p

    pub said-line : d ≡ LineEnd → Put b c at e (bytes "the end of the line is due here") → Put b c at e (said_at s n place)
    unfolding said_at said meant
    said-line h p = rw (← q, h, meant, said) p

    pub said-operand : (f : code.Field) → d ≡ Operand f → Put b c at e (operand_text s n place (field_of f)) → Put b c at e (said_at s n place)
    unfolding said_at said meant
    said-operand f h p = rw (← q, h, meant, said) p

-- THE NOTE
pub note-far : (s : List ℕ) (n place : ℕ) {b c : List ℕ} {at e : ℕ} → n ≡ 29 → Put b c at e (far_note s place) → Put b c at e (note_text s n place)
unfolding note_text when◌then◌else◌
note-far s n place h p = rw (eq-eqb n 29 h) p

module _ (s : List ℕ) (n place : ℕ) (o : n ≡ 29 → ⊥) {t : Bool} (q : t ≡ has_note n) where
  pub note-put : {b c d f : List ℕ} {at j k e : ℕ} → t ≡ true → Put b c at j (bytes "note: ") → Put c d j k (said_at s n place) → Put d f k e (10 ∷ []) → Put b f at e (note_text s n place)
  unfolding note_text due_note when◌then◌else◌
  note-put h p r u = rw (ne_eqb n 29 o, sym q ∙ h) (put-more (put-more p r) u)

  pub note-none : (b : List ℕ) (at : ℕ) → t ≡ false → Put b b at at (note_text s n place)
  unfolding note_text due_note when◌then◌else◌
  note-none b at h = rw (ne_eqb n 29 o, sym q ∙ h) (put-none b at)
