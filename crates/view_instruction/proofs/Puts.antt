-- Operands and mnemonics put one behind the other are an instruction's text. Assumes nothing.
use Prim.Native.Nat.{ℕ, ◌+◌, ◌-◌, ◌%◌, ◌<◌, ◌≤◌}
use mathlib.Core.Path.{◌≡◌, refl, sym, ap}
use mathlib.Core.List.{List, [], ◌∷◌, ◌++◌, append-nil, append_assoc}
use borrow.Author.Tests.{lt-ltb, le-ltb}
use Rattle.rules.specs.Base.{when◌then◌else◌, bytes}
use Rattle.isa.specs.Instructions.{meant}
use Rattle.isa.specs.Disassembly.{meant_line}
use Rattle.isa.specs.declared.AsmInstr.{AsmInstr}
use Rattle.isa.specs.declared.disassembly.Line as L
use Rattle.isa.specs.declared.disassembly.Line.TheVariants as LV
use Rattle.view_text.specs.Put.{Put}
use Rattle.view_text.specs.Texts.{decimal, hex_text, hex_text2}
use Rattle.view_text.proofs.Putting.{put_same, put-more}
use Rattle.view_instruction.specs.Lines.{Part, reg, number, offset, vector, reg_text, signed_text, part_text, space, comma, parts_text, spelling, instr_text, line_text}
use Rattle.view_instruction.specs.Spelled.{key_row, parts_of}
use Rattle.view_instruction.specs.declared.Operands.{Operands}

module _ {b c d : List ℕ} {at m e : ℕ} where
  pub reg-put : {f s : List ℕ} (r : ℕ) {k x : ℕ} → x ≡ 48 + r % 8 → Put b c at m s → Put c d m k (82 ∷ []) → Put d f k e (x ∷ []) → Put b f at e (s ++ part_text (reg r))
  unfolding part_text reg_text
  reg-put r q p1 p2 p3 = put_same (rw (q, append_assoc) refl) (put-more (put-more p1 p2) p3)

  pub plus-put : (n v : ℕ) → v < 32768 → n ≡ v → Put b c at m (35 ∷ []) → Put c d m e (decimal n) → Put b d at e (signed_text v)
  unfolding signed_text when◌then◌else◌
  plus-put n v h q p1 p2 = rw (lt-ltb v 32768 h) (put_same (rw q refl) (put-more p1 p2))

  pub minus-put : (n v : ℕ) → 32768 ≤ v → n ≡ v → Put b c at m (35 ∷ 45 ∷ []) → Put c d m e (decimal (65536 - n)) → Put b d at e (signed_text v)
  unfolding signed_text when◌then◌else◌
  minus-put n v h q p1 p2 = rw (le-ltb v 32768 h) (put_same (rw q refl) (put-more p1 p2))

  pub number_put : {s : List ℕ} (v : ℕ) → Put b c at m s → Put c d m e (signed_text v) → Put b d at e (s ++ part_text (number v))
  unfolding part_text
  number_put v p q = put-more p q

  pub vector-put : (v : ℕ) → Put b c at m (32 ∷ []) → Put c d m e (hex_text2 v) → Put b d at e (parts_text space (vector v ∷ []))
  unfolding parts_text part_text
  vector-put v p q = put_same (sym (append-nil _)) (put-more p q)

  pub two-put : (s : List ℕ) (p q : Part) → Put b c at m (s ++ part_text p) → Put c d m e (comma ++ part_text q) → Put b d at e (parts_text s (p ∷ q ∷ []))
  unfolding parts_text
  two-put s p q u v = put_same (ap (λ (t : List ℕ). s ++ part_text p ++ t) (sym (append-nil (comma ++ part_text q)))) (put-more u v)

  pub three-put : (s : List ℕ) (p q r : Part) → Put b c at m (parts_text s (p ∷ q ∷ [])) → Put c d m e (comma ++ part_text r) → Put b d at e (parts_text s (p ∷ q ∷ r ∷ []))
  unfolding parts_text
  three-put s p q r u v =
      put_same (simp (append-nil, append_assoc) refl) (put-more u v)

pub offset-put : {b c : List ℕ} {at e : ℕ} (s : List ℕ) (v : ℕ) → Put b c at e (s ++ part_text (number v)) → Put b c at e (s ++ part_text (offset v))
unfolding part_text
offset-put s v p = p

pub one-put : {b c : List ℕ} {at e : ℕ} (s : List ℕ) (p : Part) → Put b c at e (s ++ part_text p) → Put b c at e (parts_text s (p ∷ []))
unfolding parts_text
one-put s p u = put_same (sym (append-nil _)) u

pub operands-put : {b c : List ℕ} {at e : ℕ} {o p : Operands} → o ≡ p → Put b c at e (parts_text space (parts_of p)) → Put b c at e (parts_text space (parts_of o))
operands-put q p = put_same (ap (λ (x : Operands). parts_text space (parts_of x)) (sym q)) p

pub instr-put :
    {b c d : List ℕ} {at m e : ℕ} (k : ℕ) (o : Operands) (i : AsmInstr) → key_row k ≡ (spelling (meant i)).key → parts_of o ≡ (spelling (meant i)).parts →
    Put b c at m (key_row k) → Put c d m e (parts_text space (parts_of o)) → Put b d at e (instr_text (meant i))
unfolding instr_text
instr-put k o i q r u v = put_same (rw (q, r) refl) (put-more u v)

pub line-instr : {b c : List ℕ} {at e : ℕ} {i : AsmInstr} {l : L.Line} → l ≡ LV.Instr i → Put b c at e (instr_text (meant i)) → Put b c at e (line_text (meant_line l))
unfolding line_text
line-instr q p = put_same (ap (λ (x : L.Line). line_text (meant_line x)) (sym q)) p

pub line-fill : {b c d : List ℕ} {at m e w : ℕ} {l : L.Line} → l ≡ LV.Fill w → Put b c at m (bytes ".fill ") → Put c d m e (hex_text w) → Put b d at e (line_text (meant_line l))
unfolding line_text
line-fill q p r = put_same (ap (λ (x : L.Line). line_text (meant_line x)) (sym q)) (put-more p r)
