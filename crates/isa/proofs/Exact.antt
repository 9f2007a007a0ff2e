-- A word and the instruction that encodes to exactly it, by the four high bits. Assumes nothing.
use Rattle.std.specs.declared.option.Option.TheVariants.{Some, None}
use Rattle.std.specs.declared.option.Option as O
use Prim.Native.Nat.{ℕ, zero, suc, ◌+◌, ◌-◌, ◌*◌, ◌/◌, ◌%◌, ◌^◌, ◌≤◌, ◌<◌}
use native.Mathlib.Nat.{mod-lt, div-div-eq-div-mul, add_left_cancel, zero-add, mod-eq_of_lt}
use native.Mathlib.Omega.{arith}
use mathlib.Core.Option.{Option, none, some}
use mathlib.Core.Path.{◌≡◌, refl, ap, sym, ◌∙◌}
use lib.Dec.{eqb, leb}
use lib.ListN.{get_or}
use lib.Pow.{pow_pos}
use borrow.Author.Tests.{lt-ltb, le-ltb, le-leb, eq-eqb, ne_eqb, leb-true, eqb-true, eqb-false}
use Rattle.rules.specs.Base.{when◌then◌else◌}
use Rattle.rules.specs.Words as R
use Rattle.rules.specs.Words.{Instr, signed, unsigned, reg_or_imm, num, near, DR, SR, instructions, find, field, register, value, bits, ◌⊕◌, joined, made, word, cases, at9, at6, low, last, trap, equals, exactly, disassemble, line, Width}
use Rattle.rules.proofs.Fields.{by-test, field-extend, extend_fits, fits-above}
use Rattle.rules.proofs.Disassembly.{found}
use Rattle.rules.proofs.Bools.{never}
use Rattle.isa.proofs.Parts.{reg-bits, branched, one_reg}
use Rattle.isa.specs.Instructions.{operand_of, meant}
use Rattle.isa.specs.Disassembly.{extended, last_of, meant_if}
use Rattle.isa.specs.declared.ImmOrReg.{ImmOrReg}
use Rattle.isa.specs.declared.ImmOrReg.TheVariants.{Imm, Reg}
use Rattle.isa.specs.declared.AsmInstr.{AsmInstr}
use Rattle.isa.specs.declared.AsmInstr.TheVariants.{ADD, AND, LD, LDI, LDR, LEA, ST, STI, STR, BR, JMP, JSR, JSRR, NOT, RET, RTI, TRAP, GETC, PUTC, PUTS, IN, PUTSP, HALT}

-- an instruction that encodes to another word is none
refused : (k : ℕ) (i : Instr) (w v : ℕ) → 512 ≤ w → w / 4096 ≡ k → get_or (cases w) k none ≡ some i → word i ≡ some v → (v ≡ w → ⊥) → disassemble w ≡ none
unfolding disassemble exactly equals when◌then◌else◌
refused k i w v l p c e n = rw (le-ltb w 512 l, p, c, e, ne_eqb v w n)

-- the low bits of a word, read and written back
module _ (k : ℕ) (ok : Width k) (w : ℕ) where
  num-low : bits (num (signed k)) (value (low k w)) ≡ some (w % 2 ^ k)
  unfolding bits when◌then◌else◌
  num-low = let l = mod-lt w (pow_pos k) in rw (extend_fits k ok (w % 2 ^ k) l, field-extend k ok (w % 2 ^ k) l)

  near-low : bits (near (signed k)) (value (low k w)) ≡ some (w % 2 ^ k)
  unfolding bits when◌then◌else◌
  near-low = let l = mod-lt w (pow_pos k) in rw (extend_fits k ok (w % 2 ^ k) l, field-extend k ok (w % 2 ^ k) l)

wide : (k : ℕ) → 1 ≤ k → k ≤ 16 → Width k
wide k l m = record { least = l; most = m }

eight : (n : ℕ) → n % 8 ≤ 7
eight n = omega arith

-- a register and an offset9
nine-sum : (k w : ℕ) → w / 4096 ≡ k → some (k * 4096) ⊕ bits DR (register (at9 w)) ⊕ bits (near (signed 9)) (value (low 9 w)) ≡ some w
unfolding ◌⊕◌
nine-sum k w e = rw (reg-bits 512 (at9 w) (eight (w / 512)), near-low 9 (wide 9 (omega arith) (omega arith)) w) (ap some (omega arith))

nine-shows :
    (k : ℕ) (A : ℕ → ℕ → AsmInstr) → 1 ≤ k → ((w : ℕ) → get_or (cases w) k none ≡ some (meant (A (at9 w) (low 9 w)))) →
    ((d o : ℕ) → word (meant (A d o)) ≡ some (k * 4096) ⊕ bits DR (register d) ⊕ bits (near (signed 9)) (value o)) →
    (w r : ℕ) → w / 4096 ≡ k → r ≡ low 9 w → some (meant (A (at9 w) r)) ≡ disassemble w
nine-shows k A l c row w r p q = rw q (sym (found k _ w (omega arith) p (c w) (row (at9 w) (low 9 w) ∙ nine-sum k w p)))

-- two registers and an offset6
six-sum : (k w : ℕ) → w / 4096 ≡ k → some (k * 4096) ⊕ bits DR (register (at9 w)) ⊕ bits SR (register (at6 w)) ⊕ bits (num (signed 6)) (value (low 6 w)) ≡ some w
unfolding ◌⊕◌
six-sum k w e =
    rw (reg-bits 512 (at9 w) (eight (w / 512)), reg-bits 64 (at6 w) (eight (w / 64)), num-low 6 (wide 6 (omega arith) (omega arith)) w) (ap some (omega arith))

six-shows :
    (k : ℕ) (A : ℕ → ℕ → ℕ → AsmInstr) → 1 ≤ k → ((w : ℕ) → get_or (cases w) k none ≡ some (meant (A (at9 w) (at6 w) (low 6 w)))) →
    ((d b o : ℕ) → word (meant (A d b o)) ≡ some (k * 4096) ⊕ bits DR (register d) ⊕ bits SR (register b) ⊕ bits (num (signed 6)) (value o)) →
    (w r : ℕ) → w / 4096 ≡ k → r ≡ low 6 w → some (meant (A (at9 w) (at6 w) r)) ≡ disassemble w
six-shows k A l c row w r p q = rw q (sym (found k _ w (omega arith) p (c w) (row (at9 w) (at6 w) (low 6 w) ∙ six-sum k w p)))

-- a word by its digits
by-four : (n : ℕ) → n / 32 ≡ n / 8 / 4
by-four n = sym (div-div-eq-div-mul n 8 4)

by_two : (n : ℕ) → n / 64 ≡ n / 32 / 2
by_two n = sym (div-div-eq-div-mul n 32 2)

low-five : (w : ℕ) → w % 64 ≡ w / 32 % 2 * 32 + w % 32
low-five w = omega (arith, by_two w)

low-three : (w : ℕ) → w % 32 ≡ w / 8 % 4 * 8 + w % 8
low-three w = omega (arith, by-four w)

digits : (k w : ℕ) → w / 4096 ≡ k → w ≡ k * 4096 + at9 w * 512 + at6 w * 64 + w % 64
digits k w e = omega arith

sum-with : (k w f : ℕ) → w / 4096 ≡ k → w % 64 ≡ f → k * 4096 + at9 w * 512 + at6 w * 64 + f ≡ w
sum-with k w f e q = ap (λ (x : ℕ). k * 4096 + at9 w * 512 + at6 w * 64 + x) (sym q) ∙ sym (digits k w e)

sum_back : (k w f : ℕ) → w / 4096 ≡ k → k * 4096 + at9 w * 512 + at6 w * 64 + f ≡ w → w % 64 ≡ f
sum_back k w f e q = add_left_cancel (k * 4096 + at9 w * 512 + at6 w * 64) (sym (digits k w e) ∙ sym q)

no_middle : (w : ℕ) → w / 32 % 2 ≡ 0 → w % 64 ≡ w % 8 → w / 8 % 4 ≡ 0
no_middle w b e =
    let f : w % 32 ≡ w % 8 = sym (zero-add (w % 32)) ∙ sym (low-five w ∙ ap (λ (x : ℕ). x * 32 + w % 32) b) ∙ e in
    middle (w / 8 % 4) (w % 8) (sym (low-three w) ∙ f)
  where
    middle : (m t : ℕ) → m * 8 + t ≡ t → m ≡ 0
    middle m t h = omega arith

by-eight : (n : ℕ) → n / 4096 ≡ n / 512 / 8
by-eight n = sym (div-div-eq-div-mul n 512 8)

by-2048 : (n : ℕ) → n / 2048 ≡ n / 512 / 4
by-2048 n = sym (div-div-eq-div-mul n 512 4)

by-4096 : (n : ℕ) → n / 4096 ≡ n / 2048 / 2
by-4096 n = sym (div-div-eq-div-mul n 2048 2)

even : (w : ℕ) → (w / 32 % 2 ≡ 1 → ⊥) → w / 32 % 2 ≡ 0
even w n = omega arith

-- two registers and a register or an imm5
last-imm : (w : ℕ) → w / 32 % 2 ≡ 1 → last w ≡ value (low 5 w)
unfolding when◌then◌else◌
last-imm w e = rw (ne_eqb (w / 32 % 2) 0 (λ z. omega arith))

last-reg : (w : ℕ) → w / 32 % 2 ≡ 0 → last w ≡ register (w % 8)
unfolding when◌then◌else◌
last-reg w e = rw (eq-eqb (w / 32 % 2) 0 e)

imm_low : (w : ℕ) → bits reg_or_imm (value (low 5 w)) ≡ some (32 + w % 32)
unfolding bits when◌then◌else◌
imm_low w =
    let ok = wide 5 (omega arith) (omega arith) in
    let l : w % 32 < 32 = omega arith in
    rw (extend_fits 5 ok (w % 32) l, field-extend 5 ok (w % 32) l)

reg-low : (w : ℕ) → bits reg_or_imm (register (w % 8)) ≡ some (w % 8)
unfolding bits when◌then◌else◌
reg-low w = rw (le-leb (w % 8) 7 (eight w))

imm-sum : (k w : ℕ) → w / 4096 ≡ k → w / 32 % 2 ≡ 1 → some (k * 4096) ⊕ bits DR (register (at9 w)) ⊕ bits SR (register (at6 w)) ⊕ bits reg_or_imm (value (low 5 w)) ≡ some w
unfolding ◌⊕◌
imm-sum k w e b =
    let f : w % 64 ≡ 32 + w % 32 = omega (arith, low-five w) in
    rw (reg-bits 512 (at9 w) (eight (w / 512)), reg-bits 64 (at6 w) (eight (w / 64)), imm_low w) (ap some (sum-with k w _ e f))

reg-sum :
    (k w : ℕ) → some (k * 4096) ⊕ bits DR (register (at9 w)) ⊕ bits SR (register (at6 w)) ⊕ bits reg_or_imm (register (w % 8)) ≡ some (k * 4096 + at9 w * 512 + at6 w * 64 + w % 8)
unfolding ◌⊕◌
reg-sum k w = rw (reg-bits 512 (at9 w) (eight (w / 512)), reg-bits 64 (at6 w) (eight (w / 64)), reg-low w)

module _
    (k : ℕ)
    (A : ℕ → ℕ → ImmOrReg → AsmInstr)
    (l : 1 ≤ k)
    (B : ℕ → ℕ → R.Operand → Instr)
    (same : (d s : ℕ) (o : ImmOrReg) → meant (A d s o) ≡ B d s (operand_of o))
    (c : (w : ℕ) → get_or (cases w) k none ≡ some (B (at9 w) (at6 w) (last w)))
    (row : (d s : ℕ) (o : R.Operand) → word (B d s o) ≡ some (k * 4096) ⊕ bits DR (register d) ⊕ bits SR (register s) ⊕ bits reg_or_imm o)
  where
    case-of : (w : ℕ) (o : R.Operand) → last w ≡ o → get_or (cases w) k none ≡ some (B (at9 w) (at6 w) o)
    case-of w o e = c w ∙ ap (λ (x : R.Operand). some (B (at9 w) (at6 w) x)) e

    imm-shows : (w : ℕ) → w / 4096 ≡ k → w / 32 % 2 ≡ 1 → some (meant (A (at9 w) (at6 w) (Imm (low 5 w)))) ≡ disassemble w
    imm-shows w p b =
        ap some (same (at9 w) (at6 w) (Imm (low 5 w)))
        ∙ sym (found k _ w (omega arith) p (case-of w _ (last-imm w b)) (row (at9 w) (at6 w) (value (low 5 w)) ∙ imm-sum k w p b))

    reg-shows : (w : ℕ) → w / 4096 ≡ k → w / 32 % 2 ≡ 0 → w / 8 % 4 ≡ 0 → some (meant (A (at9 w) (at6 w) (Reg (w % 8)))) ≡ disassemble w
    reg-shows w p b z =
        let f : w % 64 ≡ w % 8 = omega (arith, low-five w, low-three w) in
        ap some (same (at9 w) (at6 w) (Reg (w % 8)))
        ∙ sym
        (found k _ w (omega arith) p (case-of w _ (last-reg w b)) (row (at9 w) (at6 w) (register (w % 8)) ∙ reg-sum k w ∙ ap some (sum-with k w _ p f)))

    reg-hides : (w : ℕ) → w / 4096 ≡ k → w / 32 % 2 ≡ 0 → (w / 8 % 4 ≡ 0 → ⊥) → none ≡ disassemble w
    reg-hides w p b z =
        sym (refused k _ w _ (omega arith) p (case-of w _ (last-reg w b)) (row (at9 w) (at6 w) (register (w % 8)) ∙ reg-sum k w) (λ e. z (no_middle w b (sum_back k w _ p e))))

    operand-shows : (w : ℕ) (o : ImmOrReg) → w / 4096 ≡ k → last_of w ≡ Some o → some (meant (A (at9 w) (at6 w) o)) ≡ disassemble w
    unfolding when◌then◌else◌
    operand-shows w o p q =
        by-test (eqb (w / 32 % 2) 1)
        (λ t.
        let h : Some (Imm (low 5 w)) ≡ Some o = rw t at q in
        let e : Imm (low 5 w) ≡ o = cc in
        ap (λ (x : ImmOrReg). some (meant (A (at9 w) (at6 w) x))) (sym e) ∙ imm-shows w p (eqb-true _ _ t))
        (λ t.
        by-test (eqb (w / 8 % 4) 0)
        (λ u.
        let h : Some (Reg (w % 8)) ≡ Some o = rw (t, u) at q in
        let e : Reg (w % 8) ≡ o = cc in
        ap (λ (x : ImmOrReg). some (meant (A (at9 w) (at6 w) x))) (sym e) ∙ reg-shows w p (even w (eqb-false _ _ t)) (eqb-true _ _ u))
        (λ u.
        let h : None ≡ Some o = rw (t, u) at q in
        never cc))

    operand-hides : (w : ℕ) → w / 4096 ≡ k → last_of w ≡ None → none ≡ disassemble w
    unfolding when◌then◌else◌
    operand-hides w p q =
        by-test (eqb (w / 32 % 2) 1)
        (λ t.
        let h : Some (Imm (low 5 w)) ≡ None = rw t at q in
        never cc)
        (λ t.
        by-test (eqb (w / 8 % 4) 0)
        (λ u.
        let h : Some (Reg (w % 8)) ≡ None = rw (t, u) at q in
        never cc)
        (λ u. reg-hides w p (even w (eqb-false _ _ t)) (eqb-false _ _ u)))

pub add-shows : (w : ℕ) (x : O.Option ImmOrReg) (o : ImmOrReg) → w / 4096 ≡ 1 → x ≡ last_of w → x ≡ Some o → some (meant (ADD (at9 w) (at6 w) o)) ≡ disassemble w
unfolding meant cases word made find instructions joined when◌then◌else◌
add-shows w x o p q r = operand-shows 1 ADD (omega arith) R.ADD (λ d s o. refl) (λ w. refl) (λ d s o. refl) w o p (sym q ∙ r)

pub and-shows : (w : ℕ) (x : O.Option ImmOrReg) (o : ImmOrReg) → w / 4096 ≡ 5 → x ≡ last_of w → x ≡ Some o → some (meant (AND (at9 w) (at6 w) o)) ≡ disassemble w
unfolding meant cases word made find instructions joined when◌then◌else◌
and-shows w x o p q r = operand-shows 5 AND (omega arith) R.AND (λ d s o. refl) (λ w. refl) (λ d s o. refl) w o p (sym q ∙ r)

pub add-hides : (w : ℕ) (x : O.Option ImmOrReg) → w / 4096 ≡ 1 → x ≡ last_of w → x ≡ None → none ≡ disassemble w
unfolding meant cases word made find instructions joined when◌then◌else◌
add-hides w x p q r = operand-hides 1 ADD (omega arith) R.ADD (λ d s o. refl) (λ w. refl) (λ d s o. refl) w p (sym q ∙ r)

pub and-hides : (w : ℕ) (x : O.Option ImmOrReg) → w / 4096 ≡ 5 → x ≡ last_of w → x ≡ None → none ≡ disassemble w
unfolding meant cases word made find instructions joined when◌then◌else◌
and-hides w x p q r = operand-hides 5 AND (omega arith) R.AND (λ d s o. refl) (λ w. refl) (λ d s o. refl) w p (sym q ∙ r)

-- BR
branch-sum : (w : ℕ) → w / 4096 ≡ 0 → some 0 ⊕ bits DR (register (at9 w)) ⊕ bits (num (signed 9)) (value (low 9 w)) ≡ some w
unfolding ◌⊕◌
branch-sum w e = rw (reg-bits 512 (at9 w) (eight (w / 512)), num-low 9 (wide 9 (omega arith) (omega arith)) w) (ap some (omega arith))

pub branch-shows : (w r : ℕ) → 512 ≤ w → w / 4096 ≡ 0 → r ≡ low 9 w → some (meant (BR (at9 w) r)) ≡ disassemble w
unfolding meant cases
branch-shows w r l p q =
    rw q (sym (found 0 _ w l p refl (sym (branched (at9 w) (low 9 w)) ∙ one_reg 0 (at9 w) (bits (num (signed 9)) (value (low 9 w))) ∙ branch-sum w p)))

-- NOT
not-word : (w : ℕ) → word (R.NOT (at9 w) (at6 w)) ≡ some (0x903f + at9 w * 512 + at6 w * 64)
unfolding word made find instructions joined when◌then◌else◌ ◌⊕◌
not-word w = rw (reg-bits 512 (at9 w) (eight (w / 512)), reg-bits 64 (at6 w) (eight (w / 64)))

pub not-shows : (w : ℕ) → w / 4096 ≡ 9 → w % 64 ≡ 63 → some (meant (NOT (at9 w) (at6 w))) ≡ disassemble w
unfolding meant cases
not-shows w p z = sym (found 9 _ w (omega arith) p refl (not-word w ∙ ap some (omega arith)))

pub not-hides : (w : ℕ) → w / 4096 ≡ 9 → (w % 64 ≡ 63 → ⊥) → none ≡ disassemble w
unfolding cases
not-hides w p z = sym (refused 9 _ w _ (omega arith) p refl (not-word w) (λ e. z (omega arith)))

-- RTI
rti-word : word R.RTI ≡ some 0x8000
unfolding word made find instructions joined when◌then◌else◌
rti-word = refl

pub rti-shows : (w : ℕ) → w ≡ 0x8000 → some (meant RTI) ≡ disassemble w
unfolding meant cases
rti-shows w e = sym (found 8 _ w (omega arith) (omega arith) refl (rti-word ∙ ap some (sym e)))

pub rti-hides : (w : ℕ) → w / 4096 ≡ 8 → (w ≡ 0x8000 → ⊥) → none ≡ disassemble w
unfolding cases
rti-hides w p n = sym (refused 8 _ w _ (omega arith) p refl rti-word (λ e. n (sym e)))

-- JSR and JSRR
jsr-sum : (w : ℕ) → w / 4096 ≡ 4 → w / 2048 % 2 ≡ 1 → word (R.JSR (low 11 w)) ≡ some w
unfolding word made find instructions joined when◌then◌else◌ ◌⊕◌
jsr-sum w p b = rw (near-low 11 (wide 11 (omega arith) (omega arith)) w) (ap some (omega arith))

jsr-case : (w : ℕ) → w / 2048 % 2 ≡ 1 → get_or (cases w) 4 none ≡ some (R.JSR (low 11 w))
unfolding cases when◌then◌else◌
jsr-case w b = rw (ne_eqb (w / 2048 % 2) 0 (λ z. omega arith))

pub jsr-shows : (w r : ℕ) → w / 4096 ≡ 4 → w / 2048 % 2 ≡ 1 → r ≡ low 11 w → some (meant (JSR r)) ≡ disassemble w
unfolding meant
jsr-shows w r p b q = rw q (sym (found 4 _ w (omega arith) p (jsr-case w b) (jsr-sum w p b)))

jsrr-word : (w : ℕ) → word (R.JSRR (at6 w)) ≡ some (0x4000 + at6 w * 64)
unfolding word made find instructions joined when◌then◌else◌ ◌⊕◌
jsrr-word w = rw (reg-bits 64 (at6 w) (eight (w / 64)))

jsrr-case : (w : ℕ) → (w / 2048 % 2 ≡ 1 → ⊥) → get_or (cases w) 4 none ≡ some (R.JSRR (at6 w))
unfolding cases when◌then◌else◌
jsrr-case w b = rw (eq-eqb (w / 2048 % 2) 0 (omega arith))

pub jsrr-shows : (w : ℕ) → w / 4096 ≡ 4 → (w / 2048 % 2 ≡ 1 → ⊥) → w / 512 % 4 ≡ 0 → w % 64 ≡ 0 → some (meant (JSRR (at6 w))) ≡ disassemble w
unfolding meant
jsrr-shows w p b h z =
    let bit : w / 2048 % 2 ≡ 0 = omega arith in
    let top : w / 512 % 8 ≡ 0 = omega (arith, by-eight w, by-2048 w, by-4096 w) in
    sym (found 4 _ w (omega arith) p (jsrr-case w b) (jsrr-word w ∙ ap some (omega (arith, digits 4 w p))))

-- a word that is a register at bits 6 to 8 and nothing else
plain-high : (k t w : ℕ) → t ≤ 7 → k * 4096 + t * 64 ≡ w → w / 512 ≡ k * 8
plain-high k t w l e = omega arith

plain-low : (k t w : ℕ) → k * 4096 + t * 64 ≡ w → w % 64 ≡ 0
plain-low k t w e = omega arith

jsrr-hides : (w : ℕ) → w / 4096 ≡ 4 → (w / 2048 % 2 ≡ 1 → ⊥) → (0x4000 + at6 w * 64 ≡ w → ⊥) → none ≡ disassemble w
jsrr-hides w p b n = sym (refused 4 _ w _ (omega arith) p (jsrr-case w b) (jsrr-word w) n)

pub jsrr-high : (w : ℕ) → w / 4096 ≡ 4 → (w / 2048 % 2 ≡ 1 → ⊥) → (w / 512 % 4 ≡ 0 → ⊥) → none ≡ disassemble w
jsrr-high w p b n = jsrr-hides w p b (λ e. n (ap (λ (x : ℕ). x % 4) (plain-high 4 (at6 w) w (eight (w / 64)) e)))

pub jsrr-low : (w : ℕ) → w / 4096 ≡ 4 → (w / 2048 % 2 ≡ 1 → ⊥) → (w % 64 ≡ 0 → ⊥) → none ≡ disassemble w
jsrr-low w p b n = jsrr-hides w p b (λ e. n (plain-low 4 (at6 w) w e))

-- JMP and RET
jmp-word : (w : ℕ) → word (R.JMP (at6 w)) ≡ some (0xc000 + at6 w * 64)
unfolding word made find instructions joined when◌then◌else◌ ◌⊕◌
jmp-word w = rw (reg-bits 64 (at6 w) (eight (w / 64)))

jmp-case : (w : ℕ) → (w ≡ 0xc1c0 → ⊥) → get_or (cases w) 12 none ≡ some (R.JMP (at6 w))
unfolding cases when◌then◌else◌
jmp-case w n = rw (ne_eqb w 0xc1c0 n)

pub ret-shows : (w : ℕ) → w / 4096 ≡ 12 → w / 512 % 8 ≡ 0 → w % 64 ≡ 0 → at6 w ≡ 7 → some (meant RET) ≡ disassemble w
unfolding meant word made find instructions joined disassemble exactly equals cases when◌then◌else◌
ret-shows w p h z r = let e : w ≡ 0xc1c0 = digits 12 w p ∙ (omega arith) in ap (λ (x : ℕ). disassemble x) (sym e)

pub jmp-shows : (w : ℕ) → w / 4096 ≡ 12 → w / 512 % 8 ≡ 0 → w % 64 ≡ 0 → (at6 w ≡ 7 → ⊥) → some (meant (JMP (at6 w))) ≡ disassemble w
unfolding meant
jmp-shows w p h z n =
    let s : 0xc000 + at6 w * 64 ≡ w = omega (arith, digits 12 w p) in
    sym (found 12 _ w (omega arith) p (jmp-case w (λ e. n (omega arith))) (jmp-word w ∙ ap some s))

jmp-hides : (w : ℕ) → w / 4096 ≡ 12 → (0xc000 + at6 w * 64 ≡ w → ⊥) → none ≡ disassemble w
jmp-hides w p n = sym (refused 12 _ w _ (omega arith) p (jmp-case w (λ e. n (omega arith))) (jmp-word w) n)

pub jmp-high : (w : ℕ) → w / 4096 ≡ 12 → (w / 512 % 8 ≡ 0 → ⊥) → none ≡ disassemble w
jmp-high w p n = jmp-hides w p (λ e. n (ap (λ (x : ℕ). x % 8) (plain-high 12 (at6 w) w (eight (w / 64)) e)))

pub jmp-low : (w : ℕ) → w / 4096 ≡ 12 → (w % 64 ≡ 0 → ⊥) → none ≡ disassemble w
jmp-low w p n = jmp-hides w p (λ e. n (plain-low 12 (at6 w) w e))

-- traps
trap-word : (v : ℕ) → v ≤ 255 → word (R.TRAP v) ≡ some (0xf000 + v)
unfolding word made find instructions joined bits field when◌then◌else◌ ◌⊕◌
trap-word v l = rw (fits-above (unsigned 8) v l, mod-eq_of_lt {n = v} {m = 256} (omega arith))

pub up : {k x : ℕ} → k ≤ x → (x ≡ k → ⊥) → suc k ≤ x
up l n = omega arith

past : (v : ℕ) → 38 ≤ v → v - 32 ≡ suc (suc (suc (suc (suc (suc (v - 38))))))
past v l = omega arith

pub trap-plain : (v : ℕ) → (v ≡ 32 → ⊥) → (v ≡ 33 → ⊥) → (v ≡ 34 → ⊥) → (v ≡ 35 → ⊥) → (v ≡ 36 → ⊥) → (v ≡ 37 → ⊥) → trap v ≡ R.TRAP v
unfolding when◌then◌else◌
trap-plain v a b c d e f =
    by-test (leb 32 v)
    (λ t. rw (t, past v (up (up (up (up (up (up (leb-true 32 v t) a) b) c) d) e) f)))
    (λ t. rw t)

named-shows : (w v : ℕ) (i : Instr) → w / 256 ≡ 240 → w % 256 ≡ v → some i ≡ disassemble (0xf000 + v) → some i ≡ disassemble w
named-shows w v i p q h = let e : 0xf000 + v ≡ w = omega arith in h ∙ ap disassemble e

module _ (w : ℕ) (p : w / 256 ≡ 240) where
  pub getc-shows : w % 256 ≡ 32 → some (meant GETC) ≡ disassemble w
  unfolding meant word made find instructions joined disassemble exactly equals cases when◌then◌else◌
  getc-shows q = named-shows w 32 R.GETC p q refl

  pub putc-shows : w % 256 ≡ 33 → some (meant PUTC) ≡ disassemble w
  unfolding meant word made find instructions joined disassemble exactly equals cases when◌then◌else◌
  putc-shows q = named-shows w 33 R.PUTC p q refl

  pub puts-shows : w % 256 ≡ 34 → some (meant PUTS) ≡ disassemble w
  unfolding meant word made find instructions joined disassemble exactly equals cases when◌then◌else◌
  puts-shows q = named-shows w 34 R.PUTS p q refl

  pub in-shows : w % 256 ≡ 35 → some (meant IN) ≡ disassemble w
  unfolding meant word made find instructions joined disassemble exactly equals cases when◌then◌else◌
  in-shows q = named-shows w 35 R.IN p q refl

  pub putsp-shows : w % 256 ≡ 36 → some (meant PUTSP) ≡ disassemble w
  unfolding meant word made find instructions joined disassemble exactly equals cases when◌then◌else◌
  putsp-shows q = named-shows w 36 R.PUTSP p q refl

  pub halt-shows : w % 256 ≡ 37 → some (meant HALT) ≡ disassemble w
  unfolding meant word made find instructions joined disassemble exactly equals cases when◌then◌else◌
  halt-shows q = named-shows w 37 R.HALT p q refl

-- every trap's word, by its name where it has one
trap-named : (k v : ℕ) → v ≡ 32 + k → v ≤ 255 → word (trap v) ≡ some (0xf000 + v)
unfolding word made find instructions joined when◌then◌else◌
trap-named zero v e l = let h : v ≡ 32 = omega arith in rw h
trap-named (suc zero) v e l = let h : v ≡ 33 = omega arith in rw h
trap-named (suc (suc zero)) v e l = let h : v ≡ 34 = omega arith in rw h
trap-named (suc (suc (suc zero))) v e l = let h : v ≡ 35 = omega arith in rw h
trap-named (suc (suc (suc (suc zero)))) v e l = let h : v ≡ 36 = omega arith in rw h
trap-named (suc (suc (suc (suc (suc zero))))) v e l = let h : v ≡ 37 = omega arith in rw h
trap-named (suc (suc (suc (suc (suc (suc k)))))) v e l = ap word (trap-plain v (λ h. omega arith) (λ h. omega arith) (λ h. omega arith) (λ h. omega arith) (λ h. omega arith) (λ h. omega arith)) ∙ trap-word v l

trap-any : (v : ℕ) → v ≤ 255 → word (trap v) ≡ some (0xf000 + v)
unfolding when◌then◌else◌
trap-any v l =
    by-test (leb 32 v)
    (λ t. let h = leb-true 32 v t in trap-named (v - 32) v (omega arith) l)
    (λ t. rw t (trap-word v l))

trap-case : (w : ℕ) → get_or (cases w) 15 none ≡ some (trap (w % 256))
unfolding cases
trap-case w = refl

pub trap-shows : (w : ℕ) → w / 256 ≡ 240 → trap (w % 256) ≡ R.TRAP (w % 256) → some (meant (TRAP (w % 256))) ≡ disassemble w
unfolding meant
trap-shows w p t =
    let l : w % 256 ≤ 255 = omega arith in
    let s : 0xf000 + w % 256 ≡ w = omega arith in
    ap some (sym t) ∙ sym (found 15 _ w (omega arith) (omega arith) (trap-case w) (trap-any (w % 256) l ∙ ap some s))

pub trap-hides : (w : ℕ) → w / 4096 ≡ 15 → (w / 256 ≡ 240 → ⊥) → none ≡ disassemble w
trap-hides w p n = sym (refused 15 _ w _ (omega arith) p (trap-case w) (trap-any (w % 256) (omega arith)) (λ e. n (omega arith)))

-- what is no instruction at all
pub fill-D : (w : ℕ) → w / 4096 ≡ 13 → none ≡ disassemble w
unfolding disassemble exactly cases when◌then◌else◌
fill-D w p = let l : 512 ≤ w = omega arith in rw (le-ltb w 512 l, p)

pub fill-low : (w : ℕ) → w < 512 → none ≡ disassemble w
unfolding disassemble when◌then◌else◌
fill-low w l = rw (lt-ltb w 512 l)

-- a field read by the half of its numbers
pub half-low : (h b : ℕ) → b < h → b ≡ extended h b
unfolding when◌then◌else◌
half-low h b l = rw (lt-ltb b h l)

pub half_high : (h b : ℕ) → 0 < h → h ≤ 32768 → h ≤ b → b + (65535 - (h - 1) - h) ≡ extended h b
unfolding when◌then◌else◌
half_high h b p m l = rw (le-ltb b h l) (omega arith)

-- the last operand of ADD and AND
pub last-value : (w r : ℕ) → w / 32 % 2 ≡ 1 → r ≡ low 5 w → Some (Imm r) ≡ last_of w
unfolding when◌then◌else◌
last-value w r b q = rw (q, eq-eqb (w / 32 % 2) 1 b)

pub last-register : (w : ℕ) → (w / 32 % 2 ≡ 1 → ⊥) → w / 8 % 4 ≡ 0 → Some (Reg (w % 8)) ≡ last_of w
unfolding when◌then◌else◌
last-register w b z = rw (ne_eqb (w / 32 % 2) 1 b, eq-eqb (w / 8 % 4) 0 z)

pub last-malformed : (w : ℕ) → (w / 32 % 2 ≡ 1 → ⊥) → (w / 8 % 4 ≡ 0 → ⊥) → None ≡ last_of w
unfolding when◌then◌else◌
last-malformed w b z = rw (ne_eqb (w / 32 % 2) 1 b, ne_eqb (w / 8 % 4) 0 z)

-- the instructions of one shape
pub ld-shows : (w r : ℕ) → w / 4096 ≡ 2 → r ≡ low 9 w → some (meant (LD (at9 w) r)) ≡ disassemble w
unfolding meant cases word made find instructions joined when◌then◌else◌
ld-shows = nine-shows 2 LD (omega arith) (λ w. refl) (λ d o. refl)

pub st-shows : (w r : ℕ) → w / 4096 ≡ 3 → r ≡ low 9 w → some (meant (ST (at9 w) r)) ≡ disassemble w
unfolding meant cases word made find instructions joined when◌then◌else◌
st-shows = nine-shows 3 ST (omega arith) (λ w. refl) (λ d o. refl)

pub ldi-shows : (w r : ℕ) → w / 4096 ≡ 10 → r ≡ low 9 w → some (meant (LDI (at9 w) r)) ≡ disassemble w
unfolding meant cases word made find instructions joined when◌then◌else◌
ldi-shows = nine-shows 10 LDI (omega arith) (λ w. refl) (λ d o. refl)

pub sti-shows : (w r : ℕ) → w / 4096 ≡ 11 → r ≡ low 9 w → some (meant (STI (at9 w) r)) ≡ disassemble w
unfolding meant cases word made find instructions joined when◌then◌else◌
sti-shows = nine-shows 11 STI (omega arith) (λ w. refl) (λ d o. refl)

pub lea-shows : (w r : ℕ) → w / 4096 ≡ 14 → r ≡ low 9 w → some (meant (LEA (at9 w) r)) ≡ disassemble w
unfolding meant cases word made find instructions joined when◌then◌else◌
lea-shows = nine-shows 14 LEA (omega arith) (λ w. refl) (λ d o. refl)

pub ldr-shows : (w r : ℕ) → w / 4096 ≡ 6 → r ≡ low 6 w → some (meant (LDR (at9 w) (at6 w) r)) ≡ disassemble w
unfolding meant cases word made find instructions joined when◌then◌else◌
ldr-shows = six-shows 6 LDR (omega arith) (λ w. refl) (λ d b o. refl)

pub str-shows : (w r : ℕ) → w / 4096 ≡ 7 → r ≡ low 6 w → some (meant (STR (at9 w) (at6 w) r)) ≡ disassemble w
unfolding meant cases word made find instructions joined when◌then◌else◌
str-shows = six-shows 7 STR (omega arith) (λ w. refl) (λ d b o. refl)

-- a line: the instruction, or a fill
pub line-instr : (w : ℕ) (x : O.Option AsmInstr) (i : AsmInstr) → meant_if x ≡ disassemble w → x ≡ Some i → R.instruction (meant i) ≡ line w
unfolding line
line-instr w x i p q = of_some (disassemble w) (sym p ∙ ap meant_if q) where
  of_some : (d : Option Instr) → d ≡ some (meant i) → R.instruction (meant i) ≡ elim d [ none ↦ R.filled w | some j ↦ R.instruction j ]
  of_some none e = never cc
  of_some (some j) e = let h : j ≡ meant i = cc in ap R.instruction (sym h)

pub line-fill : (w : ℕ) (x : O.Option AsmInstr) → meant_if x ≡ disassemble w → x ≡ None → R.filled w ≡ line w
unfolding line
line-fill w x p q = of_none (disassemble w) (sym p ∙ ap meant_if q) where
  of_none : (d : Option Instr) → d ≡ none → R.filled w ≡ elim d [ none ↦ R.filled w | some j ↦ R.instruction j ]
  of_none none e = refl
  of_none (some j) e = never cc
