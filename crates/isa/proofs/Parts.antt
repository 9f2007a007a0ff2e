-- The parts of a word, as the code adds them and as the rule does. Assumes nothing.
use Prim.Native.Nat.{ℕ, zero, suc, ◌+◌, ◌-◌, ◌*◌, ◌%◌, ◌≤◌, ◌<◌}
use native.Mathlib.Nat.{mod-lt, mod-eq_of_lt, add-zero}
use native.Mathlib.Omega.{arith}
use mathlib.Core.Option.{Option, none, some}
use mathlib.Core.Path.{◌≡◌, refl, ap, sym, ◌∙◌}
use lib.Dec.{leb}
use borrow.Author.Tests.{le-leb, lt-leb, leb-true}
use Rattle.rules.specs.Base.{when◌then◌else◌}
use Rattle.rules.specs.Words as W
use Rattle.rules.specs.Words.{Range, range, signed, unsigned, reg, DR, SR, reg_or_imm, num, fits, field, register, value, bits, ◌⊕◌, instructions, find, branch, joined, made, word}
use Rattle.rules.proofs.Fields.{by-test, fits-above, fits_not}
use Rattle.rules.proofs.Bools.{never}
use Rattle.isa_fields.specs.Fields.{encoded, inside, size}
use Rattle.isa.specs.Instructions.{operand_of, meant}
use Rattle.std.specs.declared.option.Option as O
use Rattle.std.specs.declared.option.Option.TheVariants.{Some, None}
use Rattle.isa.specs.declared.AsmInstr.{AsmInstr}
use Rattle.isa.specs.declared.AsmInstr.TheVariants.{BR, NOT, TRAP}
use Rattle.isa.specs.declared.ImmOrReg.{ImmOrReg}
use Rattle.isa.specs.declared.ImmOrReg.TheVariants.{Imm, Reg}

-- a field's bits are below its modulus
pub below : (r : Range) (d : ℕ) → 0 < r.modulus → size (encoded (bits (num r) (value d))) < r.modulus
unfolding bits field when◌then◌else◌
below r d p = by-test (fits r d) (λ t. rw t (mod-lt d p)) (λ t. rw t p)

pub imm-small : (e : O.Option ℕ) (d b : ℕ) → e ≡ encoded (bits (num (range 16 15 32)) (value d)) → e ≡ Some b → b < 32
imm-small e d b p q = let h : size (Some b) ≡ size (encoded (bits (num (range 16 15 32)) (value d))) = ap size (sym q ∙ p) in omega (arith, below (range 16 15 32) d (omega arith))

-- the last operand of ADD and AND
imm-bits : (d : ℕ) (x : Option ℕ) → bits (num (range 16 15 32)) (value d) ≡ x → bits reg_or_imm (value d) ≡ some 32 ⊕ x
unfolding bits when◌then◌else◌ ◌⊕◌
imm-bits d x e = by-test (fits (signed 5) d) (λ t. rw (← e, t)) (λ t. rw (← e, t))

pub imm-in : (o : ImmOrReg) (e : O.Option ℕ) (d b : ℕ) → o ≡ Imm d → e ≡ encoded (bits (num (range 16 15 32)) (value d)) → e ≡ Some b → Some (32 + b) ≡ encoded (bits reg_or_imm (operand_of o))
unfolding ◌⊕◌
imm-in o e d b p q r = within (bits (num (range 16 15 32)) (value d)) refl (sym r ∙ q) ∙ ap (λ (x : ImmOrReg). encoded (bits reg_or_imm (operand_of x))) (sym p) where
  within : (x : Option ℕ) → bits (num (range 16 15 32)) (value d) ≡ x → Some b ≡ encoded x → Some (32 + b) ≡ encoded (bits reg_or_imm (value d))
  within none y z = never cc
  within (some n) y z = let h : b ≡ n = cc in rw (imm-bits d (some n) y, h)

pub imm-out : (o : ImmOrReg) (e : O.Option ℕ) (d : ℕ) → o ≡ Imm d → e ≡ encoded (bits (num (range 16 15 32)) (value d)) → e ≡ None → None ≡ encoded (bits reg_or_imm (operand_of o))
unfolding ◌⊕◌
imm-out o e d p q r = within (bits (num (range 16 15 32)) (value d)) refl (sym r ∙ q) ∙ ap (λ (x : ImmOrReg). encoded (bits reg_or_imm (operand_of x))) (sym p) where
  within : (x : Option ℕ) → bits (num (range 16 15 32)) (value d) ≡ x → None ≡ encoded x → None ≡ encoded (bits reg_or_imm (value d))
  within none y z = rw (imm-bits d none y)
  within (some n) y z = never cc

pub reg_in : (o : ImmOrReg) (r : ℕ) → o ≡ Reg r → r ≤ 7 → Some r ≡ encoded (bits reg_or_imm (operand_of o))
unfolding bits when◌then◌else◌
reg_in o r p l = rw (p, le-leb r 7 l)

pub reg-out : (o : ImmOrReg) (r : ℕ) → o ≡ Reg r → 7 < r → None ≡ encoded (bits reg_or_imm (operand_of o))
unfolding bits when◌then◌else◌
reg-out o r p l = rw (p, lt-leb r 7 l)

-- a word with two registers and the low bits
pub reg-bits : (m r : ℕ) → r ≤ 7 → bits (reg m) (register r) ≡ some (r * m)
unfolding bits when◌then◌else◌
reg-bits m r l = rw (le-leb r 7 l)

reg-none : (m r : ℕ) → 7 < r → bits (reg m) (register r) ≡ none
unfolding bits when◌then◌else◌
reg-none m r l = rw (lt-leb r 7 l)

none_right : (x : Option ℕ) → x ⊕ none ≡ none
unfolding ◌⊕◌
none_right none = refl
none_right (some a) = refl

none_left : (x : Option ℕ) → none ⊕ x ≡ none
unfolding ◌⊕◌
none_left x = refl

module _ (w f s : ℕ) (low : O.Option ℕ) where
  pub first_out : 7 < f → None ≡ encoded (some w ⊕ bits DR (register f) ⊕ bits SR (register s) ⊕ inside low)
  first_out l = rw (reg-none 512 f l, none_right (some w), none_left (bits SR (register s)), none_left (inside low))

  pub second-out : 7 < s → None ≡ encoded (some w ⊕ bits DR (register f) ⊕ bits SR (register s) ⊕ inside low)
  second-out l = rw (reg-none 64 s l, none_right (some w ⊕ bits DR (register f)), none_left (inside low))

  pub low-out : low ≡ None → None ≡ encoded (some w ⊕ bits DR (register f) ⊕ bits SR (register s) ⊕ inside low)
  low-out e = rw (e, none_right (some w ⊕ bits DR (register f) ⊕ bits SR (register s)))

  pub all_in : (b : ℕ) → f ≤ 7 → s ≤ 7 → low ≡ Some b → Some (w + f * 512 + s * 64 + b) ≡ encoded (some w ⊕ bits DR (register f) ⊕ bits SR (register s) ⊕ inside low)
  unfolding ◌⊕◌
  all_in b l m e = rw (e, reg-bits 512 f l, reg-bits 64 s m)

pub no_wrap : (w b : ℕ) (low : O.Option ℕ) → w + size low ≤ 61503 → low ≡ Some b → w + b ≤ 61503
no_wrap w b low h e = omega (arith, ap size e)

-- a field leaves room for the two registers above it
pub small : (l h m : ℕ) (e : O.Option ℕ) (d : ℕ) → 0 < m → e ≡ encoded (bits (num (range l h m)) (value d)) → size e < m
small l h m e d p q = omega (arith, ap size q, below (range l h m) d p)

of-last : (e : O.Option ℕ) (o : ImmOrReg) → e ≡ encoded (bits reg_or_imm (operand_of o)) → size e < 64
unfolding bits field when◌then◌else◌
of-last e (Imm d) q =
    by-test (fits (signed 5) d)
    (λ t. let h : size e ≡ 32 + d % 32 = ap size q ∙ rw t in omega (arith, mod-lt d {m = 32} (omega arith)))
    (λ t. let h : size e ≡ 0 = ap size q ∙ rw t in omega arith)
of-last e (Reg r) q =
    by-test (leb r 7)
    (λ t. let h : size e ≡ r = ap size q ∙ rw t in omega (arith, leb-true r 7 t))
    (λ t. let h : size e ≡ 0 = ap size q ∙ rw t in omega arith)

pub small-last : (K : ℕ → ℕ → ImmOrReg → AsmInstr) (i : AsmInstr) (e : O.Option ℕ) (d s : ℕ) (o : ImmOrReg) → i ≡ K d s o → e ≡ encoded (bits reg_or_imm (operand_of o)) → size e < 64
small-last K i e d s o p q = of-last e o q

-- a trap
pub trap-in : (v : ℕ) → v ≤ 255 → Some (0xf000 + v) ≡ encoded (some 0xf000 ⊕ bits (num (unsigned 8)) (value v))
unfolding bits field when◌then◌else◌ ◌⊕◌
trap-in v l = rw (fits-above (unsigned 8) v l, mod-eq_of_lt {n = v} {m = 256} (omega arith))

pub trap-out : (v : ℕ) → v < 65536 → 255 < v → None ≡ encoded (some 0xf000 ⊕ bits (num (unsigned 8)) (value v))
unfolding bits when◌then◌else◌ ◌⊕◌
trap-out v f l = rw (fits_not (unsigned 8) v l f)

-- by shape: a word as the code joins it, and as the rule does
zero_right : (x : Option ℕ) → x ⊕ some 0 ≡ x
unfolding ◌⊕◌
zero_right none = refl
zero_right (some a) = ap some (add-zero a)

no_second : bits SR (register 0) ≡ some 0
unfolding bits when◌then◌else◌
no_second = refl

no-first : bits DR (register 0) ≡ some 0
unfolding bits when◌then◌else◌
no-first = refl

pub one_reg : (w d : ℕ) (n : Option ℕ) → some w ⊕ bits DR (register d) ⊕ bits SR (register 0) ⊕ n ≡ some w ⊕ bits DR (register d) ⊕ n
one_reg w d n = rw (no_second, zero_right)

pub low-only : (w : ℕ) (n : Option ℕ) → some w ⊕ bits DR (register 0) ⊕ bits SR (register 0) ⊕ n ≡ some w ⊕ n
low-only w n = rw (no-first, no_second, zero_right (some w), zero_right (some w))

pub base-only : (w b : ℕ) → some w ⊕ bits DR (register 0) ⊕ bits SR (register b) ⊕ some 0 ≡ some w ⊕ bits SR (register b)
base-only w b = rw (no-first, zero_right (some w), zero_right (some w ⊕ bits SR (register b)))

later : (a c : ℕ) (x y : Option ℕ) → some a ⊕ x ⊕ y ⊕ some c ≡ some (a + c) ⊕ x ⊕ y
unfolding ◌⊕◌
later a c none y = refl
later a c (some m) none = refl
later a c (some m) (some n) = ap some (omega arith)

pub negated : (d s : ℕ) → some 0x9000 ⊕ bits DR (register d) ⊕ bits SR (register s) ⊕ some 63 ≡ some 0x903f ⊕ bits DR (register d) ⊕ bits SR (register s)
negated d s = later 0x9000 63 (bits DR (register d)) (bits SR (register s))

pub branched : (c o : ℕ) → some 0 ⊕ bits DR (register c) ⊕ bits SR (register 0) ⊕ bits (num (signed 9)) (value o) ≡ word (W.BR c o)
unfolding word made find instructions branch joined bits when◌then◌else◌ ◌⊕◌
branched zero o = refl
branched (suc zero) o = refl
branched (suc (suc zero)) o = refl
branched (suc (suc (suc zero))) o = refl
branched (suc (suc (suc (suc zero)))) o = refl
branched (suc (suc (suc (suc (suc zero))))) o = refl
branched (suc (suc (suc (suc (suc (suc zero)))))) o = refl
branched (suc (suc (suc (suc (suc (suc (suc zero))))))) o = refl
branched (suc (suc (suc (suc (suc (suc (suc (suc n)))))))) o = rw (lt-leb (suc (suc (suc (suc (suc (suc (suc (suc n)))))))) 7 (omega arith))

-- an arm of the match: what was matched, what the low bits are, and what was joined
inside-encoded : (x : Option ℕ) → inside (encoded x) ≡ x
inside-encoded none = refl
inside-encoded (some b) = refl

arm : (i j : AsmInstr) (r low : O.Option ℕ) (w f s : ℕ) (x : Option ℕ) → i ≡ j → low ≡ encoded x → r ≡ encoded (some w ⊕ bits DR (register f) ⊕ bits SR (register s) ⊕ inside low) → (some w ⊕ bits DR (register f) ⊕ bits SR (register s) ⊕ x) ≡ word (meant j) → r ≡ encoded (word (meant i))
arm i j r low w f s x p q e h =
    e
    ∙ ap (λ (y : Option ℕ). encoded (some w ⊕ bits DR (register f) ⊕ bits SR (register s) ⊕ y)) (ap inside q ∙ inside-encoded x)
    ∙ ap encoded h
    ∙ ap (λ (k : AsmInstr). encoded (word (meant k))) (sym p)

-- an arm, by the shape of its operands; `row` is what the table has
module _ (w : ℕ) (i : AsmInstr) (r low : O.Option ℕ) where
  pub arm-last :
      (K : ℕ → ℕ → ImmOrReg → AsmInstr) → ((d s : ℕ) (o : ImmOrReg) → some w ⊕ bits DR (register d) ⊕ bits SR (register s) ⊕ bits reg_or_imm (operand_of o) ≡ word (meant (K d s o))) →
      (d s : ℕ) (o : ImmOrReg) → i ≡ K d s o → low ≡ encoded (bits reg_or_imm (operand_of o)) → r ≡ encoded (some w ⊕ bits DR (register d) ⊕ bits SR (register s) ⊕ inside low) → r ≡ encoded (word (meant i))
  arm-last K row d s o p q e = arm i (K d s o) r low w d s _ p q e (row d s o)

  pub arm-six :
      (K : ℕ → ℕ → ℕ → AsmInstr) → ((d b o : ℕ) → some w ⊕ bits DR (register d) ⊕ bits SR (register b) ⊕ bits (num (signed 6)) (value o) ≡ word (meant (K d b o))) →
      (d b o : ℕ) → i ≡ K d b o → low ≡ encoded (bits (num (signed 6)) (value o)) → r ≡ encoded (some w ⊕ bits DR (register d) ⊕ bits SR (register b) ⊕ inside low) → r ≡ encoded (word (meant i))
  arm-six K row d b o p q e = arm i (K d b o) r low w d b _ p q e (row d b o)

  pub arm-nine :
      (K : ℕ → ℕ → AsmInstr) → ((d o : ℕ) → some w ⊕ bits DR (register d) ⊕ bits (num (signed 9)) (value o) ≡ word (meant (K d o))) →
      (d o : ℕ) → i ≡ K d o → low ≡ encoded (bits (num (signed 9)) (value o)) → r ≡ encoded (some w ⊕ bits DR (register d) ⊕ bits SR (register 0) ⊕ inside low) → r ≡ encoded (word (meant i))
  arm-nine K row d o p q e = arm i (K d o) r low w d 0 _ p q e (one_reg w d _ ∙ row d o)

  pub arm-branch : (d o : ℕ) → i ≡ BR d o → low ≡ encoded (bits (num (signed 9)) (value o)) → r ≡ encoded (some 0 ⊕ bits DR (register d) ⊕ bits SR (register 0) ⊕ inside low) → r ≡ encoded (word (meant i))
  unfolding meant
  arm-branch d o p q e = arm i (BR d o) r low 0 d 0 _ p q e (branched d o)

  pub arm_low :
      (n : Range) (K : ℕ → AsmInstr) → ((o : ℕ) → some w ⊕ bits (num n) (value o) ≡ word (meant (K o))) →
      (o : ℕ) → i ≡ K o → low ≡ encoded (bits (num n) (value o)) → r ≡ encoded (some w ⊕ bits DR (register 0) ⊕ bits SR (register 0) ⊕ inside low) → r ≡ encoded (word (meant i))
  arm_low n K row o p q e = arm i (K o) r low w 0 0 _ p q e (low-only w _ ∙ row o)

  pub arm-base :
      (K : ℕ → AsmInstr) → ((b : ℕ) → some w ⊕ bits SR (register b) ≡ word (meant (K b))) →
      (b : ℕ) → i ≡ K b → r ≡ encoded (some w ⊕ bits DR (register 0) ⊕ bits SR (register b) ⊕ some 0) → r ≡ encoded (word (meant i))
  arm-base K row b p e = arm i (K b) r (Some 0) w 0 b _ p refl e (base-only w b ∙ row b)

pub arm-not :
    (i : AsmInstr) (r : O.Option ℕ) (d s : ℕ) → i ≡ NOT d s → r ≡ encoded (some 0x9000 ⊕ bits DR (register d) ⊕ bits SR (register s) ⊕ some 63) → r ≡ encoded (word (meant i))
unfolding word made find instructions joined meant when◌then◌else◌
arm-not i r d s p e = arm i (NOT d s) r (Some 63) 0x9000 d s _ p refl e (negated d s)

pub arm-trap : (i : AsmInstr) (r : O.Option ℕ) (v : ℕ) → i ≡ TRAP v → r ≡ encoded (some 0xf000 ⊕ bits (num (unsigned 8)) (value v)) → r ≡ encoded (word (meant i))
unfolding word made find instructions joined meant when◌then◌else◌
arm-trap i r v p e = e ∙ ap (λ (k : AsmInstr). encoded (word (meant k))) (sym p)

pub fixed : (i j : AsmInstr) (b : ℕ) → i ≡ j → word (meant j) ≡ some b → Some b ≡ encoded (word (meant i))
fixed i j b p h = ap encoded (sym h) ∙ ap (λ (k : AsmInstr). encoded (word (meant k))) (sym p)
