-- Encoding and disassembly undo each other, up to the names that share a word. Assumes nothing.
use Prim.Native.Nat.{ℕ, zero, suc, ◌+◌, ◌-◌, ◌*◌, ◌/◌, ◌%◌, ◌^◌, ◌≤◌, ◌<◌}
use native.Mathlib.Omega.{arith}
use mathlib.Core.Bool.{Bool, true, false}
use mathlib.Core.List.{List, [], ◌∷◌}
use mathlib.Core.Option.{Option, none, some}
use mathlib.Core.Path.{◌≡◌, refl, ap, sym, subst, ◌∙◌}
use lib.Dec.{eqb, leb, ltb}
use lib.ListN.{get_or}
use borrow.Author.Tests.{le-ltb, lt-ltb, le-leb, leb-true, eq-eqb, eqb-true, eqb-false, ne_eqb}
use Rattle.rules.specs.Base.{when◌then◌else◌, same}
use Rattle.rules.specs.Words.{Range, signed, unsigned, Field, reg, reg_or_imm, num, near, DR, SR, instructions, find, fits, field, extend, Operand, register, value, Instr, ADD, AND, NOT, BR, JMP, JSRR, JSR, NOP, LD, LDI, LEA, ST, STI, LDR, STR, TRAP, RET, RTI, GETC, OUT, PUTC, PUTS, IN, PUTSP, HALT, bits, ◌⊕◌, joined, made, branch, word, cases, at9, at6, low, last, trap, equals, exactly, disassemble, Shown, itself, out, ret, getc, putc, puts, in', putsp, halt, nop, br, Width}
use Rattle.rules.proofs.Fields.{by-test, field_below, extend-field, field-unsigned, below-unsigned}
use Rattle.rules.proofs.Bools.{never}

-- disassembling a word to an instruction and encoding that gives the word
equal : (o : Option ℕ) (w : ℕ) → equals o w ≡ true → o ≡ some w
unfolding equals
equal none w e = never cc
equal (some v) w e = ap some (eqb-true v w e)

exact : (w : ℕ) (c : Option Instr) (i : Instr) → exactly w c ≡ some i → word i ≡ some w
unfolding exactly when◌then◌else◌
exact w none i e = never cc
exact w (some j) i e = same (equals (word j) w) refl e where
  same : (t : Bool) → equals (word j) w ≡ t → (when t then some j else none) ≡ some i → word i ≡ some w
  same true q e = let k : j ≡ i = cc in ap word (sym k) ∙ equal (word j) w q
  same false q e = never cc

pub disassembled-encodes : (w : ℕ) (i : Instr) → disassemble w ≡ some i → word i ≡ some w
unfolding disassemble when◌then◌else◌
disassembled-encodes w i e = above (ltb w 512) e where
  above : (t : Bool) → (when t then none else exactly w (get_or (cases w) (w / 4096) none)) ≡ some i → word i ≡ some w
  above true e = never cc
  above false e = exact w (get_or (cases w) (w / 4096) none) i e

-- one operand of an instruction's word: it fits, and the rest goes on with its bits added
record Peeled (t : Bool) (w : ℕ) (fs : List Field) (os : List Operand) (v : ℕ) : Type 0 where
  pub holds : t ≡ true
  pub rest : joined (some w) fs os ≡ some v

joined-none : (fs : List Field) (os : List Operand) → joined none fs os ≡ none
unfolding joined ◌⊕◌
joined-none [] [] = refl
joined-none [] (o ∷ os) = refl
joined-none (f ∷ fs) [] = refl
joined-none (f ∷ fs) (o ∷ os) = joined-none fs os

module _ (w : ℕ) (fs : List Field) (os : List Operand) (v : ℕ) where
  peel : (f : Field) (o : Operand) (t : Bool) (n : ℕ) → bits f o ≡ (when t then some n else none) → joined (some w) (f ∷ fs) (o ∷ os) ≡ some v → Peeled t (w + n) fs os v
  unfolding joined when◌then◌else◌ ◌⊕◌
  peel f o true n b e = record { holds = refl; rest = subst (λ (x : Option ℕ). joined (some w ⊕ x) fs os ≡ some v) b e }
  peel f o false n b e =
      let h : joined none fs os ≡ some v = subst (λ (x : Option ℕ). joined (some w ⊕ x) fs os ≡ some v) b e in
      never (cc (joined-none fs os))

  of-reg : (m r : ℕ) → joined (some w) (reg m ∷ fs) (register r ∷ os) ≡ some v → Peeled (leb r 7) (w + r * m) fs os v
  unfolding bits
  of-reg m r e = peel (reg m) (register r) (leb r 7) (r * m) refl e

  of-near : (r : Range) (d : ℕ) → joined (some w) (near r ∷ fs) (value d ∷ os) ≡ some v → Peeled (fits r d) (w + field r d) fs os v
  unfolding bits
  of-near r d e = peel (near r) (value d) (fits r d) (field r d) refl e

  of_num : (r : Range) (d : ℕ) → joined (some w) (num r ∷ fs) (value d ∷ os) ≡ some v → Peeled (fits r d) (w + field r d) fs os v
  unfolding bits
  of_num r d e = peel (num r) (value d) (fits r d) (field r d) refl e

  of-last : (r : ℕ) → joined (some w) (reg_or_imm ∷ fs) (register r ∷ os) ≡ some v → Peeled (leb r 7) (w + r) fs os v
  unfolding bits
  of-last r e = peel reg_or_imm (register r) (leb r 7) r refl e

  of_imm : (d : ℕ) → joined (some w) (reg_or_imm ∷ fs) (value d ∷ os) ≡ some v → Peeled (fits (signed 5) d) (w + (32 + field (signed 5) d)) fs os v
  unfolding bits
  of_imm d e = peel reg_or_imm (value d) (fits (signed 5) d) (32 + field (signed 5) d) refl e

done : (w v : ℕ) → joined (some w) [] [] ≡ some v → w ≡ v
unfolding joined
done w v e = cc

-- the case of the word's four high bits is the instruction whose word it is
pub found : (k : ℕ) (i : Instr) (w : ℕ) → 512 ≤ w → w / 4096 ≡ k → get_or (cases w) k none ≡ some i → word i ≡ some w → disassemble w ≡ some i
unfolding disassemble exactly equals when◌then◌else◌
found k i w l p c e = rw (le-ltb w 512 l, p, c, e, eq-eqb w w refl)

-- widths, and a number in the low bits, read back
wide : (k : ℕ) → 1 ≤ k → k ≤ 16 → Width k
wide k l m = record { least = l; most = m }

read : (k : ℕ) → Width k → (d w : ℕ) → fits (signed k) d ≡ true → w % 2 ^ k ≡ field (signed k) d → low k w ≡ d
read k ok d w h e = ap (extend k) e ∙ extend-field k ok d h

-- by shape: the four high bits and the fields of the word
record Nine (k d o w : ℕ) : Type 0 where
  pub op : w / 4096 ≡ k
  pub first : at9 w ≡ d
  pub third : low 9 w ≡ o

nine : (k d o w : ℕ) → joined (some (k * 4096)) (DR ∷ near (signed 9) ∷ []) (register d ∷ value o ∷ []) ≡ some w → Nine k d o w
nine k d o w e =
    let a = of-reg _ _ _ _ 512 d e in
    let b = of-near _ _ _ _ (signed 9) o a.rest in
    let s = done _ _ b.rest in
    let r : d ≤ 7 = leb-true _ _ a.holds in
    let ok = wide 9 (omega arith) (omega arith) in
    let l : field (signed 9) o < 512 = field_below 9 ok o in
    record { op = omega arith; first = omega arith; third = read 9 ok o w b.holds (omega arith) }

record Six (k d b o w : ℕ) : Type 0 where
  pub op : w / 4096 ≡ k
  pub first : at9 w ≡ d
  pub second : at6 w ≡ b
  pub third : low 6 w ≡ o

six : (k d b o w : ℕ) → joined (some (k * 4096)) (DR ∷ SR ∷ num (signed 6) ∷ []) (register d ∷ register b ∷ value o ∷ []) ≡ some w → Six k d b o w
six k d b o w e =
    let x = of-reg _ _ _ _ 512 d e in
    let y = of-reg _ _ _ _ 64 b x.rest in
    let z = of_num _ _ _ _ (signed 6) o y.rest in
    let s = done _ _ z.rest in
    let r : d ≤ 7 = leb-true _ _ x.holds in
    let q : b ≤ 7 = leb-true _ _ y.holds in
    let ok = wide 6 (omega arith) (omega arith) in
    let l : field (signed 6) o < 64 = field_below 6 ok o in
    record { op = omega arith; first = omega arith; second = omega arith; third = read 6 ok o w z.holds (omega arith) }

-- six bits below the two registers
module _ (k d s g w : ℕ) (r : d ≤ 7) (q : s ≤ 7) (l : g < 64) (e : w ≡ k * 4096 + d * 512 + s * 64 + g) where
  op-of : w / 4096 ≡ k
  op-of = omega arith

  first_of : at9 w ≡ d
  first_of = omega arith

  second-of : at6 w ≡ s
  second-of = omega arith

record Three (k d s : ℕ) (o : Operand) (w : ℕ) : Type 0 where
  pub op : w / 4096 ≡ k
  pub first : at9 w ≡ d
  pub second : at6 w ≡ s
  pub third : last w ≡ o

three : (k d s : ℕ) (o : Operand) (w : ℕ) → joined (some (k * 4096)) (DR ∷ SR ∷ reg_or_imm ∷ []) (register d ∷ register s ∷ o ∷ []) ≡ some w → Three k d s o w
unfolding when◌then◌else◌
three k d s (register t) w e =
    let x = of-reg _ _ _ _ 512 d e in
    let y = of-reg _ _ _ _ 64 s x.rest in
    let z = of-last _ _ _ _ t y.rest in
    let h = done _ _ z.rest in
    let r : d ≤ 7 = leb-true _ _ x.holds in
    let q : s ≤ 7 = leb-true _ _ y.holds in
    let u : t ≤ 7 = leb-true _ _ z.holds in
    let bit : w / 32 % 2 ≡ 0 = omega arith in
    let reg : w % 8 ≡ t = omega arith in
    let g : t < 64 = omega arith in
    let sum : w ≡ k * 4096 + d * 512 + s * 64 + t = omega arith in
    record {
      op = op-of k d s t w r q g sum;
      first = first_of k d s t w r q g sum;
      second = second-of k d s t w r q g sum;
      third = rw (eq-eqb _ _ bit, reg);
    }
three k d s (value i) w e =
    let x = of-reg _ _ _ _ 512 d e in
    let y = of-reg _ _ _ _ 64 s x.rest in
    let z = of_imm _ _ _ _ i y.rest in
    let h = done _ _ z.rest in
    let r : d ≤ 7 = leb-true _ _ x.holds in
    let q : s ≤ 7 = leb-true _ _ y.holds in
    let ok = wide 5 (omega arith) (omega arith) in
    let l : field (signed 5) i < 32 = field_below 5 ok i in
    let bit : w / 32 % 2 ≡ 0 → ⊥ = λ n. omega arith in
    let imm = read 5 ok i w z.holds (omega arith) in
    let g : 32 + field (signed 5) i < 64 = omega arith in
    let sum : w ≡ k * 4096 + d * 512 + s * 64 + (32 + field (signed 5) i) = omega arith in
    record {
      op = op-of k d s _ w r q g sum;
      first = first_of k d s _ w r q g sum;
      second = second-of k d s _ w r q g sum;
      third = rw (ne_eqb _ _ bit, imm);
    }

record Base (k b w : ℕ) : Type 0 where
  pub op : w / 4096 ≡ k
  pub second : at6 w ≡ b
  pub zeros : w ≡ k * 4096 + b * 64
  pub small : b ≤ 7

base : (k b w : ℕ) → joined (some (k * 4096)) (SR ∷ []) (register b ∷ []) ≡ some w → Base k b w
base k b w e =
    let x = of-reg _ _ _ _ 64 b e in
    let s = done _ _ x.rest in
    let r : b ≤ 7 = leb-true _ _ x.holds in
    record { op = omega arith; second = omega arith; zeros = omega arith; small = omega arith }

-- encoding an instruction and disassembling the word gives the instruction back
as_is : (i : Instr) (w : ℕ) → disassemble w ≡ some i → Shown i (disassemble w)
as_is i w e = subst (Shown i) (sym e) (itself i)

-- an instruction without operands
fixed : (i : Instr) (v w : ℕ) → word i ≡ some v → Shown i (disassemble v) → word i ≡ some w → Shown i (disassemble w)
fixed i v w p h e = let q : v ≡ w = cc in subst (λ (x : ℕ). Shown i (disassemble x)) q h

record Not (d s w : ℕ) : Type 0 where
  pub op : w / 4096 ≡ 9
  pub first : at9 w ≡ d
  pub second : at6 w ≡ s

negation : (d s w : ℕ) → joined (some 0x903f) (DR ∷ SR ∷ []) (register d ∷ register s ∷ []) ≡ some w → Not d s w
negation d s w e =
    let x = of-reg _ _ _ _ 512 d e in
    let y = of-reg _ _ _ _ 64 s x.rest in
    let h = done _ _ y.rest in
    let r : d ≤ 7 = leb-true _ _ x.holds in
    let q : s ≤ 7 = leb-true _ _ y.holds in
    let sum : w ≡ 9 * 4096 + d * 512 + s * 64 + 63 = omega arith in
    let g : 63 < 64 = omega arith in
    record { op = op-of 9 d s 63 w r q g sum; first = first_of 9 d s 63 w r q g sum; second = second-of 9 d s 63 w r q g sum }

record Eleven (o w : ℕ) : Type 0 where
  pub op : w / 4096 ≡ 4
  pub bit : w / 2048 % 2 ≡ 0 → ⊥
  pub third : low 11 w ≡ o

eleven : (o w : ℕ) → joined (some 0x4800) (near (signed 11) ∷ []) (value o ∷ []) ≡ some w → Eleven o w
eleven o w e =
    let b = of-near _ _ _ _ (signed 11) o e in
    let s = done _ _ b.rest in
    let ok = wide 11 (omega arith) (omega arith) in
    let l : field (signed 11) o < 2048 = field_below 11 ok o in
    record { op = omega arith; bit = λ n. omega arith; third = read 11 ok o w b.holds (omega arith) }

-- a jump by R7 is a return
jump-shows : (b w : ℕ) → Base 12 b w → word (JMP b) ≡ some w → Shown (JMP b) (disassemble w)
unfolding cases when◌then◌else◌ word made find instructions joined disassemble exactly equals
jump-shows b w h e =
    by-test (eqb b 7)
    (λ t.
    let s : b ≡ 7 = eqb-true b 7 t in
    let v : w ≡ 0xc1c0 = omega arith in
    subst (λ (x : ℕ). Shown (JMP x) (disassemble w)) (sym s) (subst (λ (x : ℕ). Shown (JMP 7) (disassemble x)) (sym v) ret))
    (λ t.
    let n : w ≡ 0xc1c0 → ⊥ = λ v. eqb-false b 7 t (omega arith) in
    as_is _ w (found 12 _ w (omega arith) h.op (rw (ne_eqb _ _ n, h.second)) e))

-- what is below x0200 is a fill
fill : (w : ℕ) → w < 512 → disassemble w ≡ none
unfolding disassemble when◌then◌else◌
fill w l = rw (lt-ltb w 512 l)

low9 : (b o w : ℕ) → joined (some b) (near (signed 9) ∷ []) (value o ∷ []) ≡ some w → (fits (signed 9) o ≡ true) × (field (signed 9) o < 512) × (w ≡ b + field (signed 9) o)
low9 b o w e =
    let x = of-near _ _ _ _ (signed 9) o e in
    let s = done _ _ x.rest in
    (x.holds, field_below 9 (wide 9 (omega arith) (omega arith)) o, omega arith)

below : (o w : ℕ) → joined (some 0) (near (signed 9) ∷ []) (value o ∷ []) ≡ some w → disassemble w ≡ none
below o w e = let h = low9 0 o w e in fill w (omega arith)

-- a branch, by n, z and p
branched : (c o w : ℕ) → 1 ≤ c → c ≤ 7 → joined (some (c * 512)) (near (signed 9) ∷ []) (value o ∷ []) ≡ some w → word (BR c o) ≡ some w → Shown (BR c o) (disassemble w)
unfolding cases
branched c o w l m e f =
    let h = low9 (c * 512) o w e in
    let t = read 9 (wide 9 (omega arith) (omega arith)) o w h.0 (omega arith) in
    let n : at9 w ≡ c = omega arith in
    as_is _ w (found 0 _ w (omega arith) (omega arith) (rw (n, t)) f)

branch-shows : (c o w : ℕ) → word (BR c o) ≡ some w → Shown (BR c o) (disassemble w)
unfolding word made find instructions branch when◌then◌else◌
branch-shows zero o w e = subst (Shown (BR 0 o)) (sym (below o w e)) (br o)
branch-shows (suc zero) o w e = branched 1 o w (omega arith) (omega arith) e e
branch-shows (suc (suc zero)) o w e = branched 2 o w (omega arith) (omega arith) e e
branch-shows (suc (suc (suc zero))) o w e = branched 3 o w (omega arith) (omega arith) e e
branch-shows (suc (suc (suc (suc zero)))) o w e = branched 4 o w (omega arith) (omega arith) e e
branch-shows (suc (suc (suc (suc (suc zero))))) o w e = branched 5 o w (omega arith) (omega arith) e e
branch-shows (suc (suc (suc (suc (suc (suc zero)))))) o w e = branched 6 o w (omega arith) (omega arith) e e
branch-shows (suc (suc (suc (suc (suc (suc (suc zero))))))) o w e = branched 7 o w (omega arith) (omega arith) e e
branch-shows (suc (suc (suc (suc (suc (suc (suc (suc n)))))))) o w e = never cc

-- a trap by its number
numbered : (v u w x : ℕ) → v ≡ u → w ≡ x → Shown (TRAP u) (disassemble x) → Shown (TRAP v) (disassemble w)
numbered v u w x p q h = subst (λ (y : ℕ). Shown (TRAP y) (disassemble w)) (sym p) (subst (λ (y : ℕ). Shown (TRAP u) (disassemble y)) (sym q) h)

trapped : (v w : ℕ) → v ≤ 255 → w ≡ 0xf000 + v → trap v ≡ TRAP v → word (TRAP v) ≡ some w → Shown (TRAP v) (disassemble w)
unfolding cases when◌then◌else◌
trapped v w l s t e =
    let n : w % 256 ≡ v = omega arith in
    as_is _ w (found 15 _ w (omega arith) (omega arith) (ap some (ap trap n ∙ t)) e)

named : (k v w : ℕ) → v ≡ 32 + k → v ≤ 255 → w ≡ 0xf000 + v → word (TRAP v) ≡ some w → Shown (TRAP v) (disassemble w)
unfolding word made find instructions joined disassemble exactly equals cases when◌then◌else◌
named zero v w p l q e = numbered v 0x20 w 0xf020 (omega arith) (omega arith) getc
named (suc zero) v w p l q e = numbered v 0x21 w 0xf021 (omega arith) (omega arith) putc
named (suc (suc zero)) v w p l q e = numbered v 0x22 w 0xf022 (omega arith) (omega arith) puts
named (suc (suc (suc zero))) v w p l q e = numbered v 0x23 w 0xf023 (omega arith) (omega arith) in'
named (suc (suc (suc (suc zero)))) v w p l q e = numbered v 0x24 w 0xf024 (omega arith) (omega arith) putsp
named (suc (suc (suc (suc (suc zero))))) v w p l q e = numbered v 0x25 w 0xf025 (omega arith) (omega arith) halt
named (suc (suc (suc (suc (suc (suc k)))))) v w p l q e =
    let s : v - 32 ≡ suc (suc (suc (suc (suc (suc k))))) = omega arith in
    trapped v w l q (rw (le-leb 32 v (omega arith), s)) e

trap-shows : (v w : ℕ) → joined (some 0xf000) (num (unsigned 8) ∷ []) (value v ∷ []) ≡ some w → word (TRAP v) ≡ some w → Shown (TRAP v) (disassemble w)
unfolding when◌then◌else◌
trap-shows v w e f =
    let x = of_num _ _ _ _ (unsigned 8) v e in
    let s = done _ _ x.rest in
    let n = field-unsigned 8 (wide 8 (omega arith) (omega arith)) v x.holds in
    let l : v < 256 = below-unsigned 8 (wide 8 (omega arith) (omega arith)) v x.holds in
    by-test (leb 32 v)
    (λ t. let h = leb-true 32 v t in named (v - 32) v w (omega arith) (omega arith) (omega arith) f)
    (λ t. trapped v w (omega arith) (omega arith) (rw t) f)

-- bit 11 of a JSRR
even : (b w : ℕ) → b ≤ 7 → w ≡ 4 * 4096 + b * 64 → w / 2048 % 2 ≡ 0
even b w l e = let q : w / 2048 ≡ 8 = omega arith in omega arith

pub encoded-shows : (i : Instr) (w : ℕ) → word i ≡ some w → Shown i (disassemble w)
unfolding word made find instructions joined when◌then◌else◌ cases disassemble exactly equals
encoded-shows (ADD d s o) w e = let h = three 1 d s o w e in as_is _ w (found 1 _ w (omega arith) h.op (rw (h.first, h.second, h.third)) e)
encoded-shows (AND d s o) w e = let h = three 5 d s o w e in as_is _ w (found 5 _ w (omega arith) h.op (rw (h.first, h.second, h.third)) e)
encoded-shows (NOT d s) w e = let h = negation d s w e in as_is _ w (found 9 _ w (omega arith) h.op (rw (h.first, h.second)) e)
encoded-shows (BR nzp o) w e = branch-shows nzp o w e
encoded-shows (JMP b) w e = jump-shows b w (base 12 b w e) e
encoded-shows (JSRR b) w e =
    let h = base 4 b w e in
    let bit = even b w h.small h.zeros in
    as_is _ w (found 4 _ w (omega arith) h.op (rw (eq-eqb _ _ bit, h.second)) e)
encoded-shows (JSR o) w e =
    let h = eleven o w e in
    as_is _ w (found 4 _ w (omega arith) h.op (rw (ne_eqb _ _ h.bit, h.third)) e)
encoded-shows (NOP o) w e = subst (Shown (NOP o)) (sym (below o w e)) (nop o)
encoded-shows (LD d o) w e = let h = nine 2 d o w e in as_is _ w (found 2 _ w (omega arith) h.op (rw (h.first, h.third)) e)
encoded-shows (LDI d o) w e = let h = nine 10 d o w e in as_is _ w (found 10 _ w (omega arith) h.op (rw (h.first, h.third)) e)
encoded-shows (LEA d o) w e = let h = nine 14 d o w e in as_is _ w (found 14 _ w (omega arith) h.op (rw (h.first, h.third)) e)
encoded-shows (ST s o) w e = let h = nine 3 s o w e in as_is _ w (found 3 _ w (omega arith) h.op (rw (h.first, h.third)) e)
encoded-shows (STI s o) w e = let h = nine 11 s o w e in as_is _ w (found 11 _ w (omega arith) h.op (rw (h.first, h.third)) e)
encoded-shows (LDR d b o) w e = let h = six 6 d b o w e in as_is _ w (found 6 _ w (omega arith) h.op (rw (h.first, h.second, h.third)) e)
encoded-shows (STR s b o) w e = let h = six 7 s b o w e in as_is _ w (found 7 _ w (omega arith) h.op (rw (h.first, h.second, h.third)) e)
encoded-shows (TRAP v) w e = trap-shows v w e e
encoded-shows RET w e = fixed RET 0xc1c0 w refl (itself RET) e
encoded-shows RTI w e = fixed RTI 0x8000 w refl (itself RTI) e
encoded-shows GETC w e = fixed GETC 0xf020 w refl (itself GETC) e
encoded-shows OUT w e = fixed OUT 0xf021 w refl out e
encoded-shows PUTC w e = fixed PUTC 0xf021 w refl (itself PUTC) e
encoded-shows PUTS w e = fixed PUTS 0xf022 w refl (itself PUTS) e
encoded-shows IN w e = fixed IN 0xf023 w refl (itself IN) e
encoded-shows PUTSP w e = fixed PUTSP 0xf024 w refl (itself PUTSP) e
encoded-shows HALT w e = fixed HALT 0xf025 w refl (itself HALT) e

-- x21 as PUTC, xC1C0 as RET; fills: another word than its instruction's, every word below x0200, opcode D
pub named-words : (disassemble 0xf021 ≡ some PUTC) × (disassemble 0xc1c0 ≡ some RET)
unfolding word made find instructions joined disassemble exactly equals cases when◌then◌else◌
named-words = (refl, refl)

pub fill-words : (disassemble 0xc8c0 ≡ none) × (disassemble 0x01ff ≡ none) × (disassemble 0xd000 ≡ none)
unfolding word made find instructions joined bits ◌⊕◌ disassemble exactly equals cases when◌then◌else◌
fill-words = (refl, refl, refl)

-- an instruction's word is sixteen bits
constant : (i : Instr) (v w : ℕ) → word i ≡ some v → v < 65536 → word i ≡ some w → w < 65536
constant i v w p l e = let q : v ≡ w = cc in omega arith

low_word : (b o w : ℕ) → b + 512 ≤ 65536 → joined (some b) (near (signed 9) ∷ []) (value o ∷ []) ≡ some w → w < 65536
low_word b o w l e = let h = low9 b o w e in omega arith

branch-word : (c o w : ℕ) → word (BR c o) ≡ some w → w < 65536
unfolding word made find instructions branch when◌then◌else◌
branch-word zero o w e = low_word 0 o w (omega arith) e
branch-word (suc zero) o w e = low_word 512 o w (omega arith) e
branch-word (suc (suc zero)) o w e = low_word 1024 o w (omega arith) e
branch-word (suc (suc (suc zero))) o w e = low_word 1536 o w (omega arith) e
branch-word (suc (suc (suc (suc zero)))) o w e = low_word 2048 o w (omega arith) e
branch-word (suc (suc (suc (suc (suc zero))))) o w e = low_word 2560 o w (omega arith) e
branch-word (suc (suc (suc (suc (suc (suc zero)))))) o w e = low_word 3072 o w (omega arith) e
branch-word (suc (suc (suc (suc (suc (suc (suc zero))))))) o w e = low_word 3584 o w (omega arith) e
branch-word (suc (suc (suc (suc (suc (suc (suc (suc n)))))))) o w e = never cc

trap-word : (v w : ℕ) → joined (some 0xf000) (num (unsigned 8) ∷ []) (value v ∷ []) ≡ some w → w < 65536
trap-word v w e =
    let x = of_num _ _ _ _ (unsigned 8) v e in
    let s = done _ _ x.rest in
    let ok = wide 8 (omega arith) (omega arith) in
    let n = field-unsigned 8 ok v x.holds in
    let l : v < 256 = below-unsigned 8 ok v x.holds in
    omega arith

pub word_below : (i : Instr) (w : ℕ) → word i ≡ some w → w < 65536
unfolding word made find instructions joined when◌then◌else◌
word_below (ADD d s o) w e = let h = three 1 d s o w e in omega arith
word_below (AND d s o) w e = let h = three 5 d s o w e in omega arith
word_below (NOT d s) w e = let h = negation d s w e in omega arith
word_below (BR nzp o) w e = branch-word nzp o w e
word_below (JMP b) w e = let h = base 12 b w e in omega arith
word_below (JSRR b) w e = let h = base 4 b w e in omega arith
word_below (JSR o) w e = let h = eleven o w e in omega arith
word_below (NOP o) w e = low_word 0 o w (omega arith) e
word_below (LD d o) w e = let h = nine 2 d o w e in omega arith
word_below (LDI d o) w e = let h = nine 10 d o w e in omega arith
word_below (LEA d o) w e = let h = nine 14 d o w e in omega arith
word_below (ST s o) w e = let h = nine 3 s o w e in omega arith
word_below (STI s o) w e = let h = nine 11 s o w e in omega arith
word_below (LDR d b o) w e = let h = six 6 d b o w e in omega arith
word_below (STR s b o) w e = let h = six 7 s b o w e in omega arith
word_below (TRAP v) w e = trap-word v w e
word_below RET w e = constant RET 0xc1c0 w refl (omega arith) e
word_below RTI w e = constant RTI 0x8000 w refl (omega arith) e
word_below GETC w e = constant GETC 0xf020 w refl (omega arith) e
word_below OUT w e = constant OUT 0xf021 w refl (omega arith) e
word_below PUTC w e = constant PUTC 0xf021 w refl (omega arith) e
word_below PUTS w e = constant PUTS 0xf022 w refl (omega arith) e
word_below IN w e = constant IN 0xf023 w refl (omega arith) e
word_below PUTSP w e = constant PUTSP 0xf024 w refl (omega arith) e
word_below HALT w e = constant HALT 0xf025 w refl (omega arith) e
