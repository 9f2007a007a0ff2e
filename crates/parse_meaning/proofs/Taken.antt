-- What operands give together: their bits leave room for the label operand's, its name stands at its place, and they end after their first place.
-- Assumes nothing.
use mathlib.Core.Path.{◌≡◌, refl, ◌∙◌, ap}
use mathlib.Core.Bool.{Bool, true, false}
use mathlib.Core.List.{List, [], ◌∷◌}
use mathlib.Core.Option.{Option, none, some}
use Prim.Native.Nat.{ℕ, ◌+◌, ◌-◌, ◌*◌, ◌%◌, ◌≤◌, ◌<◌}
use native.Mathlib.Nat.{mod-lt, mul-le-mul, le_refl}
use native.Mathlib.Omega.{arith}
use borrow.Author.Tests.{leb-true}
use lib.Dec.{leb}
use lib.ListN.{length}
use Rattle.rules.specs.Base.{when◌then◌else◌, Outcome, ok, refused, refuse, require, ◌>>=◌, Span}
use Rattle.rules.specs.Tokens.{Num, plus, minus, Kind, number, register, mark, word, directive, text, Token, next_token}
use Rattle.rules.specs.Words.{Range, signed, Field, reg, reg_or_imm, num, near, name, string}
use Rattle.rules.specs.Statements.{Name, Target, Piece, bits, target, chars, Given, add, as_register, as_number, as_label, as_name, as_text, is_mark, in_range, reduced, fit, named, need, operand, name_at, operand_at, comma_at, more_from, operands_from}
use Rattle.rules.proofs.Ahead.{token-ends}
use Rattle.rules.proofs.Gave.{gave}
use Rattle.rules.proofs.Bools.{never}
use Rattle.parse_operands.specs.Lines.{reach_of}
use Rattle.parse_labels.proofs.Texts.{Labels, name-stands}
use Rattle.parse_meaning.specs.Reading.{chars_at}
use Rattle.parse_meaning.proofs.Tokens.{register-small, text-stands}

-- the most that an operand adds to the word, a label operand counted as its field's greatest value
abbrev pub cost : Field → ℕ
cost (reg m) = 7 * m
cost reg_or_imm = 63
cost (num r) = r.modulus - 1
cost (near r) = r.modulus - 1
cost (name r) = r.modulus - 1
cost string = 0

-- a field whose numbers lie below its modulus
abbrev pub Sound : Field → Type 0
Sound (reg m) = Unit {0}
Sound reg_or_imm = Unit {0}
Sound (num r) = r.high < r.modulus
Sound (near r) = r.high < r.modulus
Sound (name r) = Unit {0}
Sound string = Unit {0}

-- a label operand's name stands at its place
abbrev pub Stands : List ℕ → Option Target → Type 0
Stands s none = Unit {0}
Stands s (some t) = Labels s t.name

-- of one operand
abbrev Adds : List ℕ → ℕ → Piece → Type 0
Adds s n (bits b) = b ≤ n
Adds s n (target t) = (t.field.modulus - 1 ≤ n) × Labels s t.name
Adds s n (chars c q) = Unit {0}

range-fits : (r : Range) (n : Num) (q : Span) (b : ℕ) → r.high < r.modulus → fit r n q ≡ ok b → b ≤ r.modulus - 1
unfolding fit in_range reduced when◌then◌else◌
range-fits r (plus n) q b h e = go (leb n r.high) refl e
  where
    go : (t : Bool) → leb n r.high ≡ t → (when t then ok n else refuse 15 q) ≡ ok b → b ≤ r.modulus - 1
    go true z y = let x : n ≡ b = cc in omega (arith, leb-true n r.high z)
    go false z y = never cc
range-fits r (minus n) q b h e = go (leb n r.low) e
  where
    go : (t : Bool) → (when t then ok ((r.modulus - n) % r.modulus) else refuse 15 q) ≡ ok b → b ≤ r.modulus - 1
    go true y = let x : (r.modulus - n) % r.modulus ≡ b = cc in omega (arith, mod-lt (r.modulus - n) {m = r.modulus} (omega arith))
    go false y = never cc

kind-register : (k : Kind) (x : ℕ) → as_register k ≡ some x → k ≡ register x
unfolding as_register
kind-register (number n) x e = never cc
kind-register (register n) x e = let z : n ≡ x = cc in ap register z
kind-register (mark c) x e = never cc
kind-register (word t) x e = never cc
kind-register (directive t) x e = never cc
kind-register (text t) x e = never cc

-- a name that an operand takes is the one at its place
named-name : (k : Kind) (p : Span) (w : List ℕ) (l : Name) → as_label k ≡ some w → named w p ≡ ok l → as_name k p ≡ some l
unfolding as_name named when◌then◌else◌
named-name k p w l a n = ap (λ (o : Option (List ℕ)). elim o as (λ x. Option Name) [ none ↦ none | some t ↦ when leb (length t) 64 then some (record { text = t; place = p }) else none ]) a ∙ go (leb (length w) 64) n
  where
    go : (b : Bool) → ◌≡◌ {A = Outcome Name} (when b then ok (record { text = w; place = p }) else refuse 16 p) (ok l) → ◌≡◌ {A = Option Name} (when b then some (record { text = w; place = p }) else none) (some l)
    go true e = let z : record { text = w; place = p } ≡ l = cc in ap (λ (x : Name). some x) z
    go false e = never cc

name-here : (s : List ℕ) (i : ℕ) (t : Token) → next_token s i ≡ ok t → name_at s i ≡ as_name t.kind t.place
unfolding name_at
name-here s i t e = ap (λ (o : Outcome Token). elim o as (λ x. Option Name) [ ok t ↦ as_name t.kind t.place | refused r ↦ none ]) e

-- an operand that is due and stands there
of-need : {A : Type 0} (P : Piece → Type 0) (o : Option A) (other : ℕ) (q : Span) (f : A → Outcome Piece) (p : Piece) → ((a : A) → o ≡ some a → f a ≡ ok p → P p) → need o other q f ≡ ok p → P p
unfolding need
of-need P none other q f p h e = never cc
of-need P (some a) other q f p h e = h a refl e

module _ (s : List ℕ) (i : ℕ) (t : Token) (e : next_token s i ≡ ok t) where
  of-bits : (n m : ℕ) (p : Piece) → m ≤ n → ok (bits m) ≡ ok p → Adds s n p
  of-bits n m p h q = let z : bits m ≡ p = cc in rw (← z) h

  register-here : (x : ℕ) → as_register t.kind ≡ some x → x ≤ 7
  register-here x q = register-small s i t e x (kind-register t.kind x q)

  of-fit : (n : ℕ) (r : Range) (m : Num) (c : ℕ → ℕ) (p : Piece) → r.high < r.modulus → ((b : ℕ) → b ≤ r.modulus - 1 → c b ≤ n) → (fit r m t.place >>= λ b. ok (bits (c b))) ≡ ok p → Adds s n p
  of-fit n r m c p h k q =
      let u = gave (fit r m t.place) _ p q in
      of-bits n (c u.given') p (k u.given' (range-fits r m t.place u.given' h u.first)) u.then'

  of-name : (r : Range) (w : List ℕ) (p : Piece) → as_label t.kind ≡ some w → (named w t.place >>= λ l. ok (target (record { field = r; name = l }))) ≡ ok p → Adds s (r.modulus - 1) p
  of-name r w p a q =
      let u = gave (named w t.place) _ p q in
      let z : target (record { field = r; name = u.given' }) ≡ p = cc u.then' in
      rw (← z) (le_refl (r.modulus - 1), name-stands s i u.given' (name-here s i t e ∙ named-name t.kind t.place w u.given' a u.first))

  operand-adds : (f : Field) (other : ℕ) (p : Piece) → Sound f → operand f other t ≡ ok p → Adds s (cost f) p
  unfolding operand
  operand-adds (reg m) other p h q = of-need (Adds s (7 * m)) (as_register t.kind) other t.place (λ r. ok (bits (r * m))) p (λ x a y. of-bits (7 * m) (x * m) p (mul-le-mul (register-here x a) (le_refl m)) y) q
  operand-adds (num r) other p h q = of-need (Adds s (r.modulus - 1)) (as_number t.kind) other t.place (λ n. fit r n t.place >>= λ b. ok (bits b)) p (λ x a y. of-fit (r.modulus - 1) r x (λ b. b) p h (λ b k. k) y) q
  operand-adds reg_or_imm other p h q = go (as_register t.kind) refl q
    where
      go : (o : Option ℕ) → as_register t.kind ≡ o → ◌≡◌ {A = Outcome Piece} (elim o [ some r ↦ ok (bits r) | none ↦ need (as_number t.kind) other t.place (λ n. fit (signed 5) n t.place >>= λ b. ok (bits (32 + b))) ]) (ok p) → Adds s 63 p
      go (some x) a y = of-bits 63 x p (omega (arith, register-here x a)) y
      go none a y = of-need (Adds s 63) (as_number t.kind) other t.place (λ n. fit (signed 5) n t.place >>= λ b. ok (bits (32 + b))) p (λ x b z. of-fit 63 (signed 5) x (λ b. 32 + b) p (omega arith) (λ b k. omega arith) z) y
  operand-adds (near r) other p h q = go (as_number t.kind) q
    where
      go : (o : Option Num) → ◌≡◌ {A = Outcome Piece} (elim o [ some n ↦ fit r n t.place >>= (λ b. ok (bits b)) | none ↦ need (as_label t.kind) other t.place (λ w. named w t.place >>= λ l. ok (target (record { field = r; name = l }))) ]) (ok p) → Adds s (r.modulus - 1) p
      go (some x) y = of-fit (r.modulus - 1) r x (λ b. b) p h (λ b k. k) y
      go none y = of-need (Adds s (r.modulus - 1)) (as_label t.kind) other t.place (λ w. named w t.place >>= λ l. ok (target (record { field = r; name = l }))) p (λ w a z. of-name r w p a z) y
  operand-adds (name r) other p h q = of-need (Adds s (r.modulus - 1)) (as_label t.kind) other t.place (λ w. named w t.place >>= λ l. ok (target (record { field = r; name = l }))) p (λ w a z. of-name r w p a z) q
  operand-adds string other p h q = of-need (Adds s 0) (as_text t.kind) other t.place (λ c. ok (chars c t.place)) p (λ c a y. (let z : chars c t.place ≡ p = cc in rw (← z) tt)) q

-- OPERANDS TOGETHER, from a place, at most this much

pub record Taken (s : List ℕ) (most i : ℕ) (g : Given) : Type 0 where
  pub light : g.bits + (reach_of g.target - 1) ≤ most
  pub stands : Stands s g.target
  pub on : i ≤ g.stop

abbrev pub costs : List Field → ℕ
costs [] = 0
costs (f ∷ fs) = cost f + costs fs

abbrev pub AllSound : List Field → Type 0
AllSound [] = Unit {0}
AllSound (f ∷ fs) = Sound f × AllSound fs

module _ (s : List ℕ) where
  one_more : (most n i j : ℕ) (g : Given) (p : Piece) → Taken s most i g → Adds s n p → i ≤ j → Taken s (most + n) i (add g p j)
  unfolding add
  one_more most n i j g (bits b) v a x = record { light = omega (arith, v.light, a); stands = v.stands; on = x }
  one_more most n i j g (target t) v a x = record { light = omega (arith, v.light, a.0); stands = a.1; on = x }
  one_more most n i j g (chars c q) v a x = record { light = omega (arith, v.light); stands = v.stands; on = x }

  operand-taken : (f : Field) (other most i j : ℕ) (g h : Given) → Sound f → Taken s most i g → i ≤ j → operand_at s f other g j ≡ ok h → Taken s (most + cost f) i h
  unfolding operand_at
  operand-taken f other most i j g h k v x e =
      let u = gave (next_token s j) _ h e in
      let w = gave (operand f other u.given') _ h u.then' in
      let t = token-ends s j u.given' u.first in
      let q : add g w.given' u.given'.place.stop ≡ h = cc w.then' in
      rw (← q) (one_more most (cost f) i u.given'.place.stop g w.given' v (operand-adds s j u.given' u.first f other w.given' k w.first) (omega (arith, t.least)))

  marked : (b : Bool) (p : Span) (i j : ℕ) → (require b 13 p >>= λ x. ok i) ≡ ok j → i ≡ j
  marked true p i j e = cc
  marked false p i j e = never cc

  comma-on : (i j : ℕ) → comma_at s i ≡ ok j → i ≤ j
  unfolding comma_at
  comma-on i j e =
      let u = gave (next_token s i) _ j e in
      let t = token-ends s i u.given' u.first in
      let q = marked (is_mark 44 u.given'.kind) u.given'.place u.given'.place.stop j u.then' in
      omega (arith, t.least, q)

  more-taken : (fs : List Field) (other most i : ℕ) (g h : Given) → AllSound fs → Taken s most i g → more_from s fs other g ≡ ok h → Taken s (most + costs fs) i h
  unfolding more_from
  more-taken [] other most i g h k v e = let q : g ≡ h = cc in rw (← q) (record { light = omega (arith, v.light); stands = v.stands; on = v.on })
  more-taken (f ∷ fs) other most i g h k v e =
      let u = gave (comma_at s g.stop) _ h e in
      let w = gave (operand_at s f other g u.given') _ h u.then' in
      let c = comma-on g.stop u.given' u.first in
      let a = operand-taken f other most i u.given' g w.given' k.0 v (omega (arith, v.on, c)) w.first in
      let z : most + cost f + costs fs ≡ most + (cost f + costs fs) = omega arith in
      rw z at (more-taken fs other (most + cost f) i w.given' h k.1 a w.then')

  pub operands-taken : (fs : List Field) (other most : ℕ) (g h : Given) → AllSound fs → Taken s most g.stop g → operands_from s fs other g ≡ ok h → Taken s (most + costs fs) g.stop h
  unfolding operands_from
  operands-taken [] other most g h k v e = let q : g ≡ h = cc in rw (← q) (record { light = omega (arith, v.light); stands = v.stands; on = v.on })
  operands-taken (f ∷ fs) other most g h k v e =
      let u = gave (operand_at s f other g g.stop) _ h e in
      let a = operand-taken f other most g.stop g.stop g u.given' k.0 v v.on u.first in
      let z : most + cost f + costs fs ≡ most + (cost f + costs fs) = omega arith in
      rw z at (more-taken fs other (most + cost f) g.stop u.given' h k.1 a u.then')

  -- the operand of .stringz
  kind-text : (k : Kind) (c : List ℕ) → as_text k ≡ some c → k ≡ text c
  unfolding as_text
  kind-text (number n) c e = never cc
  kind-text (register n) c e = never cc
  kind-text (mark m) c e = never cc
  kind-text (word t) c e = never cc
  kind-text (directive t) c e = never cc
  kind-text (text t) c e = let z : t ≡ c = cc in ap text z

  quoted-here : (i : ℕ) (t : Token) → next_token s i ≡ ok t → (g : Given) (p : Piece) (c : List ℕ) → as_text t.kind ≡ some c → ok (chars c t.place) ≡ ok p → (add g p t.place.stop).chars ≡ chars_at s ((add g p t.place.stop).quote.start + 1)
  unfolding add
  quoted-here i t e g p c a b = let z : chars c t.place ≡ p = cc in rw (← z) (text-stands s i t e c (kind-text t.kind c a))

  pub string-taken : (other : ℕ) (g h : Given) → operands_from s (string ∷ []) other g ≡ ok h → h.chars ≡ chars_at s (h.quote.start + 1)
  unfolding operands_from more_from operand_at operand
  string-taken other g h e =
      let u = gave (operand_at s string other g g.stop) _ h e in
      let q : u.given' ≡ h = cc u.then' in
      let w = gave (next_token s g.stop) _ u.given' u.first in
      let y = gave (operand string other w.given') _ u.given' w.then' in
      let z : add g y.given' w.given'.place.stop ≡ u.given' = cc y.then' in
      rw (← (z ∙ q)) (of-need (λ p. (add g p w.given'.place.stop).chars ≡ chars_at s ((add g p w.given'.place.stop).quote.start + 1)) (as_text w.given'.kind) other w.given'.place (λ c. ok (chars c w.given'.place)) y.given' (λ c a b. quoted-here g.stop w.given' w.first g y.given' c a b) y.first)
