-- In an accepted statement the label operand's field is known by what the statement does. Assumes nothing.
use Prim.Native.Nat.{ℕ, ◌+◌, ◌*◌}
use mathlib.Core.Path.{◌≡◌, refl, ap}
use mathlib.Core.List.{List, [], ◌∷◌}
use mathlib.Core.Logic.{◌⊎◌, inl, inr}
use mathlib.Core.Option.{Option, none, some}
use native.Mathlib.Omega.{arith}
use Rattle.rules.specs.Base.{Outcome, ok, refused, ◌>>=◌, Span}
use Rattle.rules.specs.Tokens.{Num, Token, next_token}
use Rattle.rules.specs.Words.{Range, signed, unsigned, any_word, Field, reg, reg_or_imm, num, near, name, string, Op, instr, orig, fill, blkw, stringz, end, external, Row, instructions, directives}
use Rattle.rules.specs.Statements.{Name, Target, Piece, bits, target, chars, Given, bare, add, as_register, as_number, as_label, as_text, fit, named, need, operand, past_lines, past_labels, labels_at, operand_at, comma_at, more_from, operands_from, Read, stmt, next_statement}
use Rattle.rules.proofs.Gave.{gave}
use Rattle.rules.proofs.Bools.{never}
use Rattle.rules.proofs.Instructions.{All, found}
use Rattle.rules.proofs.Inverted.{Headed, whole, alone, directed, Rowed, inverted}
use Rattle.parse_operands.specs.Lines.{reach_of}
use Rattle.parse.specs.Reach.{LabelField, HasField}

abbrev Gives : (Range → Type 0) → Piece → Type 0
Gives P (bits n) = Unit {0}
Gives P (target t) = P t.field
Gives P (chars c q) = Unit {0}

abbrev Takes : (Range → Type 0) → Field → Type 0
Takes P (reg m) = Unit {0}
Takes P reg_or_imm = Unit {0}
Takes P (num r) = Unit {0}
Takes P (near r) = P r
Takes P (name r) = P r
Takes P string = Unit {0}

abbrev Each : (Range → Type 0) → List Field → Type 0
Each P [] = Unit {0}
Each P (f ∷ fs) = Takes P f × Each P fs

module _ (P : Range → Type 0) where
  of-bits : (n : ℕ) (p : Piece) → ok (bits n) ≡ ok p → Gives P p
  of-bits n p e = let q : bits n ≡ p = cc in rw (← q) tt

  of-fit : (o : Outcome ℕ) (c : ℕ → ℕ) (p : Piece) → (o >>= λ b. ok (bits (c b))) ≡ ok p → Gives P p
  of-fit (ok b) c p e = of-bits (c b) p e
  of-fit (refused r) c p e = never cc

  of-name : (r : Range) (o : Outcome Name) (p : Piece) → P r → (o >>= λ l. ok (target (record { field = r; name = l }))) ≡ ok p → Gives P p
  of-name r (ok l) p h e = let q : target (record { field = r; name = l }) ≡ p = cc in rw (← q) h
  of-name r (refused x) p h e = never cc

  -- where an operand is due and stands there
  of-need : {A : Type 0} (o : Option A) (other : ℕ) (q : Span) (f : A → Outcome Piece) (p : Piece) → ((a : A) → f a ≡ ok p → Gives P p) → need o other q f ≡ ok p → Gives P p
  unfolding need
  of-need none other q f p h e = never cc
  of-need (some a) other q f p h e = h a e

  operand-gives : (f : Field) (other : ℕ) (t : Token) (p : Piece) → Takes P f → operand f other t ≡ ok p → Gives P p
  unfolding operand
  operand-gives (reg m) other t p h e = of-need (as_register t.kind) other t.place (λ r. ok (bits (r * m))) p (λ a q. of-bits (a * m) p q) e
  operand-gives (num r) other t p h e = of-need (as_number t.kind) other t.place (λ n. fit r n t.place >>= λ b. ok (bits b)) p (λ a q. of-fit (fit r a t.place) (λ b. b) p q) e
  operand-gives reg_or_imm other t p h e = go (as_register t.kind) e
    where
      go : (o : Option ℕ) → ◌≡◌ {A = Outcome Piece} (elim o [ some r ↦ ok (bits r) | none ↦ need (as_number t.kind) other t.place (λ n. fit (signed 5) n t.place >>= λ b. ok (bits (32 + b))) ]) (ok p) → Gives P p
      go (some r) q = of-bits r p q
      go none q = of-need (as_number t.kind) other t.place (λ n. fit (signed 5) n t.place >>= λ b. ok (bits (32 + b))) p (λ a w. of-fit (fit (signed 5) a t.place) (λ b. 32 + b) p w) q
  operand-gives (near r) other t p h e = go (as_number t.kind) e
    where
      go : (o : Option Num) → ◌≡◌ {A = Outcome Piece} (elim o [ some n ↦ fit r n t.place >>= (λ b. ok (bits b)) | none ↦ need (as_label t.kind) other t.place (λ w. named w t.place >>= λ l. ok (target (record { field = r; name = l }))) ]) (ok p) → Gives P p
      go (some n) q = of-fit (fit r n t.place) (λ b. b) p q
      go none q = of-need (as_label t.kind) other t.place (λ w. named w t.place >>= λ l. ok (target (record { field = r; name = l }))) p (λ a w. of-name r (named a t.place) p h w) q
  operand-gives (name r) other t p h e = of-need (as_label t.kind) other t.place (λ w. named w t.place >>= λ l. ok (target (record { field = r; name = l }))) p (λ a w. of-name r (named a t.place) p h w) e
  operand-gives string other t p h e = of-need (as_text t.kind) other t.place (λ s. ok (chars s t.place)) p (λ a q. (let z : chars a t.place ≡ p = cc in rw (← z) tt)) e

  add_holds : (g : Given) (p : Piece) (i : ℕ) → HasField P g.target → Gives P p → HasField P (add g p i).target
  unfolding add
  add_holds g (bits n) i h q = h
  add_holds g (target t) i h q = q
  add_holds g (chars c x) i h q = h

  module _ (s : List ℕ) where
    operand-holds : (f : Field) (other : ℕ) (g h : Given) (i : ℕ) → Takes P f → HasField P g.target → operand_at s f other g i ≡ ok h → HasField P h.target
    unfolding operand_at
    operand-holds f other g h i t k e =
        let u = gave (next_token s i) _ h e in
        let w = gave (operand f other u.given') _ h u.then' in
        let q : add g w.given' u.given'.place.stop ≡ h = cc w.then' in
        rw (← q) (add_holds g w.given' u.given'.place.stop k (operand-gives f other u.given' w.given' t w.first))

    more-holds : (fs : List Field) (other : ℕ) (g h : Given) → Each P fs → HasField P g.target → more_from s fs other g ≡ ok h → HasField P h.target
    unfolding more_from
    more-holds [] other g h t k e = let q : g ≡ h = cc in rw (← q) k
    more-holds (f ∷ fs) other g h t k e =
        let u = gave (comma_at s g.stop) _ h e in
        let w = gave (operand_at s f other g u.given') _ h u.then' in
        more-holds fs other w.given' h t.1 (operand-holds f other g w.given' u.given' t.0 k w.first) w.then'

    operands-hold : (fs : List Field) (other : ℕ) (g h : Given) → Each P fs → HasField P g.target → operands_from s fs other g ≡ ok h → HasField P h.target
    unfolding operands_from
    operands-hold [] other g h t k e = let q : g ≡ h = cc in rw (← q) k
    operands-hold (f ∷ fs) other g h t k e =
        let u = gave (operand_at s f other g g.stop) _ h e in
        more-holds fs other u.given' h t.1 (operand-holds f other g u.given' g.stop t.0 k u.first) u.then'

-- A STATEMENT
abbrev Known : Read → Type 0
Known x = HasField (LabelField x.stmt.op) x.stmt.target

-- the label operands of each row
abbrev Labels : Row → Type 0
Labels r = Each (LabelField r.op) r.fields

instruction-rows : All Labels instructions
unfolding instructions
instruction-rows = ((tt, (tt, (tt, tt))), ((tt, (tt, (tt, tt))), ((tt, (tt, tt)), ((inl refl, tt), ((inl refl, tt), ((inl refl, tt), ((inl refl, tt), ((inl refl, tt), ((inl refl, tt), ((inl refl, tt), ((inl refl, tt), ((tt, tt), ((inr refl, tt), ((tt, tt), ((tt, (inl refl, tt)), ((tt, (inl refl, tt)), ((tt, (tt, (tt, tt))), ((tt, (inl refl, tt)), ((tt, (inl refl, tt)), ((tt, (inl refl, tt)), ((tt, (tt, (tt, tt))), ((tt, tt), ((inl refl, tt), (tt, (tt, (tt, (tt, (tt, (tt, (tt, (tt, (tt, tt))))))))))))))))))))))))))))))))

directive-rows : All Labels directives
unfolding directives
directive-rows = ((tt, tt), ((refl, tt), ((tt, tt), ((tt, tt), (tt, ((refl, tt), tt))))))

module _ (s : List ℕ) (ls : List Name) (t : Token) where
  head-known : (r : Row) (fs : List Field) → Headed s ls t r fs → Each (LabelField r.op) fs
  head-known r fs (whole w a f q) = rw q (found Labels w instructions r instruction-rows f)
  head-known r fs (alone w a f q) = rw q tt
  head-known r fs (directed d a f q) = rw q (found Labels d directives r directive-rows f)

  token-known : (x : Read) → Rowed s ls t x → Known x
  token-known x r = rw r.is (operands-hold (LabelField r.row.op) s r.fields r.other (bare r.row.base t.place.stop) r.given' (head-known r.row r.fields r.headed) tt r.taken)

pub statement-known : (s : List ℕ) (i : ℕ) (x : Read) → next_statement s i ≡ ok (some x) → HasField (LabelField x.stmt.op) x.stmt.target
unfolding next_statement
statement-known s i x e =
    let u = gave (next_token s (past_lines s (past_labels s i))) _ (some x) e in
    token-known s (labels_at s i) u.given' x (inverted s (labels_at s i) u.given' (some x) u.then')

-- by the number of values: 512 is an offset9, 2048 an offset11
module _ (s : List ℕ) (i : ℕ) (x : Read) (t : Target) (e : next_statement s i ≡ ok (some x)) (l : x.stmt.target ≡ some t) where
  known_target : (o : Op) → x.stmt.op ≡ o → LabelField o t.field
  known_target o q = rw (q, l) at (statement-known s i x e)

  pub near-field : x.stmt.op ≡ instr → t.field.modulus ≡ 512 → t.field ≡ signed 9
  near-field q m = go (known_target instr q)
    where
      go : LabelField instr t.field → t.field ≡ signed 9
      go (inl h) = h
      go (inr h) = let z : t.field.modulus ≡ 2048 = ap (λ (r : Range). r.modulus) h in absurd (omega arith)

  pub far-field : x.stmt.op ≡ instr → t.field.modulus ≡ 2048 → t.field ≡ signed 11
  far-field q m = go (known_target instr q)
    where
      go : LabelField instr t.field → t.field ≡ signed 11
      go (inl h) = let z : t.field.modulus ≡ 512 = ap (λ (r : Range). r.modulus) h in absurd (omega arith)
      go (inr h) = h

  pub instr-modulus : x.stmt.op ≡ instr → (t.field.modulus ≡ 512) ⊎ (t.field.modulus ≡ 2048)
  instr-modulus q = go (known_target instr q)
    where
      go : LabelField instr t.field → (t.field.modulus ≡ 512) ⊎ (t.field.modulus ≡ 2048)
      go (inl h) = inl (ap (λ (r : Range). r.modulus) h)
      go (inr h) = inr (ap (λ (r : Range). r.modulus) h)

  pub fill-field : x.stmt.op ≡ fill → t.field ≡ any_word
  fill-field q = known_target fill q

  pub external-field : x.stmt.op ≡ external → t.field ≡ unsigned 16
  external-field q = known_target external q

-- a statement whose label operand has no values has no label operand
pub no_target : (s : List ℕ) (i : ℕ) (x : Read) → next_statement s i ≡ ok (some x) → reach_of x.stmt.target ≡ 0 → x.stmt.target ≡ none
no_target s i x e z = go x.stmt.op x.stmt.target (statement-known s i x e) z
  where
    go : (o : Op) (t : Option Target) → HasField (LabelField o) t → reach_of t ≡ 0 → t ≡ none
    go o none h z = refl
    go instr (some t) (inl h) z = let y : t.field.modulus ≡ 512 = ap (λ (r : Range). r.modulus) h in absurd (omega arith)
    go instr (some t) (inr h) z = let y : t.field.modulus ≡ 2048 = ap (λ (r : Range). r.modulus) h in absurd (omega arith)
    go orig (some t) h z = absurd h
    go fill (some t) h z = let y : t.field.modulus ≡ 65536 = ap (λ (r : Range). r.modulus) h in absurd (omega arith)
    go blkw (some t) h z = absurd h
    go stringz (some t) h z = absurd h
    go end (some t) h z = absurd h
    go external (some t) h z = let y : t.field.modulus ≡ 65536 = ap (λ (r : Range). r.modulus) h in absurd (omega arith)
