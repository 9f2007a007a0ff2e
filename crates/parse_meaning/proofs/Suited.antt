-- The operands of each row of the tables fit a word. Assumes nothing.
use mathlib.Core.Path.{◌∙◌, ◌≡◌, refl}
use mathlib.Core.Bool.{Bool, true, ◌&&◌}
use mathlib.Core.List.{List, [], ◌∷◌, map}
use mathlib.Core.Option.{some}
use Prim.Native.Nat.{ℕ, ◌+◌, ◌≤◌}
use native.Mathlib.Omega.{arith}
use borrow.Author.Tests.{leb-true, ltb-true}
use lib.Dec.{leb, ltb}
use Rattle.rules.specs.Tokens.{Token}
use Rattle.rules.specs.Words.{Field, reg, reg_or_imm, num, near, name, string, Op, instr, orig, fill, blkw, stringz, end, external, Row, instructions, directives, find}
use Rattle.rules.specs.Statements.{Name}
use Rattle.rules.proofs.Bools.{and_left, and_right, never}
use Rattle.rules.proofs.Instructions.{maps-found}
use Rattle.rules.proofs.Inverted.{Headed, whole, alone, directed}
use Rattle.parse_meaning.proofs.Taken.{costs, Sound, AllSound}

-- ROWS: what is known of each by one computed test

abbrev sound : Field → Bool
sound (reg m) = true
sound reg_or_imm = true
sound (num r) = ltb r.high r.modulus
sound (near r) = ltb r.high r.modulus
sound (name r) = true
sound string = true

abbrev all_sound : List Field → Bool
all_sound [] = true
all_sound (f ∷ fs) = sound f && all_sound fs

abbrev light : Row → Bool
light r = leb (r.base + costs r.fields) 65535 && all_sound r.fields

-- .stringz has a string
abbrev with_string : Op → List Field → List Field
with_string instr fs = fs
with_string orig fs = fs
with_string fill fs = fs
with_string blkw fs = fs
with_string stringz fs = string ∷ []
with_string end fs = fs
with_string external fs = fs

sound-true : (f : Field) → sound f ≡ true → Sound f
sound-true (reg m) e = tt
sound-true reg_or_imm e = tt
sound-true (num r) e = ltb-true _ _ e
sound-true (near r) e = ltb-true _ _ e
sound-true (name r) e = tt
sound-true string e = tt

all_true : (fs : List Field) → all_sound fs ≡ true → AllSound fs
all_true [] e = tt
all_true (f ∷ fs) e = (sound-true f (and_left (sound f) (all_sound fs) e), all_true fs (and_right (sound f) (all_sound fs) e))

-- the operands of a row
pub record Suited (o : Op) (base : ℕ) (fs : List Field) : Type 0 where
  pub room : base + costs fs ≤ 65535
  pub each : AllSound fs
  pub strung : o ≡ stringz → fs ≡ string ∷ []

-- a row that is found in a table: two computed tests
module _ (rs : List Row) (l : map light rs ≡ map (λ (r : Row). true) rs) (t : map (λ (r : Row). r.fields) rs ≡ map (λ (r : Row). with_string r.op r.fields) rs) where
  row-suited : (w : List ℕ) (r : Row) → find w rs ≡ some r → Suited r.op r.base r.fields
  row-suited w r f =
      let e : light r ≡ true = maps-found light (λ q. true) w rs r l f in
      let s : r.fields ≡ with_string r.op r.fields = maps-found (λ q. q.fields) (λ q. with_string q.op q.fields) w rs r t f in
      record {
        room = leb-true _ _ (and_left (leb (r.base + costs r.fields) 65535) (all_sound r.fields) e);
        each = all_true r.fields (and_right (leb (r.base + costs r.fields) 65535) (all_sound r.fields) e);
        strung = λ q. s ∙ rw q;
      }

instruction-suited : (w : List ℕ) (r : Row) → find w instructions ≡ some r → Suited r.op r.base r.fields
unfolding instructions
instruction-suited = row-suited instructions refl refl

directive-suited : (w : List ℕ) (r : Row) → find w directives ≡ some r → Suited r.op r.base r.fields
unfolding directives
directive-suited = row-suited directives refl refl

-- an instruction has no string
instruction-op : (w : List ℕ) (r : Row) → find w instructions ≡ some r → r.op ≡ instr
unfolding instructions
instruction-op w r f = maps-found (λ q. q.op) (λ q. instr) w instructions r refl f

nop-suited : (w : List ℕ) (r : Row) → find w instructions ≡ some r → Suited r.op r.base []
nop-suited w r f = record { room = omega (arith, (instruction-suited w r f).room); each = tt; strung = λ q. not-string (instruction-op w r f) q }
  where
    not-string : {A : Type 0} → r.op ≡ instr → r.op ≡ stringz → A
    not-string e q = never cc

-- A STATEMENT'S ROW, with the operands that were read
pub suited : (s : List ℕ) (ls : List Name) (t : Token) (r : Row) (fs : List Field) → Headed s ls t r fs → Suited r.op r.base fs
suited s ls t r fs (whole w a f q) = rw q (instruction-suited w r f)
suited s ls t r fs (alone w a f q) = rw q (nop-suited w r f)
suited s ls t r fs (directed d a f q) = rw q (directive-suited d r f)
