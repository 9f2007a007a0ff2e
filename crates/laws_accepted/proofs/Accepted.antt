-- What assembling accepts is a good object, whose words the lent ones hold. Assumes nothing.
use mathlib.Core.Path.{◌≡◌, refl, ◌∙◌, ap}
use mathlib.Core.Bool.{Bool, true, false}
use mathlib.Core.List.{List, [], ◌∷◌}
use Prim.Native.Nat.{ℕ, ◌+◌, ◌≤◌}
use native.Mathlib.Omega.{arith}
use lib.Dec.{leb}
use lib.ListN.{length, length-append}
use borrow.Author.Tests.{leb-true}
use Rattle.rules.specs.Base.{Outcome, ok, require, ◌>>=◌, ◌>>◌, Span, span, nowhere}
use Rattle.rules.specs.Capacities.{source_room}
use Rattle.rules.specs.Tokens.{Token, ascii, tokens, lexed}
use Rattle.rules.specs.Statements.{Stmt, statements}
use Rattle.rules.specs.Objects.{Object, object, flat, Good}
use Rattle.rules.specs.Passes.{Pass1State, pass1_start, pass_one, ObjBlock, Pass2State, pass2_start, pass_two, assemble}
use Rattle.rules.proofs.Gave.{gave}
use Rattle.rules.proofs.Bools.{never}
use Rattle.laws.proofs.Alongside.{total, along-start}
use Rattle.laws.proofs.Known.{Low, kept-start}
use Rattle.laws_accepted.proofs.Cells.{Finished, fine-all, fine-start}
use Rattle.laws_accepted.proofs.Objects.{blocks_of, labels_of, finished-good}
use Rattle.laws_accepted.proofs.Statements.{all_sound_lem, ascii-low}

-- the words of blocks
pub flat-total : (bs : List ObjBlock) → length (flat (blocks_of bs)) ≡ total bs
flat-total [] = refl
flat-total (b ∷ bs) = length-append b.words (flat (blocks_of bs)) ∙ ap (λ (n : ℕ). length b.words + n) (flat-total bs)

required : {A : Type 0} (b : Bool) (n : ℕ) (p : Span) (o : Outcome A) (a : A) → (require b n p >> o) ≡ ok a → (b ≡ true) × (o ≡ ok a)
required true n p o a e = (refl, e)
required false n p o a e = never cc

unit_ok : (o : Outcome (Unit {0})) (x : Unit {0}) → o ≡ ok x → o ≡ ok tt
unit_ok o tt e = e

pub lexed-low : (s : List ℕ) (ts : List Token) → lexed s ≡ ok ts → Low s
unfolding lexed
lexed-low s ts e =
    let u = required (leb (length s) source_room) 11 (span 0 (length s)) (ascii 0 s >> tokens s) ts e in
    let v = gave (ascii 0 s) _ ts u.1 in
    ascii-low 0 s (unit_ok (ascii 0 s) v.given' v.first)

-- the stages of a source that is accepted
pub record Stages (room : ℕ) (s : List ℕ) (o : Object) : Type 0 where
  pub low : Low s
  pub stmts : List Stmt
  pub read : statements s ≡ ok stmts
  pub state : Pass1State
  pub first : pass_one stmts pass1_start ≡ ok state
  pub fits : state.words ≤ room
  pub blocks : Pass2State
  pub second : pass_two state.symbols stmts pass2_start ≡ ok blocks
  pub is : o ≡ object (blocks_of blocks.blocks) (labels_of state.symbols) state.relocs

pub stages : (room : ℕ) (s : List ℕ) (o : Object) → assemble room s ≡ ok o → Stages room s o
unfolding assemble
stages room s o e =
    let a = gave (lexed s) _ o e in
    let b = gave (statements s) _ o a.then' in
    let c = gave (pass_one b.given' pass1_start) _ o b.then' in
    let d = required (leb c.given'.words room) 41 nowhere (pass_two c.given'.symbols b.given' pass2_start >>= λ t. ok (object (blocks_of t.blocks) (labels_of c.given'.symbols) c.given'.relocs)) o c.then' in
    let f = gave (pass_two c.given'.symbols b.given' pass2_start) _ o d.1 in
    record {
      low = lexed-low s a.given' a.first;
      stmts = b.given';
      read = b.first;
      state = c.given';
      first = c.first;
      fits = leb-true c.given'.words room d.0;
      blocks = f.given';
      second = f.first;
      is = cc f.then';
    }

finished : (room : ℕ) (s : List ℕ) (o : Object) (g : Stages room s o) → Finished g.state g.blocks
finished room s o g = fine-all g.stmts pass1_start g.state pass2_start g.blocks along-start kept-start fine-start (all_sound_lem s g.low g.stmts g.read) g.first g.second

-- THE THEOREM
pub accepted-good : (room : ℕ) (s : List ℕ) (o : Object) → assemble room s ≡ ok o → Good o
accepted-good room s o e =
    let g = stages room s o e in
    rw g.is (finished-good g.state g.blocks (finished room s o g))

pub accepted-fits : (room : ℕ) (s : List ℕ) (o : Object) → assemble room s ≡ ok o → length (flat o.blocks) ≤ room
accepted-fits room s o e =
    let g = stages room s o e in
    let h = finished room s o g in
    rw g.is (rw (flat-total g.blocks.blocks) (omega (arith, g.fits, h.along.words)))
