-- The stages of assembling, one after another, are the rule's. Assumes nothing.
use Rattle.std.specs.declared.result.Result.{Result}
use Rattle.std.specs.declared.result.Result.TheVariants.{Ok, Err}
use mathlib.Core.Path.{◌≡◌, sym, ◌∙◌}
use mathlib.Core.Bool.{Bool, false}
use mathlib.Core.List.{List}
use Prim.Native.Nat.{ℕ, ◌≤◌}
use native.Mathlib.Omega.{arith}
use lib.ListN.{length, length-replicate}
use borrow.Author.Tests.{le-leb}
use Rattle.rules.specs.Base.{ok}
use Rattle.rules.specs.Statements.{Stmt, statements}
use Rattle.rules.specs.Buffers.{Buffers, short, lent_words, zeros}
use Rattle.rules.specs.Passes.{assemble}
use Rattle.rules.specs.Calls.{of_bytes}
use Rattle.base_refusals.specs.Refusals.{refused_by}
use Rattle.base_refusals.specs.declared.Refusal.{Refusal}
use Rattle.pass1_state.specs.declared.Pass1State as code
use Rattle.pass1_fill.specs.Tables.{seen}
use Rattle.asm_first_half.specs.Tabled.{Begun}
use Rattle.asm_first_half.specs.Starting.{calling, Started}
use Rattle.asm_first_half.proofs.Started.{calling-long}
use Rattle.asm_second_half.specs.Made.{after_pass2}
use Rattle.object_answer.specs.declared.Answer.{Answer}
use Rattle.object_answer.specs.Meant.{Leaves}
use Rattle.asm.specs.Call.{called, Assembled}

-- PASS TWO, WHERE THE LENT WORDS HOLD ALL
with-room : (room : ℕ) (rs qs s : List ℕ) (o : code.Pass1State) (g : Begun rs qs s o) → o.words ≤ room → assemble room s ≡ after_pass2 g.readable.stmts (seen rs qs s o)
unfolding assemble after_pass2
with-room room rs qs s o g l = rw (g.readable.clean, g.readable.read, g.first, le-leb o.words room l)

-- THE CALL
module _ (b : Buffers) (s rs qs : List ℕ) (small : Bool) (room : ℕ) (i : small ≡ short b) (j : room ≡ lent_words b.words b.marks) (z : Result code.Pass1State Refusal) (h : Started small room rs qs s z) where
  called_is : called b s ≡ calling small room s
  unfolding called of_bytes
  called_is = rw (i, j)

  module _ (o : code.Pass1State) (e : z ≡ Ok o) where
    pub call-begun : Begun rs qs s o
    call-begun = h.went o e

    pub call_fits : o.words ≤ lent_words b.words b.marks
    call_fits = rw (← j) (h.fits o e)

    pub call_long : short b ≡ false
    call_long = sym i ∙ h.long o e

    pub call-went : (r : Answer) (x : Buffers) → ((ss : List Stmt) → statements s ≡ ok ss → Leaves (after_pass2 ss (seen rs qs s o)) b r x) → Assembled b s r x
    call-went r x l =
        let g = call-begun in
        let q : called b s ≡ after_pass2 g.readable.stmts (seen rs qs s o) = called_is ∙ (calling-long small room s (h.long o e) ∙ with-room room rs qs s o g (h.fits o e)) in
        rw q (l g.readable.stmts g.readable.read)

  pub call-stopped : (f : Refusal) → z ≡ Err f → (r : Answer) (x : Buffers) → Leaves (refused_by f) b r x → Assembled b s r x
  call-stopped f e r x l =
      let q : called b s ≡ refused_by f = called_is ∙ h.stopped f e in
      rw q l

-- an array of so many zeros holds the table of symbols, and that of relocations
pub symbols-long : 6144 ≤ length (zeros 6144)
symbols-long = rw (length-replicate {A = ℕ} 6144 0) (omega arith)

pub relocations-long : 4096 ≤ length (zeros 4096)
relocations-long = rw (length-replicate {A = ℕ} 4096 0) (omega arith)
