-- What the stages of assembling answer and leave. Assumes nothing.
use Rattle.std.specs.declared.result.Result.{Result}
use Rattle.std.specs.declared.result.Result.TheVariants.{Ok, Err}
use mathlib.Core.Path.{◌≡◌, sym, ap}
use mathlib.Core.List.{List}
use Prim.Native.Nat.{ℕ}
use Rattle.rules.specs.Base.{Outcome, ok}
use Rattle.rules.specs.Answers.{answer}
use Rattle.rules.specs.Answers as rule
use Rattle.rules.specs.Statements.{Stmt, statements}
use Rattle.rules.specs.Objects.{Object}
use Rattle.rules.specs.Buffers.{Buffers}
use Rattle.base_refusals.specs.declared.Refusal.{Refusal}
use Rattle.pass1_state.specs.declared.Pass1State as code
use Rattle.pass2_statement.specs.declared.Pass2State.{Pass2State}
use Rattle.pass1_fill.specs.Tables.{seen}
use Rattle.asm_second_half.specs.Made.{after_pass2, Making, Made}
use Rattle.object_answer.specs.declared.Answer.{Answer}
use Rattle.object_answer.specs.Meant.{refusing, Leaves}
use Rattle.object_answer.proofs.Leaving.{leaves-refused}
use Rattle.asm.specs.Call.{accepting}

-- PASS TWO
module _ (rs qs src : List ℕ) (o : code.Pass1State) (b : Buffers) (z : Result Pass2State Refusal) (x : Buffers) (h : Made rs qs src o b z x) where
  made-leaves : (t : Pass2State) (w : Outcome Object) → Making o t w b x → Leaves w b (accepting o t) x
  unfolding answer
  made-leaves t w m = rw m.is (record { answer = sym (ap rule.accepted m.counts); buffers = m.buffers })

  pub went-leaves : (t : Pass2State) → z ≡ Ok t → (r : Answer) → r ≡ accepting o t → (ss : List Stmt) → statements src ≡ ok ss → Leaves (after_pass2 ss (seen rs qs src o)) b r x
  went-leaves t e r a ss q = rw a (made-leaves t (after_pass2 ss (seen rs qs src o)) (h.went t e ss q))

  pub stopped-leaves : (f : Refusal) → z ≡ Err f → (r : Answer) → r ≡ refusing f.number f.start f.end f.start2 f.end2 → (ss : List Stmt) → statements src ≡ ok ss → Leaves (after_pass2 ss (seen rs qs src o)) b r x
  stopped-leaves f q r k ss s = rw (h.stopped f q ss s) (leaves-refused _ _ _ _ _ b x (h.cleared f q) r k)
