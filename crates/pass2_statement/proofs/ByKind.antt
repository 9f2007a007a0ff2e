-- What each kind of statement shows in pass two. Assumes nothing.
use Rattle.base_refusals.specs.declared.Refusal.{Refusal}
use Rattle.std.specs.declared.result.Result.{Result}
use Rattle.std.specs.declared.result.Result.TheVariants.{Ok, Err}
use mathlib.Core.Path.{◌≡◌, refl, sym, ◌∙◌, ap}
use mathlib.Core.Option.{some}
use mathlib.Core.List.{List, []}
use Prim.Native.Nat.{ℕ, ◌-◌}
use native.Mathlib.Omega.{arith}
use Rattle.rules.specs.Base.{Outcome, ok}
use Rattle.rules.specs.Tables.{Table}
use Rattle.rules.specs.Objects.{Name}
use Rattle.rules.specs.Words.{instr, orig, fill, blkw, stringz, end, external}
use Rattle.rules.specs.Words as words
use Rattle.rules.specs.Statements.{Stmt}
use Rattle.rules.specs.Passes.{Symbol, obj_block, pass2_state, emit, finish, written}
use Rattle.rules.specs.Passes as rule
use Rattle.rules.proofs.Bools.{never}
use Rattle.pass2_blocks.specs.Rows.{cells_at, view_obj_blocks}
use Rattle.parse_rows.specs.declared.Op.{Op}
use Rattle.parse_rows.specs.declared.Op.TheVariants.{Instr, Orig, Fill, Blkw, Stringz, External}
use Rattle.parse_rows.specs.declared.Op.TheVariants as op
use Rattle.parse.specs.declared.Statement.{Statement}
use Rattle.pass1_symbols.specs.Symbols.{symbols}
use Rattle.parse_meaning.specs.Reading.{meant_op, Faithful}
use Rattle.pass2_statement.specs.declared.Pass2State.{Pass2State}
use Rattle.pass2_statement.specs.State.{view_pass2, Stepping, opening, Emits, Writes}
use Rattle.pass2_statement.proofs.Emitting.{went}

-- THE RULE
module _ (ss : Table Name Symbol) (s : Stmt) (v : rule.Pass2State) where
  written-words : (written ss instr s v ≡ emit ss s v) × (written ss fill s v ≡ emit ss s v) × (written ss blkw s v ≡ emit ss s v) × (written ss stringz s v ≡ emit ss s v)
  unfolding written
  written-words = (refl, refl, refl, refl)

  written-orig : written ss orig s v ≡ ok (pass2_state (some (obj_block s.bits [] s.place)) v.blocks)
  unfolding written
  written-orig = refl

  written-end : written ss end s v ≡ finish v
  unfolding written
  written-end = refl

  written-external : written ss external s v ≡ ok v
  unfolding written
  written-external = refl

no_cells : (ws ms : List ℕ) (lo n : ℕ) → n ≡ 0 → [] ≡ cells_at ws ms lo n
unfolding cells_at
no_cells ws ms lo n e = rw e

module _ (rs src : List ℕ) (n : ℕ) (bs os ws ms : List ℕ) (st : Statement) (t : Pass2State) (v : Writes rs src n bs os ws ms st t) where
  pub writes-emits : Emits rs src n ws ms st t
  writes-emits = record {
    roomy = λ i. record { ready = v.ready; room = v.room i; clear = v.standing.clear; low = v.low i };
    within = v.standing.within;
    small = v.small;
  }

  module _ (at : ℕ) (s : Stmt) (f : Faithful src at st s) where
    abbrev ss : Table Name Symbol
    ss = symbols n rs src

    abbrev Rule : Outcome rule.Pass2State
    Rule = written ss s.op s (view_pass2 bs os ws ms t)

    rule-of : (o : Op) → st.op ≡ o → written ss (meant_op o) s (view_pass2 bs os ws ms t) ≡ Rule
    rule-of o e = ap (λ (x : words.Op). written ss x s (view_pass2 bs os ws ms t)) (sym (f.op ∙ ap meant_op e))

    -- words
    module _ (ws' ms' : List ℕ) (r : Result Pass2State Refusal) (h : Stepping bs os ws' ms' (emit ss s (view_pass2 bs os ws ms t)) r) where
      as-emitted : (o : Op) → st.op ≡ o → written ss (meant_op o) s (view_pass2 bs os ws ms t) ≡ emit ss s (view_pass2 bs os ws ms t) → Stepping bs os ws' ms' Rule r
      as-emitted o e q = let y : emit ss s (view_pass2 bs os ws ms t) ≡ Rule = sym q ∙ rule-of o e in rw y at h

      pub instr-written : st.op ≡ Instr → Stepping bs os ws' ms' Rule r
      instr-written e = as-emitted Instr e (written-words ss s _).0

      pub fill-written : st.op ≡ Fill → Stepping bs os ws' ms' Rule r
      fill-written e = as-emitted Fill e (written-words ss s _).1

      pub blkw-written : st.op ≡ Blkw → Stepping bs os ws' ms' Rule r
      blkw-written e = as-emitted Blkw e (written-words ss s _).2

      pub string-written : st.op ≡ Stringz → Stepping bs os ws' ms' Rule r
      string-written e = as-emitted Stringz e (written-words ss s _).3

    pub orig-written : st.op ≡ Orig → (t' : Pass2State) → t' ≡ opening t st.bits st.start st.end → Stepping bs os ws ms Rule (Ok t')
    orig-written e t' q =
        let k = v.standing in
        let i = v.fresh e in
        let c = no_cells ws ms t.base (t.used - t.base) (omega (arith, k.shut i)) in
        rw q (went bs os ws ms _ (opening t st.bits st.start st.end)
        (record { few = k.few; room = k.room; room_origs = k.room_origs; sum = k.sum; within = k.within; shut = λ d. (never cc); words = k.words; marks = k.marks; rows = k.rows; clear = k.clear; clear_blocks = k.clear_blocks; clear_origs = k.clear_origs })
        (sym (sym (rule-of Orig e) ∙ (written-orig ss s _ ∙ λ z. ok (pass2_state (some (obj_block (f.bits z) (c z) (f.place z))) (view_obj_blocks t.blocks bs os ws ms))))))

    pub end-written : st.op ≡ op.End → (bs' os' ws' ms' : List ℕ) (r : Result Pass2State Refusal) → Stepping bs' os' ws' ms' (finish (view_pass2 bs os ws ms t)) r → Stepping bs' os' ws' ms' Rule r
    end-written e bs' os' ws' ms' r h = let y : finish (view_pass2 bs os ws ms t) ≡ Rule = sym (written-end ss s _) ∙ rule-of op.End e in rw y at h

    pub external-written : st.op ≡ External → Stepping bs os ws ms Rule (Ok t)
    external-written e = went bs os ws ms _ t v.standing (sym (sym (rule-of External e) ∙ written-external ss s _))
