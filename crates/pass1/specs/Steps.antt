-- Pass one at a statement, as the rules' `step_one` has it, and over a whole source. Assumes nothing.
use Rattle.base_refusals.specs.declared.Refusal.{Refusal}
use Rattle.std.specs.declared.result.Result.{Result}
use Rattle.std.specs.declared.result.Result.TheVariants.{Ok, Err}
use Rattle.std.specs.Prelude.{◌≡◌, Bool, true, false, not, ◌&&◌, List, ℕ, eqb, ltb}
use Rattle.rules.specs.Base.{Outcome, ok, ◌>>=◌}
use Rattle.rules.specs.Statements.{Stmt, statements}
use Rattle.rules.specs.Passes.{Pass1State, pass1_start, word_len, directed, advanced, pass_one}
use Rattle.parse.specs.declared.Statement.{Statement}
use Rattle.parse_rows.specs.declared.Op.{Op}
use Rattle.parse_rows.specs.declared.Op.TheVariants.{Instr, Orig, Fill, Blkw, Stringz, External}
use Rattle.parse_rows.specs.declared.Op.TheVariants as op
use Rattle.parse.specs.Coded.{AllRead}
use Rattle.parse_meaning.specs.Reading.{Faithful}
use Rattle.pass1_symbols.specs.Symbols.{symbols}
use Rattle.pass1_relocations.specs.Pending.{notes}
use Rattle.pass1_state.specs.declared.Pass1State as code
use Rattle.pass1_state.specs.State.{told}
use Rattle.pass1_fill.specs.Tables.{Held}

-- an instruction, or a.fill of a number: its label operand's field has no values
abbrev pub one_word : Op → ℕ → Bool
one_word Instr reach = true
one_word Fill reach = eqb reach 0
one_word Blkw reach = false
one_word Stringz reach = false
one_word Orig reach = false
one_word op.End reach = false
one_word External reach = false

-- of such a statement without labels, in a block with room for it, only the counter goes on
unfoldable pub only_counts : Statement → code.Pass1State → Bool
only_counts st o = one_word st.op st.reach && not st.labelled && o.inside && ltb o.counter 0xfe00

-- a statement after its labels: what it directs, then advance
unfoldable pub step_on : Stmt → Pass1State → Outcome Pass1State
step_on s o = directed s.op s o >>= λ b. advanced (word_len s.op s) s.place b

-- st stands for a statement of the rules
pub record Stands (src : List ℕ) (st : Statement) : Type 0 where
  pub at : ℕ
  pub stmt : Stmt
  pub faithful : Faithful src at st stmt

-- what pass one says of a source whose statements are read, and the tables that it leaves; where it goes to the end, all statements are read
pub record PassedOne (rs' qs' src : List ℕ) (r : Result code.Pass1State Refusal) : Type 0 where
  pub rule : (ss : List Stmt) → statements src ≡ ok ss → told (λ n. symbols n rs' src) (λ n. notes n qs' src) r ≡ pass_one ss pass1_start
  pub kept : (o : code.Pass1State) → r ≡ Ok o → Held rs' qs' src o
  pub read : (o : code.Pass1State) → r ≡ Ok o → AllRead src
