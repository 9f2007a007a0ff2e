-- The rules' state of pass two that the code's state and buffers stand for. Assumes nothing.
use Rattle.base_refusals.specs.declared.Refusal.{Refusal}
use Rattle.std.specs.declared.result.Result.{Result}
use Rattle.std.specs.declared.result.Result.TheVariants.{Ok, Err}
use Rattle.base_refusals.specs.declared.Fault.{Fault}
use Rattle.base_refusals.specs.Refusals.{fault}
use Rattle.std.specs.Prelude.{◌≡◌, Bool, true, false, ◌&&◌, List, ℕ, ◌+◌, ◌-◌, ◌*◌, ◌≤◌, ◌<◌, length, get_or, eqb}
use Rattle.std.proofs.Math.Option.{Option, none, some}
use Rattle.rules.specs.Base.{Outcome, ok, span}
use Rattle.rules.specs.Passes.{ObjBlock, obj_block, pass2_state}
use Rattle.rules.specs.Passes as rule
use Rattle.rules.specs.Buffers.{head_row, sum_of, WordRow}
use Rattle.base_refusals.specs.Refusals.{refusal, refusal_at, refused_by}
use Rattle.pass2_blocks.specs.Rows.{cells_at, view_obj_blocks}
use Rattle.parse_rows.specs.declared.Op.{Op}
use Rattle.parse_rows.specs.declared.Op.TheVariants.{Instr, Orig, Fill, Blkw, Stringz, External}
use Rattle.parse_rows.specs.declared.Op.TheVariants as op
use Rattle.parse.specs.declared.Statement.{Statement}
use Rattle.pass2_encode.specs.Worded.{Ready}
use Rattle.pass2_words.specs.Writing.{Clear, Room, size_at, Roomy}
use Rattle.pass2_statement.specs.declared.Pass2State.{Pass2State}

abbrev pub open_of : Bool → ObjBlock → Option ObjBlock
open_of true x = some x
open_of false x = none

-- the open block: its words stand behind those of the closed ones
abbrev pub opened : (ws ms : List ℕ) → Pass2State → ObjBlock
opened ws ms t = obj_block t.start (cells_at ws ms t.base (t.used - t.base)) (span t.orig_start t.orig_end)

abbrev pub view_pass2 : (bs os ws ms : List ℕ) → Pass2State → rule.Pass2State
view_pass2 bs os ws ms t = pass2_state (open_of t.inside (opened ws ms t)) (view_obj_blocks t.blocks bs os ws ms)

-- what a step's answer stands for
abbrev pub told : (bs os ws ms : List ℕ) → Result Pass2State Refusal → Outcome rule.Pass2State
told bs os ws ms (Ok t) = ok (view_pass2 bs os ws ms t)
told bs os ws ms (Err f) = refused_by f

-- what always holds: the closed blocks' words come first, each word stands beside its mark, and what is not in use is zero
pub record Standing (bs os ws ms : List ℕ) (t : Pass2State) : Type 0 where
  pub few : t.blocks ≤ 64
  pub room : 128 ≤ length bs
  pub room_origs : 128 ≤ length os
  pub sum : sum_of (head_row bs) t.blocks ≡ t.base
  pub within : t.base ≤ t.used
  pub shut : t.inside ≡ false → t.used ≡ t.base
  pub words : t.used ≤ length ws
  pub marks : t.used ≤ length ms
  pub rows : (i : ℕ) → i < t.used → WordRow ws ms i
  pub clear : Clear ws ms t.used
  pub clear_blocks : (i : ℕ) → t.blocks * 2 ≤ i → get_or bs i 0 ≡ 0
  pub clear_origs : (i : ℕ) → t.blocks * 2 ≤ i → get_or os i 0 ≡ 0

-- a step by a rule, and the buffers after it
pub record Stepping (bs' os' ws' ms' : List ℕ) (o : Outcome rule.Pass2State) (r : Result Pass2State Refusal) : Type 0 where
  pub rule : told bs' os' ws' ms' r ≡ o
  pub kept : (t' : Pass2State) → r ≡ Ok t' → Standing bs' os' ws' ms' t'

-- the states that the steps make
abbrev pub with_used : Pass2State → ℕ → Pass2State
with_used t u = record { inside = t.inside; start = t.start; orig_start = t.orig_start; orig_end = t.orig_end; blocks = t.blocks; base = t.base; used = u }

-- an instruction or a.fill: a word each
abbrev pub one_word : Op → Bool
one_word Instr = true
one_word Fill = true
one_word Blkw = false
one_word Stringz = false
one_word Orig = false
one_word op.End = false
one_word External = false

-- without a label operand and in an open block its word is known
unfoldable pub known : Statement → Pass2State → Bool
known st t = one_word st.op && eqb st.reach 0 && t.inside

abbrev pub opening : Pass2State → (start a e : ℕ) → Pass2State
opening t s a e = record { inside = true; start = s; orig_start = a; orig_end = e; blocks = t.blocks; base = t.base; used = t.used }

abbrev pub closing : Pass2State → ℕ → Pass2State
closing t b = record { inside = false; start = t.start; orig_start = t.orig_start; orig_end = t.orig_end; blocks = b; base = t.used; used = t.used }

abbrev pub step_of : Pass2State → Result ℕ Fault → Result Pass2State Refusal
step_of t (Ok u) = Ok (with_used t u)
step_of t (Err f) = Err (refusal_at f.number f.start f.end)

abbrev pub close_of : Pass2State → Result (Unit {0}) Refusal → Result Pass2State Refusal
close_of t (Ok u) = Ok (closing t (t.blocks + 1))
close_of t (Err f) = Err f

-- room for a statement's words
pub record Emits (rs src : List ℕ) (n : ℕ) (ws ms : List ℕ) (st : Statement) (t : Pass2State) : Type 0 where
  pub roomy : t.inside ≡ true → Roomy rs src n ws ms st t.used (t.start + (t.used - t.base))
  pub within : t.base ≤ t.used
  pub small : t.used - t.base < 65536

-- an .orig where no block is open
pub record Begins (st : Statement) (t : Pass2State) : Type 0 where
  pub fresh : t.inside ≡ false
  pub bits : st.bits < 65536
  pub start : st.start ≤ 262144
  pub end : st.end ≤ 262144

-- a block that ends, and a row for it where it has words
pub record Ends (bs os ws ms : List ℕ) (t : Pass2State) : Type 0 where
  pub standing : Standing bs os ws ms t
  pub small : t.used - t.base < 65536
  pub few : t.inside ≡ true → t.base < t.used → t.blocks < 64

-- a statement of any kind
pub record Writes (rs src : List ℕ) (n : ℕ) (bs os ws ms : List ℕ) (st : Statement) (t : Pass2State) : Type 0 where
  pub standing : Standing bs os ws ms t
  pub ready : Ready rs src n st
  pub rising : st.start ≤ st.end
  pub within : st.end ≤ length src
  pub room : t.inside ≡ true → Room ws ms t.used (size_at src st)
  pub small : t.used - t.base < 65536
  pub low : t.inside ≡ true → 0 < size_at src st → t.start + (t.used - t.base) + size_at src st ≤ 0xfe00
  pub fresh : st.op ≡ Orig → t.inside ≡ false
  pub few : st.op ≡ op.End → t.inside ≡ true → t.base < t.used → t.blocks < 64
