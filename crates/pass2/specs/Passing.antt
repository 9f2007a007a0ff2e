-- Pass two over a whole source that pass one accepted. Assumes nothing.
use Rattle.base_refusals.specs.declared.Refusal.{Refusal}
use Rattle.std.specs.declared.result.Result.{Result}
use Rattle.std.specs.declared.result.Result.TheVariants.{Ok, Err}
use Rattle.std.specs.Prelude.{◌≡◌, false, List, ℕ, ◌≤◌, length}
use Rattle.rules.specs.Base.{ok}
use Rattle.rules.specs.Statements.{Stmt, statements}
use Rattle.rules.specs.Passes.{Pass1State, pass1_start, pass2_start, pass_one, pass_two}
use Rattle.rules.specs.Buffers.{zeros}
use Rattle.pass1_symbols.specs.Symbols.{symbols, Growing}
use Rattle.pass2_statement.specs.declared.Pass2State.{Pass2State}
use Rattle.pass2_statement.specs.State.{told, Standing}

-- pass two before the first statement
abbrev pub fresh : Pass2State
fresh = record { inside = false; start = 0; orig_start = 0; orig_end = 0; blocks = 0; base = 0; used = 0 }

-- a source whose statements pass one accepts, its symbols, and blank buffers with room for its words
pub record Passing (rs src : List ℕ) (n : ℕ) (bs os ws ms : List ℕ) : Type 0 where
  pub stmts : List Stmt
  pub read : statements src ≡ ok stmts
  pub final : Pass1State
  pub passed : pass_one stmts pass1_start ≡ ok final
  pub table : Growing rs src n
  pub size : length src ≤ 262144
  pub room : 128 ≤ length bs
  pub room_origs : 128 ≤ length os
  pub words : final.words ≤ length ws
  pub marks : final.words ≤ length ms
  pub blank : bs ≡ zeros (length bs)
  pub blank_origs : os ≡ zeros (length os)
  pub blank_words : ws ≡ zeros (length ws)
  pub blank_marks : ms ≡ zeros (length ms)

-- what pass two says of a source, and the buffers that it leaves: every block is closed
pub record PassedTwo (rs src : List ℕ) (n : ℕ) (bs' os' ws' ms' : List ℕ) (r : Result Pass2State Refusal) : Type 0 where
  pub rule : (ss : List Stmt) → statements src ≡ ok ss → told bs' os' ws' ms' r ≡ pass_two (symbols n rs src) ss pass2_start
  pub kept : (t : Pass2State) → r ≡ Ok t → Standing bs' os' ws' ms' t
  pub shut : (t : Pass2State) → r ≡ Ok t → t.inside ≡ false
