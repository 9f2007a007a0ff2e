-- Pass two and the object in its layout, of a source whose tables pass one has left. Assumes nothing.
use Rattle.std.specs.declared.result.Result.{Result}
use Rattle.std.specs.declared.result.Result.TheVariants.{Ok, Err}
use Rattle.std.specs.Prelude.{◌≡◌, List, map, ℕ, ◌≤◌, length}
use Rattle.rules.specs.Base.{Outcome, ok, ◌>>=◌}
use Rattle.rules.specs.Tables.{map_t}
use Rattle.rules.specs.Statements.{Stmt, statements}
use Rattle.rules.specs.Objects.{Object, object, nothing, Counts, counts_of}
use Rattle.rules.specs.Buffers.{Buffers, layout}
use Rattle.rules.specs.Passes.{Pass1State, pass1_start, pass_one, pass2_start, pass_two}
use Rattle.base_refusals.specs.Refusals.{refused_by}
use Rattle.base_refusals.specs.declared.Refusal.{Refusal}
use Rattle.pass1_state.specs.declared.Pass1State as code
use Rattle.pass2_statement.specs.declared.Pass2State.{Pass2State}
use Rattle.pass1_symbols.specs.Symbols.{Growing}
use Rattle.pass2.specs.Passing.{PassedTwo}
use Rattle.pass1_fill.specs.Tables.{seen}

-- the object that pass two makes, with the tables of pass one
unfoldable pub after_pass2 : List Stmt → Pass1State → Outcome Object
after_pass2 ss o = do
  t ← pass_two o.symbols ss pass2_start
  ok (object (map (λ b. (b.start, b.words)) t.blocks) (map_t (λ n s. s.lab) o.symbols) o.relocs)

-- a source that pass one accepts, and lent words that hold its own
pub record Roomy (rs s : List ℕ) (n : ℕ) (bs ws ms : List ℕ) : Type 0 where
  pub stmts : List Stmt
  pub read : statements s ≡ ok stmts
  pub final : Pass1State
  pub passed : pass_one stmts pass1_start ≡ ok final
  pub table : Growing rs s n
  pub size : length s ≤ 262144
  pub room : 128 ≤ length bs
  pub words : final.words ≤ length ws
  pub marks : final.words ≤ length ms

-- pass two, beside places of .orig that it keeps for itself
pub record Wrote (rs s : List ℕ) (n : ℕ) (bs ws ms : List ℕ) (r : Result Pass2State Refusal) : Type 0 where
  pub origs : List ℕ
  pub passed : PassedTwo rs s n bs origs ws ms r

-- how many of each an object has, by both passes
abbrev pub counts_by : code.Pass1State → Pass2State → Counts
counts_by o t = record { blocks = t.blocks; words = t.used; labels = o.labels; relocs = o.relocations }

-- an outcome is an object with these counts, which stands in its layout in buffers b' that were b
pub record Making (o : code.Pass1State) (t : Pass2State) (w : Outcome Object) (b b' : Buffers) : Type 0 where
  pub whole : Object
  pub is : w ≡ ok whole
  pub counts : counts_of whole ≡ counts_by o t
  pub buffers : b' ≡ layout whole b

-- what pass two answers of buffers b, and leaves in them
pub record Made (rs qs s : List ℕ) (o : code.Pass1State) (b : Buffers) (r : Result Pass2State Refusal) (b' : Buffers) : Type 0 where
  pub went : (t : Pass2State) → r ≡ Ok t → (ss : List Stmt) → statements s ≡ ok ss → Making o t (after_pass2 ss (seen rs qs s o)) b b'
  pub stopped : (f : Refusal) → r ≡ Err f → (ss : List Stmt) → statements s ≡ ok ss → after_pass2 ss (seen rs qs s o) ≡ refused_by f
  pub cleared : (f : Refusal) → r ≡ Err f → b' ≡ layout nothing b
