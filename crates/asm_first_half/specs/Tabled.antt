-- A source up to the end of pass one: the tables that it leaves, or the refusal of assembling. Assumes nothing.
use Rattle.std.specs.declared.result.Result.{Result}
use Rattle.std.specs.declared.result.Result.TheVariants.{Ok, Err}
use Rattle.base_refusals.specs.declared.Fault.{Fault}
use Rattle.base_refusals.specs.Refusals.{fault}
use Rattle.std.specs.Prelude.{◌≡◌, List, ℕ}
use Rattle.rules.specs.Base.{ok}
use Rattle.rules.specs.Tokens.{Token, lexed}
use Rattle.rules.specs.Statements.{Stmt, statements}
use Rattle.rules.specs.Passes.{pass1_start, pass_one, assemble}
use Rattle.base_refusals.specs.Refusals.{refusal_at, refused_by}
use Rattle.base_refusals.specs.declared.Refusal.{Refusal}
use Rattle.pass1_state.specs.declared.Pass1State.{Pass1State}
use Rattle.pass1_fill.specs.Tables.{seen, Held}

-- a source that the lexer and the reader of statements accept
pub record Readable (s : List ℕ) : Type 0 where
  pub tokens : List Token
  pub clean : lexed s ≡ ok tokens
  pub stmts : List Stmt
  pub read : statements s ≡ ok stmts

-- and that pass one accepts, with its tables
pub record Begun (rs qs s : List ℕ) (o : Pass1State) : Type 0 where
  pub readable : Readable s
  pub held : Held rs qs s o
  pub first : pass_one readable.stmts pass1_start ≡ ok (seen rs qs s o)

-- a refusal of the source goes before pass one's answer
unfoldable pub after_check : Result (Unit {0}) Fault → Result Pass1State Refusal → Result Pass1State Refusal
after_check (Ok u) x = x
after_check (Err f) x = Err (refusal_at f.number f.start f.end)

-- what is answered of a source, and the tables that are left: a refusal is that of assembling, however many words are lent
pub record Tabled (rs qs s : List ℕ) (r : Result Pass1State Refusal) : Type 0 where
  pub went : (o : Pass1State) → r ≡ Ok o → Begun rs qs s o
  pub stopped : (f : Refusal) → r ≡ Err f → (room : ℕ) → assemble room s ≡ refused_by f
