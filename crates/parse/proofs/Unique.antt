-- Two answers that a contract allows are equal. Assumes nothing.
use Rattle.parse.specs.declared.Statement.{Statement}
use Rattle.std.specs.declared.result.Result.{Result}
use Rattle.std.specs.declared.option.Option as O
use Rattle.base_refusals.specs.declared.Fault.{Fault}
use Prim.Native.Nat.{ℕ}
use mathlib.Core.Path.{◌≡◌, sym, ◌∙◌}
use mathlib.Core.List.{List}
use Rattle.rules.specs.Statements.{next_statement, statements}
use Rattle.parse.specs.Coded.{coded_statement, coded_statements, source_statements}

pub next-statement-one-answer : (s : List ℕ) (at : ℕ) (r q : Result (O.Option Statement) Fault) → r ≡ coded_statement (next_statement s at) → q ≡ coded_statement (next_statement s at) → r ≡ q
next-statement-one-answer s at r q h k = h ∙ sym k

pub first-refusal-one-answer : (s : List ℕ) (r q : Result (Unit {0}) Fault) → r ≡ coded_statements (statements s) → q ≡ coded_statements (statements s) → r ≡ q
first-refusal-one-answer s r q h k = h ∙ sym k

pub check-source-one-answer : (s : List ℕ) (r q : Result (Unit {0}) Fault) → r ≡ coded_statements (source_statements s) → q ≡ coded_statements (source_statements s) → r ≡ q
check-source-one-answer s r q h k = h ∙ sym k
