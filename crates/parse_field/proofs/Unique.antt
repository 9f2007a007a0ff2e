-- Two answers that a contract allows are equal. Assumes nothing.
use Rattle.std.specs.declared.result.Result.{Result}
use Rattle.base_refusals.specs.declared.Fault.{Fault}
use Prim.Native.Nat.{ℕ}
use mathlib.Core.Path.{◌≡◌, sym, ◌∙◌}
use mathlib.Core.List.{List}
use Rattle.lex_token.specs.declared.Lexeme.{Lexeme}
use Rattle.parse_field.specs.declared.Field.{Field}
use Rattle.parse_field.specs.declared.Given.{Given}
use Rattle.parse_field.specs.Coded.{field_of, operand_step, misplaced_at, Adds}

pub operand-at-one-answer : (s : List ℕ) (at : ℕ) (g : Given) (f : Field) (other : ℕ) (r q : Result Given Fault) → Adds g r (operand_step s (field_of f) other g at) → Adds g q (operand_step s (field_of f) other g at) → r ≡ q
operand-at-one-answer s at g f other r q h k = h.is ∙ sym k.is

pub misplaced-one-answer : (t : Lexeme) (other : ℕ) (r q : Result Given Fault) → r ≡ misplaced_at t other → q ≡ misplaced_at t other → r ≡ q
misplaced-one-answer t other r q h k = h ∙ sym k
