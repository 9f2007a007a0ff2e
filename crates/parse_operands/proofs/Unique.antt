-- Two answers that a contract allows are equal. Assumes nothing.
use Rattle.std.specs.declared.result.Result.{Result}
use Rattle.base_refusals.specs.declared.Fault.{Fault}
use Rattle.parse_field.specs.declared.Given.{Given}
use Prim.Native.Nat.{ℕ}
use mathlib.Core.Path.{◌≡◌, sym, ◌∙◌}
use mathlib.Core.List.{List}
use Rattle.parse_rows.specs.declared.Row.{Row}
use Rattle.parse_rows.specs.Rows.{fields_by}
use Rattle.parse_operands.specs.Lines.{line_step}

pub operands-from-one-answer : (s : List ℕ) (at : ℕ) (c : Row) (other : ℕ) (r q : Result Given Fault) → r ≡ line_step s (fields_by c.count c.first c.second c.third) other c.base at → q ≡ line_step s (fields_by c.count c.first c.second c.third) other c.base at → r ≡ q
operands-from-one-answer s at c other r q h k = h ∙ sym k
