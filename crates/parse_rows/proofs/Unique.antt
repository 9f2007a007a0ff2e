-- Two answers that a contract allows are equal. Assumes nothing.
use Prim.Native.Nat.{ℕ}
use mathlib.Core.Path.{◌≡◌, sym, ◌∙◌}
use mathlib.Core.List.{List, map}
use Rattle.rules.specs.Tokens.{upper}
use Rattle.rules.specs.Words.{directives}
use Rattle.parse_rows.specs.declared.Row.{Row}
use Rattle.parse_rows.specs.Rows.{row_at, code_from}

pub row-at-one-answer : (i : ℕ) (r q : Row) → r ≡ row_at i → q ≡ row_at i → r ≡ q
row-at-one-answer i r q h k = h ∙ sym k

pub directive-code-one-answer : (name : List ℕ) (r q : ℕ) → r ≡ code_from 32 (map upper name) directives → q ≡ code_from 32 (map upper name) directives → r ≡ q
directive-code-one-answer name r q h k = h ∙ sym k
