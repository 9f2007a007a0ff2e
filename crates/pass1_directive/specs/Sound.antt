-- What makes it safe to use a statement: its number has two bytes, and its label operand, where it has one, stands in the source. Assumes nothing.
use Rattle.std.specs.Prelude.{◌≡◌, List, ℕ, ◌<◌}
use Rattle.parse.specs.declared.Statement.{Statement}
use Rattle.parse_labels.specs.Names.{Between}

pub record Sound (src : List ℕ) (st : Statement) : Type 0 where
  pub low : st.bits < 65536
  pub name : (st.reach ≡ 0 → ⊥) → Between src st.label_start st.label_end
