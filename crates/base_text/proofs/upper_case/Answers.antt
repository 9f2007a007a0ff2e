-- `base_text::upper_case` meets its contract. Assumes nothing.
use native.Mathlib.Omega.{arith}
use Rattle.base_text.proofs.ByteLaws.{upper-low, upper-small, upper-high}
use Rattle.base_text.proofs.upper_case.Goals as goal

pub returns-then-b-lt97 : goal.returns-then-b-lt97
returns-then-b-lt97 c = upper-low _ (omega arith)

pub returns-then-b-le122 : goal.returns-then-b-le122
returns-then-b-le122 c = upper-small _ (omega arith) (omega arith)

pub returns : goal.returns
returns c = upper-high _ (omega arith)
