-- `base_text::digit_value` meets its contract. Assumes nothing.
use native.Mathlib.Omega.{arith}
use Rattle.rules.proofs.Bytes.{value_low, value-digit, value_mid, value-upper, value-between, value-lower, value-high}
use Rattle.base_text.proofs.digit_value.Goals as goal

pub returns-then-b-lt48 : goal.returns-then-b-lt48
returns-then-b-lt48 c = value_low _ (omega arith)

pub returns-then-b-le57 : goal.returns-then-b-le57
returns-then-b-le57 c = value-digit _ (omega arith) (omega arith)

pub returns-then-b-lt65 : goal.returns-then-b-lt65
returns-then-b-lt65 c = value_mid _ (omega arith) (omega arith)

pub returns-then-b-le70 : goal.returns-then-b-le70
returns-then-b-le70 c = value-upper _ (omega arith) (omega arith)

pub returns-then-b-lt97 : goal.returns-then-b-lt97
returns-then-b-lt97 c = value-between _ (omega arith) (omega arith)

pub returns-then-b-le102 : goal.returns-then-b-le102
returns-then-b-le102 c = value-lower _ (omega arith) (omega arith)

pub returns : goal.returns
returns c = value-high _ (omega arith) (omega arith)
