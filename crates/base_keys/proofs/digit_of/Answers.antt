-- `base_keys::digit_of` meets its contract. Assumes nothing.
use native.Mathlib.Omega.{arith}
use Rattle.base_keys.proofs.KeyLaws.{byte_low, byte-in, byte-between, byte_small, byte_high}
use Rattle.base_keys.proofs.digit_of.Goals as goal

pub returns-then-b-lt48 : goal.returns-then-b-lt48
returns-then-b-lt48 c = byte_low _ (omega arith)

pub returns-then-b-le95 : goal.returns-then-b-le95
returns-then-b-le95 c = byte-in _ (omega arith) (omega arith)

pub returns-then-b-lt97 : goal.returns-then-b-lt97
returns-then-b-lt97 c = byte-between _ (omega arith) (omega arith)

pub returns-then-b-le122 : goal.returns-then-b-le122
returns-then-b-le122 c = byte_small _ (omega arith) (omega arith)

pub returns : goal.returns
returns c = byte_high _ (omega arith)
