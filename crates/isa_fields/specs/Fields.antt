-- What the answers about a field mean, and a number's reading as signed. Assumes nothing.
use Rattle.std.specs.Prelude.{ℕ, ◌-◌, cond, ℤ, pos, negsuc, int_lt, nat_lt}
use Rattle.std.proofs.Math.Option.{Option, none, some}
use Rattle.rules.specs.Base.{Outcome, ok, refuse, nowhere}
use Rattle.std.specs.declared.option.Option as O
use Rattle.std.specs.declared.option.Option.TheVariants.{Some, None}
use Rattle.std.specs.declared.result.Result.{Result}
use Rattle.isa_fields.specs.declared.OffsetNewErr.{OffsetNewErr}
use Rattle.std.specs.declared.result.Result.TheVariants.{Ok, Err}
use Rattle.isa_fields.specs.declared.OffsetNewErr.TheVariants.{CannotFitSigned}

-- a word or a field's bits, or none
abbrev pub encoded : Option ℕ → O.Option ℕ
encoded none = None
encoded (some b) = Some b

-- and back, and how large they are
abbrev pub inside : O.Option ℕ → Option ℕ
inside (Some b) = some b
inside None = none

abbrev pub size : O.Option ℕ → ℕ
size (Some b) = b
size None = 0

-- a label's offset; 29 where it lies outside the field
abbrev pub meant_offset : Result ℕ OffsetNewErr → Outcome ℕ
meant_offset (Ok d) = ok d
meant_offset (Err CannotFitSigned) = refuse 29 nowhere

-- sixteen bits read as a signed number
unfoldable pub signed16 : ℕ → ℤ
signed16 d = cond (nat_lt d 32768) (pos d) (negsuc (65535 - d))

-- an offset that lies from least to most
unfoldable pub tested : ℤ → ℤ → ℕ → Result ℕ OffsetNewErr
tested least most d = cond (int_lt (signed16 d) least) (Err CannotFitSigned) (cond (int_lt most (signed16 d)) (Err CannotFitSigned) (Ok d))
