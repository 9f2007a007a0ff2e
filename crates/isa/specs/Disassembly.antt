-- What the answers of disassembly mean, in the terms of `rules`. Assumes nothing.
use Rattle.std.specs.declared.option.Option.TheVariants.{Some, None}
use Rattle.std.specs.declared.option.Option as O
use Rattle.std.specs.Prelude.{ℕ, ◌+◌, ◌-◌, ◌/◌, ◌%◌, eqb, ltb}
use Rattle.std.proofs.Math.Option.{Option, none, some}
use Rattle.rules.specs.Base.{when◌then◌else◌}
use Rattle.rules.specs.Words.{Instr, low}
use Rattle.rules.specs.Words as R
use Rattle.isa.specs.Instructions.{meant}
use Rattle.isa.specs.declared.AsmInstr.{AsmInstr}
use Rattle.isa.specs.declared.ImmOrReg.{ImmOrReg}
use Rattle.isa.specs.declared.ImmOrReg.TheVariants.{Imm, Reg}
use Rattle.isa.specs.declared.disassembly.Line as L
use Rattle.isa.specs.declared.disassembly.Line.TheVariants as LV

-- an instruction, or none
abbrev pub meant_if : O.Option AsmInstr → Option Instr
meant_if (Some i) = some (meant i)
meant_if None = none

-- an instruction, or a fill
abbrev pub meant_line : L.Line → R.Line
meant_line (LV.Instr i) = R.instruction (meant i)
meant_line (LV.Fill w) = R.filled w

-- the bits of a signed field, by the half of its numbers
abbrev pub extended : ℕ → ℕ → ℕ
extended half b = when ltb b half then b else b + (65536 - (half + half))

-- bits 0 to 5 of ADD and AND
abbrev pub last_of : ℕ → O.Option ImmOrReg
last_of w =
    when eqb (w / 32 % 2) 1 then Some (Imm (low 5 w))
    else when eqb (w / 8 % 4) 0 then Some (Reg (w % 8))
    else None
