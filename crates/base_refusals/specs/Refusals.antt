-- A refusal as the code has it, and in the rules' words. Assumes nothing.
use Rattle.std.specs.Prelude.{ℕ}
use Rattle.rules.specs.Base.{Outcome, refuse2, span}
use Rattle.base_refusals.specs.declared.Fault.{Fault}
use Rattle.base_refusals.specs.declared.Refusal.{Refusal}

abbrev pub fault : (number start end : ℕ) → Fault
fault n a e = record { number = n; start = a; end = e }

abbrev pub refusal : (number start end start2 end2 : ℕ) → Refusal
refusal n a e b f = record { number = n; start = a; end = e; start2 = b; end2 = f }

-- at one place
abbrev pub refusal_at : (number start end : ℕ) → Refusal
refusal_at n a e = refusal n a e 0 0

-- the outcome that it stands for
abbrev pub refused_by : {A : Type 0} → Refusal → Outcome A
refused_by f = refuse2 f.number (span f.start f.end) (span f.start2 f.end2)
