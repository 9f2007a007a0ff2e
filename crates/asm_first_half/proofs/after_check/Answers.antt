-- `asm_first_half::after_check` meets its contract. Assumes nothing.
use Rattle.std.proofs.Common.{rules, refl}
use Rattle.asm_first_half.proofs.Checked.{after-accepted, after-refused}
use Rattle.asm_first_half.proofs.after_check.Goals as goal

pub returns : goal.returns
returns c = after-accepted _ _ _ c.in_ok-check.was refl

pub returns-in_err-check : goal.returns-in_err-check
returns-in_err-check c = after-refused _ _ _ _ c.in_err-check.was (search rules)
