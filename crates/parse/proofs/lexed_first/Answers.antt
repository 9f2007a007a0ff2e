-- `parse::lexed_first` meets its contract. Assumes nothing.
use Rattle.std.proofs.Common.{rules, ◌≡◌, ◌∙◌, Err}
use Rattle.parse.proofs.All.{source-clean, source-fault}
use Rattle.parse.proofs.lexed_first.Goals as goal

pub returns : goal.returns
returns c = source-clean _ _ c.first_refusal.ensures _ c.in_ok-first_refusal.was c.requires

pub returns-in_err-first_refusal : goal.returns-in_err-first_refusal
returns-in_err-first_refusal c =
    let e : c.from_residual.result ≡ Err c.in_err-first_refusal.field-0.0 = search rules in
    e ∙ source-fault _ _ c.first_refusal.ensures _ c.in_err-first_refusal.was
