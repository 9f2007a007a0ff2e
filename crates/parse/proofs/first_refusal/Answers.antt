-- `parse::first_refusal` meets its contract. Assumes nothing.
use Rattle.std.proofs.Common.{rules, ◌≡◌, ◌∙◌, Ok, Err}
use Rattle.parse.proofs.All.{rest-start, rest-less, rest-next, rest-none, rest-refused}
use Rattle.parse.proofs.first_refusal.Goals as goal

pub loop-statement-init : goal.loop-statement-init
loop-statement-init c = search (rules, rest-start)

pub loop-statement-smaller : goal.loop-statement-smaller
loop-statement-smaller c = rest-less _ _ _ c.next_statement.ensures _ (c.in_ok-statement.was ∙ (λ i. Ok (c.in-Some.is i)))

pub loop-statement-preserved : goal.loop-statement-preserved
loop-statement-preserved c = rest-next _ _ _ c.next_statement.ensures _ c.loop-statement.invariant (c.in_ok-statement.was ∙ (λ i. Ok (c.in-Some.is i)))

pub returns : goal.returns
returns c = rest-none _ _ _ c.next_statement.ensures c.loop-statement.invariant (c.in_ok-statement.was ∙ (λ i. Ok (c.in_default.is i)))

pub returns-in_err-statement : goal.returns-in_err-statement
returns-in_err-statement c =
    let e : c.from_residual.result ≡ Err c.in_err-statement.field-0.0 = search rules in
    e ∙ rest-refused _ _ _ c.next_statement.ensures _ c.loop-statement.invariant c.in_err-statement.was
