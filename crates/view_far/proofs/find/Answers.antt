-- `view_far::find` meets its contract: what is found from here on is what is found in all. Assumes nothing.
use Rattle.parse.proofs.All.{rest-less}
use Rattle.view_far.proofs.Finding.{going_start, going-bits, going-found, going_on, going_end, going-stop}
use Rattle.std.proofs.Common.{rules, ◌≡◌, ◌∙◌, Ok, None}
use Rattle.view_far.proofs.find.Goals as goal

pub loop-st-init : goal.loop-st-init
loop-st-init c = going_start _ _

pub returns-then-is_sought : goal.returns-then-is_sought
returns-then-is_sought c = going-found _ _ _ _ c.loop-st.invariant _ c.next_statement.ensures _ (c.in-Ok-Some.is ∙ (λ i. Ok (c.in-Ok-Some.field-0-is i))) c.is_sought.ensures c.if-is_sought.true

pub address_after-address-requires : goal.address_after-address-requires
address_after-address-requires c = (search rules, going-bits _ _ _ _ c.loop-st.invariant _ c.next_statement.ensures _ (c.in-Ok-Some.is ∙ (λ i. Ok (c.in-Ok-Some.field-0-is i))), search rules)

pub loop-st-smaller : goal.loop-st-smaller
loop-st-smaller c = rest-less _ _ _ c.next_statement.ensures _ (c.in-Ok-Some.is ∙ (λ i. Ok (c.in-Ok-Some.field-0-is i)))

pub loop-st-preserved : goal.loop-st-preserved
loop-st-preserved c = going_on _ _ _ _ c.loop-st.invariant _ c.next_statement.ensures _ (c.in-Ok-Some.is ∙ (λ i. Ok (c.in-Ok-Some.field-0-is i))) c.is_sought.ensures c.if-is_sought.false _ c.address_after-address.ensures.0 c.address_after-address.ensures.1

pub returns-in_default : goal.returns-in_default
returns-in_default c =
    let e : c.in_default.field-0 ≡ None = cc in
    going_end _ _ _ _ c.loop-st.invariant _ c.next_statement.ensures (c.in_default.is ∙ (λ i. Ok (e i)))

pub returns-in_default-2 : goal.returns-in_default-2
returns-in_default-2 c = going-stop _ _ _ _ c.loop-st.invariant _ c.next_statement.ensures _ c.in_default.is
