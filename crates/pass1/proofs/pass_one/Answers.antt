-- `pass1::pass_one` meets its contract. Assumes nothing.
use Rattle.std.proofs.Common.{rules, ◌≡◌, ◌∙◌, sym, Ok, Err}
use Rattle.base_refusals.specs.Refusals.{refusal_at}
use Rattle.parse.proofs.All.{rest-less}
use Rattle.pass1.proofs.Loop.{going_start, going-stands, going-heads, going-counts, going_on, going-refused, going_end, going-stop}
use Rattle.pass1.proofs.Steps.{counts}
use Rattle.pass1.proofs.pass_one.Goals as goal

pub loop-st-init : goal.loop-st-init
loop-st-init c = going_start _ _ _ c.requires.0 c.requires.1 c.requires.2 _ c.fresh-o.ensures

pub loop-st-smaller-then-only_counts : goal.loop-st-smaller-then-only_counts
loop-st-smaller-then-only_counts c = rest-less _ _ _ c.next_statement.ensures _ (c.in_ok-st.was ∙ (λ i. Ok (c.in-Some.is i)))

pub loop-st-preserved-then-only_counts : goal.loop-st-preserved-then-only_counts
loop-st-preserved-then-only_counts c = going-counts _ _ _ _ _ _ _ c.loop-st.invariant _ c.next_statement.ensures _ (c.in_ok-st.was ∙ (λ i. Ok (c.in-Some.is i))) (counts _ _ c.only_counts.ensures c.if-only_counts.true) _ c.counted-o.ensures

pub step-requires : goal.step-requires
step-requires c = (search rules, going-stands _ _ _ _ _ _ _ c.loop-st.invariant _ c.next_statement.ensures _ (c.in_ok-st.was ∙ (λ i. Ok (c.in-Some.is i))), going-heads _ _ _ _ _ _ _ c.loop-st.invariant _ c.next_statement.ensures _ (c.in_ok-st.was ∙ (λ i. Ok (c.in-Some.is i))))

pub loop-st-smaller : goal.loop-st-smaller
loop-st-smaller c = rest-less _ _ _ c.next_statement.ensures _ (c.in_ok-st.was ∙ (λ i. Ok (c.in-Some.is i)))

pub loop-st-preserved : goal.loop-st-preserved
loop-st-preserved c = going_on _ _ _ _ _ _ _ c.loop-st.invariant _ c.next_statement.ensures _ (c.in_ok-st.was ∙ (λ i. Ok (c.in-Some.is i))) _ _ _ c.step.ensures _ c.in_ok-o.was (search rules) (search rules)

pub returns-in_err-o : goal.returns-in_err-o
returns-in_err-o c =
    let e : c.from_residual-in_err-o.result ≡ Err c.in_err-o.field-0.0 = search rules in
    let z : c.step.result ≡ c.from_residual-in_err-o.result = c.in_err-o.was ∙ sym e in
    rw z at (going-refused _ _ _ _ _ _ _ c.loop-st.invariant _ c.next_statement.ensures _ (c.in_ok-st.was ∙ (λ i. Ok (c.in-Some.is i))) _ _ _ c.step.ensures _ c.in_err-o.was)

pub returns : goal.returns
returns c = going_end _ _ _ _ _ _ _ c.loop-st.invariant _ c.next_statement.ensures (c.in_ok-st.was ∙ (λ i. Ok (c.in_default.is i))) _ c.finish.ensures

pub returns-in_err-st : goal.returns-in_err-st
returns-in_err-st c = going-stop _ _ _ _ _ _ _ c.loop-st.invariant _ c.next_statement.ensures _ c.in_err-st.was _ (search rules)
