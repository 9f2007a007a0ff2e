-- `pass2::pass_two` meets its contract. Assumes nothing.
use Rattle.std.proofs.Common.{rules, ◌≡◌, ◌∙◌, sym, Ok, Err}
use Rattle.parse.proofs.All.{rest-less}
use Rattle.pass2.proofs.Loop.{going_start, going-writes, going-room, going-low, going-known, going_on, going-refused, going_end, going-stop}
use Rattle.pass2_statement.proofs.Known.{is_known}
use Rattle.pass2.proofs.pass_two.Goals as goal

pub loop-st-init : goal.loop-st-init
loop-st-init c = going_start _ _ _ _ _ _ _ c.requires _ c.begin-t.ensures

pub put_known-t-requires : goal.put_known-t-requires
put_known-t-requires c =
    let k = is_known _ _ c.is_known.ensures c.if-is_known.true in
    record { room = going-room _ _ _ _ _ _ _ _ _ _ _ _ _ c.loop-st.invariant _ c.next_statement.ensures _ (c.in_ok-st.was ∙ (λ i. Ok (c.in-Some.is i))) k; bits_bound = going-low _ _ _ _ _ _ _ _ _ _ _ _ _ c.loop-st.invariant _ c.next_statement.ensures _ (c.in_ok-st.was ∙ (λ i. Ok (c.in-Some.is i))) k }

pub loop-st-smaller-then-is_known : goal.loop-st-smaller-then-is_known
loop-st-smaller-then-is_known c = rest-less _ _ _ c.next_statement.ensures _ (c.in_ok-st.was ∙ (λ i. Ok (c.in-Some.is i)))

pub loop-st-preserved-then-is_known : goal.loop-st-preserved-then-is_known
loop-st-preserved-then-is_known c = going-known _ _ _ _ _ _ _ _ _ _ _ _ _ c.loop-st.invariant _ c.next_statement.ensures _ (c.in_ok-st.was ∙ (λ i. Ok (c.in-Some.is i))) (is_known _ _ c.is_known.ensures c.if-is_known.true) _ _ _ c.put_known-t.ensures (search rules) (search rules)

pub write_statement-requires : goal.write_statement-requires
write_statement-requires c = going-writes _ _ _ _ _ _ _ _ _ _ _ _ _ c.loop-st.invariant _ c.next_statement.ensures _ (c.in_ok-st.was ∙ (λ i. Ok (c.in-Some.is i)))

pub loop-st-smaller : goal.loop-st-smaller
loop-st-smaller c = rest-less _ _ _ c.next_statement.ensures _ (c.in_ok-st.was ∙ (λ i. Ok (c.in-Some.is i)))

pub loop-st-preserved : goal.loop-st-preserved
loop-st-preserved c = going_on _ _ _ _ _ _ _ _ _ _ _ _ _ c.loop-st.invariant _ c.next_statement.ensures _ (c.in_ok-st.was ∙ (λ i. Ok (c.in-Some.is i))) _ _ _ _ _ c.write_statement.ensures _ c.in_ok-t.was (search rules) (search rules) (search rules) (search rules)

pub returns-in_err-t : goal.returns-in_err-t
returns-in_err-t c =
    let e : c.from_residual-in_err-t.result ≡ Err c.in_err-t.field-0.0 = search rules in
    let z : c.write_statement.result ≡ c.from_residual-in_err-t.result = c.in_err-t.was ∙ sym e in
    rw z at (going-refused _ _ _ _ _ _ _ _ _ _ _ _ _ c.loop-st.invariant _ c.next_statement.ensures _ (c.in_ok-st.was ∙ (λ i. Ok (c.in-Some.is i))) _ _ _ _ _ c.write_statement.ensures _ c.in_err-t.was)

pub returns : goal.returns
returns c = going_end _ _ _ _ _ _ _ _ _ _ _ _ _ c.loop-st.invariant _ c.next_statement.ensures (c.in_ok-st.was ∙ (λ i. Ok (c.in_default.is i)))

pub returns-in_err-st : goal.returns-in_err-st
returns-in_err-st c = going-stop _ _ _ _ _ _ _ _ _ _ _ _ _ c.loop-st.invariant _ c.next_statement.ensures _ c.in_err-st.was _
