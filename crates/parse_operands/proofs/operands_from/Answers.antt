-- `parse_operands::operands_from` meets its contract. Assumes nothing.
use Rattle.std.proofs.Common.{rules, ◌≡◌, ◌∙◌, sym, Err}
use Rattle.parse_operands.proofs.Following.{mid_start, row-end, row_room, row-refused, row_on}
use Rattle.parse_operands.proofs.operands_from.Goals as goal

pub loop-k-init : goal.loop-k-init
loop-k-init c = search (rules, mid_start)

pub next_operand-requires : goal.next_operand-requires
next_operand-requires c = row_room _ _ _ _ c.args.row.count c.args.row.first c.args.row.second c.args.row.third _ _ _ c.loop-k.invariant c.operand_count-count.ensures.0 c.operand_count-count.ensures.1 c.loop-k-test.true

pub loop-k-preserved : goal.loop-k-preserved
loop-k-preserved c = row_on _ _ _ _ c.args.row.count c.args.row.first c.args.row.second c.args.row.third _ _ _ c.loop-k.invariant c.operand_count-count.ensures.0 c.operand_count-count.ensures.1 c.loop-k-test.true _ c.field_at.ensures _ _ c.next_operand.ensures c.in_ok-g.was

pub returns-in_err-g : goal.returns-in_err-g
returns-in_err-g c =
    let e : c.from_residual.result ≡ Err c.in_err-g.field-0.0 = search rules in
    e ∙ (sym c.in_err-g.was ∙ row-refused _ _ _ _ c.args.row.count c.args.row.first c.args.row.second c.args.row.third _ _ _ c.loop-k.invariant c.operand_count-count.ensures.0 c.operand_count-count.ensures.1 c.loop-k-test.true _ c.field_at.ensures _ _ c.next_operand.ensures c.in_err-g.was)

pub returns : goal.returns
returns c = row-end _ _ _ _ c.args.row.count c.args.row.first c.args.row.second c.args.row.third _ _ _ c.loop-k.invariant c.operand_count-count.ensures.0 c.loop-k-test.false
