-- `lex_reserved::row_is` meets its contract. Assumes nothing.
use Rattle.std.proofs.Common.{◌∙◌, arith, rules}
use Rattle.base_text.proofs.Rest.{from_start}
use Rattle.lex_reserved.proofs.Rows.{name-short, row-again, row-differs, row_done, row-unlike}
use Rattle.lex_reserved.proofs.row_is.Goals as goal

pub returns-then-n-s : goal.returns-then-n-s
returns-then-n-s c = row-unlike c.args.i c.args.s.now c.requires.1 (c.from-n.ensures ∙ c.cell.ensures) c.if-n-s.true

pub loop-j-init : goal.loop-j-init
loop-j-init c = (simp from_start, omega (arith, name-short c.args.i c.requires.1, c.cell.ensures))

pub loop-j-preserved : goal.loop-j-preserved
loop-j-preserved c = (row-again c.args.i c.args.s.now c.requires.1 (c.from-n.ensures ∙ c.cell.ensures) c.if-n-s.false c.loop-j-test.true c.upper_case.ensures c.cell-in-loop-j.ensures c.loop-j.invariant.0 c.if-upper_case-cell.false, search rules)

pub returns-then-upper_case-cell : goal.returns-then-upper_case-cell
returns-then-upper_case-cell c = row-differs c.args.i c.args.s.now c.requires.1 (c.from-n.ensures ∙ c.cell.ensures) c.if-n-s.false c.loop-j-test.true c.upper_case.ensures c.cell-in-loop-j.ensures c.loop-j.invariant.0 c.if-upper_case-cell.true

pub returns : goal.returns
returns c = row_done c.args.i c.args.s.now c.requires.1 (c.from-n.ensures ∙ c.cell.ensures) c.if-n-s.false c.loop-j-test.false c.loop-j.invariant.0
