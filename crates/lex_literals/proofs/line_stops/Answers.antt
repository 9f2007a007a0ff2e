-- `lex_literals::line_stops` meets its contract. Assumes nothing.
use Rattle.lex_literals.proofs.StringSteps.{stops-lf, stops-cr, stops-not}
use Rattle.lex_literals.proofs.line_stops.Goals as goal

pub returns-then-b-eq10 : goal.returns-then-b-eq10
returns-then-b-eq10 c = stops-lf c.args.src.now c.args.i c.if-b-eq10.true

pub returns-then-b-eq13 : goal.returns-then-b-eq13
returns-then-b-eq13 c = stops-cr c.args.src.now c.args.i c.if-b-eq10.false c.if-b-eq13.true c.byte_at-next.ensures

pub returns : goal.returns
returns c = stops-not c.args.src.now c.args.i c.if-b-eq10.false c.if-b-eq13.false
