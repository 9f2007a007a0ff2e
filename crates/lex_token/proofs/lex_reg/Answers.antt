-- `lex_token::lex_reg` meets its contract. Assumes nothing.
use mathlib.Core.Path.{sym, ◌∙◌, ap}
use native.Mathlib.Omega.{arith}
use Rattle.rules.specs.Tokens.{reg}
use Rattle.lex_token.specs.Coded.{coded_as}
use Rattle.lex_token.specs.Flat.{flat_next}
use Rattle.lex_token.proofs.NumberTold.{good-told, none_told, wrong-told, over-told}
use Rattle.lex_token.proofs.lex_reg.Goals as goal

pub returns-in-Good : goal.returns-in-Good
unfolding reg coded_as
returns-in-Good c = c.flat.ensures ∙ ap flat_next (good-told c.args.src.now c.args.start 1 reg (omega arith) (sym c.in-Good.is ∙ c.read_number-reading.ensures))

pub returns-in-Empty : goal.returns-in-Empty
unfolding reg
returns-in-Empty c = c.flat-in-Empty.ensures ∙ ap flat_next (none_told c.args.src.now c.args.start 1 reg (omega arith) (sym c.in-Empty.is ∙ c.read_number-reading.ensures))

pub returns-in-Wrong : goal.returns-in-Wrong
unfolding reg
returns-in-Wrong c = c.flat-in-Wrong.ensures ∙ ap flat_next (wrong-told c.args.src.now c.args.start 1 reg (omega arith) (sym c.in-Wrong.is ∙ c.read_number-reading.ensures) c.run_end.ensures)

pub returns-in-Over : goal.returns-in-Over
unfolding reg
returns-in-Over c = c.flat-in-Over.ensures ∙ ap flat_next (over-told c.args.src.now c.args.start 1 reg (omega arith) (sym c.in-Over.is ∙ c.read_number-reading.ensures) c.run_end-in-Over.ensures)
