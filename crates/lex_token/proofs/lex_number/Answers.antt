-- `lex_token::lex_number` meets its contract. Assumes nothing.
use mathlib.Core.Path.{sym, ◌∙◌, ap}
use Rattle.lex_token.specs.Coded.{form_of}
use Rattle.lex_token.specs.Flat.{flat_next}
use Rattle.lex_token.proofs.NumberTold.{good-told, none_told, wrong-told, over-told}
use Rattle.lex_token.proofs.lex_number.Goals as goal

pub returns-in-Good : goal.returns-in-Good
unfolding form_of
returns-in-Good c = c.number_took.ensures ∙ ap flat_next (good-told c.args.src.now c.args.start c.args.prefix (form_of c.args.form) c.requires.1 (sym c.in-Good.is ∙ c.read_number-reading.ensures))

pub returns-in-Empty : goal.returns-in-Empty
unfolding form_of
returns-in-Empty c = c.flat.ensures ∙ ap flat_next (none_told c.args.src.now c.args.start c.args.prefix (form_of c.args.form) c.requires.1 (sym c.in-Empty.is ∙ c.read_number-reading.ensures))

pub returns-in-Wrong : goal.returns-in-Wrong
unfolding form_of
returns-in-Wrong c = c.flat-in-Wrong.ensures ∙ ap flat_next (wrong-told c.args.src.now c.args.start c.args.prefix (form_of c.args.form) c.requires.1 (sym c.in-Wrong.is ∙ c.read_number-reading.ensures) c.run_end.ensures)

pub returns-in-Over : goal.returns-in-Over
unfolding form_of
returns-in-Over c = c.flat-in-Over.ensures ∙ ap flat_next (over-told c.args.src.now c.args.start c.args.prefix (form_of c.args.form) c.requires.1 (sym c.in-Over.is ∙ c.read_number-reading.ensures) c.run_end-in-Over.ensures)
