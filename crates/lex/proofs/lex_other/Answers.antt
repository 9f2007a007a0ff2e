-- `lex::lex_other` meets its contract. Assumes nothing.
use mathlib.Core.Path.{◌∙◌, ap}
use Rattle.lex_token.specs.Flat.{flat_next}
use Rattle.lex.proofs.First.{is-comma, is-line, is-colon, is-comment, is-quote, is-return, is-dot, is_none}
use Rattle.lex.proofs.lex_other.Goals as goal

pub returns-then-b-eq44 : goal.returns-then-b-eq44
returns-then-b-eq44 c = c.flat.ensures ∙ ap flat_next (is-comma c.args.src.now c.args.start c.if-b-eq44.true)

pub returns-then-b-eq10 : goal.returns-then-b-eq10
returns-then-b-eq10 c = c.flat-then-b-eq10.ensures ∙ ap flat_next (is-line c.args.src.now c.args.start c.if-b-eq10.true)

pub returns-then-b-eq59 : goal.returns-then-b-eq59
returns-then-b-eq59 c = c.lex_comment.ensures ∙ ap flat_next (is-comment c.args.src.now c.args.start c.if-b-eq59.true)

pub returns-then-b-eq46 : goal.returns-then-b-eq46
returns-then-b-eq46 c = c.flat-then-b-eq46.ensures ∙ ap flat_next (is-dot c.args.src.now c.args.start c.if-b-eq46.true c.run_end.ensures)

pub returns-then-b-eq34 : goal.returns-then-b-eq34
returns-then-b-eq34 c = c.lex_str_literal.ensures ∙ ap flat_next (is-quote c.args.src.now c.args.start c.if-b-eq34.true)

pub returns-then-b-eq13 : goal.returns-then-b-eq13
returns-then-b-eq13 c = c.lex_return.ensures ∙ ap flat_next (is-return c.args.src.now c.args.start c.if-b-eq13.true)

pub returns-then-b-eq58 : goal.returns-then-b-eq58
returns-then-b-eq58 c = c.flat-then-b-eq58.ensures ∙ ap flat_next (is-colon c.args.src.now c.args.start c.if-b-eq58.true)

pub returns : goal.returns
returns c = c.flat-2.ensures ∙ ap flat_next (is_none c.args.src.now c.args.start c.requires.1 c.if-b-eq44.false c.if-b-eq10.false c.if-b-eq59.false c.if-b-eq46.false c.if-b-eq34.false c.if-b-eq13.false c.if-b-eq58.false)
