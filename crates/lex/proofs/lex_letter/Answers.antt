-- `lex::lex_letter` meets its contract. Assumes nothing.
use mathlib.Core.Path.{◌∙◌, ap}
use Rattle.lex_token.specs.Flat.{flat_next}
use Rattle.lex.proofs.First.{told-r, told-x, told-word}
use Rattle.lex.proofs.lex_letter.Goals as goal

pub returns-then-b-eq82 : goal.returns-then-b-eq82
returns-then-b-eq82 c = c.lex_r.ensures ∙ ap flat_next (told-r c.args.src.now c.args.start c.requires.0 c.requires.1 c.upper_case-b.ensures c.if-b-eq82.true)

pub returns-then-b-eq88 : goal.returns-then-b-eq88
returns-then-b-eq88 c = c.lex_x.ensures ∙ ap flat_next (told-x c.args.src.now c.args.start c.requires.0 c.requires.1 c.upper_case-b.ensures c.if-b-eq88.true)

pub returns : goal.returns
returns c = c.lex_word.ensures ∙ ap flat_next (told-word c.args.src.now c.args.start c.requires.0 c.requires.1 c.upper_case-b.ensures c.if-b-eq82.false c.if-b-eq88.false)
