-- `lex::lex_str_literal` meets its contract. Assumes nothing.
use mathlib.Core.Path.{sym, ◌∙◌, ap}
use Rattle.lex_token.specs.Flat.{flat_next}
use Rattle.lex.proofs.Told.{quote-took, quote-big, quote-open}
use Rattle.lex.proofs.lex_str_literal.Goals as goal

pub returns-then-count-le-STRING_CHARS : goal.returns-then-count-le-STRING_CHARS
returns-then-count-le-STRING_CHARS c = c.flat.ensures ∙ ap flat_next (quote-took c.args.src.now c.args.start c.requires (sym c.in-Closed.is ∙ c.scan_string-scanned.ensures) c.if-count-le-STRING_CHARS.true)

pub returns-else-count-le-STRING_CHARS : goal.returns-else-count-le-STRING_CHARS
returns-else-count-le-STRING_CHARS c = c.flat-else-count-le-STRING_CHARS.ensures ∙ ap flat_next (quote-big c.args.src.now c.args.start c.requires (sym c.in-Closed.is ∙ c.scan_string-scanned.ensures) c.if-count-le-STRING_CHARS.false)

pub returns-in-Open : goal.returns-in-Open
returns-in-Open c = c.flat-in-Open.ensures ∙ ap flat_next (quote-open c.args.src.now c.args.start c.requires (sym c.in-Open.is ∙ c.scan_string-scanned.ensures))
