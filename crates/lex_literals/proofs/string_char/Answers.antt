-- `lex_literals::string_char` meets its contract. Assumes nothing.
use Rattle.lex_literals.proofs.StringSteps.{char-end, char-quote, char-escape, char-kept, char-plain}
use Rattle.lex_literals.proofs.string_char.Goals as goal

pub returns-then-src-at : goal.returns-then-src-at
returns-then-src-at c = char-end c.args.src.now c.args.at c.if-src-at.true

pub returns-then-byte-eq34 : goal.returns-then-byte-eq34
returns-then-byte-eq34 c = char-quote c.args.src.now c.args.at c.if-src-at.false c.if-byte-eq34.true

pub returns-then-is_escape : goal.returns-then-is_escape
returns-then-is_escape c = char-escape c.args.src.now c.args.at c.if-src-at.false c.if-byte-eq34.false c.if-byte-eq92.true c.byte_at-e.ensures c.is_escape.ensures c.if-is_escape.true c.escape_value.ensures

pub returns-then-byte-eq92 : goal.returns-then-byte-eq92
returns-then-byte-eq92 c = char-kept c.args.src.now c.args.at c.if-src-at.false c.if-byte-eq34.false c.if-byte-eq92.true c.byte_at-e.ensures c.is_escape.ensures c.if-is_escape.false

pub returns : goal.returns
returns c = char-plain c.args.src.now c.args.at c.if-src-at.false c.if-byte-eq34.false c.if-byte-eq92.false
