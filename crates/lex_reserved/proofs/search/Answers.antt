-- `lex_reserved::search` meets its contract. Assumes nothing.
use mathlib.Core.Path.{refl}
use Rattle.lex_reserved.specs.Table.{words}
use Rattle.lex_reserved.proofs.Rows.{find_none}
use Rattle.lex_reserved.proofs.Rule.{ident-short, ident-long, ident-low, ident-high, ident-found, next_last}
use borrow.Author.Rules.{rules}
use Rattle.lex_reserved.proofs.search.Goals as goal

pub returns-then-s-lt-SHORTEST : goal.returns-then-s-lt-SHORTEST
returns-then-s-lt-SHORTEST c = ident-short c.args.s.now c.if-s-lt-SHORTEST.true

pub returns-then-s-gt-LONGEST : goal.returns-then-s-gt-LONGEST
returns-then-s-gt-LONGEST c = ident-long c.args.s.now c.if-s-lt-SHORTEST.false c.if-s-gt-LONGEST.true

pub returns-then-letter-lt65 : goal.returns-then-letter-lt65
returns-then-letter-lt65 c = ident-low c.args.s.now c.upper_case-letter.ensures c.if-s-lt-SHORTEST.false c.if-s-gt-LONGEST.false c.if-letter-lt65.true

pub returns-then-letter-gt90 : goal.returns-then-letter-gt90
returns-then-letter-gt90 c = ident-high c.args.s.now c.upper_case-letter.ensures c.if-s-lt-SHORTEST.false c.if-s-gt-LONGEST.false c.if-letter-lt65.false c.if-letter-gt90.true

pub returns-then-last-first : goal.returns-then-last-first
returns-then-last-first c = ident-found c.args.s.now c.upper_case-letter.ensures c.if-s-lt-SHORTEST.false c.if-s-gt-LONGEST.false c.if-letter-lt65.false c.if-letter-gt90.false c.first_row-first.ensures c.first_row-last.ensures (find_none _ _ _ c.if-last-first.true)

pub find_row-requires : goal.find_row-requires
unfolding words
find_row-requires c = (refl, search rules, rw c.first_row-last.ensures (next_last _ c.if-letter-lt65.false c.if-letter-gt90.false))

pub returns : goal.returns
returns c = ident-found c.args.s.now c.upper_case-letter.ensures c.if-s-lt-SHORTEST.false c.if-s-gt-LONGEST.false c.if-letter-lt65.false c.if-letter-gt90.false c.first_row-first.ensures c.first_row-last.ensures c.find_row.ensures
