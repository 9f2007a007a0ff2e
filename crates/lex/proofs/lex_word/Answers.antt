-- `lex::lex_word` meets its contract. Assumes nothing.
use Prim.Native.Nat.{ℕ}
use mathlib.Core.Path.{sym, ◌∙◌, ap}
use Rattle.base_text.proofs.RunLaws.{end_ge, end-le}
use Rattle.lex_token.specs.Flat.{flat_next, lexeme}
use Rattle.lex.proofs.Told.{word-told}
use Rattle.lex.proofs.lex_word.Goals as goal

pub slice_bounds-ident_of-count : goal.slice_bounds-ident_of-count
slice_bounds-ident_of-count c = rw c.run_end-end.ensures (end_ge _ _ _)

pub slice_bounds-ident_of-start : goal.slice_bounds-ident_of-start
slice_bounds-ident_of-start c = rw c.run_end-end.ensures (end_ge _ _ _)

pub slice_bounds-ident_of-end : goal.slice_bounds-ident_of-end
slice_bounds-ident_of-end c = rw c.run_end-end.ensures (end-le _ _ _ c.requires)

pub returns-in-Reserved : goal.returns-in-Reserved
returns-in-Reserved c = c.flat.ensures ∙ ap (λ (k : ℕ). lexeme 5 k c.args.start c.run_end-end.result) c.from.ensures ∙ ap flat_next (word-told c.args.src.now c.args.start c.run_end-end.ensures (sym c.in-Reserved.is ∙ c.ident_of-ident.ensures))

pub returns-in-Label : goal.returns-in-Label
returns-in-Label c = c.flat-in-Label.ensures ∙ ap flat_next (word-told c.args.src.now c.args.start c.run_end-end.ensures (sym c.in-Label.is ∙ c.ident_of-ident.ensures))
