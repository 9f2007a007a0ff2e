-- `lex::next_token` meets its contract. Assumes nothing.
use mathlib.Core.Path.{sym, subst, ◌∙◌, ap}
use Rattle.rules.specs.Tokens.{next_token}
use Rattle.lex_token.specs.Coded.{coded}
use Rattle.lex_token.specs.Flat.{next_of, Narrow}
use Rattle.lex_token.specs.Meant.{meant}
use Rattle.lex_token.proofs.Back.{there_and_back}
use Rattle.lex_token.proofs.MeantCoded.{meant-coded}
use Rattle.lex.proofs.Narrowness.{next-narrow}
use Rattle.lex.proofs.next_token.Goals as goal

pub next_of-requires : goal.next_of-requires
next_of-requires c = subst Narrow (sym c.lexeme_at.ensures) (next-narrow c.args.src.now c.args.at)

pub returns : goal.returns
returns c = let r = c.next_of.ensures ∙ ap next_of c.lexeme_at.ensures ∙ there_and_back (coded (next_token c.args.src.now c.args.at)) in record { means = ap (meant c.args.src.now) r ∙ meant-coded c.args.src.now c.args.at; tells = r }
