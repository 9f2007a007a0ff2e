-- `lex_token::next_of` meets its contract. Assumes nothing.
use Prim.Native.Nat.{ℕ}
use mathlib.Core.Path.{◌∙◌, ap}
use native.Mathlib.Omega.{arith}
use Rattle.lex_reserved.specs.declared.Ident.TheVariants.{Reserved}
use Rattle.lex_token.specs.declared.Token.TheVariants.{Reg}
use Rattle.lex_token.specs.declared.Token.TheVariants as tok
use Rattle.lex_token.specs.declared.Next.TheVariants.{Took}
use Rattle.lex_token.proofs.Back.{by-sort, value-small, last-sort}
use borrow.Author.Rules.{rules}
use Rattle.lex_token.proofs.next_of.Goals as goal

pub returns-in-0 : goal.returns-in-0
returns-in-0 c = c.took.ensures ∙ by-sort c.args.t 0 c.in-0.is

pub returns-in-1 : goal.returns-in-1
returns-in-1 c = c.took-in-1.ensures ∙ by-sort c.args.t 1 c.in-1.is

pub returns-in-2 : goal.returns-in-2
returns-in-2 c = c.took-in-2.ensures ∙ by-sort c.args.t 2 c.in-2.is

pub returns-in-3 : goal.returns-in-3
returns-in-3 c = c.took-in-3.ensures ∙ by-sort c.args.t 3 c.in-3.is

pub returns-in-4 : goal.returns-in-4
returns-in-4 c = c.took-in-4.ensures ∙ by-sort c.args.t 4 c.in-4.is

pub returns-in-5 : goal.returns-in-5
returns-in-5 c = c.took-in-5.ensures ∙ by-sort c.args.t 5 c.in-5.is

pub returns-in-6 : goal.returns-in-6
returns-in-6 c = c.took-in-6.ensures ∙ by-sort c.args.t 6 c.in-6.is

pub returns-in-7 : goal.returns-in-7
returns-in-7 c = c.took-in-7.ensures ∙ by-sort c.args.t 7 c.in-7.is

pub returns-in-8 : goal.returns-in-8
returns-in-8 c = c.took-in-8.ensures ∙ by-sort c.args.t 8 c.in-8.is

pub returns-in-9 : goal.returns-in-9
returns-in-9 c = c.took-in-9.ensures ∙ by-sort c.args.t 9 c.in-9.is

pub returns-in-10 : goal.returns-in-10
returns-in-10 c = by-sort c.args.t 10 c.in-10.is

pub returns-in_default : goal.returns-in_default
returns-in_default c = by-sort c.args.t 11 (search (rules, last-sort))
