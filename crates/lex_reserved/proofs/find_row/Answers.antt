-- `lex_reserved::find_row` meets its contract. Assumes nothing.
use Prim.Native.Nat.{◌-◌}
use mathlib.Core.Path.{refl}
use Rattle.lex_reserved.proofs.Rows.{search-found, search-again, search-done}
use borrow.Author.Rules.{rules}
use Rattle.lex_reserved.proofs.find_row.Goals as goal

pub loop-i-init : goal.loop-i-init
loop-i-init c = refl

pub returns-then-row_is : goal.returns-then-row_is
returns-then-row_is c = search (rules, search-found)

pub loop-i-preserved : goal.loop-i-preserved
loop-i-preserved c = search (rules, search-again)

pub returns : goal.returns
returns c = search (rules, search-done)
