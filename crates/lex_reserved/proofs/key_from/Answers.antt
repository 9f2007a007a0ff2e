-- `lex_reserved::key_from` meets its contract. Assumes nothing.
use native.Mathlib.Omega.{arith}
use borrow.Author.Rules.{rules}
use Rattle.lex_reserved.proofs.Keys.{key_more, key-past}
use Rattle.lex_reserved.proofs.key_from.Goals as goal

pub returns-then-i-s : goal.returns-then-i-s
returns-then-i-s c = (search (rules, key_more), omega arith)

pub returns : goal.returns
returns c = (search (rules, key-past), omega arith)
