-- `view_far::address_after` meets its contract. Assumes nothing.
use native.Mathlib.Omega.{arith}
use Rattle.view_far.proofs.Finding.{after-orig, after-words}
use borrow.Author.Rules.{rules}
use Rattle.view_far.proofs.address_after.Goals as goal

pub returns-then-is_orig : goal.returns-then-is_orig
returns-then-is_orig c = (search rules, after-orig _ _ _ c.is_orig.ensures c.if-is_orig.true)

pub returns : goal.returns
returns c = (omega arith, after-words _ _ _ c.is_orig.ensures c.if-is_orig.false c.word_len-size.ensures.1)
