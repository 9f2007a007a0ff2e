-- `lex_reserved::key_of` meets its contract. Assumes nothing.
use native.Mathlib.Omega.{arith}
use borrow.Author.Rules.{rules}
use Rattle.base_text.proofs.Rest.{from_start}
use Rattle.lex_reserved.proofs.Keys.{key-end}
use Rattle.lex_reserved.proofs.key_of.Goals as goal

pub key_from-fifth-requires : goal.key_from-fifth-requires
key_from-fifth-requires c = (search (rules, key-end), omega arith)

pub returns : goal.returns
returns c = (rw from_start at c.key_from.ensures.0, omega arith)
