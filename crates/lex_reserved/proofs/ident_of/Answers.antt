-- `lex_reserved::ident_of` meets its contract. Assumes nothing.
use native.Mathlib.Omega.{arith}
use Rattle.lex_reserved.proofs.Rule.{ident-short, ident-long}
use Rattle.lex_reserved.proofs.Slots.{ident-row}
use Rattle.lex_reserved.proofs.ident_of.Goals as goal

pub returns-then-s-lt-SHORTEST : goal.returns-then-s-lt-SHORTEST
returns-then-s-lt-SHORTEST c = ident-short c.args.s.now c.if-s-lt-SHORTEST.true

pub returns-then-s-gt-LONGEST : goal.returns-then-s-gt-LONGEST
returns-then-s-gt-LONGEST c = ident-long c.args.s.now c.if-s-lt-SHORTEST.false c.if-s-gt-LONGEST.true

pub returns-then-row-key : goal.returns-then-row-key
returns-then-row-key c = ident-row c.args.s.now c.key_of-key.ensures.0 c.slot_of.ensures c.slot_row-row.ensures c.if-row-key.true (λ k. omega (arith, c.type_inv.s k))
