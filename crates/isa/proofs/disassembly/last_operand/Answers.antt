-- `last_operand` meets its contract, by bit 5. Assumes nothing.
use borrow.Author.Rules.{rules}
use Rattle.isa.proofs.Exact.{last-value, last-register, last-malformed}
use Rattle.isa.proofs.disassembly.last_operand.Goals as goal

pub returns-then-word-eq1 : goal.returns-then-word-eq1
returns-then-word-eq1 c = search (rules, last-value)

pub returns-then-word-eq0 : goal.returns-then-word-eq0
returns-then-word-eq0 c = search (rules, last-register)

pub returns : goal.returns
returns c = search (rules, last-malformed)
