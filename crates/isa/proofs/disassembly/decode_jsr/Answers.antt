-- `decode_jsr` meets its contract, by bit 11. Assumes nothing.
use borrow.Author.Rules.{rules}
use Rattle.isa.proofs.Exact.{jsr-shows, jsrr-shows, jsrr-low, jsrr-high}
use Rattle.isa.proofs.disassembly.decode_jsr.Goals as goal

pub returns-then-word-eq1 : goal.returns-then-word-eq1
returns-then-word-eq1 c = search (rules, jsr-shows)

pub returns-then-word-eq0-2 : goal.returns-then-word-eq0-2
returns-then-word-eq0-2 c = search (rules, jsrr-shows)

pub returns-else-word-eq0-2 : goal.returns-else-word-eq0-2
returns-else-word-eq0-2 c = search (rules, jsrr-low)

pub returns-else-word-eq0 : goal.returns-else-word-eq0
returns-else-word-eq0 c = search (rules, jsrr-high)
