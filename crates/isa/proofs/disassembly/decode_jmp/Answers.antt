-- `decode_jmp` meets its contract. Assumes nothing.
use borrow.Author.Rules.{rules}
use Rattle.isa.proofs.Exact.{ret-shows, jmp-shows, jmp-low, jmp-high}
use Rattle.isa.proofs.disassembly.decode_jmp.Goals as goal

pub returns-then-reg-eq-LINK : goal.returns-then-reg-eq-LINK
returns-then-reg-eq-LINK c = search (rules, ret-shows)

pub returns-then-word-eq0-2 : goal.returns-then-word-eq0-2
returns-then-word-eq0-2 c = search (rules, jmp-shows)

pub returns-else-word-eq0-2 : goal.returns-else-word-eq0-2
returns-else-word-eq0-2 c = search (rules, jmp-low)

pub returns-else-word-eq0 : goal.returns-else-word-eq0
returns-else-word-eq0 c = search (rules, jmp-high)
