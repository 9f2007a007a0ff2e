-- `decode_trap` meets its contract, by the vector. Assumes nothing.
use borrow.Author.Rules.{rules}
use Rattle.isa.proofs.Exact.{trap-plain, trap-shows, trap-hides, getc-shows, putc-shows, puts-shows, in-shows, putsp-shows, halt-shows}
use Rattle.isa.proofs.disassembly.decode_trap.Goals as goal

pub returns-in-32 : goal.returns-in-32
returns-in-32 c = search (rules, getc-shows)

pub returns-in-33 : goal.returns-in-33
returns-in-33 c = search (rules, putc-shows)

pub returns-in-34 : goal.returns-in-34
returns-in-34 c = search (rules, puts-shows)

pub returns-in-35 : goal.returns-in-35
returns-in-35 c = search (rules, in-shows)

pub returns-in-36 : goal.returns-in-36
returns-in-36 c = search (rules, putsp-shows)

pub returns-in-37 : goal.returns-in-37
returns-in-37 c = search (rules, halt-shows)

pub returns-in_default : goal.returns-in_default
returns-in_default c = trap-shows _ c.if-word-eq-TRAP_BYTE.true (trap-plain _ c.in_default.in_default-own.rest.0.0.0.0.0.1 c.in_default.in_default-own.rest.0.0.0.0.1 c.in_default.in_default-own.rest.0.0.0.1 c.in_default.in_default-own.rest.0.0.1 c.in_default.in_default-own.rest.0.1 c.in_default.in_default-own.rest.1)

pub returns-else-word-eq-TRAP_BYTE : goal.returns-else-word-eq-TRAP_BYTE
returns-else-word-eq-TRAP_BYTE c = search (rules, trap-hides)
