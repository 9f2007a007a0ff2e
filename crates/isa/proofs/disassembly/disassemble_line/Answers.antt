-- `disassemble_line` meets its contract. Assumes nothing.
use borrow.Author.Rules.{rules}
use Rattle.isa.proofs.Exact.{line-instr, line-fill}
use Rattle.isa.proofs.disassembly.disassemble_line.Goals as goal

pub returns-in-Some : goal.returns-in-Some
returns-in-Some c = search (rules, line-instr)

pub returns-in-None : goal.returns-in-None
returns-in-None c = search (rules, line-fill)
