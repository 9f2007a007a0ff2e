-- `view_instruction::put_line` meets its contract. Assumes nothing.
use Rattle.view_instruction.proofs.Puts.{line-instr, line-fill}
use borrow.Author.Rules.{rules}
use Rattle.view_instruction.proofs.put_line.Goals as goal

pub returns-in-Instr : goal.returns-in-Instr
returns-in-Instr c = search (rules, line-instr)

pub returns-in-Fill : goal.returns-in-Fill
returns-in-Fill c = search (rules, line-fill)
