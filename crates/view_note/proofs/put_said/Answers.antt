-- `view_note::put_said` meets its contract. Assumes nothing.
use Rattle.view_note.proofs.NoteTexts.{said-comma, said-directive, said-line, said-operand, said-statement}
use Rattle.view_note.proofs.put_said.Goals as goal

pub returns-in-Statement : goal.returns-in-Statement
returns-in-Statement c = said-statement _ _ _ _ c.due_at.ensures c.in-Statement.is c.put-next.ensures c.put_label.ensures

pub returns-in-Directive : goal.returns-in-Directive
returns-in-Directive c = said-directive _ _ _ _ c.due_at.ensures c.in-Directive.is c.put.ensures

pub returns-in-Comma : goal.returns-in-Comma
returns-in-Comma c = said-comma _ _ _ _ c.due_at.ensures c.in-Comma.is c.put-in-Comma.ensures

pub returns-in-LineEnd : goal.returns-in-LineEnd
returns-in-LineEnd c = said-line _ _ _ _ c.due_at.ensures c.in-LineEnd.is c.put-in-LineEnd.ensures

pub returns-in-Operand : goal.returns-in-Operand
returns-in-Operand c = said-operand _ _ _ _ c.due_at.ensures _ c.in-Operand.is c.put_operand.ensures
