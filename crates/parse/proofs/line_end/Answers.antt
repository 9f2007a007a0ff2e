-- `parse::line_end` meets its contract. Assumes nothing.
use native.Mathlib.Omega.{arith}
use Rattle.lex.proofs.Peek.{peek-inside}
use Rattle.parse.proofs.Reading.{finish-feed, finish-line, finish-end, finish-no}
use borrow.Author.Rules.{rules}
use Rattle.parse.proofs.line_end.Goals as goal

pub overflow_add-stop : goal.overflow_add-stop
overflow_add-stop c = omega (arith, peek-inside c.args.src.now c.run_end-stop.result _ c.byte_at.ensures (omega arith))

pub returns-then-byte_at-eq10 : goal.returns-then-byte_at-eq10
returns-then-byte_at-eq10 c = search (rules, finish-feed)

pub returns-then-t-eq-NEWLINE : goal.returns-then-t-eq-NEWLINE
returns-then-t-eq-NEWLINE c = search (rules, finish-line)

pub returns-then-t-eq-END : goal.returns-then-t-eq-END
returns-then-t-eq-END c = search (rules, finish-end)

pub returns : goal.returns
returns c = search (rules, finish-no)
