-- The rules' statements as the code tells them. Assumes nothing.
use Rattle.std.specs.declared.result.Result.{Result}
use Rattle.std.specs.declared.result.Result.TheVariants.{Ok, Err}
use Rattle.std.specs.declared.option.Option as O
use Rattle.std.specs.declared.option.Option.TheVariants.{Some, None}
use Rattle.base_refusals.specs.declared.Fault.{Fault}
use Rattle.base_refusals.specs.Refusals.{fault}
use Rattle.std.specs.Prelude.{ℕ, ◌+◌, Bool, ◌&&◌, not, ◌≡◌, List, map, eqb, length}
use Rattle.std.proofs.Math.Option.{Option, none, some}
use Rattle.rules.specs.Base.{when◌then◌else◌, Outcome, ok, refused, ◌>>=◌}
use Rattle.rules.specs.Words.{instr, orig, fill, blkw, stringz, end, external, directives}
use Rattle.rules.specs.Words as words
use Rattle.rules.specs.Tokens.{upper, lexed}
use Rattle.rules.specs.Statements.{Stmt, Read, ends, token_is, line_end, statements}
use Rattle.lex_token.specs.declared.Lexeme.{Lexeme}
use Rattle.lex_token.specs.Flat.{fault_sort}
use Rattle.lex_token.specs.Meant.{part}
use Rattle.parse_field.specs.declared.Given.{Given}
use Rattle.parse_rows.specs.declared.Op.{Op}
use Rattle.parse_rows.specs.declared.Op.TheVariants.{Instr, Orig, Fill, Blkw, Stringz, External}
use Rattle.parse_rows.specs.declared.Op.TheVariants as op
use Rattle.parse_rows.specs.Rows.{fields_by, row_at, nop_row, code_from}
use Rattle.parse_operands.specs.Lines.{reach_of, label_start, label_end, line_step}
use Rattle.parse.specs.declared.Statement.{Statement}

-- WHAT THE RULES ANSWER

abbrev pub coded_op : words.Op → Op
coded_op instr = Instr
coded_op orig = Orig
coded_op fill = Fill
coded_op blkw = Blkw
coded_op stringz = Stringz
coded_op end = op.End
coded_op external = External

-- a statement: its label operand and its string by their places; of its labels, whether there are any
unfoldable pub coded_read : Read → Statement
coded_read r = record {
  labelled = not (eqb (length r.stmt.labels) 0);
  op = coded_op r.stmt.op;
  bits = r.stmt.bits;
  reach = reach_of r.stmt.target;
  label_start = label_start r.stmt.target;
  label_end = label_end r.stmt.target;
  text_start = r.stmt.quote.start;
  text_end = r.stmt.quote.stop;
  start = r.stmt.place.start;
  end = r.stmt.place.stop;
  next = r.next;
}

unfoldable pub coded_statement : Outcome (Option Read) → Result (O.Option Statement) Fault
coded_statement (ok none) = Ok None
coded_statement (ok (some r)) = Ok (Some (coded_read r))
coded_statement (refused r) = Err (fault r.number r.first.start r.first.stop)

-- all statements of a source: accepted, or the first refusal
unfoldable pub coded_statements : Outcome (List Stmt) → Result (Unit {0}) Fault
coded_statements (ok ss) = Ok tt
coded_statements (refused r) = Err (fault r.number r.first.start r.first.stop)

-- lexical refusals come before those of statements, over the whole source
unfoldable pub source_statements : List ℕ → Outcome (List Stmt)
source_statements s = lexed s >>= λ ts. statements s

-- a source whose statements are read
pub record AllRead (s : List ℕ) : Type 0 where
  pub stmts : List Stmt
  pub read : statements s ≡ ok stmts

-- STEPS ON THE WAY

-- a token that cannot stand where it is
unfoldable pub unfit_at : Lexeme → Result (O.Option Statement) Fault
unfit_at t = when eqb t.sort fault_sort then Err (fault t.value t.start t.end) else Err (fault 13 t.start t.end)

-- a statement of what is given
abbrev pub made : (labelled : Bool) → Op → (start : ℕ) → Given → (next : ℕ) → Statement
made b o a g n = record {
  labelled = b;
  op = o;
  bits = g.bits;
  reach = g.reach;
  label_start = g.label_start;
  label_end = g.label_end;
  text_start = g.text_start;
  text_end = g.text_end;
  start = a;
  end = g.stop;
  next = n;
}

-- then newline or end
unfoldable pub ended : (labelled : Bool) → Op → (start : ℕ) → Given → Outcome ℕ → Result (O.Option Statement) Fault
ended b o a g (ok n) = Ok (Some (made b o a g n))
ended b o a g (refused r) = Err (fault r.number r.first.start r.first.stop)

unfoldable pub finished : List ℕ → (labelled : Bool) → Op → (start : ℕ) → Given → Result (O.Option Statement) Fault
finished s b o a g = ended b o a g (line_end s g.stop)

unfoldable pub after : List ℕ → (labelled : Bool) → Op → (start : ℕ) → Result Given Fault → Result (O.Option Statement) Fault
after s b o a (Ok g) = finished s b o a g
after s b o a (Err f) = Err f

-- the statement of a row whose first token stands from a up to e
unfoldable pub row_step : List ℕ → (labelled : Bool) → Op → List words.Field → (other word a e : ℕ) → Result (O.Option Statement) Fault
row_step s b o fs other w a e = after s b o a (line_step s fs other w e)

-- how many of a row's operands are read: none where they are left out
unfoldable pub count_due : ℕ → (bare : Bool) → ℕ
count_due n bare = when bare then 0 else n

-- the statement of the row at a place of the table
unfoldable pub code_step : List ℕ → (labelled : Bool) → (code : ℕ) → (bare : Bool) → (other a e : ℕ) → Result (O.Option Statement) Fault
code_step s b code bare other a e =
    let r = row_at code in
    row_step s b r.op (fields_by (count_due r.count bare) r.first r.second r.third) other r.base a e

-- NOP's operand may be left out, before a newline or the end of the source
unfoldable pub is_bare : List ℕ → (code i : ℕ) → Bool
is_bare s code i = eqb code nop_row && token_is ends s i

-- what a token that is no operand of its field is refused with
unfoldable pub other_of : ℕ → ℕ
other_of code = when eqb code nop_row then 13 else 14

-- the place in the table of the row that a token begins: a reserved word's code, a directive's place, or how many rows there are
unfoldable pub code_at : List ℕ → Lexeme → ℕ
code_at s t =
    when eqb t.sort 5 then t.value
    else when eqb t.sort 6 then code_from 32 (map upper (part s (t.start + 1) t.end)) directives
    else 38

-- what is answered where no row begins
unfoldable pub headless_at : (labelled : Bool) → Lexeme → Result (O.Option Statement) Fault
headless_at b t =
    when eqb t.sort 3 then Err (fault 16 t.start t.end)
    else when eqb t.sort 10 then (when b then Err (fault 13 t.start t.end) else Ok None)
    else unfit_at t
