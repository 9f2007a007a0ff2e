-- What each call from another language is told: an answer in nine numbers. Assumes nothing.
use Rattle.std.specs.declared.result.Result.{Result}
use Rattle.std.specs.declared.result.Result.TheVariants.{Ok, Err}
use Rattle.base_refusals.specs.declared.Fault.{Fault}
use Rattle.base_refusals.specs.Refusals.{fault}
use Rattle.std.specs.Prelude.{ℕ, ◌+◌, ◌*◌, ◌≤◌, ◌≡◌, List, [], ◌∷◌, get_or, eqb}
use Rattle.std.proofs.Math.Option.{Option, none, some}
use Rattle.rules.specs.Base.{when◌then◌else◌, Span, span, nowhere, Outcome, ok, refused}
use Rattle.rules.specs.Words.{Operand, register, value, Instr, instruction, filled}
use Rattle.rules.specs.Words as R
use Rattle.rules.specs.Objects.{Lab, outer, defined, Counts}
use Rattle.rules.specs.Answers.{Answer, accepted, refusal}
use Rattle.lex_token.specs.declared.Next.{Next}
use Rattle.lex_token.specs.declared.Next.TheVariants as next
use Rattle.lex_token.specs.declared.Lexeme.{Lexeme}
use Rattle.lex_token.specs.Flat.{lexeme, fault_sort, flat_token}
use Rattle.std.specs.declared.option.Option as O
use Rattle.std.specs.declared.option.Option.TheVariants.{Some, None}
use Rattle.object_check.specs.declared.ObjectErr.{ObjectErr}
use Rattle.object_check.specs.declared.ObjectErr.TheVariants.{ShortBuffer, BadObject}
use Rattle.lc3_answers.specs.declared.Reply.{Reply}

-- an answer as the code holds it, and its numbers in a row
abbrev pub reply : Answer → Reply
reply a = record {
  number = a.number;
  start = a.first.start;
  end = a.first.stop;
  start2 = a.second.start;
  end2 = a.second.stop;
  first = a.counts.blocks;
  second = a.counts.words;
  third = a.counts.labels;
  fourth = a.counts.relocs;
}

abbrev pub row : Reply → List ℕ
row r = r.number ∷ r.start ∷ r.end ∷ r.start2 ∷ r.end2 ∷ r.first ∷ r.second ∷ r.third ∷ r.fourth ∷ []

-- four counts
abbrev pub four : (first second third fourth : ℕ) → Counts
four i j k l = record { blocks = i; words = j; labels = k; relocs = l }

-- any answer
abbrev pub answered : ℕ → Span → Span → Counts → Answer
answered n p q k = record { number = n; first = p; second = q; counts = k }

-- acceptance with these counts; a refusal with one place
abbrev pub counted : (first second third fourth : ℕ) → Answer
counted i j k l = accepted (four i j k l)

abbrev pub refused_at : ℕ → Span → Answer
refused_at n p = refusal (record { number = n; first = p; second = nowhere })

-- a token: its sort and value, at its place
abbrev pub token_told : Lexeme → Answer
token_told t = record { number = 0; first = span t.start t.end; second = nowhere; counts = four t.sort t.value 0 0 }

abbrev pub next_told : Next → Answer
next_told (next.Took t a e) = token_told (flat_token t a e)
next_told (next.End i) = token_told (lexeme 10 0 i i)
next_told (next.Refused n a e) = refused_at n (span a e)

-- the same of the four numbers by which the code has it
abbrev pub lexeme_told : Lexeme → Answer
lexeme_told t = when eqb t.sort fault_sort then refused_at t.value (span t.start t.end) else token_told t

-- all statements
abbrev pub statements_told : Result (Unit {0}) Fault → Answer
statements_told (Ok u) = counted 0 0 0 0
statements_told (Err f) = refused_at f.number (span f.start f.end)

-- a listing or a stored object: how many bytes
abbrev pub written_told : Result ℕ ℕ → Answer
written_told (Ok n) = counted n 0 0 0
written_told (Err n) = refused_at n nowhere

-- a name: found, external, its address
abbrev pub said_told : Outcome (Option Lab) → Answer
said_told (ok (some (defined a))) = counted 1 0 a 0
said_told (ok (some outer)) = counted 1 1 0 0
said_told (ok none) = counted 0 0 0 0
said_told (refused r) = refusal r

-- an address: found, the label row, its name's start and length
abbrev pub found_told : List ℕ → Result (O.Option ℕ) ObjectErr → Answer
found_told ls (Ok (Some k)) = counted 1 k (get_or ls (k * 4 + 2) 0) (get_or ls (k * 4 + 3) 0)
found_told ls (Ok None) = counted 0 0 0 0
found_told ls (Err ShortBuffer) = refused_at 42 nowhere
found_told ls (Err BadObject) = refused_at 43 nowhere

-- the row lies in a table of n numbers
pub record RowIn (n : ℕ) (r : Result (O.Option ℕ) ObjectErr) : Type 0 where
  pub row : (k : ℕ) → r ≡ Ok (Some k) → k * 4 + 4 ≤ n

-- the last operand of ADD and AND: a register's number, or an immediate's bits above 65535
abbrev pub operand_told : Operand → ℕ
operand_told (register r) = r
operand_told (value d) = 65536 + d

-- an instruction: its code and its operands, BR's first being n, z and p
abbrev pub instr_told : Instr → Answer
instr_told (R.ADD d s o) = counted 0 d s (operand_told o)
instr_told (R.AND d s o) = counted 1 d s (operand_told o)
instr_told (R.BR nzp o) = counted 2 nzp o 0
instr_told (R.JMP b) = counted 3 b 0 0
instr_told (R.JSR o) = counted 4 o 0 0
instr_told (R.JSRR b) = counted 5 b 0 0
instr_told (R.LD d o) = counted 6 d o 0
instr_told (R.LDI d o) = counted 7 d o 0
instr_told (R.LDR d b o) = counted 8 d b o
instr_told (R.LEA d o) = counted 9 d o 0
instr_told (R.NOT d s) = counted 10 d s 0
instr_told R.RET = counted 11 0 0 0
instr_told R.RTI = counted 12 0 0 0
instr_told (R.ST s o) = counted 13 s o 0
instr_told (R.STI s o) = counted 14 s o 0
instr_told (R.STR s b o) = counted 15 s b o
instr_told (R.TRAP v) = counted 16 v 0 0
instr_told (R.NOP o) = counted 17 o 0 0
instr_told R.GETC = counted 18 0 0 0
instr_told R.OUT = counted 19 0 0 0
instr_told R.PUTC = counted 20 0 0 0
instr_told R.PUTS = counted 21 0 0 0
instr_told R.IN = counted 22 0 0 0
instr_told R.PUTSP = counted 23 0 0 0
instr_told R.HALT = counted 24 0 0 0

-- an instruction, or 255 and the word of a.fill
abbrev pub line_told : R.Line → Answer
line_told (instruction i) = instr_told i
line_told (filled w) = counted 255 w 0 0
