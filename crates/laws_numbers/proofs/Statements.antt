-- The refusals of reading statements have a number of the table. Assumes nothing.
use Prim.Native.Nat.{ℕ, zero, suc, ◌+◌, ◌-◌}
use mathlib.Core.Path.{◌≡◌, refl}
use mathlib.Core.Bool.{true, ◌&&◌}
use mathlib.Core.List.{List, [], ◌∷◌}
use mathlib.Core.Option.{Option, none, some}
use lib.ListN.{length}
use lib.Dec.{eqb}
use Rattle.rules.specs.Answers.{refusals}
use Rattle.rules.specs.Base.{when◌then◌else◌, ok, refuse, Span, ◌>>=◌}
use Rattle.rules.specs.Tokens.{Num, Token}
use Rattle.rules.specs.Words.{Range, signed, Field, reg, reg_or_imm, num, near, name, string, Row, instructions, directives, find}
use Rattle.rules.specs.Statements.{Name, Stmt, Given, Piece, bits, target, as_register, as_number, as_label, as_directive, as_word, is_mark, fit, named, need, operand, bare, operand_at, comma_at, more_from, operands_from, line_end, ends, Read, row_read, instr_read, token_read, next_statement, statements_from, statements_at, statements, past_lines, past_labels, labels_at}
use Rattle.laws_numbers.specs.Known.{in_table, known, Numbered}
use Rattle.laws_numbers.proofs.Stages.{gives, refuses, chosen, required, bound, needed}
use Rattle.laws_numbers.proofs.Tokens.{token-numbered}

fit-numbered : (r : Range) (n : Num) (p : Span) → Numbered (fit r n p)
unfolding fit known in_table refusals
fit-numbered r n p = chosen _ (gives _) (refuses _ refl)

named-numbered : (t : List ℕ) (p : Span) → Numbered (named t p)
unfolding named known in_table refusals
named-numbered t p = chosen _ (gives _) (refuses _ refl)

-- operands, where another kind of token is refused with a number of the table
module _ (other : ℕ) (k : known other ≡ true) where
  operand-numbered : (f : Field) (t : Token) → Numbered (operand f other t)
  unfolding operand
  operand-numbered (reg m) t = needed _ other _ _ k λ r. gives _
  operand-numbered (num r) t = needed _ other _ _ k λ n. bound _ _ (fit-numbered r n t.place) λ b. gives _
  operand-numbered reg_or_imm t = go (as_register t.kind)
    where
      go : (x : Option ℕ) → Numbered {A = Piece} (elim x [ some r ↦ ok (bits r) | none ↦ need (as_number t.kind) other t.place (λ n. fit (signed 5) n t.place >>= λ b. ok (bits (32 + b))) ])
      go (some r) = gives _
      go none = needed _ other _ _ k λ n. bound _ _ (fit-numbered (signed 5) n t.place) λ b. gives _
  operand-numbered (near r) t = go (as_number t.kind)
    where
      go : (x : Option Num) → Numbered {A = Piece} (elim x [ some n ↦ fit r n t.place >>= (λ b. ok (bits b)) | none ↦ need (as_label t.kind) other t.place (λ w. named w t.place >>= λ l. ok (target (record { field = r; name = l }))) ])
      go (some n) = bound _ _ (fit-numbered r n t.place) λ b. gives _
      go none = needed _ other _ _ k λ w. bound _ _ (named-numbered w t.place) λ l. gives _
  operand-numbered (name r) t = needed _ other _ _ k λ w. bound _ _ (named-numbered w t.place) λ l. gives _
  operand-numbered string t = needed _ other _ _ k λ s. gives _

  at-numbered : (s : List ℕ) (f : Field) (g : Given) (i : ℕ) → Numbered (operand_at s f other g i)
  unfolding operand_at
  at-numbered s f g i = bound _ _ (token-numbered s i) λ t. bound _ _ (operand-numbered f t) λ p. gives _

  comma-numbered : (s : List ℕ) (i : ℕ) → Numbered (comma_at s i)
  unfolding comma_at known in_table refusals
  comma-numbered s i = bound _ _ (token-numbered s i) λ t. bound _ _ (required (is_mark 44 t.kind) 13 t.place refl) λ x. gives _

  more-numbered : (s : List ℕ) (fs : List Field) (g : Given) → Numbered (more_from s fs other g)
  unfolding more_from
  more-numbered s [] g = gives g
  more-numbered s (f ∷ fs) g = bound _ _ (comma-numbered s g.stop) λ j. bound _ _ (at-numbered s f g j) λ h. more-numbered s fs h

  operands-numbered : (s : List ℕ) (fs : List Field) (g : Given) → Numbered (operands_from s fs other g)
  unfolding operands_from
  operands-numbered s [] g = gives g
  operands-numbered s (f ∷ fs) g = bound _ _ (at-numbered s f g g.stop) λ h. more-numbered s fs h

  end-numbered : (s : List ℕ) (i : ℕ) → Numbered (line_end s i)
  unfolding line_end known in_table refusals
  end-numbered s i = bound _ _ (token-numbered s i) λ t. bound _ _ (required (ends t.kind) 13 t.place refl) λ x. gives _

  row-numbered : (s : List ℕ) (ls : List Name) (r : Row) (t : Token) (fs : List Field) → Numbered (row_read s ls r t fs other)
  unfolding row_read
  row-numbered s ls r t fs = bound _ _ (operands-numbered s fs (bare r.base t.place.stop)) λ g. bound _ _ (end-numbered s g.stop) λ n. gives _

instr-numbered : (s : List ℕ) (ls : List Name) (r : Row) (t : Token) → Numbered (instr_read s ls r t)
unfolding instr_read known in_table refusals
instr-numbered s ls r t = chosen _ (row-numbered 13 refl s ls r t _) (row-numbered 14 refl s ls r t _)

read-numbered : (s : List ℕ) (ls : List Name) (t : Token) → Numbered (token_read s ls t)
unfolding token_read known in_table refusals
read-numbered s ls t = go (as_directive t.kind) (as_word t.kind)
  where
    row : (x : Option Row) → Numbered {A = Option Read} (elim x [ some r ↦ instr_read s ls r t | none ↦ refuse 16 t.place ])
    row (some r) = instr-numbered s ls r t
    row none = refuses _ refl

    go :
        (x y : Option (List ℕ))
        → Numbered {A = Option Read} (elim x [
          | some d ↦ need (find d directives) 13 t.place (λ r. row_read s ls r t r.fields 14)
          | none ↦ elim y [
            | some w ↦ elim (find w instructions) [ some r ↦ instr_read s ls r t | none ↦ refuse 16 t.place ]
            | none ↦ when is_mark 0 t.kind && eqb (length ls) 0 then ok none else refuse 13 t.place
          ]
        ])
    go (some d) y = needed (find d directives) 13 t.place _ refl λ r. row-numbered 14 refl s ls r t r.fields
    go none (some w) = row (find w instructions)
    go none none = chosen _ (gives _) (refuses _ refl)

statement-numbered : (s : List ℕ) (i : ℕ) → Numbered (next_statement s i)
unfolding next_statement
statement-numbered s i = bound _ _ (token-numbered s (past_lines s (past_labels s i))) λ t. read-numbered s (labels_at s i) t

from-numbered : (k : ℕ) (s : List ℕ) (i : ℕ) → Numbered (statements_from k s i)
unfolding statements_from
from-numbered zero s i = gives _
from-numbered (suc k) s i = bound _ _ (statement-numbered s i) λ m. go m (λ r. from-numbered k s r.next)
  where
    go : (m : Option Read) → ((r : Read) → Numbered (statements_from k s r.next)) → Numbered {A = List Stmt} (elim m [ none ↦ ok [] | some r ↦ statements_from k s r.next >>= λ ss. ok (r.stmt ∷ ss) ])
    go none h = gives _
    go (some r) h = bound _ _ (h r) λ ss. gives _

pub statements-numbered : (s : List ℕ) → Numbered (statements s)
unfolding statements statements_at
statements-numbered s = from-numbered (length s - 0 + 1) s 0
