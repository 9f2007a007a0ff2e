-- The lexer's refusals and those of statements have one place. Assumes nothing.
use mathlib.Core.Path.{◌≡◌, refl}
use mathlib.Core.Bool.{Bool, true, false, ◌&&◌}
use mathlib.Core.List.{List, [], ◌∷◌}
use mathlib.Core.Option.{Option, none, some}
use Prim.Native.Nat.{ℕ, zero, suc, ◌+◌, ◌-◌, ◌*◌}
use lib.Dec.{eqb, leb, ltb}
use lib.ListN.{length}
use Rattle.rules.specs.Base.{when◌then◌else◌, Outcome, ok, refused, refuse, require, ◌>>=◌, ◌>>◌, Span, span, nowhere}
use Rattle.rules.specs.Capacities.{source_room}
use Rattle.rules.specs.Tokens.{Num, Found, token, blank, bad, Token, kept, token_at, tokens_from, tokens, ascii, lexed, next_token, blame}
use Rattle.rules.specs.Words.{Range, signed, Field, reg, reg_or_imm, num, near, name, string, Row, find, instructions, directives}
use Rattle.rules.specs.Statements.{Name, Piece, bits, target, chars, Given, bare, as_register, as_number, as_label, as_text, as_word, as_directive, is_mark, fit, in_range, reduced, named, need, operand, ends, token_is, operand_at, comma_at, more_from, operands_from, line_end, Read, Stmt, stmt, row_read, instr_read, token_read, past_lines, past_labels, labels_at, next_statement, statements_from, statements_at, statements}
use Rattle.rules.proofs.Next.{next-induction}

abbrev pub Single : {A : Type 0} → Outcome A → Type 0
Single (ok a) = Unit {0}
Single (refused r) = r.second ≡ nowhere

single-bind : {A B : Type 0} (o : Outcome A) (f : A → Outcome B) → Single o → ((a : A) → Single (f a)) → Single (o >>= f)
single-bind (ok a) f s h = h a
single-bind (refused r) f s h = s

single-if : {A : Type 0} (b : Bool) (x y : Outcome A) → Single x → Single y → Single (when b then x else y)
unfolding when◌then◌else◌
single-if true x y h k = h
single-if false x y h k = k

single-require : (b : Bool) (n : ℕ) (p : Span) → Single (require b n p)
single-require true n p = tt
single-require false n p = refl

-- TOKENS
token-single : (s : List ℕ) (i : ℕ) → Single (next_token s i)
token-single s = next-induction s (λ i o. Single o) (λ i h. tt) (λ i n k h e l u w. tt) (λ i n m h e l u. refl) (λ i n h e l u q. q)

kept-single : (f : Found) (p q : Span) → Single (kept f p q)
unfolding kept
kept-single (token k) p q = tt
kept-single blank p q = tt
kept-single (bad n) p q = refl

tokens-single : (k i : ℕ) (s : List ℕ) → Single (tokens_from k i s)
unfolding tokens_from
tokens-single k i [] = tt
tokens-single (suc k) i (c ∷ s) = tokens-single k (i + 1) s
tokens-single zero i (c ∷ s) = single-bind (kept (token_at c s).found (span i (i + (token_at c s).size)) (blame i (token_at c s))) _ (kept-single (token_at c s).found (span i (i + (token_at c s).size)) (blame i (token_at c s))) (λ t. single-bind (tokens_from ((token_at c s).size - 1) (i + 1) s) _ (tokens-single ((token_at c s).size - 1) (i + 1) s) (λ ts. tt))

ascii-single : (i : ℕ) (s : List ℕ) → Single (ascii i s)
unfolding ascii
ascii-single i [] = tt
ascii-single i (c ∷ s) = single-bind (require (ltb c 128) 12 (span i (i + 1))) _ (single-require (ltb c 128) 12 (span i (i + 1))) (λ x. ascii-single (i + 1) s)

lexed-single : (s : List ℕ) → Single (lexed s)
unfolding lexed tokens
lexed-single s = single-bind (require (leb (length s) source_room) 11 (span 0 (length s))) _ (single-require (leb (length s) source_room) 11 (span 0 (length s))) (λ x. single-bind (ascii 0 s) _ (ascii-single 0 s) (λ y. tokens-single 0 0 s))

-- STATEMENTS
need-single : {A B : Type 0} (o : Option A) (n : ℕ) (p : Span) (f : A → Outcome B) → ((a : A) → Single (f a)) → Single (need o n p f)
unfolding need
need-single none n p f h = refl
need-single (some a) n p f h = h a

fit-single : (r : Range) (n : Num) (p : Span) → Single (fit r n p)
unfolding fit
fit-single r n p = single-if (in_range r n) (ok (reduced r n)) (refuse 15 p) tt refl

named-single : (t : List ℕ) (p : Span) → Single (named t p)
unfolding named
named-single t p = single-if (leb (length t) 64) (ok (record { text = t; place = p })) (refuse 16 p) tt refl

label-single : (r : Range) (t : Token) (w : List ℕ) → Single (named w t.place >>= λ l. ok (target (record { field = r; name = l })))
label-single r t w = single-bind (named w t.place) _ (named-single w t.place) (λ l. tt)

operand-single : (f : Field) (other : ℕ) (t : Token) → Single (operand f other t)
unfolding operand
operand-single (reg m) other t = need-single (as_register t.kind) other t.place (λ r. ok (bits (r * m))) (λ r. tt)
operand-single (num r) other t = need-single (as_number t.kind) other t.place (λ n. fit r n t.place >>= λ b. ok (bits b)) (λ n. single-bind (fit r n t.place) _ (fit-single r n t.place) (λ b. tt))
operand-single reg_or_imm other t = go (as_register t.kind)
  where
    go : (o : Option ℕ) → Single {A = Piece} (elim o as (λ x. Outcome Piece) [ some r ↦ ok (bits r) | none ↦ need (as_number t.kind) other t.place (λ n. fit (signed 5) n t.place >>= λ b. ok (bits (32 + b))) ])
    go (some r) = tt
    go none = need-single (as_number t.kind) other t.place (λ n. fit (signed 5) n t.place >>= λ b. ok (bits (32 + b))) (λ n. single-bind (fit (signed 5) n t.place) _ (fit-single (signed 5) n t.place) (λ b. tt))
operand-single (near r) other t = go (as_number t.kind)
  where
    go : (o : Option Num) → Single {A = Piece} (elim o as (λ x. Outcome Piece) [ some n ↦ fit r n t.place >>= (λ b. ok (bits b)) | none ↦ need (as_label t.kind) other t.place (λ w. named w t.place >>= λ l. ok (target (record { field = r; name = l }))) ])
    go (some n) = single-bind (fit r n t.place) _ (fit-single r n t.place) (λ b. tt)
    go none = need-single (as_label t.kind) other t.place (λ w. named w t.place >>= λ l. ok (target (record { field = r; name = l }))) (λ w. label-single r t w)
operand-single (name r) other t = need-single (as_label t.kind) other t.place (λ w. named w t.place >>= λ l. ok (target (record { field = r; name = l }))) (λ w. label-single r t w)
operand-single string other t = need-single (as_text t.kind) other t.place (λ s. ok (chars s t.place)) (λ s. tt)

module _ (s : List ℕ) where
  at-single : (f : Field) (other : ℕ) (g : Given) (i : ℕ) → Single (operand_at s f other g i)
  unfolding operand_at
  at-single f other g i = single-bind (next_token s i) _ (token-single s i) (λ t. single-bind (operand f other t) _ (operand-single f other t) (λ p. tt))

  comma-single : (i : ℕ) → Single (comma_at s i)
  unfolding comma_at
  comma-single i = single-bind (next_token s i) _ (token-single s i) (λ t. single-bind (require (is_mark 44 t.kind) 13 t.place) _ (single-require (is_mark 44 t.kind) 13 t.place) (λ x. tt))

  more-single : (fs : List Field) (other : ℕ) (g : Given) → Single (more_from s fs other g)
  unfolding more_from
  more-single [] other g = tt
  more-single (f ∷ fs) other g = single-bind (comma_at s g.stop) _ (comma-single g.stop) (λ j. single-bind (operand_at s f other g j) _ (at-single f other g j) (λ h. more-single fs other h))

  operands-single : (fs : List Field) (other : ℕ) (g : Given) → Single (operands_from s fs other g)
  unfolding operands_from
  operands-single [] other g = tt
  operands-single (f ∷ fs) other g = single-bind (operand_at s f other g g.stop) _ (at-single f other g g.stop) (λ h. more-single fs other h)

  line-single : (i : ℕ) → Single (line_end s i)
  unfolding line_end
  line-single i = single-bind (next_token s i) _ (token-single s i) (λ t. single-bind (require (ends t.kind) 13 t.place) _ (single-require (ends t.kind) 13 t.place) (λ x. tt))

  row-single : (ls : List Name) (r : Row) (t : Token) (fs : List Field) (other : ℕ) → Single (row_read s ls r t fs other)
  unfolding row_read
  row-single ls r t fs other = single-bind (operands_from s fs other (bare r.base t.place.stop)) _ (operands-single fs other (bare r.base t.place.stop)) (λ g. single-bind (line_end s g.stop) _ (line-single g.stop) (λ n. tt))

  instr-single : (ls : List Name) (r : Row) (t : Token) → Single (instr_read s ls r t)
  unfolding instr_read
  instr-single ls r t = single-if r.optional _ _ (row-single ls r t (when token_is ends s t.place.stop then [] else r.fields) 13) (row-single ls r t r.fields 14)

  read-single : (ls : List Name) (t : Token) → Single (token_read s ls t)
  unfolding token_read
  read-single ls t = by-dot (as_directive t.kind)
    where
      by-find : (o : Option Row) → Single {A = Option Read} (elim o as (λ x. Outcome (Option Read)) [ some r ↦ instr_read s ls r t | none ↦ refuse 16 t.place ])
      by-find (some r) = instr-single ls r t
      by-find none = refl

      by_word : (o : Option (List ℕ)) → Single {A = Option Read} (elim o as (λ x. Outcome (Option Read)) [
        | some w ↦ elim (find w instructions) [ some r ↦ instr_read s ls r t | none ↦ refuse 16 t.place ]
        | none ↦ when is_mark 0 t.kind && eqb (length ls) 0 then ok none else refuse 13 t.place
      ])
      by_word (some w) = by-find (find w instructions)
      by_word none = single-if (is_mark 0 t.kind && eqb (length ls) 0) (ok none) (refuse 13 t.place) tt refl

      by-dot : (o : Option (List ℕ)) → Single {A = Option Read} (elim o as (λ x. Outcome (Option Read)) [
        | some d ↦ need (find d directives) 13 t.place (λ r. row_read s ls r t r.fields 14)
        | none ↦ elim (as_word t.kind) [
          | some w ↦ elim (find w instructions) [ some r ↦ instr_read s ls r t | none ↦ refuse 16 t.place ]
          | none ↦ when is_mark 0 t.kind && eqb (length ls) 0 then ok none else refuse 13 t.place
        ]
      ])
      by-dot (some d) = need-single (find d directives) 13 t.place (λ r. row_read s ls r t r.fields 14) (λ r. row-single ls r t r.fields 14)
      by-dot none = by_word (as_word t.kind)

  next-single : (i : ℕ) → Single (next_statement s i)
  unfolding next_statement
  next-single i = single-bind (next_token s (past_lines s (past_labels s i))) _ (token-single s (past_lines s (past_labels s i))) (λ t. read-single (labels_at s i) t)

  from-single : (k i : ℕ) → Single (statements_from k s i)
  unfolding statements_from
  from-single zero i = tt
  from-single (suc k) i = single-bind (next_statement s i) _ (next-single i) (λ m. go m (λ j. from-single k j))
    where
      go : (m : Option Read) → ((j : ℕ) → Single (statements_from k s j)) → Single {A = List Stmt} (elim m as (λ x. Outcome (List Stmt)) [ none ↦ ok [] | some r ↦ statements_from k s r.next >>= λ ss. ok (r.stmt ∷ ss) ])
      go none ih = tt
      go (some r) ih = single-bind (statements_from k s r.next) _ (ih r.next) (λ ss. tt)

  pub statements-single : Single (statements s)
  unfolding statements statements_at
  statements-single = from-single (length s - 0 + 1) 0

pub source-single : (s : List ℕ) → Single (lexed s >>= λ ts. statements s)
source-single s = single-bind (lexed s) _ (lexed-single s) (λ ts. statements-single s)
