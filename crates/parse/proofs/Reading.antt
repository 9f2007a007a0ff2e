-- A statement by its row: the code's reading is the rules'. Assumes nothing.
use Rattle.parse.specs.declared.Statement.{Statement}
use Rattle.std.specs.declared.result.Result.{Result}
use Rattle.std.specs.declared.result.Result.TheVariants.{Ok, Err}
use Rattle.std.specs.declared.option.Option as O
use Rattle.std.specs.declared.option.Option.TheVariants.{Some, None}
use Rattle.base_refusals.specs.declared.Fault.{Fault}
use Rattle.base_refusals.specs.Refusals.{fault}
use Prim.Native.Nat.{ℕ, ◌+◌, ◌<◌}
use mathlib.Core.Path.{◌≡◌, refl, sym, ◌∙◌, ap}
use mathlib.Core.Bool.{Bool, true, false, ◌&&◌, ◌||◌, not}
use mathlib.Core.List.{List, []}
use mathlib.Core.Option.{some}
use native.Mathlib.Decide.{dec_lt}
use native.Mathlib.Omega.{arith}
use borrow.Author.Tests.{eq-eqb, ne_eqb}
use lib.Dec.{eqb}
use lib.ListN.{length, get_or}
use Rattle.rules.specs.Base.{when◌then◌else◌, Outcome, ok, refused, refuse, require, ◌>>=◌, span}
use Rattle.rules.specs.Tokens.{Kind, token_in}
use Rattle.rules.specs.Words.{end, instructions}
use Rattle.rules.specs.Words as words
use Rattle.rules.specs.Statements.{Name, is_mark, ends, token_is, bare, operands_from, line_end, read, stmt, row_read, instr_read}
use Rattle.rules.specs.Statements as rules
use Rattle.rules.proofs.Instructions.{optional-zero}
use Rattle.rules.proofs.Ahead.{is-token, is-refused}
use Rattle.base_text.specs.Runs.{run_end}
use Rattle.base_text.specs.declared.Class.TheVariants as class
use Rattle.lex_token.specs.declared.Lexeme.{Lexeme}
use Rattle.lex_token.specs.Flat.{fault_sort}
use Rattle.lex.specs.Sorts.{kind_by, no_row, Stands, NoFault}
use Rattle.lex.proofs.Marks.{line-sort, end-sort}
use Rattle.lex.proofs.Peek.{stands_from, peek-from, peek}
use Rattle.parse_field.specs.declared.Given.{Given}
use Rattle.parse_rows.specs.declared.Op.{Op}
use Rattle.parse_rows.specs.declared.Op.TheVariants.{Instr, Orig, Fill, Blkw, Stringz, External}
use Rattle.parse_rows.specs.declared.Op.TheVariants as op
use Rattle.parse_rows.specs.declared.Row.{Row}
use Rattle.parse_rows.specs.Rows.{fields_by, op_of, row_at, Means}
use Rattle.parse_rows.proofs.Rule.{instruction-means, nop-zero}
use Rattle.parse_operands.specs.Lines.{coded_given, coded_step, line_step}
use Rattle.parse.specs.Coded.{coded_op, coded_read, coded_statement, unfit_at, made, ended, finished, after, row_step, count_due, code_step, is_bare, other_of}

module _ (t : Lexeme) (r : Result (O.Option Statement) Fault) where
  pub unfit-own : t.sort ≡ fault_sort → r ≡ Err (fault t.value t.start t.end) → r ≡ unfit_at t
  unfolding unfit_at when◌then◌else◌
  unfit-own e h = rw (eq-eqb _ _ e) h

  pub unfit-other : (t.sort ≡ fault_sort → ⊥) → r ≡ Err (fault 13 t.start t.end) → r ≡ unfit_at t
  unfolding unfit_at when◌then◌else◌
  unfit-other e h = rw (ne_eqb _ _ e) h

-- THE LINE'S END
module _ (s : List ℕ) (i : ℕ) (t : Lexeme) (h : Stands s i t) where
  ends-sort : NoFault t → ends (kind_by s t.sort t) ≡ (eqb t.sort 9 || eqb t.sort 10)
  unfolding ends
  ends-sort l = rw (line-sort s t t.sort l, end-sort s t t.sort l)

  end_token : NoFault t → line_end s i ≡ (require (eqb t.sort 9 || eqb t.sort 10) 13 (span t.start t.end) >>= λ x. ok t.end)
  unfolding line_end
  end_token l = rw (h.token l, line_end, ends-sort l)

  pub ends-by-sort : token_is ends s i ≡ (eqb t.sort 9 || eqb t.sort 10)
  ends-by-sort = go (dec_lt t.sort fault_sort)
    where
      go : Dec (NoFault t) → token_is ends s i ≡ (eqb t.sort 9 || eqb t.sort 10)
      go (yes l) = is-token ends s i _ (h.token l) ∙ ends-sort l
      go (no l) = is-refused ends s i _ (h.bad (omega arith)) ∙ sym (rw (ne_eqb t.sort 9 (λ (z : t.sort ≡ 9). omega arith), ne_eqb t.sort 10 (λ (z : t.sort ≡ 10). omega arith)))

-- a line feed, by its byte
pub finish-feed : (s : List ℕ) (b : Bool) (o : Op) (a : ℕ) (g : Given) (p : ℕ) → p ≡ run_end class.Space s g.stop → (c : ℕ) → c ≡ get_or s p 0 → c ≡ 10 → (r : Result (O.Option Statement) Fault) → r ≡ Ok (Some (made b o a g (p + 1))) → r ≡ finished s b o a g
unfolding finished ended line_end ends is_mark
finish-feed s b o a g p e c q x r y =
    let l : line_end s g.stop ≡ ok (p + 1) = rw (peek s g.stop p e 10 (sym x ∙ q) refl, line_end) in
    rw (l, ended) y

-- any other token
module _ (s : List ℕ) (b : Bool) (o : Op) (a : ℕ) (g : Given) (p : ℕ) (f : p ≡ run_end class.Space s g.stop) (t : Lexeme) (r : Result (O.Option Statement) Fault) (k : Stands s p t) where
  h : Stands s g.stop t
  h = stands_from s g.stop p t (peek-from s g.stop p f) k

  pub finish-line : t.sort ≡ 9 → r ≡ Ok (Some (made b o a g t.end)) → r ≡ finished s b o a g
  unfolding finished ended
  finish-line e q =
      let l : line_end s g.stop ≡ ok t.end = end_token s g.stop t h (omega arith) ∙ rw (eq-eqb t.sort 9 e) in
      rw (l, ended) q

  pub finish-end : (t.sort ≡ 9 → ⊥) → t.sort ≡ 10 → r ≡ Ok (Some (made b o a g t.end)) → r ≡ finished s b o a g
  unfolding finished ended
  finish-end n e q =
      let l : line_end s g.stop ≡ ok t.end = end_token s g.stop t h (omega arith) ∙ rw (ne_eqb t.sort 9 n, eq-eqb t.sort 10 e) in
      rw (l, ended) q

  pub finish-no : (t.sort ≡ 9 → ⊥) → (t.sort ≡ 10 → ⊥) → r ≡ unfit_at t → r ≡ finished s b o a g
  unfolding finished ended unfit_at when◌then◌else◌ line_end
  finish-no n m q = go (dec_lt t.sort fault_sort)
    where
      go : Dec (NoFault t) → r ≡ finished s b o a g
      go (yes x) =
          let l : line_end s g.stop ≡ refuse 13 (span t.start t.end) = end_token s g.stop t h x ∙ rw (ne_eqb t.sort 9 n, ne_eqb t.sort 10 m) in
          rw (l, ended) (rw (ne_eqb t.sort fault_sort (λ (z : t.sort ≡ fault_sort). omega arith)) at q)
      go (no x) =
          let z : t.sort ≡ fault_sort = omega (arith, h.known) in
          let l : line_end s g.stop ≡ refuse t.value (span t.start t.end) = rw (h.bad (omega arith), line_end) in
          rw (l, ended) (rw (eq-eqb t.sort fault_sort z) at q)

-- A ROW
module _ (s : List ℕ) (b : Bool) (o : Op) (fs : List words.Field) (other w a e : ℕ) (x : Result Given Fault) (h : x ≡ line_step s fs other w e) (r : Result (O.Option Statement) Fault) where
  pub row-took : (g : Given) → x ≡ Ok g → r ≡ finished s b o a g → r ≡ row_step s b o fs other w a e
  unfolding row_step after
  row-took g p q = let z : line_step s fs other w e ≡ Ok g = sym h ∙ p in rw (z, after) q

  pub row-refused : (f : Fault) → x ≡ Err f → r ≡ Err f → r ≡ row_step s b o fs other w a e
  unfolding row_step after
  row-refused f p q = let z : line_step s fs other w e ≡ Err f = sym h ∙ p in rw (z, after) q

op-back : (o : Op) (p : words.Op) → op_of o ≡ p → o ≡ coded_op p
op-back o p e = go o ∙ ap coded_op e
  where
    go : (o : Op) → o ≡ coded_op (op_of o)
    go Instr = refl
    go Orig = refl
    go Fill = refl
    go Blkw = refl
    go Stringz = refl
    go op.End = refl
    go External = refl

module _ (s : List ℕ) (ls : List Name) (b : Bool) (l : b ≡ not (eqb (length ls) 0)) (k : Kind) (c : Row) (r : words.Row) (m : Means c r) (fs : List words.Field) (other a e : ℕ) where
  pub row-coded : row_step s b c.op fs other c.base a e ≡ coded_statement (row_read s ls r (token_in k (span a e)) fs other)
  unfolding row_step line_step row_read after coded_step coded_statement finished ended coded_given coded_read
  row-coded = rw (l, op-back c.op r.op m.op, m.base) (by-given (operands_from s fs other (bare r.base e)))
    where
      by_end : (g : rules.Given) (x : Outcome ℕ) → ended (not (eqb (length ls) 0)) (coded_op r.op) a (coded_given g) x ≡ coded_statement (x >>= λ n. ok (some (read (stmt ls r.op g a) n)))
      by_end g (ok n) = refl
      by_end g (refused x) = refl

      by-given : (x : Outcome rules.Given) → after s (not (eqb (length ls) 0)) (coded_op r.op) a (coded_step x) ≡ coded_statement (x >>= λ g. line_end s g.stop >>= λ n. ok (some (read (stmt ls r.op g a) n)))
      by-given (ok g) = by_end g (line_end s g.stop)
      by-given (refused x) = refl

-- THE ROW AT A PLACE OF THE TABLE
module _ (s : List ℕ) (b : Bool) (code : ℕ) (bare : Bool) (other a e : ℕ) (c : Row) (p : c ≡ row_at code) (n : ℕ) (q : n ≡ count_due c.count bare) (x : Result Given Fault) (h : x ≡ line_step s (fields_by n c.first c.second c.third) other c.base e) (r : Result (O.Option Statement) Fault) where
  is-step : row_step s b c.op (fields_by n c.first c.second c.third) other c.base a e ≡ code_step s b code bare other a e
  unfolding code_step
  is-step = rw (← p, q)

  pub code-took : (g : Given) → x ≡ Ok g → r ≡ finished s b c.op a g → r ≡ code_step s b code bare other a e
  code-took g y z = row-took s b c.op (fields_by n c.first c.second c.third) other c.base a e x h r g y z ∙ is-step

  pub code-refused : (f : Fault) → x ≡ Err f → r ≡ Err f → r ≡ code_step s b code bare other a e
  code-refused f y z = row-refused s b c.op (fields_by n c.first c.second c.third) other c.base a e x h r f y z ∙ is-step

module _ (s : List ℕ) (ls : List Name) (b : Bool) (l : b ≡ not (eqb (length ls) 0)) (k : Kind) (code : ℕ) (r : words.Row) (m : Means (row_at code) r) (other a e : ℕ) where
  pub code-coded : (bare : Bool) → code_step s b code bare other a e ≡ coded_statement (row_read s ls r (token_in k (span a e)) (when bare then [] else r.fields) other)
  unfolding code_step count_due when◌then◌else◌
  code-coded true = row-coded s ls b l k (row_at code) r m [] other a e
  code-coded false = rw m.fields (row-coded s ls b l k (row_at code) r m r.fields other a e)

-- NOP
module _ (s : List ℕ) (code i : ℕ) where
  pub bare-nop : (t : Lexeme) → Stands s i t → code ≡ 22 → (eqb t.sort 9 || eqb t.sort 10) ≡ is_bare s code i
  unfolding is_bare
  bare-nop t h e = rw (eq-eqb code 22 e) (sym (ends-by-sort s i t h))

  pub bare-other : (code ≡ 22 → ⊥) → false ≡ is_bare s code i
  unfolding is_bare
  bare-other n = rw (ne_eqb code 22 n)

module _ (code : ℕ) where
  pub other-nop : code ≡ 22 → 13 ≡ other_of code
  unfolding other_of when◌then◌else◌
  other-nop e = rw (eq-eqb code 22 e)

  pub other-any : (code ≡ 22 → ⊥) → 14 ≡ other_of code
  unfolding other_of when◌then◌else◌
  other-any n = rw (ne_eqb code 22 n)

-- the rules' reading of an instruction is that of its row
pub instr-row : (s : List ℕ) (ls : List Name) (code : ℕ) → code < 32 → (k : Kind) (a e : ℕ) → instr_read s ls (get_or instructions code no_row) (token_in k (span a e)) ≡ row_read s ls (get_or instructions code no_row) (token_in k (span a e)) (when is_bare s code e then [] else (get_or instructions code no_row).fields) (other_of code)
unfolding instr_read is_bare other_of when◌then◌else◌
instr-row s ls code l k a e = rw nop (go (eqb code 22))
  where
    nop : (get_or instructions code no_row).optional ≡ eqb code 22
    nop = optional-zero code no_row l ∙ (ap (λ (x : ℕ). eqb x 0) (sym (instruction-means code l).base) ∙ nop-zero code l)

    go : (x : Bool) → (when x then row_read s ls (get_or instructions code no_row) (token_in k (span a e)) (when token_is ends s e then [] else (get_or instructions code no_row).fields) 13 else row_read s ls (get_or instructions code no_row) (token_in k (span a e)) (get_or instructions code no_row).fields 14) ≡ row_read s ls (get_or instructions code no_row) (token_in k (span a e)) (when x && token_is ends s e then [] else (get_or instructions code no_row).fields) (when x then 13 else 14)
    go true = refl
    go false = refl
