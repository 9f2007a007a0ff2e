-- Statements one after another, as the loop over them goes. Assumes nothing.
use Rattle.std.specs.declared.result.Result.{Result}
use Rattle.std.specs.declared.result.Result.TheVariants.{Ok, Err}
use Rattle.std.specs.declared.option.Option as O
use Rattle.std.specs.declared.option.Option.TheVariants.{Some, None}
use Rattle.base_refusals.specs.declared.Fault.{Fault}
use Rattle.base_refusals.specs.Refusals.{fault}
use Prim.Native.Nat.{ℕ, ◌+◌, ◌-◌, ◌≤◌, ◌<◌}
use mathlib.Core.Path.{◌≡◌, refl, sym, ◌∙◌, ap}
use mathlib.Core.List.{List, ◌∷◌}
use mathlib.Core.Option.{Option, none, some}
use native.Mathlib.Omega.{arith}
use lib.ListN.{length}
use Rattle.rules.specs.Base.{Outcome, ok, refused, Refusal, refuse, ◌>>=◌, span, nowhere, verdict}
use Rattle.rules.specs.Statements.{Stmt, Read, next_statement, statements_at, statements}
use Rattle.rules.specs.Tokens.{Token, lexed}
use Rattle.rules.proofs.Walk.{whole_long}
use Rattle.lex_source.specs.Lexed.{meant_lexed, unless_high}
use Rattle.lex_source.proofs.WalkSteps as bytes
use Rattle.base_text.specs.Runs.{run_end}
use Rattle.base_text.specs.declared.Class.TheVariants as class
use Rattle.laws.proofs.Read.{read-verdict}
use Rattle.rules.proofs.Following.{statement-goes, statements-on, statements-none, statements-refused}
use Rattle.rules.proofs.Bools.{never}
use Rattle.parse.specs.declared.Statement.{Statement}
use Rattle.parse.specs.Coded.{coded_read, coded_statement, coded_statements, source_statements, AllRead}

-- what the code's answer says of the rules'
pub record WasRead (o : Outcome (Option Read)) (st : Statement) : Type 0 where
  pub read : Read
  pub is : o ≡ ok (some read)
  pub coded : coded_read read ≡ st

pub was_read : (o : Outcome (Option Read)) (st : Statement) → coded_statement o ≡ Ok (Some st) → WasRead o st
unfolding coded_statement
was_read (ok none) st e = never cc
was_read (ok (some x)) st e = record { read = x; is = refl; coded = cc }
was_read (refused r) st e = never cc

pub was-end : (o : Outcome (Option Read)) → coded_statement o ≡ Ok None → o ≡ ok none
unfolding coded_statement
was-end (ok none) e = refl
was-end (ok (some x)) e = never cc
was-end (refused r) e = never cc

pub record WasRefused (o : Outcome (Option Read)) (f : Fault) : Type 0 where
  pub refusal : Refusal
  pub is : o ≡ refused refusal
  pub coded : fault refusal.number refusal.first.start refusal.first.stop ≡ f

pub was-refused : (o : Outcome (Option Read)) (f : Fault) → coded_statement o ≡ Err f → WasRefused o f
unfolding coded_statement
was-refused (ok none) f h = never cc
was-refused (ok (some x)) f h = never cc
was-refused (refused r) f h = record { refusal = r; is = refl; coded = cc }

-- THE LOOP: what is refused from here on is what is refused of the whole
pub record Rest (s : List ℕ) (at : ℕ) : Type 0 where
  pub same : coded_statements (statements_at s at) ≡ coded_statements (statements s)

pub rest-start : (s : List ℕ) → Rest s 0
unfolding statements
rest-start s = record { same = refl }

module _ (s : List ℕ) (at : ℕ) (x : Result (O.Option Statement) Fault) (h : x ≡ coded_statement (next_statement s at)) where
  went : (st : Statement) → x ≡ Ok (Some st) → WasRead (next_statement s at) st
  went st e = was_read (next_statement s at) st (sym h ∙ e)

  goes : (st : Statement) → x ≡ Ok (Some st) → (at < st.next) × (st.next ≤ length s)
  unfolding coded_read
  goes st e =
      let w = went st e in
      let g = statement-goes s at w.read w.is in
      let n : w.read.next ≡ st.next = ap (λ (y : Statement). y.next) w.coded in
      (omega (arith, g.on, n), omega (arith, g.in', n))

  pub rest-less : (st : Statement) → x ≡ Ok (Some st) → length s - st.next < length s - at
  rest-less st e = let g = goes st e in omega (arith, g.0, g.1)

  pub rest-next : (st : Statement) → Rest s at → x ≡ Ok (Some st) → Rest s st.next
  unfolding coded_statements coded_read
  rest-next st r e =
      let w = went st e in
      let n : w.read.next ≡ st.next = ap (λ (y : Statement). y.next) w.coded in
      record { same = kept (statements_at s st.next) w.read.stmt ∙ (ap coded_statements (sym (rw n at (statements-on s at w.read w.is))) ∙ r.same) }
    where
      kept : (o : Outcome (List Stmt)) (t : Stmt) → coded_statements o ≡ coded_statements (o >>= λ ss. ok (t ∷ ss))
      kept (ok ss) t = refl
      kept (refused q) t = refl

  pub rest-none : Rest s at → x ≡ Ok None → Ok tt ≡ coded_statements (statements s)
  unfolding coded_statements
  rest-none r e = sym (ap coded_statements (statements-none s at (was-end (next_statement s at) (sym h ∙ e)))) ∙ r.same

  pub rest-refused : (f : Fault) → Rest s at → x ≡ Err f → Err f ≡ coded_statements (statements s)
  unfolding coded_statements
  rest-refused f r q =
      let w = was-refused (next_statement s at) f (sym h ∙ q) in
      (λ i. Err (sym w.coded i)) ∙ (sym (ap coded_statements (statements-refused s at w.refusal w.is)) ∙ r.same)

-- THE LEXER'S REFUSALS FIRST
module _ (s : List ℕ) (x : Result (Unit {0}) Fault) (h : meant_lexed x ≡ verdict (lexed s)) where
  pub source-clean : (r : Result (Unit {0}) Fault) → x ≡ Ok tt → r ≡ coded_statements (statements s) → r ≡ coded_statements (source_statements s)
  unfolding meant_lexed verdict source_statements coded_statements
  source-clean r e q = go (lexed s) (rw e at h)
    where
      go : (o : Outcome (List Token)) → ok tt ≡ verdict o → r ≡ coded_statements (o >>= λ ts. statements s)
      go (ok ts) w = q
      go (refused y) w = never cc

  pub source-fault : (f : Fault) → x ≡ Err f → Err f ≡ coded_statements (source_statements s)
  unfolding meant_lexed verdict source_statements coded_statements
  source-fault f q = go (lexed s) (rw q at h)
    where
      go : (o : Outcome (List Token)) → refuse f.number (span f.start f.end) ≡ verdict o → Err f ≡ coded_statements (o >>= λ ts. statements s)
      go (ok ts) w = never cc
      go (refused y) w =
          let i : record { number = f.number; first = span f.start f.end; second = nowhere } ≡ y = cc in
          rw (← i)

-- THE STATEMENTS FIRST
all_read : (s : List ℕ) (o : Outcome (List Stmt)) → statements s ≡ o → Ok tt ≡ coded_statements o → AllRead s
unfolding coded_statements
all_read s (ok ss) q e = record { stmts = ss; read = q }
all_read s (refused r) q e = never cc

module _ (s : List ℕ) where
  pub source-read : (x : Result (Unit {0}) Fault) → x ≡ coded_statements (statements s) → x ≡ Ok tt → AllRead s
  source-read x h e = all_read s (statements s) refl (sym e ∙ h)

  pub source-long : 262144 < length s → Err (fault 11 0 (length s)) ≡ coded_statements (source_statements s)
  unfolding meant_lexed
  source-long l = source-fault s (Err (fault 11 0 (length s))) (whole_long s l) (fault 11 0 (length s)) refl

  module _ (l : length s ≤ 262144) (a : AllRead s) (j : ℕ) (f : j ≡ run_end class.Ascii s 0) where
    low-verdict : verdict (lexed s) ≡ unless_high s 0 (ok tt)
    unfolding unless_high
    low-verdict = read-verdict s a.stmts a.read l

    pub bytes_high : j < length s → Err (fault 12 j (j + 1)) ≡ coded_statements (source_statements s)
    bytes_high h = source-fault s (Err (fault 12 j (j + 1))) (bytes.rest-high s 0 (omega arith) f (ok tt) h ∙ sym low-verdict) (fault 12 j (j + 1)) refl

    pub bytes_low : length s ≤ j → Ok tt ≡ coded_statements (source_statements s)
    unfolding meant_lexed coded_statements
    bytes_low h = source-clean s (Ok tt) (bytes.rest-none s 0 (omega arith) f (ok tt) h ∙ sym low-verdict) (Ok tt) refl (sym (ap coded_statements a.read))
