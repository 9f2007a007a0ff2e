-- Pass one's answer after the checks that go before it is that of assembling. Assumes nothing.
use Rattle.base_refusals.specs.declared.Refusal as told
use Rattle.std.specs.declared.result.Result.{Result}
use Rattle.std.specs.declared.result.Result.TheVariants.{Ok, Err}
use Rattle.base_refusals.specs.declared.Fault.{Fault}
use Rattle.base_refusals.specs.Refusals.{fault}
use mathlib.Core.Path.{◌≡◌, refl, sym}
use mathlib.Core.List.{List}
use Prim.Native.Nat.{ℕ, ◌<◌}
use lib.ListN.{length}
use Rattle.rules.specs.Base.{Outcome, ok, refused, Refusal, refuse2, span, ◌>>=◌}
use Rattle.rules.specs.Tokens.{Token, lexed}
use Rattle.rules.specs.Statements.{Stmt, statements}
use Rattle.rules.specs.Objects.{Object}
use Rattle.rules.specs.Passes.{Pass1State, pass1_start, pass_one, assemble}
use Rattle.rules.proofs.Bools.{never}
use Rattle.base_refusals.specs.Refusals.{refusal_at}
use Rattle.laws.proofs.Single.{Single, source-single}
use Rattle.parse.specs.Coded.{coded_statements, source_statements, AllRead}
use Rattle.parse.proofs.All.{source-long}
use Rattle.pass1_state.specs.declared.Pass1State as code
use Rattle.pass1.specs.Steps.{PassedOne}
use Rattle.asm_first_half.specs.Tabled.{Readable, after_check, Tabled}

-- the answer after a check, by what the check says
pub after-accepted : (y : Result (Unit {0}) Fault) (x r : Result code.Pass1State told.Refusal) → y ≡ Ok tt → r ≡ x → r ≡ after_check y x
unfolding after_check
after-accepted y x r e q = rw e q

pub after-refused : (y : Result (Unit {0}) Fault) (x r : Result code.Pass1State told.Refusal) (f : Fault) → y ≡ Err f → r ≡ Err (refusal_at f.number f.start f.end) → r ≡ after_check y x
unfolding after_check
after-refused y x r f h q = rw h q

-- A SOURCE IS READ, OR REFUSED
read-source : (s : List ℕ) (o : Outcome (List Token)) → lexed s ≡ o → (m : Outcome (List Stmt)) → statements s ≡ m → Ok tt ≡ coded_statements (o >>= λ ts. m) → Readable s
unfolding coded_statements
read-source s (ok ts) p (ok ss) q e = record { tokens = ts; clean = p; stmts = ss; read = q }
read-source s (ok ts) p (refused r) q e = never cc
read-source s (refused r) p m q e = never cc

readable : (s : List ℕ) → Ok tt ≡ coded_statements (source_statements s) → Readable s
unfolding source_statements
readable s h = read-source s (lexed s) refl (statements s) refl h

-- a refusal has its number and place, and no second place
known-refusal : (n a e : ℕ) (o : Outcome (List Stmt)) → Single o → Err (fault n a e) ≡ coded_statements o → o ≡ refuse2 n (span a e) (span 0 0)
unfolding coded_statements
known-refusal n a e (ok ss) s h = never cc
known-refusal n a e (refused q) s h =
    let g : fault q.number q.first.start q.first.stop ≡ fault n a e = cc in
    λ v. refused (record { number = (g v).number; first = span (g v).start (g v).end; second = s v })

bind-refused : (o : Outcome (List Token)) (m : Outcome (List Stmt)) (f : List Stmt → Outcome Object) (q : Refusal) → (o >>= λ ts. m) ≡ refused q → (o >>= λ ts. m >>= f) ≡ refused q
bind-refused (ok ts) (ok ss) f q h = never cc
bind-refused (ok ts) (refused r) f q h = let z : r ≡ q = cc in rw z
bind-refused (refused r) m f q h = let z : r ≡ q = cc in rw z

assemble-refused : (room : ℕ) (s : List ℕ) (q : Refusal) → (lexed s >>= λ ts. statements s) ≡ refused q → assemble room s ≡ refused q
unfolding assemble
assemble-refused room s q e = bind-refused (lexed s) (statements s) _ q e

check-refused : (s : List ℕ) (n a e : ℕ) → Err (fault n a e) ≡ coded_statements (source_statements s) → (room : ℕ) → assemble room s ≡ refuse2 n (span a e) (span 0 0)
unfolding source_statements
check-refused s n a e h room = assemble-refused room s _ (known-refusal n a e (lexed s >>= λ ts. statements s) (source-single s) h)

-- PASS ONE
same-went : (x y : code.Pass1State) → ◌≡◌ {A = Result code.Pass1State told.Refusal} (Ok x) (Ok y) → x ≡ y
same-went x y e = cc

tabled-refused : (rs qs s : List ℕ) (n a e : ℕ) → Err (fault n a e) ≡ coded_statements (source_statements s) → Tabled rs qs s (Err (refusal_at n a e))
tabled-refused rs qs s n a e h = record {
  went = λ o q. (never cc);
  stopped = λ f q room. (let x : refusal_at n a e ≡ f = cc in rw (← x) (check-refused s n a e h room));
}

pass-refused : (room : ℕ) (s : List ℕ) (g : Readable s) (q : Refusal) → pass_one g.stmts pass1_start ≡ refused q → assemble room s ≡ refused q
unfolding assemble
pass-refused room s g q e = rw (g.clean, g.read, e)

module _ (rs qs s : List ℕ) (x : Result code.Pass1State told.Refusal) (h : PassedOne rs qs s x) where
  tabled-read : Readable s → Tabled rs qs s x
  tabled-read g = record {
    went = λ o e. record { readable = g; held = h.kept o e; first = sym (rw e at (h.rule g.stmts g.read)) };
    stopped = λ f e room. pass-refused room s g _ (sym (rw e at (h.rule g.stmts g.read)));
  }

  by-check : (y : Result (Unit {0}) Fault) → y ≡ coded_statements (source_statements s) → Tabled rs qs s (after_check y x)
  unfolding after_check
  by-check (Ok u) q = tabled-read (readable s q)
  by-check (Err f) q = tabled-refused rs qs s f.number f.start f.end q

  pub tabled : (y : Result (Unit {0}) Fault) → y ≡ coded_statements (source_statements s) → (r : Result code.Pass1State told.Refusal) → r ≡ after_check y x → Tabled rs qs s r
  tabled y q r e = rw e (by-check y q)

  pub went-read : (o : code.Pass1State) → x ≡ Ok o → AllRead s
  went-read o e = h.read o e

-- 11
pub tabled-long : (rs qs s : List ℕ) → 262144 < length s → (r : Result code.Pass1State told.Refusal) → r ≡ Err (refusal_at 11 0 (length s)) → Tabled rs qs s r
tabled-long rs qs s l r e = rw e (tabled-refused rs qs s 11 0 (length s) (source-long s l))
