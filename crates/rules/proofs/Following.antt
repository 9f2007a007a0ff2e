-- Statements one after another: each goes on from its place and none past the source, so that the count of them shows nowhere. Assumes nothing.
use Prim.Native.Nat.{ℕ, zero, suc, ◌+◌, ◌-◌, ◌≤◌, ◌<◌}
use mathlib.Core.Path.{◌≡◌, refl, sym, ◌∙◌, ap}
use mathlib.Core.Bool.{false}
use mathlib.Core.List.{List, [], ◌∷◌}
use mathlib.Core.Option.{Option, none, some}
use native.Mathlib.Omega.{arith}
use lib.ListN.{length}
use Rattle.rules.specs.Base.{Outcome, ok, refused, Refusal, ◌>>=◌}
use Rattle.rules.specs.Tokens.{Token, Kind, number, register, mark, word, directive, text, next_token}
use Rattle.rules.specs.Words.{Field, Row}
use Rattle.rules.specs.Statements.{Name, Stmt, is_mark, as_word, as_directive, past_lines, labels_at, past_labels, Read, stmt, token_read, next_statement, statements_from, statements_at, GoesOn}
use Rattle.rules.specs.Passes.{Pass1State, step_one, pass_one}
use Rattle.rules.proofs.Ahead.{token-ends, lines-ge, labels-ge}
use Rattle.rules.proofs.Bools.{never}
use Rattle.rules.proofs.Gave.{gave}
use Rattle.rules.proofs.Inverted.{Headed, whole, alone, directed, inverted}
use Rattle.rules.proofs.Along.{row-along}

-- at j, not before i, inside n
pub record Moved (n i j : ℕ) : Type 0 where
  pub on : i ≤ j
  pub in' : j ≤ n

module _ (s : List ℕ) where
  -- to j from an i inside
  abbrev Goes : ℕ → ℕ → Type 0
  Goes i j = i ≤ length s → Moved (length s) i j

  on : (i j k : ℕ) → Goes i j → Goes j k → Goes i k
  on i j k a b l = let p = a l in let q = b p.in' in record { on = omega (arith, p.on, q.on); in' = q.in' }

  token-moves : (i : ℕ) (t : Token) → next_token s i ≡ ok t → Goes i t.place.stop
  token-moves i t e l = let u = token-ends s i t e in record { on = u.least; in' = u.inside l }

  -- what begins a statement is no end of the source
  pub record Begun (t : Token) (x : Read) : Type 0 where
    pub real : is_mark 0 t.kind ≡ false
    pub moved : Goes t.place.stop x.next

  -- a token by what it is to a statement
  kind-real : (k : Kind) (w : List ℕ) → as_word k ≡ some w → is_mark 0 k ≡ false
  unfolding as_word is_mark
  kind-real (number n) w e = refl
  kind-real (register n) w e = refl
  kind-real (mark c) w e = never cc
  kind-real (word t) w e = refl
  kind-real (directive t) w e = refl
  kind-real (text t) w e = refl

  kind-dot : (k : Kind) (w : List ℕ) → as_directive k ≡ some w → is_mark 0 k ≡ false
  unfolding as_directive is_mark
  kind-dot (number n) w e = refl
  kind-dot (register n) w e = refl
  kind-dot (mark c) w e = never cc
  kind-dot (word t) w e = refl
  kind-dot (directive t) w e = refl
  kind-dot (text t) w e = refl

  token-begun : (ls : List Name) (t : Token) (x : Read) → token_read s ls t ≡ ok (some x) → Begun t x
  token-begun ls t x e =
      let r = inverted s ls t (some x) e in
      record { real = go r.row r.fields r.headed; moved = row-along s Goes (λ i l. record { on = omega arith; in' = l }) on token-moves ls t x r }
    where
      go : (r : Row) (fs : List Field) → Headed s ls t r fs → is_mark 0 t.kind ≡ false
      go r fs (whole w a f q) = kind-real t.kind w a
      go r fs (alone w a f q) = kind-real t.kind w a
      go r fs (directed d a f q) = kind-dot t.kind d a

  -- A STATEMENT GOES ON, AND NOT PAST THE SOURCE
  pub statement-goes : (i : ℕ) (x : Read) → next_statement s i ≡ ok (some x) → GoesOn s i x
  unfolding next_statement
  statement-goes i x e =
      let j : ℕ = past_lines s (past_labels s i) in
      let u = gave (next_token s (past_lines s (past_labels s i))) _ (some x) e in
      let b = token-begun (labels_at s i) u.given' x u.then' in
      let t = token-ends s (past_lines s (past_labels s i)) u.given' u.first in
      let m = b.moved (t.most b.real) in
      record { on = omega (arith, labels-ge s i, lines-ge s (past_labels s i), t.more b.real, m.on); in' = m.in' }

  -- one statement more
  abbrev Then : Option Read → (ℕ → Outcome (List Stmt)) → Outcome (List Stmt)
  Then none f = ok []
  Then (some x) f = f x.next >>= λ ss. ok (x.stmt ∷ ss)

  from_step : (k i : ℕ) → statements_from (suc k) s i ≡ (next_statement s i >>= λ m. Then m (statements_from k s))
  unfolding statements_from
  from_step k i = ap (λ (f : Option Read → Outcome (List Stmt)). next_statement s i >>= f) (λ j m. same m j)
    where
      same : (m : Option Read) → ◌≡◌ {A = Outcome (List Stmt)} (elim m [ none ↦ ok [] | some r ↦ statements_from k s r.next >>= λ ss. ok (r.stmt ∷ ss) ]) (Then m (statements_from k s))
      same none = refl
      same (some r) = refl

  -- whatever count is large enough
  same_count : (k l i : ℕ) → length s - i < k → length s - i < l → statements_from k s i ≡ statements_from l s i
  same_count zero l i a c = absurd (omega arith)
  same_count (suc k) zero i a c = absurd (omega arith)
  same_count (suc k) (suc l) i a c = from_step k i ∙ (go (next_statement s i) refl (same_count k l) ∙ sym (from_step l i))
    where
      go : (o : Outcome (Option Read)) → next_statement s i ≡ o → ((j : ℕ) → length s - j < k → length s - j < l → statements_from k s j ≡ statements_from l s j) → (o >>= λ m. Then m (statements_from k s)) ≡ (o >>= λ m. Then m (statements_from l s))
      go (ok none) q r = refl
      go (ok (some x)) q r = let u = statement-goes i x q in ap (λ (y : Outcome (List Stmt)). y >>= λ ss. ok (x.stmt ∷ ss)) (r x.next (omega (arith, u.on, u.in')) (omega (arith, u.on, u.in')))
      go (refused x) q r = refl

  pub statements-on : (i : ℕ) (x : Read) → next_statement s i ≡ ok (some x) → statements_at s i ≡ (statements_at s x.next >>= λ ss. ok (x.stmt ∷ ss))
  unfolding statements_at
  statements-on i x e =
      let u = statement-goes i x e in
      let z : length s - i + 1 ≡ suc (length s - i) = omega arith in
      rw z (from_step (length s - i) i ∙ (rw e (ap (λ (y : Outcome (List Stmt)). y >>= λ ss. ok (x.stmt ∷ ss)) (same_count (length s - i) (length s - x.next + 1) x.next (omega (arith, u.on, u.in')) (omega arith)))))

  pub statements-none : (i : ℕ) → next_statement s i ≡ ok none → statements_at s i ≡ ok []
  unfolding statements_at
  statements-none i e = let z : length s - i + 1 ≡ suc (length s - i) = omega arith in rw z (from_step (length s - i) i ∙ rw e)

  pub statements-refused : (i : ℕ) (r : Refusal) → next_statement s i ≡ refused r → statements_at s i ≡ refused r
  unfolding statements_at
  statements-refused i r e = let z : length s - i + 1 ≡ suc (length s - i) = omega arith in rw z (from_step (length s - i) i ∙ rw e)

-- PASS ONE, statement after statement
pub pass_one-step : (s : Stmt) (ss : List Stmt) (o : Pass1State) → pass_one (s ∷ ss) o ≡ (step_one s o >>= pass_one ss)
unfolding pass_one
pass_one-step s ss o = refl
