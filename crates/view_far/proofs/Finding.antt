-- Statement after statement with its address, as the loop over them goes. Assumes nothing.
use Rattle.std.specs.declared.result.Result.{Result}
use Rattle.std.specs.declared.result.Result.TheVariants.{Ok, Err}
use Rattle.std.specs.declared.option.Option as O
use Rattle.std.specs.declared.option.Option.TheVariants.{Some, None}
use Rattle.base_refusals.specs.declared.Fault.{Fault}
use Rattle.base_refusals.specs.Refusals.{fault}
use Prim.Native.Nat.{ℕ, ◌+◌, ◌%◌, ◌≤◌, ◌<◌}
use mathlib.Core.Path.{◌≡◌, refl, sym, ◌∙◌, ap}
use mathlib.Core.Bool.{Bool, true, false}
use mathlib.Core.List.{List, [], ◌∷◌}
use mathlib.Core.Option.{Option, none, some}
use native.Mathlib.Decide.{dec_le}
use native.Mathlib.Omega.{arith}
use lib.ListN.{length}
use Rattle.rules.specs.Base.{when◌then◌else◌, Outcome, ok, refused}
use Rattle.rules.specs.Tokens.{lexed}
use Rattle.rules.specs.Statements.{Stmt, next_statement, statements_at, statements}
use Rattle.rules.specs.Passes.{word_len}
use Rattle.rules.proofs.Gave.{gave}
use Rattle.rules.proofs.Following.{statements-on, statements-none, statements-refused}
use Rattle.rules.proofs.Bools.{never}
use Rattle.parse.specs.declared.Statement.{Statement}
use Rattle.parse.specs.Coded.{coded_read, coded_statement, coded_statements, source_statements}
use Rattle.parse.proofs.All.{WasRead, was_read, was-end, was-refused, source-long}
use Rattle.parse_meaning.specs.Reading.{meant_op, Faithful}
use Rattle.parse_meaning.proofs.Read.{faithful}
use Rattle.view_far.specs.Far.{is_orig, address_after, Placed, placed, first_with, where_is}
use Rattle.view_far.specs.Seeking.{Pointed, Tells}

-- THE ADDRESS BEHIND A STATEMENT
module _ (src : List ℕ) (st : Statement) (a : ℕ) {b : Bool} (q : b ≡ is_orig (meant_op st.op)) where
  pub after-orig : b ≡ true → (at : ℕ) (s : Stmt) → Faithful src at st s → st.bits ≡ address_after s a
  unfolding address_after when◌then◌else◌
  after-orig h at s f = rw (f.op, ← q, h) (sym f.bits)

  pub after-words : {n : ℕ} → b ≡ false → ((at : ℕ) (s : Stmt) → Faithful src at st s → n ≡ word_len s.op s) → (at : ℕ) (s : Stmt) → Faithful src at st s → (a + n) % 65536 ≡ address_after s a
  unfolding address_after when◌then◌else◌
  after-words h k at s f =
      let z : is_orig s.op ≡ false = ap is_orig f.op ∙ (sym q ∙ h) in
      rw (z, ← k at s f) refl

-- WHAT AN ANSWER TELLS
tells_at : (s : List ℕ) (o : Option Placed) (st : Statement) (a : ℕ) → Pointed s o st a → Tells s o (Some (st, a))
tells_at s o st a p = record {
  there = λ st' a' q. (
      let z : ◌≡◌ {A = Statement × ℕ} (st, a) (st', a') = cc in
      let x : st ≡ st' = λ i. (z i).0 in
      let y : a ≡ a' = λ i. (z i).1 in
      rw (← x, ← y) p);
  nowhere = λ q. (never cc);
}

tells-nothing : (s : List ℕ) (o : Option Placed) → o ≡ none → Tells s o None
tells-nothing s o e = record { there = λ st a q. (never cc); nowhere = λ q. e }

-- THE LOOP: what is found among the statements from here on is what is found among all
pub record Left (s : List ℕ) (p : Stmt → Bool) (at a : ℕ) (ss : List Stmt) : Type 0 where
  pub rest : List Stmt
  pub is : statements_at s at ≡ ok rest
  pub same : first_with p a rest ≡ first_with p 0 ss

pub record Going (s : List ℕ) (p : Stmt → Bool) (at a : ℕ) : Type 0 where
  pub small : a < 65536
  pub left : (ss : List Stmt) → statements s ≡ ok ss → Left s p at a ss

pub going_start : (s : List ℕ) (p : Stmt → Bool) → Going s p 0 0
unfolding statements
going_start s p = record { small = omega arith; left = λ ss e. record { rest = ss; is = e; same = refl } }

module _ (s : List ℕ) (p : Stmt → Bool) (at a : ℕ) (g : Going s p at a) (x : Result (O.Option Statement) Fault) (h : x ≡ coded_statement (next_statement s at)) where
  pub going_end : x ≡ Ok None → (ss : List Stmt) → statements s ≡ ok ss → Tells s (first_with p 0 ss) None
  unfolding first_with
  going_end q ss y =
      let l = g.left ss y in
      let m : ok [] ≡ ok l.rest = sym (statements-none s at (was-end (next_statement s at) (sym h ∙ q))) ∙ l.is in
      let n : ◌≡◌ {A = List Stmt} [] l.rest = cc in
      tells-nothing s (first_with p 0 ss) (sym l.same ∙ sym (ap (first_with p a) n))

  pub going-stop : (f : Fault) → x ≡ Err f → (ss : List Stmt) → statements s ≡ ok ss → Tells s (first_with p 0 ss) None
  going-stop f q ss y =
      let l = g.left ss y in
      let w = was-refused (next_statement s at) f (sym h ∙ q) in
      let m : ok l.rest ≡ refused w.refusal = sym l.is ∙ statements-refused s at w.refusal w.is in
      never cc

  module _ (st : Statement) (q : x ≡ Ok (Some st)) where
    it : WasRead (next_statement s at) st
    it = was_read (next_statement s at) st (sym h ∙ q)

    abbrev stmt : Stmt
    stmt = it.read.stmt

    nexts : it.read.next ≡ st.next
    unfolding coded_read
    nexts = ap (λ (y : Statement). y.next) it.coded

    true-to : Faithful s at st stmt
    true-to = faithful s at it.read st it.is it.coded

    pub going-bits : st.bits < 65536
    going-bits = omega (arith, true-to.low)

    -- what is left with it
    record After (ss : List Stmt) : Type 0 where
      rest : List Stmt
      is : statements_at s st.next ≡ ok rest
      same : first_with p a (stmt ∷ rest) ≡ first_with p 0 ss

    after : (ss : List Stmt) → statements s ≡ ok ss → After ss
    after ss y =
        let l = g.left ss y in
        let w = gave (statements_at s it.read.next) (λ ts. ok (stmt ∷ ts)) l.rest (sym (statements-on s at it.read it.is) ∙ l.is) in
        let m : stmt ∷ w.given' ≡ l.rest = cc w.then' in
        record { rest = w.given'; is = ap (statements_at s) (sym nexts) ∙ w.first; same = ap (first_with p a) m ∙ l.same }

    module _ {b : Bool} (k : (t : Stmt) → Faithful s at st t → b ≡ p t) where
      here : b ≡ p stmt
      here = k stmt true-to

      pub going-found : b ≡ true → (ss : List Stmt) → statements s ≡ ok ss → Tells s (first_with p 0 ss) (Some (st, a))
      unfolding first_with
      going-found z ss y =
          let w = after ss y in
          let e : p stmt ≡ true = sym here ∙ z in
          let u : first_with p a (stmt ∷ w.rest) ≡ some (placed stmt a) = rw (e, first_with) refl in
          tells_at s (first_with p 0 ss) st a (record { at = at; stmt = stmt; faithful = true-to; is = sym w.same ∙ u; small = g.small })

      pub going_on : b ≡ false → (n : ℕ) → n < 65536 → ((i : ℕ) (t : Stmt) → Faithful s i st t → n ≡ address_after t a) → Going s p st.next n
      unfolding first_with
      going_on z n l f =
          let e : p stmt ≡ false = sym here ∙ z in
          let v : n ≡ address_after stmt a = f at stmt true-to in
          record {
            small = l;
            left = λ ss y. (
                let w = after ss y in
                let u : first_with p a (stmt ∷ w.rest) ≡ first_with p (address_after stmt a) w.rest = rw (e, first_with) refl in
                record { rest = w.rest; is = w.is; same = ap (λ (m : ℕ). first_with p m w.rest) v ∙ (sym u ∙ w.same) });
          }

-- THE WHOLE SOURCE
module _ (s : List ℕ) (x : Result (Unit {0}) Fault) (h : x ≡ coded_statements (source_statements s)) where
  pub source-short : x ≡ Ok tt → length s ≤ 262144
  source-short e = go (dec_le (length s) 262144)
    where
      go : Dec (length s ≤ 262144) → length s ≤ 262144
      go (yes l) = l
      go (no l) = let z : Err (fault 11 0 (length s)) ≡ Ok tt = source-long s (omega arith) ∙ (sym h ∙ e) in never cc

  pub source-tells : (p : Stmt → Bool) → x ≡ Ok tt → (r : O.Option (Statement × ℕ)) → ((ss : List Stmt) → statements s ≡ ok ss → Tells s (first_with p 0 ss) r) → Tells s (where_is p s) r
  unfolding coded_statements source_statements where_is
  source-tells p e r k = go (source_statements s) refl (sym h ∙ e)
    where
      go : (o : Outcome (List Stmt)) → source_statements s ≡ o → coded_statements o ≡ Ok tt → Tells s (where_is p s) r
      go (ok ss) q z = rw (q, where_is) (k ss (gave (lexed s) (λ ts. statements s) ss q).then')
      go (refused y) q z = never cc

  pub source-none : (p : Stmt → Bool) (f : Fault) → x ≡ Err f → Tells s (where_is p s) None
  unfolding coded_statements source_statements where_is
  source-none p f y = tells-nothing s (where_is p s) (go (source_statements s) refl (sym h ∙ y))
    where
      go : (o : Outcome (List Stmt)) → source_statements s ≡ o → coded_statements o ≡ Err f → where_is p s ≡ none
      go (ok ss) q z = never cc
      go (refused u) q z = rw (q, where_is) refl

-- what is found passes the test
passes : (p : Stmt → Bool) (a : ℕ) (ss : List Stmt) (x : Placed) → first_with p a ss ≡ some x → p x.stmt ≡ true
unfolding first_with
passes p a [] x e = never cc
passes p a (s ∷ ss) x e = go (passes p (address_after s a) ss x) (p s) refl e
  where
    go : (first_with p (address_after s a) ss ≡ some x → p x.stmt ≡ true) → (b : Bool) → p s ≡ b → ◌≡◌ {A = Option Placed} (elim b [ true ↦ some (placed s a) | false ↦ first_with p (address_after s a) ss ]) (some x) → p x.stmt ≡ true
    go k true q z = let y : placed s a ≡ x = cc in rw (← y) q
    go k false q z = k z

pub found-passes : (p : Stmt → Bool) (s : List ℕ) (x : Placed) → where_is p s ≡ some x → p x.stmt ≡ true
unfolding where_is
found-passes p s x e = go (source_statements s) e
  where
    go : (o : Outcome (List Stmt)) → ◌≡◌ {A = Option Placed} (elim o [ ok ss ↦ first_with p 0 ss | refused r ↦ none ]) (some x) → p x.stmt ≡ true
    go (ok ss) z = passes p 0 ss x z
    go (refused r) z = never cc
