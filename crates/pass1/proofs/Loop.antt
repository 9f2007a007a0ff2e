-- Pass one over statement after statement, as its loop goes. Assumes nothing.
use Rattle.std.specs.declared.result.Result.{Result}
use Rattle.std.specs.declared.result.Result.TheVariants.{Ok, Err}
use Rattle.std.specs.declared.option.Option as O
use Rattle.std.specs.declared.option.Option.TheVariants.{Some, None}
use Rattle.base_refusals.specs.declared.Fault.{Fault}
use Rattle.base_refusals.specs.Refusals.{fault}
use mathlib.Core.Path.{◌≡◌, refl, sym, ◌∙◌, ap, subst}
use mathlib.Core.Bool.{true, false}
use mathlib.Core.List.{List, [], ◌∷◌}
use mathlib.Core.Option.{none, some}
use Prim.Native.Nat.{ℕ, ◌+◌, ◌≤◌}
use native.Mathlib.Omega.{arith}
use lib.ListN.{length}
use Rattle.rules.specs.Base.{Outcome, ok, refused, refuse, ◌>>=◌}
use Rattle.rules.specs.Statements.{Stmt, next_statement, statements_at, statements}
use Rattle.rules.specs.Passes.{Pass1State, pass1_state, pass1_start, Cursor, Symbol, step_one, pass_one}
use Rattle.rules.specs.Tables.{Table}
use Rattle.rules.specs.Objects.{Name}
use Rattle.rules.proofs.Gave.{gave}
use Rattle.rules.proofs.Following.{statements-on, statements-none, statements-refused, pass_one-step}
use Rattle.rules.proofs.Bools.{never}
use Rattle.base_refusals.specs.Refusals.{refusal_at}
use Rattle.base_refusals.specs.declared.Refusal.{Refusal}
use Rattle.pass1_symbols.specs.Symbols.{symbols}
use Rattle.pass1_relocations.specs.Pending.{notes}
use Rattle.parse.specs.declared.Statement.{Statement}
use Rattle.parse.specs.Coded.{coded_read, coded_statement, AllRead}
use Rattle.parse.proofs.All.{WasRead, was_read, was-end, was-refused}
use Rattle.parse_labels.specs.Walk.{Heads}
use Rattle.parse_labels.proofs.Before.{heads-read}
use Rattle.parse_meaning.specs.Reading.{Faithful}
use Rattle.parse_meaning.proofs.Read.{faithful}
use Rattle.pass1_state.specs.declared.Pass1State as code
use Rattle.pass1_state.specs.State.{view_pass1, told, Steady, fresh}
use Rattle.pass1_state.specs.State as counting
use Rattle.pass1_state.proofs.Counting.{went, stuck}
use Rattle.pass1_fill.specs.Tables.{seen, Held, Stepping}
use Rattle.pass1_directive.proofs.Directing.{over_none}
use Rattle.pass1.specs.Steps.{Stands, PassedOne}
use Rattle.pass1.proofs.Steps.{Counts, step_counts}

-- THE RULE at the end
pass-open : (c : Cursor) (x : Table Name Symbol) (y : Table ℕ Name) (b w : ℕ) → pass_one [] (pass1_state (some c) x y b w) ≡ refuse 22 c.place
unfolding pass_one
pass-open c x y b w = refl

pass-shut : (x : Table Name Symbol) (y : Table ℕ Name) (b w : ℕ) → pass_one [] (pass1_state none x y b w) ≡ ok (pass1_state none x y b w)
unfolding pass_one
pass-shut x y b w = refl

-- THE END OF THE SOURCE
module _ (o : code.Pass1State) (h : Steady o) where
  abbrev Finishing : (ℕ → Table Name Symbol) → (ℕ → Table ℕ Name) → Outcome Pass1State
  Finishing x y = pass_one [] (view_pass1 x y o)

  pub finish-open : o.inside ≡ true → (r : Result code.Pass1State Refusal) → r ≡ Err (refusal_at 22 o.orig_start o.orig_end) → counting.Stepping o Finishing r
  finish-open i r q = rw q (stuck o Finishing (refusal_at 22 o.orig_start o.orig_end) (λ x y. rw i (sym (pass-open _ _ _ _ _))))

  pub finish-shut : o.inside ≡ false → counting.Stepping o Finishing (Ok o)
  finish-shut i = went o Finishing o (record { steady = h; labels = refl; relocations = refl }) (λ x y. rw i (sym (pass-shut _ _ _ _)))

-- THE LOOP

-- what is left of the statements, after those before a place
pub record Left (rs qs src : List ℕ) (at : ℕ) (o : code.Pass1State) (ss : List Stmt) : Type 0 where
  pub rest : List Stmt
  pub is : statements_at src at ≡ ok rest
  pub same : pass_one rest (seen rs qs src o) ≡ pass_one ss pass1_start

-- tables of the length that they had; statements read from here on are the rest of all
pub record Going (rs₀ qs₀ rs qs src : List ℕ) (at : ℕ) (o : code.Pass1State) : Type 0 where
  pub held : Held rs qs src o
  pub long : length rs ≡ length rs₀
  pub far : length qs ≡ length qs₀
  pub left : (ss : List Stmt) → statements src ≡ ok ss → Left rs qs src at o ss
  pub back : (rest : List Stmt) → statements_at src at ≡ ok rest → AllRead src

module _ (rs qs src : List ℕ) (size : length src ≤ 262144) (room : 6144 ≤ length rs) (room2 : 4096 ≤ length qs) where
  held_none : Held rs qs src fresh
  held_none = record {
    lent = record {
      steady = record { rising = omega arith; address = omega arith; few = omega arith; sum = omega arith };
      table = record { few = omega arith; room = room; rows = λ k l. absurd (omega arith); up = record { next = λ k l. absurd (omega arith) }; keys = λ k l. absurd (omega arith) };
      size = size;
    };
    table = record { few = omega arith; room = omega arith; rows = λ k l. absurd (omega arith); up = record { next = λ k l. absurd (omega arith) } };
    room = room2;
  }

  left-all : (ss : List Stmt) → statements src ≡ ok ss → Left rs qs src 0 fresh ss
  unfolding statements symbols notes
  left-all ss e = record { rest = ss; is = e; same = refl }

  back-all : (rest : List Stmt) → statements_at src 0 ≡ ok rest → AllRead src
  unfolding statements
  back-all rest e = record { stmts = rest; read = e }

  pub going_start : (o : code.Pass1State) → o ≡ fresh → Going rs qs rs qs src 0 o
  going_start o e = rw e (record { held = held_none; long = refl; far = refl; left = left-all; back = back-all })

module _ (rs₀ qs₀ rs qs src : List ℕ) (at : ℕ) (o : code.Pass1State) (g : Going rs₀ qs₀ rs qs src at o) (x : Result (O.Option Statement) Fault) (h : x ≡ coded_statement (next_statement src at)) where
  -- a source whose statements are refused
  pub going-stop : (f : Fault) → x ≡ Err f → (r : Result code.Pass1State Refusal) → r ≡ Err (refusal_at f.number f.start f.end) → PassedOne rs qs src r
  going-stop f q r z = rw z (record {
    rule = λ ss y. (
        let w = was-refused (next_statement src at) f (sym h ∙ q) in
        let l = g.left ss y in
        let m : ok l.rest ≡ refused w.refusal = sym l.is ∙ statements-refused src at w.refusal w.is in
        never cc);
    kept = λ o' y. (never cc);
    read = λ o' y. (never cc);
  })

  -- the end
  pub going_end : x ≡ Ok None → (r : Result code.Pass1State Refusal) → counting.Stepping o (λ x y. pass_one [] (view_pass1 x y o)) r → PassedOne rs qs src r
  going_end q r k =
      let j = over_none rs qs src o g.held (λ v. pass_one [] v) r k in
      record {
        rule = λ ss y. (
            let l = g.left ss y in
            let m : ok [] ≡ ok l.rest = sym (statements-none src at (was-end (next_statement src at) (sym h ∙ q))) ∙ l.is in
            let n : ◌≡◌ {A = List Stmt} [] l.rest = cc in
            j.rule ∙ (ap (λ (t : List Stmt). pass_one t (seen rs qs src o)) n ∙ l.same));
        kept = j.kept;
        read = λ o' y. g.back [] (statements-none src at (was-end (next_statement src at) (sym h ∙ q)));
      }

  -- a statement
  module _ (st : Statement) (q : x ≡ Ok (Some st)) where
    it : WasRead (next_statement src at) st
    it = was_read (next_statement src at) st (sym h ∙ q)

    nexts : it.read.next ≡ st.next
    unfolding coded_read
    nexts = ap (λ (y : Statement). y.next) it.coded

    true-to : Faithful src at st it.read.stmt
    true-to = faithful src at it.read st it.is it.coded

    pub going-stands : Stands src st
    going-stands = record { at = at; stmt = it.read.stmt; faithful = true-to }

    pub going-heads : Heads src at st.start
    unfolding coded_read
    going-heads = subst (Heads src at) (ap (λ (y : Statement). y.start) it.coded) (heads-read src at it.read it.is)

    module _ (rs' qs' : List ℕ) (a : Result code.Pass1State Refusal) (k : (s : Stmt) → Faithful src at st s → Stepping rs qs src rs' qs' o (step_one s) a) where
      step : Stepping rs qs src rs' qs' o (step_one it.read.stmt) a
      step = k it.read.stmt true-to

      -- what is left after it
      record After (ss : List Stmt) : Type 0 where
        rest : List Stmt
        is : statements_at src st.next ≡ ok rest
        same : (told (λ n. symbols n rs' src) (λ n. notes n qs' src) a >>= pass_one rest) ≡ pass_one ss pass1_start

      after : (ss : List Stmt) → statements src ≡ ok ss → After ss
      after ss y =
          let l = g.left ss y in
          let w = gave (statements_at src it.read.next) (λ ts. ok (it.read.stmt ∷ ts)) l.rest (sym (statements-on src at it.read it.is) ∙ l.is) in
          let m : it.read.stmt ∷ w.given' ≡ l.rest = cc w.then' in
          record {
            rest = w.given';
            is = ap (λ (i : ℕ). statements_at src i) (sym nexts) ∙ w.first;
            same = ap (λ (t : Outcome Pass1State). t >>= pass_one w.given') step.rule
                ∙ (sym (pass_one-step it.read.stmt w.given' (seen rs qs src o))
                ∙ (ap (λ (t : List Stmt). pass_one t (seen rs qs src o)) m ∙ l.same));
          }

      pub going_on : (b : code.Pass1State) → a ≡ Ok b → length rs' ≡ length rs → length qs' ≡ length qs → Going rs₀ qs₀ rs' qs' src st.next b
      going_on b z m n = record {
        held = step.kept b z;
        long = m ∙ g.long;
        far = n ∙ g.far;
        left = λ ss y. (
            let w = after ss y in
            record { rest = w.rest; is = w.is; same = sym (ap (λ (t : Result code.Pass1State Refusal). told (λ n. symbols n rs' src) (λ n. notes n qs' src) t >>= pass_one w.rest) z) ∙ w.same });
        back = λ rest e. g.back (it.read.stmt ∷ rest) (statements-on src at it.read it.is ∙ rw (nexts, e));
      }

      pub going-refused : (f : Refusal) → a ≡ Err f → PassedOne rs' qs' src a
      going-refused f z = record {
        rule = λ ss y. (
            let w = after ss y in
            ap (told (λ n. symbols n rs' src) (λ n. notes n qs' src)) z
            ∙ (sym (ap (λ (t : Result code.Pass1State Refusal). told (λ n. symbols n rs' src) (λ n. notes n qs' src) t >>= pass_one w.rest) z) ∙ w.same));
        kept = step.kept;
        read = λ o' y. (let u : Ok o' ≡ Err f = sym y ∙ z in never cc);
      }

    -- one that only counts
    pub going-counts : Counts st o → (b : code.Pass1State) → b ≡ counting.counting o (o.counter + 1) → Going rs₀ qs₀ rs qs src st.next b
    going-counts w b e = going_on rs qs (Ok b) (step_counts rs qs src o g.held st w b e at) b refl refl refl
