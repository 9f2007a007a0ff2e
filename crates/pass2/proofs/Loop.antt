-- Pass two over statement after statement, as its loop goes. Assumes nothing.
use Rattle.std.specs.declared.result.Result.{Result}
use Rattle.std.specs.declared.result.Result.TheVariants.{Ok, Err}
use Rattle.std.specs.declared.option.Option as O
use Rattle.std.specs.declared.option.Option.TheVariants.{Some, None}
use Rattle.base_refusals.specs.declared.Fault.{Fault}
use Rattle.base_refusals.specs.Refusals.{fault}
use mathlib.Core.Path.{◌≡◌, refl, sym, ◌∙◌, ap}
use mathlib.Core.Bool.{Bool, true, false}
use mathlib.Core.List.{List, [], ◌∷◌}
use mathlib.Core.Option.{none}
use Prim.Native.Nat.{ℕ, ◌+◌, ◌-◌, ◌≤◌, ◌<◌}
use native.Mathlib.Omega.{arith}
use lib.ListN.{length, get_or}
use Rattle.rules.specs.Base.{Outcome, ok, refused, ◌>>=◌}
use Rattle.rules.specs.Tables.{Table}
use Rattle.rules.specs.Objects.{Name, word}
use Rattle.rules.specs.Statements.{Stmt, Read, next_statement, statements_at, statements}
use Rattle.rules.specs.Passes.{Symbol, Pass1State, pass1_start, Pass2State, pass2_start, written, pass_one, pass_two}
use Rattle.rules.specs.Buffers.{zeros}
use Rattle.rules.proofs.Rows.{get_or-zeros}
use Rattle.rules.proofs.Gave.{gave}
use Rattle.rules.proofs.Following.{statements-on, statements-none, statements-refused}
use Rattle.rules.proofs.Bools.{never}
use Rattle.base_refusals.specs.declared.Refusal.{Refusal}
use Rattle.laws.proofs.Steps.{ended}
use Rattle.laws.proofs.Alongside.{Level, Alongside, along-start, along-step}
use Rattle.pass2_blocks.specs.Rows.{view_obj_blocks}
use Rattle.parse.specs.declared.Statement.{Statement}
use Rattle.parse.specs.Coded.{coded_read, coded_statement}
use Rattle.parse.proofs.All.{WasRead, was_read, was-end, was-refused}
use Rattle.pass1_symbols.specs.Symbols.{symbols, Growing}
use Rattle.parse_meaning.specs.Reading.{Faithful}
use Rattle.parse_meaning.proofs.Read.{faithful}
use Rattle.pass2_statement.specs.declared.Pass2State as code
use Rattle.pass2_words.specs.Writing.{Room, Wrote}
use Rattle.pass2_statement.specs.State.{open_of, opened, view_pass2, told, Standing, Stepping, Writes, with_used}
use Rattle.pass2_statement.proofs.Known.{Known, known-room, known-low, known-steps}
use Rattle.pass2.specs.Passing.{fresh, Passing, PassedTwo}
use Rattle.pass2.proofs.Room.{ready, writes}

-- THE RULE, step by step
two-more : (y : Table Name Symbol) (s : Stmt) (ss : List Stmt) (v : Pass2State) → pass_two y (s ∷ ss) v ≡ (written y s.op s v >>= pass_two y ss)
unfolding pass_two
two-more y s ss v = refl

two-done : (y : Table Name Symbol) (v : Pass2State) → pass_two y [] v ≡ ok v
unfolding pass_two
two-done y v = refl

-- THE LOOP: what is left of the statements, which pass one accepts from where it stands there, and the buffers as long as they were
pub record Going (rs src : List ℕ) (n : ℕ) (bs₀ os₀ ws₀ ms₀ bs os ws ms : List ℕ) (at : ℕ) (t : code.Pass2State) : Type 0 where
  pub standing : Standing bs os ws ms t
  pub table : Growing rs src n
  pub size : length src ≤ 262144
  pub long-blocks : length bs ≡ length bs₀
  pub long-origs : length os ≡ length os₀
  pub long-words : length ws ≡ length ws₀
  pub long-marks : length ms ≡ length ms₀
  pub stmts : List Stmt
  pub read : statements src ≡ ok stmts
  pub rest : List Stmt
  pub left : statements_at src at ≡ ok rest
  pub same : pass_two (symbols n rs src) rest (view_pass2 bs os ws ms t) ≡ pass_two (symbols n rs src) stmts pass2_start
  pub final : Pass1State
  pub here : Pass1State
  pub ahead : pass_one rest here ≡ ok final
  pub along : Alongside here (view_pass2 bs os ws ms t)
  pub words : final.words ≤ length ws
  pub marks : final.words ≤ length ms

blank-at : (l : List ℕ) → l ≡ zeros (length l) → (i : ℕ) → get_or l i 0 ≡ 0
blank-at l e i = ap (λ (x : List ℕ). get_or x i 0) e ∙ get_or-zeros (length l) i

pub going_start : (rs src : List ℕ) (n : ℕ) (bs os ws ms : List ℕ) → Passing rs src n bs os ws ms → (t : code.Pass2State) → t ≡ fresh → Going rs src n bs os ws ms bs os ws ms 0 t
unfolding statements view_obj_blocks
going_start rs src n bs os ws ms v t e = rw e (record {
  standing = record {
    few = omega arith;
    room = v.room;
    room_origs = v.room_origs;
    sum = refl;
    within = omega arith;
    shut = λ q. refl;
    words = omega arith;
    marks = omega arith;
    rows = λ i l. absurd (omega arith);
    clear = record { words = λ i l. blank-at ws v.blank_words i; marks = λ i l. blank-at ms v.blank_marks i };
    clear_blocks = λ i l. blank-at bs v.blank i;
    clear_origs = λ i l. blank-at os v.blank_origs i;
  };
  table = v.table;
  size = v.size;
  long-blocks = refl;
  long-origs = refl;
  long-words = refl;
  long-marks = refl;
  stmts = v.stmts;
  read = v.read;
  rest = v.stmts;
  left = v.read;
  same = refl;
  final = v.final;
  here = pass1_start;
  ahead = v.passed;
  along = along-start;
  words = v.words;
  marks = v.marks;
})

module _ (rs src : List ℕ) (n : ℕ) (bs₀ os₀ ws₀ ms₀ bs os ws ms : List ℕ) (at : ℕ) (t : code.Pass2State) (g : Going rs src n bs₀ os₀ ws₀ ms₀ bs os ws ms at t) (x : Result (O.Option Statement) Fault) (h : x ≡ coded_statement (next_statement src at)) where
  abbrev y : Table Name Symbol
  y = symbols n rs src

  one-reading : (ss : List Stmt) → statements src ≡ ok ss → g.stmts ≡ ss
  one-reading ss e = let z : ok g.stmts ≡ ok ss = sym g.read ∙ e in cc

  -- a source whose statements are refused
  pub going-stop : (f : Fault) → x ≡ Err f → (r : Result code.Pass2State Refusal) → PassedTwo rs src n bs os ws ms r
  going-stop f q r =
      let w = was-refused (next_statement src at) f (sym h ∙ q) in
      let z : ok g.rest ≡ refused w.refusal = sym g.left ∙ statements-refused src at w.refusal w.is in
      never cc

  -- the end: pass one has no open block there
  module _ (q : x ≡ Ok None) where
    none_left : g.rest ≡ []
    none_left = let z : ok g.rest ≡ ok [] = sym g.left ∙ statements-none src at (was-end (next_statement src at) (sym h ∙ q)) in cc

    shut : t.inside ≡ false
    shut = go t.inside (rw (ended g.here g.final (rw none_left at g.ahead)).0 at g.along.level)
      where
        go : (b : Bool) → Level none (open_of b (opened ws ms t)) → b ≡ false
        go true l = absurd l
        go false l = refl

    pub going_end : PassedTwo rs src n bs os ws ms (Ok t)
    going_end = record {
      rule = λ ss e. rw (← one-reading ss e) (sym (two-done y (view_pass2 bs os ws ms t)) ∙ (ap (λ (l : List Stmt). pass_two y l (view_pass2 bs os ws ms t)) (sym none_left) ∙ g.same));
      kept = λ u e. (let w : t ≡ u = cc in rw w at g.standing);
      shut = λ u e. (let w : t ≡ u = cc in rw w at shut);
    }

  -- a statement
  module _ (st : Statement) (q : x ≡ Ok (Some st)) where
    it : WasRead (next_statement src at) st
    it = was_read (next_statement src at) st (sym h ∙ q)

    abbrev s : Stmt
    s = it.read.stmt

    true-to : Faithful src at st s
    true-to = faithful src at it.read st it.is it.coded

    -- what is left after it
    record Behind : Type 0 where
      rest : List Stmt
      first : g.rest ≡ s ∷ rest
      left : statements_at src st.next ≡ ok rest

    behind : Behind
    unfolding coded_read
    behind =
        let i : it.read.next ≡ st.next = ap (λ (z : Statement). z.next) it.coded in
        let w = gave (statements_at src it.read.next) (λ ts. ok (s ∷ ts)) g.rest (sym (statements-on src at it.read it.is) ∙ g.left) in
        let m : s ∷ w.given' ≡ g.rest = cc w.then' in
        record { rest = w.given'; first = sym m; left = ap (λ (z : ℕ). statements_at src z) (sym i) ∙ w.first }

    ahead : pass_one (s ∷ behind.rest) g.here ≡ ok g.final
    ahead = ap (λ (l : List Stmt). pass_one l g.here) (sym behind.first) ∙ g.ahead

    pub going-writes : Writes rs src n bs os ws ms st t
    going-writes = writes bs os ws ms t g.standing src at st s true-to behind.rest g.here g.final g.along ahead g.words g.marks rs n (ready rs src n at it.read st it.is it.coded true-to g.table g.size)

    module _ (bs' os' ws' ms' : List ℕ) (a : Result code.Pass2State Refusal) (k : (at : ℕ) (s : Stmt) → Faithful src at st s → Stepping bs' os' ws' ms' (written y s.op s (view_pass2 bs os ws ms t)) a) where
      step : Stepping bs' os' ws' ms' (written y s.op s (view_pass2 bs os ws ms t)) a
      step = k at s true-to

      after : (told bs' os' ws' ms' a >>= pass_two y behind.rest) ≡ pass_two y g.stmts pass2_start
      after =
          ap (λ (o : Outcome Pass2State). o >>= pass_two y behind.rest) step.rule
          ∙ (sym (two-more y s behind.rest (view_pass2 bs os ws ms t))
          ∙ (ap (λ (l : List Stmt). pass_two y l (view_pass2 bs os ws ms t)) (sym behind.first) ∙ g.same))

      pub going_on : (u : code.Pass2State) → a ≡ Ok u → length bs' ≡ length bs → length os' ≡ length os → length ws' ≡ length ws → length ms' ≡ length ms → Going rs src n bs₀ os₀ ws₀ ms₀ bs' os' ws' ms' st.next u
      going_on u e lb lo lw lm =
          let o = along-step y s behind.rest g.here g.final (view_pass2 bs os ws ms t) (view_pass2 bs' os' ws' ms' u) g.along ahead (sym step.rule ∙ ap (told bs' os' ws' ms') e) in
          record {
            standing = step.kept u e;
            table = g.table;
            size = g.size;
            long-blocks = lb ∙ g.long-blocks;
            long-origs = lo ∙ g.long-origs;
            long-words = lw ∙ g.long-words;
            long-marks = lm ∙ g.long-marks;
            stmts = g.stmts;
            read = g.read;
            rest = behind.rest;
            left = behind.left;
            same = sym (ap (λ (z : Result code.Pass2State Refusal). told bs' os' ws' ms' z >>= pass_two y behind.rest) e) ∙ after;
            final = g.final;
            here = o.state;
            ahead = o.rest;
            along = o.along;
            words = omega (arith, g.words);
            marks = omega (arith, g.marks);
          }

      pub going-refused : (f : Refusal) → a ≡ Err f → PassedTwo rs src n bs' os' ws' ms' a
      going-refused f e = record {
        rule = λ ss z. rw (← one-reading ss z) (ap (told bs' os' ws' ms') e ∙ (sym (ap (λ (z : Result code.Pass2State Refusal). told bs' os' ws' ms' z >>= pass_two y behind.rest) e) ∙ after));
        kept = step.kept;
        shut = λ u z. (let w : Err f ≡ Ok u = sym e ∙ z in never cc);
      }

    -- a statement whose word is known
    module _ (k : Known st t) where
      pub going-room : Room ws ms t.used 1
      going-room = known-room rs src n bs os ws ms st t going-writes k

      pub going-low : st.bits < 65536
      going-low = known-low rs src n bs os ws ms st t going-writes k

      pub going-known : (ws' ms' : List ℕ) (u : code.Pass2State) → Wrote ws ms ws' ms' t.used (word st.bits ∷ []) × (u ≡ with_used t (t.used + 1)) → length ws' ≡ length ws → length ms' ≡ length ms → Going rs src n bs₀ os₀ ws₀ ms₀ bs os ws' ms' st.next u
      going-known ws' ms' u w lw lm = going_on bs os ws' ms' (Ok u) (known-steps rs src n bs os ws ms st t going-writes k ws' ms' w.0 lw lm u w.1) u refl refl refl lw lm
