-- What each way through a statement's words shows. Assumes nothing.
use Rattle.std.specs.declared.result.Result.{Result}
use Rattle.std.specs.declared.result.Result.TheVariants.{Ok, Err}
use Rattle.base_refusals.specs.declared.Fault.{Fault}
use Rattle.base_refusals.specs.Refusals.{fault}
use mathlib.Core.Path.{◌≡◌, refl, sym, ◌∙◌, ap}
use mathlib.Core.Bool.{true, false}
use mathlib.Core.Option.{none, some}
use mathlib.Core.List.{List, ◌++◌}
use Prim.Native.Nat.{ℕ, ◌+◌, ◌-◌}
use native.Mathlib.Omega.{arith}
use lib.ListN.{length}
use Rattle.rules.specs.Base.{Outcome, ok, refuse, ◌>>=◌, span}
use Rattle.rules.specs.Tables.{Table}
use Rattle.rules.specs.Objects.{Cell, Name}
use Rattle.rules.specs.Statements.{Stmt}
use Rattle.rules.specs.Passes.{Symbol, words_of, ObjBlock, obj_block, pass2_state, emit}
use Rattle.rules.specs.Passes as rule
use Rattle.rules.proofs.Bools.{never}
use Rattle.base_refusals.specs.Refusals.{refusal_at, refused_by}
use Rattle.base_refusals.specs.declared.Refusal.{Refusal}
use Rattle.laws.proofs.Alongside.{words_size}
use Rattle.pass2_blocks.specs.Rows.{cells_at, view_obj_blocks}
use Rattle.pass2_blocks.proofs.Placed.{cells-long}
use Rattle.parse.specs.declared.Statement.{Statement}
use Rattle.pass1_symbols.specs.Symbols.{symbols}
use Rattle.parse_meaning.specs.Reading.{Faithful}
use Rattle.pass2_words.specs.Writing.{Wrote, WroteAs, size_at}
use Rattle.pass2_words.proofs.Statements.{size_is}
use Rattle.pass2_statement.specs.declared.Pass2State.{Pass2State}
use Rattle.pass2_statement.specs.State.{open_of, opened, view_pass2, Standing, Stepping, with_used, step_of, Emits}
use Rattle.pass2_statement.proofs.Views.{view-same, cells-behind, rows_behind, clear_behind}

-- a step that went, and one that was refused
pub went : (bs os ws ms : List ℕ) (o : Outcome rule.Pass2State) (t : Pass2State) → Standing bs os ws ms t → ok (view_pass2 bs os ws ms t) ≡ o → Stepping bs os ws ms o (Ok t)
went bs os ws ms o t k e = record { rule = e; kept = λ z q. (let w : t ≡ z = cc in rw w at k) }

pub stuck : (bs os ws ms : List ℕ) (o : Outcome rule.Pass2State) (f : Refusal) → refused_by f ≡ o → Stepping bs os ws ms o (Err f)
stuck bs os ws ms o f q = record { rule = q; kept = λ z w. (never cc) }

-- THE RULE
emit-outside : (ss : Table Name Symbol) (s : Stmt) (bl : List ObjBlock) → emit ss s (pass2_state none bl) ≡ refuse 21 s.place
unfolding emit
emit-outside ss s bl = refl

emit-inside : (ss : Table Name Symbol) (s : Stmt) (x : ObjBlock) (bl : List ObjBlock) → emit ss s (pass2_state (some x) bl) ≡ (words_of ss (x.start + length x.words) s.op s >>= λ ws. ok (pass2_state (some (obj_block x.start (x.words ++ ws) x.place)) bl))
unfolding emit
emit-inside ss s x bl = refl

module _ (rs src : List ℕ) (n : ℕ) (ws ms : List ℕ) (st : Statement) (t : Pass2State) (v : Emits rs src n ws ms st t) where
  module _ (bs os : List ℕ) (at : ℕ) (s : Stmt) (k : Standing bs os ws ms t) (f : Faithful src at st s) where
    abbrev ss : Table Name Symbol
    ss = symbols n rs src

    pub emit-none : t.inside ≡ false → (r : Result Pass2State Refusal) → r ≡ Err (refusal_at 21 st.start st.end) → Stepping bs os ws ms (emit ss s (view_pass2 bs os ws ms t)) r
    emit-none i r q = rw q (stuck bs os ws ms _ (refusal_at 21 st.start st.end) (rw i (rw (← f.place) (sym (emit-outside ss s (view_obj_blocks t.blocks bs os ws ms))))))

    module _ (i : t.inside ≡ true) (ws' ms' : List ℕ) (l : length ws' ≡ length ws) (m : length ms' ≡ length ms) where
      abbrev here : ℕ
      here = t.start + length (cells_at ws ms t.base (t.used - t.base))

      here-is : (a : ℕ) → a ≡ t.start + (t.used - t.base) → a ≡ here
      here-is a e = e ∙ ap (λ (x : ℕ). t.start + x) (sym (cells-long ws ms t.base (t.used - t.base)))

      -- by what the words are
      abbrev After : Outcome (List Cell) → Outcome rule.Pass2State
      After o = o >>= λ cs. ok (pass2_state (some (obj_block t.start (cells_at ws ms t.base (t.used - t.base) ++ cs) (span t.orig_start t.orig_end))) (view_obj_blocks t.blocks bs os ws ms))

      emit-is : (o : Outcome (List Cell)) → words_of ss here s.op s ≡ o → emit ss s (view_pass2 bs os ws ms t) ≡ After o
      emit-is o e = rw i (emit-inside ss s (opened ws ms t) (view_obj_blocks t.blocks bs os ws ms) ∙ ap After e)

      module _ (u : ℕ) (cs : List Cell) (e : words_of ss here s.op s ≡ ok cs) (y : u ≡ t.used + length cs) (w : Wrote ws ms ws' ms' t.used cs) where
        size : length cs ≡ size_at src st
        size = words_size ss here s.op s cs e ∙ size_is src at st s f

        still : Standing bs os ws' ms' (with_used t u)
        still = let r = (v.roomy i).room in let z = size in record {
          few = k.few;
          room = k.room;
          room_origs = k.room_origs;
          sum = k.sum;
          within = omega (arith, k.within);
          shut = λ q. (never cc);
          words = omega (arith, r.words);
          marks = omega (arith, r.marks);
          rows = rows_behind ws ms ws' ms' t.used cs w u y k.rows;
          clear = clear_behind ws ms ws' ms' t.used cs w u y k.clear;
          clear_blocks = k.clear_blocks;
          clear_origs = k.clear_origs;
        }

        same : ok (view_pass2 bs os ws' ms' (with_used t u)) ≡ emit ss s (view_pass2 bs os ws ms t)
        same =
            let a = cells-behind ws ms ws' ms' t.used cs w t.base u k.within y in
            let b = view-same ws ms ws' ms' t.used w.words_before w.marks_before bs os t.blocks (omega (arith, k.sum, k.within)) in
            (λ z. ok (pass2_state (open_of (i z) (obj_block t.start (a z) (span t.orig_start t.orig_end))) (b z))) ∙ sym (emit-is (ok cs) e)

      pub emit-some : (a b : ℕ) → a ≡ t.used - t.base → b ≡ t.start → (z : Result ℕ Fault) → WroteAs (words_of ss (b + a) s.op s) ws ms ws' ms' t.used z → (r : Result Pass2State Refusal) → r ≡ step_of t z → Stepping bs os ws' ms' (emit ss s (view_pass2 bs os ws ms t)) r
      emit-some a b d g z h r q = rw q (go z refl)
        where
          at_here : b + a ≡ here
          at_here = here-is (b + a) (λ x. g x + d x)

          words-at : (o : Outcome (List Cell)) → words_of ss (b + a) s.op s ≡ o → words_of ss here s.op s ≡ o
          words-at o e = rw at_here at e

          go : (y : Result ℕ Fault) → z ≡ y → Stepping bs os ws' ms' (emit ss s (view_pass2 bs os ws ms t)) (step_of t y)
          go (Ok u) e =
              let x = h.went u e in
              let w = words-at _ x.is in
              went bs os ws' ms' _ (with_used t u) (still u x.cells w x.upto x.wrote) (same u x.cells w x.upto x.wrote)
          go (Err c) e = stuck bs os ws' ms' _ (refusal_at c.number c.start c.end) (sym (emit-is (refuse c.number (span c.start c.end)) (words-at _ (h.stuck c e))))
