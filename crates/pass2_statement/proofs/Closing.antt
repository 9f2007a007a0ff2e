-- What each way through an .orig and an .end shows. Assumes nothing.
use Rattle.base_refusals.specs.declared.Refusal.{Refusal}
use Rattle.std.specs.declared.result.Result.{Result}
use Rattle.std.specs.declared.result.Result.TheVariants.{Ok, Err}
use mathlib.Core.Path.{◌≡◌, refl, sym, ◌∙◌, ap}
use mathlib.Core.Bool.{true, false}
use mathlib.Core.Option.{none, some}
use mathlib.Core.List.{List}
use Prim.Native.Nat.{ℕ, ◌+◌, ◌-◌, ◌*◌, ◌≤◌, ◌<◌}
use native.Mathlib.Omega.{arith}
use borrow.Author.Tests.{eq-eqb, ne_eqb}
use lib.ListN.{length, get_or, drop}
use lib.Seq.{get_or-drop}
use Rattle.rules.specs.Base.{when◌then◌else◌, Outcome, ok, ◌>>=◌, span}
use Rattle.rules.specs.Passes.{ObjBlock, obj_block, pass2_state, place, finish}
use Rattle.base_refusals.specs.Refusals.{refusal}
use Rattle.pass2_blocks.specs.Rows.{cells_at, view_obj_blocks}
use Rattle.pass2_blocks.specs.Placing.{Ready, PlacedAs}
use Rattle.pass2_blocks.specs.Placing as order
use Rattle.pass2_blocks.proofs.Placed.{cells-long}
use Rattle.pass2_statement.specs.declared.Pass2State.{Pass2State}
use Rattle.pass2_statement.specs.State.{opened, view_pass2, Standing, Stepping, closing, close_of, Ends}
use Rattle.pass2_statement.proofs.Emitting.{went, stuck}

-- AN ORIG

-- THE RULE
finish-none : (bl : List ObjBlock) → finish (pass2_state none bl) ≡ ok (pass2_state none bl)
unfolding finish
finish-none bl = refl

finish-empty : (x : ObjBlock) (bl : List ObjBlock) → length x.words ≡ 0 → finish (pass2_state (some x) bl) ≡ ok (pass2_state none bl)
unfolding finish when◌then◌else◌
finish-empty x bl e = rw (eq-eqb (length x.words) 0 e)

finish-more : (x : ObjBlock) (bl : List ObjBlock) → (length x.words ≡ 0 → ⊥) → finish (pass2_state (some x) bl) ≡ (place x bl >>= λ bs. ok (pass2_state none bs))
unfolding finish when◌then◌else◌
finish-more x bl e = rw (ne_eqb (length x.words) 0 e)

-- what stands behind a place is as it was
kept-behind : (l l' : List ℕ) (k : ℕ) → drop k l' ≡ drop k l → (i : ℕ) → k ≤ i → get_or l' i 0 ≡ get_or l i 0
kept-behind l l' k e i h =
    let q : i ≡ k + (i - k) = omega arith in
    rw q (sym (get_or-drop k l' (i - k) 0) ∙ (ap (λ (x : List ℕ). get_or x (i - k) 0) e ∙ get_or-drop k l (i - k) 0))

module _ (bs os ws ms : List ℕ) (t : Pass2State) (v : Ends bs os ws ms t) where
  k : Standing bs os ws ms t
  k = v.standing

  pub finish-outside : t.inside ≡ false → Stepping bs os ws ms (finish (view_pass2 bs os ws ms t)) (Ok t)
  finish-outside i = went bs os ws ms _ t k (rw i (sym (finish-none (view_obj_blocks t.blocks bs os ws ms))))

  module _ (i : t.inside ≡ true) where
    long : length (cells_at ws ms t.base (t.used - t.base)) ≡ t.used - t.base
    long = cells-long ws ms t.base (t.used - t.base)

    pub finish-dropped : t.used - t.base ≡ 0 → (t' : Pass2State) → t' ≡ closing t t.blocks → Stepping bs os ws ms (finish (view_pass2 bs os ws ms t)) (Ok t')
    finish-dropped z t' q = rw q (went bs os ws ms _ (closing t t.blocks)
        (record { few = k.few; room = k.room; room_origs = k.room_origs; sum = omega (arith, k.sum, k.within); within = omega arith; shut = λ e. refl; words = k.words; marks = k.marks; rows = k.rows; clear = k.clear; clear_blocks = k.clear_blocks; clear_origs = k.clear_origs })
        (rw i (sym (finish-empty (opened ws ms t) (view_obj_blocks t.blocks bs os ws ms) (long ∙ z)))))

    module _ (z : t.used - t.base ≡ 0 → ⊥) where
      pub few-left : t.blocks < 64
      few-left = v.few i (omega (arith, z))

      module _ (a b : ℕ) (x : a ≡ t.used - t.base) (y : b ≡ a) where
        pub finish-placed : (bs' os' ws' ms' : List ℕ) → length bs' ≡ length bs → length os' ≡ length os → length ws' ≡ length ws → length ms' ≡ length ms → (p : Result (Unit {0}) Refusal) → PlacedAs bs os ws ms bs' os' ws' ms' t.blocks t.used t.start b t.orig_start t.orig_end p → (r : Result Pass2State Refusal) → r ≡ close_of t p → Stepping bs' os' ws' ms' (finish (view_pass2 bs os ws ms t)) r
        finish-placed bs' os' ws' ms' lb lo lw lm p h r q = rw q (go p refl)
          where
            base-is : t.used - b ≡ t.base
            base-is = omega (arith, k.within)

            size_is : b ≡ t.used - t.base
            size_is = omega arith

            open_is : obj_block t.start (cells_at ws ms (t.used - b) b) (span t.orig_start t.orig_end) ≡ opened ws ms t
            open_is = λ e. obj_block t.start (cells_at ws ms (base-is e) (size_is e)) (span t.orig_start t.orig_end)

            rule-is : (o : Outcome (List ObjBlock)) → order.outcome t.blocks bs' os' ws' ms' p ≡ o → finish (view_pass2 bs os ws ms t) ≡ (o >>= λ l. ok (pass2_state none l))
            rule-is o e =
                rw i (finish-more (opened ws ms t) (view_obj_blocks t.blocks bs os ws ms) (λ d. z (sym long ∙ d)))
                ∙ ap (λ (l : Outcome (List ObjBlock)). l >>= λ l. ok (pass2_state none l)) (ap (λ (w : ObjBlock). place w (view_obj_blocks t.blocks bs os ws ms)) (sym open_is) ∙ (sym h.rule ∙ e))

            still : p ≡ Ok tt → Standing bs' os' ws' ms' (closing t (t.blocks + 1))
            still e = let f = few-left in let c = h.kept e in record {
              few = omega arith;
              room = omega (arith, k.room);
              room_origs = omega (arith, k.room_origs);
              sum = c.sum;
              within = omega arith;
              shut = λ d. refl;
              words = omega (arith, k.words);
              marks = omega (arith, k.marks);
              rows = c.clean k.rows;
              clear = record { words = λ j l. kept-behind ws ws' t.used c.words j l ∙ k.clear.words j l; marks = λ j l. kept-behind ms ms' t.used c.marks j l ∙ k.clear.marks j l };
              clear_blocks = λ j l. kept-behind bs bs' (t.blocks * 2 + 2) c.blocks j (omega arith) ∙ k.clear_blocks j (omega arith);
              clear_origs = λ j l. kept-behind os os' (t.blocks * 2 + 2) c.origs j (omega arith) ∙ k.clear_origs j (omega arith);
            }

            go : (o : Result (Unit {0}) Refusal) → p ≡ o → Stepping bs' os' ws' ms' (finish (view_pass2 bs os ws ms t)) (close_of t o)
            go (Ok u) e = went bs' os' ws' ms' _ (closing t (t.blocks + 1)) (still e) (sym (rule-is _ (ap (order.outcome t.blocks bs' os' ws' ms') e)))
            go (Err f) e = stuck bs' os' ws' ms' _ f (sym (rule-is _ (ap (order.outcome t.blocks bs' os' ws' ms') e)))
