-- What pass two and the layout make of a source's tables. Assumes nothing.
use Rattle.std.specs.declared.result.Result.{Result}
use Rattle.std.specs.declared.result.Result.TheVariants.{Ok, Err}
use mathlib.Core.Path.{◌≡◌, refl, sym, ◌∙◌, ap}
use mathlib.Core.Bool.{false}
use mathlib.Core.List.{List}
use Prim.Native.Nat.{ℕ, ◌*◌, ◌≤◌}
use native.Mathlib.Omega.{arith}
use lib.ListN.{length, length-replicate}
use Rattle.rules.specs.Base.{ok}
use Rattle.rules.specs.Statements.{Stmt, statements}
use Rattle.rules.specs.Objects.{Object, object, nothing}
use Rattle.rules.specs.Buffers.{Buffers, six, short, lent_words, head_row, sum_of, zeros, lay, reloc_cells, lay_blocks, lay_words, lay_marks, lay_labels, lay_relocs, lay_names, layout}
use Rattle.rules.specs.Passes.{pass1_start, Pass2State, pass2_start, pass_two}
use Rattle.rules.proofs.Fits.{long, lent-in-words, lent-in-marks}
use Rattle.rules.proofs.Bools.{never}
use Rattle.base_refusals.specs.Refusals.{refused_by}
use Rattle.base_refusals.specs.declared.Refusal.{Refusal}
use Rattle.pass1_state.specs.declared.Pass1State as code
use Rattle.pass2_statement.specs.declared.Pass2State as code2
use Rattle.pass1_symbols.specs.Symbols.{symbols}
use Rattle.pass1_relocations.specs.Pending.{notes}
use Rattle.pass1_relocations.specs.Resolved.{Resolved}
use Rattle.object_layout_labels.specs.Laying.{LabelRoom, LaidLabels}
use Rattle.pass2_blocks.specs.Rows.{view_obj_blocks}
use Rattle.pass1_fill.specs.Tables.{seen}
use Rattle.pass2_statement.specs.State.{view_pass2, Standing}
use Rattle.pass2.specs.Passing.{Passing}
use Rattle.laws.proofs.Alongside.{along-start}
use Rattle.laws.proofs.Known.{Low, Kept, kept-start, kept-all}
use Rattle.laws_accepted.proofs.Cells.{Finished, fine-all, fine-start}
use Rattle.laws_accepted.proofs.Objects.{blocks_of, labels_of}
use Rattle.laws_accepted.proofs.Statements.{all_sound_lem}
use Rattle.laws_accepted.proofs.Accepted.{lexed-low}
use Rattle.asm_first_half.specs.Tabled.{Begun}
use Rattle.asm_second_half.specs.Made.{after_pass2, Roomy, Wrote, Making, Made}
use Rattle.asm_second_half.proofs.Blocks.{Written, blocks-ok, blocks-laid, placed-view}
use Rattle.asm_second_half.proofs.Tables.{zero_rest, all-resolved, counted}

same_ok : {A : Type 0} {x y : A} → ok x ≡ ok y → x ≡ y
same_ok e = cc

-- AFTER PASS ONE
module _ (rs qs src : List ℕ) (o : code.Pass1State) (g : Begun rs qs src o) where
  low : Low src
  low = lexed-low src g.readable.tokens g.readable.clean

  kept : Kept (seen rs qs src o)
  kept = (kept-all g.readable.stmts pass1_start (seen rs qs src o) kept-start (all_sound_lem src low g.readable.stmts g.readable.read) g.first).kept

  begun-resolved : Resolved qs src o.relocations rs o.labels
  begun-resolved = all-resolved rs qs src o.labels o.relocations (seen rs qs src o) kept refl refl g.held.lent.table g.held.table

  -- the statements are those that pass one read
  stmts-same : (ss : List Stmt) → statements src ≡ ok ss → g.readable.stmts ≡ ss
  stmts-same ss e = same_ok (sym g.readable.read ∙ e)

  finished : (u : Pass2State) → pass_two (symbols o.labels rs src) g.readable.stmts pass2_start ≡ ok u → Finished (seen rs qs src o) u
  finished u e = fine-all g.readable.stmts pass1_start (seen rs qs src o) pass2_start u along-start kept-start fine-start (all_sound_lem src low g.readable.stmts g.readable.read) g.first e

-- AFTER PASS TWO
module _ (rs qs src : List ℕ) (o : code.Pass1State) (g : Begun rs qs src o) (bs os ws ms : List ℕ) (t : code2.Pass2State) (h : Standing bs os ws ms t) (i : t.inside ≡ false) (e : ok (view_pass2 bs os ws ms t) ≡ pass_two (symbols o.labels rs src) g.readable.stmts pass2_start) where
  abbrev whole : Object
  whole = object (blocks_of (view_obj_blocks t.blocks bs os ws ms)) (labels_of (symbols o.labels rs src)) (notes o.relocations qs src)

  all-used : sum_of (head_row bs) t.blocks ≡ t.used
  all-used = h.sum ∙ sym (h.shut i)

  written : Written t.blocks t.used bs ws ms
  written =
      let f = finished rs qs src o g (view_pass2 bs os ws ms t) (sym e) in
      record {
        blocks = blocks-ok t.blocks t.used bs os ws ms h.few (omega (arith, h.few, h.room)) all-used f.along.apart;
        words = record { room_words = h.words; room_marks = h.marks; rows = h.rows };
        rest-blocks = zero_rest (t.blocks * 2) bs h.clear_blocks;
        rest-words = zero_rest t.used ws h.clear.words;
        rest-marks = zero_rest t.used ms h.clear.marks;
      }

  object-is : (ss : List Stmt) → statements src ≡ ok ss → after_pass2 ss (seen rs qs src o) ≡ ok whole
  unfolding after_pass2
  object-is ss q =
      let s = stmts-same rs qs src o g ss q in
      rw (← s, ← e)

  making : (p : Buffers) (ls rel ns : List ℕ) → length bs ≡ length p.blocks → length ws ≡ length p.words → length ms ≡ length p.marks
      → LaidLabels (labels_of (symbols o.labels rs src)) p.labels p.names ls ns
      → rel ≡ lay (reloc_cells (labels_of (symbols o.labels rs src)) (notes o.relocations qs src)) (length p.relocs)
      → (ss : List Stmt) → statements src ≡ ok ss → Making o t (after_pass2 ss (seen rs qs src o)) p (six bs ws ms ls rel ns)
  unfolding lay_labels lay_relocs lay_names
  making p ls rel ns lb lw lm l k ss q =
      let b = blocks-laid whole t.blocks t.used bs ws ms written (placed-view t.blocks t.used bs os ws ms (omega (arith, all-used))) in
      let x : bs ≡ lay_blocks whole (length p.blocks) = b.blocks ∙ ap (lay_blocks whole) lb in
      let y : ws ≡ lay_words whole (length p.words) = b.words ∙ ap (lay_words whole) lw in
      let z : ms ≡ lay_marks whole (length p.marks) = b.marks ∙ ap (lay_marks whole) lm in
      record {
        whole = whole;
        is = object-is ss q;
        counts = counted t.blocks t.used o.labels o.relocations bs os ws ms rs qs src all-used;
        buffers = λ v. six (x v) (y v) (z v) (l.rows v) (k v) (l.names v);
      }

-- BUFFERS CLEARED FOR PASS TWO
cleared : (l : List ℕ) (n : ℕ) → l ≡ zeros n → (length l ≡ n) × (l ≡ zeros (length l))
cleared l n e =
    let k : length l ≡ n = ap length e ∙ length-replicate n 0 in
    (k, e ∙ ap zeros (sym k))

-- a buffer that is cleared once more
pub cleared-again : (a b c : List ℕ) → b ≡ zeros (length a) → c ≡ zeros (length b) → c ≡ zeros (length a)
cleared-again a b c h k = k ∙ ap zeros (cleared b (length a) h).0

pub roomy-passing : (rs src : List ℕ) (n : ℕ) (bs ws ms : List ℕ) → Roomy rs src n bs ws ms → (bs' os ws' ms' : List ℕ) → bs' ≡ zeros (length bs) → ws' ≡ zeros (length ws) → ms' ≡ zeros (length ms) → os ≡ zeros 128 → Passing rs src n bs' os ws' ms'
roomy-passing rs src n bs ws ms h bs' os ws' ms' b w m o =
    let x = cleared bs' (length bs) b in
    let y = cleared ws' (length ws) w in
    let z = cleared ms' (length ms) m in
    let v = cleared os 128 o in
    record {
      stmts = h.stmts;
      read = h.read;
      final = h.final;
      passed = h.passed;
      table = h.table;
      size = h.size;
      room = omega (arith, h.room, x.0);
      room_origs = omega (arith, v.0);
      words = omega (arith, h.words, y.0);
      marks = omega (arith, h.marks, z.0);
      blank = x.1;
      blank_origs = v.1;
      blank_words = y.1;
      blank_marks = z.1;
    }

-- THE WHOLE
module _ (rs qs src : List ℕ) (o : code.Pass1State) (g : Begun rs qs src o) (bs ws ms ls rel ns : List ℕ) (f : short (six bs ws ms ls rel ns) ≡ false) where
  pub roomy : o.words ≤ lent_words ws ms → Roomy rs src o.labels bs ws ms
  roomy l =
      let k = long (six bs ws ms ls rel ns) f in
      record {
        stmts = g.readable.stmts;
        read = g.readable.read;
        final = seen rs qs src o;
        passed = g.first;
        table = g.held.lent.table;
        size = g.held.lent.size;
        room = k.blocks;
        words = omega (arith, l, lent-in-words ws ms);
        marks = omega (arith, l, lent-in-marks ws ms);
      }

  pub rooms : Resolved qs src o.relocations rs o.labels × LabelRoom o.labels ls ns × (o.relocations * 2 ≤ length rel)
  rooms =
      let k = long (six bs ws ms ls rel ns) f in
      let r = begun-resolved rs qs src o g in
      (r, record { rows = omega (arith, k.labels, r.names.few); names = omega (arith, k.names, r.names.few) }, omega (arith, k.relocs, r.table.few))

  module _ (bs' ws' ms' : List ℕ) (lb : length bs' ≡ length bs) (lw : length ws' ≡ length ws) (lm : length ms' ≡ length ms) (z : Result code2.Pass2State Refusal) (w : Wrote rs src o.labels bs' ws' ms' z) where
    stopping : (f : Refusal) → z ≡ Err f → (ss : List Stmt) → statements src ≡ ok ss → after_pass2 ss (seen rs qs src o) ≡ refused_by f
    unfolding after_pass2
    stopping f q ss s =
        let v : refused_by f ≡ pass_two (symbols o.labels rs src) ss pass2_start = rw q at (w.passed.rule ss s) in
        rw (← v)

    pub made-whole : (t : code2.Pass2State) → z ≡ Ok t → (ls' rel' ns' : List ℕ)
        → LaidLabels (labels_of (symbols o.labels rs src)) ls ns ls' ns'
        → rel' ≡ lay (reloc_cells (labels_of (symbols o.labels rs src)) (notes o.relocations qs src)) (length rel)
        → Made rs qs src o (six bs ws ms ls rel ns) z (six bs' ws' ms' ls' rel' ns')
    made-whole t e ls' rel' ns' l k = record {
      went = λ u q.
          (let i = w.passed.shut u q in
          let v : ok (view_pass2 bs' w.origs ws' ms' u) ≡ pass_two (symbols o.labels rs src) g.readable.stmts pass2_start = rw q at (w.passed.rule g.readable.stmts g.readable.read) in
          making rs qs src o g bs' w.origs ws' ms' u (w.passed.kept u q) i v (six bs ws ms ls rel ns) ls' rel' ns' lb lw lm l k);
      stopped = stopping;
      cleared = λ f y. (let v : Ok t ≡ Err f = sym e ∙ y in never cc);
    }

    -- the layout knows buffers by their lengths: what pass two wrote counts for nothing
    pub made_none : (f : Refusal) → z ≡ Err f → (x : Buffers) → x ≡ layout nothing (six bs' ws' ms' ls rel ns) → Made rs qs src o (six bs ws ms ls rel ns) z x
    made_none f q x h = record {
      went = λ u y. (let v : Ok u ≡ Err f = sym y ∙ q in never cc);
      stopped = stopping;
      cleared = λ g y. h ∙ (λ v. six (lay_blocks nothing (lb v)) (lay_words nothing (lw v)) (lay_marks nothing (lm v)) (lay_labels nothing (length ls)) (lay_relocs nothing (length rel)) (lay_names nothing (length ns)));
    }
