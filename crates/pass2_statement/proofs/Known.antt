-- A statement whose word is known: written behind those of the open block, it is what the rules write. Assumes nothing.
use Rattle.std.specs.declared.result.Result.TheVariants.{Ok, Err}
use mathlib.Core.Path.{◌≡◌, refl, sym, ◌∙◌, ap}
use mathlib.Core.Bool.{Bool, true, ◌&&◌}
use mathlib.Core.List.{List, [], ◌∷◌}
use Prim.Native.Nat.{ℕ, ◌+◌, ◌-◌, ◌<◌}
use native.Mathlib.Omega.{arith}
use borrow.Author.Tests.{eqb-true}
use lib.ListN.{length}
use lib.Dec.{eqb}
use Rattle.rules.specs.Words.{instr, fill}
use Rattle.rules.specs.Words as words
use Rattle.rules.specs.Objects.{word}
use Rattle.rules.specs.Statements.{Stmt}
use Rattle.rules.specs.Passes.{words_of, emit, written}
use Rattle.rules.proofs.Bools.{never, and_left, and_right}
use Rattle.parse.specs.declared.Statement.{Statement}
use Rattle.parse_rows.specs.declared.Op.{Op}
use Rattle.parse_rows.specs.declared.Op.TheVariants.{Instr, Orig, Fill, Blkw, Stringz, External}
use Rattle.parse_rows.specs.declared.Op.TheVariants as op
use Rattle.parse_meaning.specs.Reading.{meant_op, chars_at, Faithful}
use Rattle.pass1_symbols.specs.Symbols.{symbols}
use Rattle.pass2_encode.specs.Worded.{told}
use Rattle.pass2_encode.proofs.Wording.{instr-bare, fill-bare}
use Rattle.pass2_words.specs.Writing.{Wrote, Room, size_by, size_at}
use Rattle.pass2_words.proofs.Cells.{answer_word}
use Rattle.pass2_statement.specs.declared.Pass2State.{Pass2State}
use Rattle.pass2_statement.specs.State.{view_pass2, Stepping, with_used, one_word, known, Writes}
use Rattle.pass2_statement.proofs.Emitting.{emit-some}
use Rattle.pass2_statement.proofs.ByKind.{writes-emits, instr-written, fill-written}

-- what the test says
pub record Known (st : Statement) (t : Pass2State) : Type 0 where
  pub one : one_word st.op ≡ true
  pub bare : st.reach ≡ 0
  pub inside : t.inside ≡ true

pub is_known : (st : Statement) (t : Pass2State) {b : Bool} → b ≡ known st t → b ≡ true → Known st t
unfolding known
is_known st t q y =
    let e = sym q ∙ y in
    let a = and_left (one_word st.op && eqb st.reach 0) t.inside e in
    record {
      one = and_left (one_word st.op) (eqb st.reach 0) a;
      bare = eqb-true _ _ (and_right (one_word st.op) (eqb st.reach 0) a);
      inside = and_right (one_word st.op && eqb st.reach 0) t.inside e;
    }

module _ (rs src : List ℕ) (n : ℕ) (bs os ws ms : List ℕ) (st : Statement) (t : Pass2State) (v : Writes rs src n bs os ws ms st t) (k : Known st t) where
  -- room for it
  one-by : (o : Op) → one_word o ≡ true → (b c : ℕ) → size_by o b c ≡ 1
  one-by Instr e b c = refl
  one-by Fill e b c = refl
  one-by Blkw e b c = never cc
  one-by Stringz e b c = never cc
  one-by Orig e b c = never cc
  one-by op.End e b c = never cc
  one-by External e b c = never cc

  one : size_at src st ≡ 1
  unfolding size_at
  one = one-by st.op k.one st.bits (length (chars_at src (st.text_start + 1)))

  pub known-room : Room ws ms t.used 1
  known-room = rw one at (v.room k.inside)

  pub known-low : st.bits < 65536
  known-low = omega (arith, v.ready.low)

  module _ (ws' ms' : List ℕ) (w : Wrote ws ms ws' ms' t.used (word st.bits ∷ [])) (l : length ws' ≡ length ws) (m : length ms' ≡ length ms) (u : Pass2State) (q : u ≡ with_used t (t.used + 1)) (at : ℕ) (s : Stmt) (f : Faithful src at st s) where
    abbrev here : ℕ
    here = t.start + (t.used - t.base)

    step : (o : words.Op) → s.op ≡ o → told (Ok st.bits) ≡ words_of (symbols n rs src) here o s → Stepping bs os ws' ms' (emit (symbols n rs src) s (view_pass2 bs os ws ms t)) (Ok u)
    step o e h =
        let z : told (Ok st.bits) ≡ words_of (symbols n rs src) here s.op s = h ∙ ap (λ (x : words.Op). words_of (symbols n rs src) here x s) (sym e) in
        let y = answer_word ws ms ws' ms' t.used (Ok st.bits) st.bits refl w in
        emit-some rs src n ws ms st t (writes-emits rs src n bs os ws ms st t v) bs os at s v.standing f k.inside ws' ms' l m (t.used - t.base) t.start refl refl (Ok (t.used + 1)) (rw z at y) (Ok u) (ap Ok q)

    pub known-steps : Stepping bs os ws' ms' (written (symbols n rs src) s.op s (view_pass2 bs os ws ms t)) (Ok u)
    known-steps = go st.op refl k.one
      where
        is : (d : Op) → st.op ≡ d → s.op ≡ meant_op d
        is d e = f.op ∙ ap meant_op e

        go : (d : Op) → st.op ≡ d → one_word d ≡ true → Stepping bs os ws' ms' (written (symbols n rs src) s.op s (view_pass2 bs os ws ms t)) (Ok u)
        go Instr e o = instr-written rs src n bs os ws ms st t v at s f ws' ms' (Ok u) (step instr (is Instr e) (instr-bare rs src n st v.ready k.bare st.bits refl here at s f)) e
        go Fill e o = fill-written rs src n bs os ws ms st t v at s f ws' ms' (Ok u) (step fill (is Fill e) (fill-bare rs src n st v.ready k.bare st.bits refl at s f here)) e
        go Blkw e o = never cc
        go Stringz e o = never cc
        go Orig e o = never cc
        go op.End e o = never cc
        go External e o = never cc
