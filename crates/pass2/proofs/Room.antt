-- What pass one found is room for a statement in pass two. Assumes nothing.
use mathlib.Core.Path.{◌≡◌, refl, sym, ◌∙◌, ap}
use mathlib.Core.Bool.{Bool, true, false}
use mathlib.Core.Logic.{inl, inr}
use mathlib.Core.Option.{Option, none, some}
use mathlib.Core.List.{List, [], ◌∷◌, ◌++◌}
use Prim.Native.Nat.{ℕ, zero, suc, ◌+◌, ◌-◌, ◌*◌, ◌≤◌, ◌<◌}
use native.Mathlib.Omega.{arith}
use lib.ListN.{length, get_or}
use Rattle.rules.specs.Base.{ok}
use Rattle.rules.specs.Words.{Range, instr, orig, fill, blkw, stringz, end, external}
use Rattle.rules.specs.Words as words
use Rattle.rules.specs.Statements.{Target, Stmt, Read, next_statement}
use Rattle.rules.specs.Passes.{Pass1State, ObjBlock, Pass2State, word_len, pass_one}
use Rattle.rules.specs.Buffers.{tab, head_row, sum_of}
use Rattle.rules.proofs.Rows.{length-tab, tab-suc}
use Rattle.rules.proofs.Bools.{never}
use Rattle.laws.proofs.Alongside.{total, Level, Alongside, Roomy, instr-roomy, fill-roomy, blkw-roomy, stringz-roomy, end-closable, orig-outside}
use Rattle.pass2_blocks.specs.Rows.{block_row, view_obj_blocks}
use Rattle.pass2_blocks.proofs.Placed.{cells-long}
use Rattle.parse_operands.specs.Lines.{reach_of}
use Rattle.parse_rows.specs.declared.Op.{Op}
use Rattle.parse_rows.specs.declared.Op.TheVariants.{Instr, Orig, Fill, Blkw, Stringz, External}
use Rattle.parse_rows.specs.declared.Op.TheVariants as op
use Rattle.parse.specs.declared.Statement.{Statement}
use Rattle.parse.specs.Coded.{coded_read}
use Rattle.parse.specs.Reach.{LabelField, HasField}
use Rattle.parse.proofs.Reach.{statement-known}
use Rattle.pass1_symbols.specs.Symbols.{Growing}
use Rattle.parse_meaning.specs.Reading.{meant_op, chars_at, Faithful}
use Rattle.pass2_encode.specs.Worded.{Ready}
use Rattle.pass2_words.specs.Writing.{size_by, size_at}
use Rattle.pass2_words.proofs.Statements.{size_is}
use Rattle.pass2_statement.specs.declared.Pass2State as code
use Rattle.pass2_statement.specs.State.{open_of, opened, view_pass2, Standing, Writes}

-- A LABEL OPERAND'S FIELD
long-reach : (o : words.Op) (t : Option Target) → HasField (LabelField o) t → (reach_of t ≡ 0 → ⊥) → (reach_of t ≡ 512 → ⊥) → 2048 ≤ reach_of t
long-reach o none h z y = absurd (z refl)
long-reach instr (some t) (inl h) z y = absurd (y (ap (λ (r : Range). r.modulus) h))
long-reach instr (some t) (inr h) z y = let m : t.field.modulus ≡ 2048 = ap (λ (r : Range). r.modulus) h in omega arith
long-reach orig (some t) h z y = absurd h
long-reach fill (some t) h z y = let m : t.field.modulus ≡ 65536 = ap (λ (r : Range). r.modulus) h in omega arith
long-reach blkw (some t) h z y = absurd h
long-reach stringz (some t) h z y = absurd h
long-reach end (some t) h z y = absurd h
long-reach external (some t) h z y = let m : t.field.modulus ≡ 65536 = ap (λ (r : Range). r.modulus) h in omega arith

pub ready : (rs src : List ℕ) (n at : ℕ) (x : Read) (st : Statement) → next_statement src at ≡ ok (some x) → coded_read x ≡ st → Faithful src at st x.stmt → Growing rs src n → length src ≤ 262144 → Ready rs src n st
unfolding coded_read
ready rs src n at x st e q f g l =
    let r : reach_of x.stmt.target ≡ st.reach = ap (λ (y : Statement). y.reach) q in
    record {
      table = g;
      size = l;
      low = f.low;
      long = λ z y. (let m = long-reach x.stmt.op x.stmt.target (statement-known src at x e) (λ i. z (sym r ∙ i)) (λ i. y (sym r ∙ i)) in omega arith);
      between = λ z. (f.aimed z).between;
    }

-- THE CLOSED BLOCKS: how many, and their words together
view-count : (n : ℕ) (bs os ws ms : List ℕ) → length (view_obj_blocks n bs os ws ms) ≡ n
unfolding view_obj_blocks
view-count n bs os ws ms = length-tab n (block_row bs os ws ms)

total-more : (xs : List ObjBlock) (y : ObjBlock) → total (xs ++ (y ∷ [])) ≡ total xs + length y.words
total-more [] y = omega arith
total-more (x ∷ xs) y = let e = total-more xs y in omega arith

total-tab : (n : ℕ) (f : ℕ → ObjBlock) (h : ℕ → ℕ × ℕ) → ((k : ℕ) → length (f k).words ≡ (h k).1) → total (tab n f) ≡ sum_of h n
total-tab zero f h e = refl
total-tab (suc n) f h e =
    let i = total-tab n f h e in
    let a = total-more (tab n f) (f n) in
    let b = e n in
    ap total (tab-suc n f) ∙ omega arith

view-total : (n : ℕ) (bs os ws ms : List ℕ) → total (view_obj_blocks n bs os ws ms) ≡ sum_of (head_row bs) n
unfolding view_obj_blocks
view-total n bs os ws ms = total-tab n (block_row bs os ws ms) (head_row bs) (λ k. cells-long ws ms (sum_of (head_row bs) k) (get_or bs (k * 2 + 1) 0))

size-by : (src : List ℕ) (st : Statement) (o : Op) → st.op ≡ o → size_at src st ≡ size_by o st.bits (length (chars_at src (st.text_start + 1)))
unfolding size_at
size-by src st o e = ap (λ (x : Op). size_by x st.bits (length (chars_at src (st.text_start + 1)))) e

-- A STATEMENT, where pass one accepts it and those behind it
module _ (bs os ws ms : List ℕ) (t : code.Pass2State) (k : Standing bs os ws ms t) (src : List ℕ) (at : ℕ) (st : Statement) (s : Stmt) (f : Faithful src at st s) where
  abbrev Seen : Pass2State
  Seen = view_pass2 bs os ws ms t

  module _ (ss : List Stmt) (o e : Pass1State) (a : Alongside o Seen) (p : pass_one (s ∷ ss) o ≡ ok e) (lw : e.words ≤ length ws) (lm : e.words ≤ length ms) where
    long : length (opened ws ms t).words ≡ t.used - t.base
    long = cells-long ws ms t.base (t.used - t.base)

    count : length Seen.blocks ≡ t.blocks
    count = view-count t.blocks bs os ws ms

    sum : total Seen.blocks ≡ t.base
    sum = view-total t.blocks bs os ws ms ∙ k.sum

    size : word_len s.op s ≡ size_at src st
    size = size_is src at st s f

    open_is : t.inside ≡ true → Seen.current ≡ some (opened ws ms t)
    open_is i = ap (λ (b : Bool). open_of b (opened ws ms t)) i

    -- the open block is small
    small : t.used - t.base < 65536
    small = go t.inside refl
      where
        low : (c : Option _) → Level c (some (opened ws ms t)) → t.used - t.base < 65536
        low none h = absurd h
        low (some c) h = by-words (t.used - t.base) refl
          where
            by-words : (m : ℕ) → t.used - t.base ≡ m → t.used - t.base < 65536
            by-words zero q = omega arith
            by-words (suc m) q = let z = long in let y = h.low (omega arith) in omega arith

        go : (b : Bool) → t.inside ≡ b → t.used - t.base < 65536
        go true i = low o.cursor (rw (open_is i) at a.level)
        go false i = let z = k.shut i in omega arith

    -- room for its words, below xFE00
    record Fits : Type 0 where
      pub words : t.used + size_at src st ≤ length ws
      pub marks : t.used + size_at src st ≤ length ms
      pub low : 0 < size_at src st → t.start + (t.used - t.base) + size_at src st ≤ 0xfe00

    by-room : Roomy s ss o e Seen a p (opened ws ms t) → Fits
    by-room r = let z = long in let y = sum in let x = size in let w = k.within in let u = r.room in record {
      words = omega arith;
      marks = omega arith;
      low = λ q. (let d = r.low (omega arith) in omega arith);
    }

    by-none : size_at src st ≡ 0 → Fits
    by-none q = let w = k.words in let u = k.marks in record { words = omega arith; marks = omega arith; low = λ z. absurd (omega arith) }

    fits : t.inside ≡ true → Fits
    fits i = go st.op refl
      where
        is : (d : Op) → st.op ≡ d → s.op ≡ meant_op d
        is d q = f.op ∙ ap meant_op q

        go : (d : Op) → st.op ≡ d → Fits
        go Instr q = by-room (instr-roomy s ss o e Seen a p (is Instr q) (opened ws ms t) (open_is i))
        go Fill q = by-room (fill-roomy s ss o e Seen a p (is Fill q) (opened ws ms t) (open_is i))
        go Blkw q = by-room (blkw-roomy s ss o e Seen a p (is Blkw q) (opened ws ms t) (open_is i))
        go Stringz q = by-room (stringz-roomy s ss o e Seen a p (is Stringz q) (opened ws ms t) (open_is i))
        go Orig q = by-none (size-by src st Orig q)
        go op.End q = by-none (size-by src st op.End q)
        go External q = by-none (size-by src st External q)

    outside : st.op ≡ Orig → t.inside ≡ false
    outside q = go t.inside (orig-outside s ss o e Seen a p (f.op ∙ ap meant_op q))
      where
        go : (b : Bool) → open_of b (opened ws ms t) ≡ none → b ≡ false
        go true h = never cc
        go false h = refl

    few-closed : st.op ≡ op.End → t.inside ≡ true → t.base < t.used → t.blocks < 64
    few-closed q i l = let z = long in let y = count in let h = (end-closable s ss o e Seen a p (f.op ∙ ap meant_op q) (opened ws ms t) (open_is i)).few (omega arith) in omega arith

    pub writes : (rs : List ℕ) (n : ℕ) → Ready rs src n st → Writes rs src n bs os ws ms st t
    writes rs n r = record {
      standing = k;
      ready = r;
      rising = f.rising;
      within = f.within;
      room = λ i. (let z = fits i in record { words = z.words; marks = z.marks });
      small = small;
      low = λ i. (fits i).low;
      fresh = outside;
      few = few-closed;
    }
