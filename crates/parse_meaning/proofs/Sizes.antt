-- How many words each kind of statement takes. Assumes nothing.
use mathlib.Core.Path.{◌≡◌, sym, ◌∙◌, ap}
use mathlib.Core.List.{List}
use Prim.Native.Nat.{ℕ, ◌+◌, ◌≤◌, ◌<◌}
use native.Mathlib.Omega.{arith}
use lib.ListN.{length}
use Rattle.rules.specs.Words.{instr, orig, fill, blkw, stringz, end, external}
use Rattle.rules.specs.Words as words
use Rattle.rules.specs.Statements.{Stmt}
use Rattle.rules.specs.Passes.{word_len}
use Rattle.parse_rows.specs.declared.Op.{Op}
use Rattle.parse_rows.specs.declared.Op.TheVariants.{Instr, Orig, Fill, Blkw, Stringz, External}
use Rattle.parse_rows.specs.declared.Op.TheVariants as op
use Rattle.parse.specs.declared.Statement.{Statement}
use Rattle.parse_meaning.specs.Reading.{meant_op, chars_at, Faithful}
use Rattle.parse_meaning.proofs.Chars.{chars-fit}

-- past the source there is no character
pub no-chars : (src : List ℕ) (q : ℕ) → length src ≤ q → (1 ≡ length (chars_at src (q + 1)) + 1) × (1 ≤ 262145)
no-chars src q h = (omega (arith, chars-fit src (q + 1)), omega arith)

abbrev Sized : List ℕ → Statement → ℕ → Type 0
Sized src st r = (r ≤ 262145) × ((at : ℕ) (s : Stmt) → Faithful src at st s → r ≡ word_len s.op s)

module _ (src : List ℕ) (st : Statement) where
  by-op : (o : words.Op) (at : ℕ) (s : Stmt) → Faithful src at st s → meant_op st.op ≡ o → word_len o s ≡ word_len s.op s
  by-op o at s f e = ap (λ (x : words.Op). word_len x s) (sym (f.op ∙ e))

  pub size-instr : st.op ≡ Instr → Sized src st 1
  unfolding word_len
  size-instr e = (omega arith, λ at s f. by-op instr at s f (ap meant_op e))

  pub size-fill : st.op ≡ Fill → Sized src st 1
  unfolding word_len
  size-fill e = (omega arith, λ at s f. by-op fill at s f (ap meant_op e))

  pub size-blkw : st.op ≡ Blkw → st.bits < 65536 → Sized src st st.bits
  unfolding word_len
  size-blkw e h = (omega arith, λ at s f. sym f.bits ∙ by-op blkw at s f (ap meant_op e))

  pub size-stringz : st.op ≡ Stringz → (n : ℕ) → n ≡ length (chars_at src (st.text_start + 1)) + 1 → n ≤ 262145 → Sized src st n
  unfolding word_len
  size-stringz e n q h = (h, λ at s f. q ∙ (ap (λ (l : List ℕ). length l + 1) (sym (f.text e)) ∙ by-op stringz at s f (ap meant_op e)))

  pub size-orig : st.op ≡ Orig → Sized src st 0
  unfolding word_len
  size-orig e = (omega arith, λ at s f. by-op orig at s f (ap meant_op e))

  pub size-end : st.op ≡ op.End → Sized src st 0
  unfolding word_len
  size-end e = (omega arith, λ at s f. by-op end at s f (ap meant_op e))

  pub size-external : st.op ≡ External → Sized src st 0
  unfolding word_len
  size-external e = (omega arith, λ at s f. by-op external at s f (ap meant_op e))
