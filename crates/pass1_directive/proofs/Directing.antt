-- What each way through `direct` shows. Assumes nothing.
use Rattle.base_refusals.specs.declared.Refusal.{Refusal}
use Rattle.std.specs.declared.result.Result.{Result}
use Rattle.std.specs.declared.result.Result.TheVariants.{Ok, Err}
use mathlib.Core.Path.{◌≡◌, refl, sym, ◌∙◌, ap}
use mathlib.Core.Option.{none, some}
use mathlib.Core.List.{List}
use Prim.Native.Nat.{ℕ}
use native.Mathlib.Omega.{arith}
use Rattle.rules.specs.Base.{Outcome, ok, span}
use Rattle.rules.specs.Words.{instr, orig, fill, blkw, stringz, external}
use Rattle.rules.specs.Words as words
use Rattle.rules.specs.Statements.{Stmt, Target}
use Rattle.rules.specs.Passes.{Pass1State, directed}
use Rattle.parse_labels.specs.Names.{name_between}
use Rattle.pass1_symbols.specs.Symbols.{symbols}
use Rattle.pass1_relocations.specs.Pending.{notes}
use Rattle.parse_rows.specs.declared.Op.TheVariants.{Instr, Orig, Fill, Blkw, Stringz, External}
use Rattle.parse_rows.specs.declared.Op.TheVariants as op
use Rattle.parse.specs.declared.Statement.{Statement}
use Rattle.parse_meaning.specs.Reading.{meant_op, Faithful}
use Rattle.pass1_state.specs.declared.Pass1State as code
use Rattle.pass1_state.specs.State.{view_pass1}
use Rattle.pass1_state.specs.State as counting
use Rattle.pass1_labels.specs.Tables.{Lent}
use Rattle.pass1_labels.specs.Tables as naming
use Rattle.pass1_fill.specs.Tables.{seen, Held, Stepping}
use Rattle.pass1_directive.specs.Sound.{Sound}

-- what the reader's answer says is safe
pub sound : (src : List ℕ) (at : ℕ) (st : Statement) (s : Stmt) → Faithful src at st s → Sound src st
sound src at st s f = record { low = omega (arith, f.low); name = λ z. (f.aimed z).between }

-- STEPS AS STEPS OVER BOTH TABLES
module _ (rs qs src : List ℕ) (o : code.Pass1State) (h : Held rs qs src o) where
  -- a step that changes no table
  pub over_none : (f : Pass1State → Outcome Pass1State) (r : Result code.Pass1State Refusal) → counting.Stepping o (λ x y. f (view_pass1 x y o)) r → Stepping rs qs src rs qs o f r
  over_none f r k = record {
    rule = k.rule (λ n. symbols n rs src) (λ n. notes n qs src);
    kept = λ o' q. (let w = k.kept o' q in record {
      lent = record { steady = w.steady; table = rw w.labels h.lent.table; size = h.lent.size };
      table = rw w.relocations h.table;
      room = h.room;
    });
  }

  -- one that may add symbols
  pub over-names : (rs' : List ℕ) (f : Pass1State → Outcome Pass1State) (r : Result code.Pass1State Refusal) → naming.Stepping rs src rs' o f r → Stepping rs qs src rs' qs o f r
  over-names rs' f r k = record {
    rule = k.rule (λ n. notes n qs src);
    kept = λ o' q. (let w = k.kept o' q in record { lent = w.lent; table = rw w.relocations h.table; room = h.room });
  }

  -- none at all
  pub over-ok : (f : Pass1State → Outcome Pass1State) → f (seen rs qs src o) ≡ ok (seen rs qs src o) → Stepping rs qs src rs qs o f (Ok o)
  over-ok f e = record { rule = sym e; kept = λ o' q. (let w : o ≡ o' = cc in rw w at h) }

-- THE RULE
module _ (s : Stmt) (v : Pass1State) where
  instr-rule : directed instr s v ≡ ok v
  unfolding directed
  instr-rule = refl

  blkw-rule : directed blkw s v ≡ ok v
  unfolding directed
  blkw-rule = refl

  stringz-rule : directed stringz s v ≡ ok v
  unfolding directed
  stringz-rule = refl

  bare-external : s.target ≡ none → directed external s v ≡ ok v
  unfolding directed
  bare-external e = rw e

  bare-fill : s.target ≡ none → directed fill s v ≡ ok v
  unfolding directed
  bare-fill e = rw e

-- a rule by what the statement is
by-op : (rs qs src rs' qs' : List ℕ) (o : code.Pass1State) (s : Stmt) (w : words.Op) (r : Result code.Pass1State Refusal) → s.op ≡ w → Stepping rs qs src rs' qs' o (λ v. directed w s v) r → Stepping rs qs src rs' qs' o (λ v. directed s.op s v) r
by-op rs qs src rs' qs' o s w r e k = record { rule = k.rule ∙ sym (ap (λ (u : words.Op). directed u s (seen rs qs src o)) e); kept = k.kept }

-- EACH DIRECTIVE
module _ (rs qs src : List ℕ) (o : code.Pass1State) (h : Held rs qs src o) (st : Statement) where
  pub fill-bare : st.reach ≡ 0 → (at : ℕ) (s : Stmt) → Faithful src at st s → Stepping rs qs src rs qs o (λ v. directed fill s v) (Ok o)
  fill-bare z at s f = over-ok rs qs src o h (λ v. directed fill s v) (bare-fill s (seen rs qs src o) (f.bare z))

  pub fill-named : (st.reach ≡ 0 → ⊥) → (qs' : List ℕ) (r : Result code.Pass1State Refusal)
      → ((s : Stmt) (t : Target) → s.target ≡ some t → t.name ≡ name_between src st.label_start st.label_end → s.place ≡ span st.start st.end → Stepping rs qs src rs qs' o (λ v. directed fill s v) r)
      → (at : ℕ) (s : Stmt) → Faithful src at st s → Stepping rs qs src rs qs' o (λ v. directed fill s v) r
  fill-named z qs' r k at s f = let a = f.aimed z in k s a.target a.is a.name f.place

  pub direct-instr : st.op ≡ Instr → (at : ℕ) (s : Stmt) → Faithful src at st s → Stepping rs qs src rs qs o (λ v. directed s.op s v) (Ok o)
  direct-instr e at s f = by-op rs qs src rs qs o s instr (Ok o) (f.op ∙ ap meant_op e) (over-ok rs qs src o h (λ v. directed instr s v) (instr-rule s (seen rs qs src o)))

  pub direct-blkw : st.op ≡ Blkw → (at : ℕ) (s : Stmt) → Faithful src at st s → Stepping rs qs src rs qs o (λ v. directed s.op s v) (Ok o)
  direct-blkw e at s f = by-op rs qs src rs qs o s blkw (Ok o) (f.op ∙ ap meant_op e) (over-ok rs qs src o h (λ v. directed blkw s v) (blkw-rule s (seen rs qs src o)))

  pub direct-stringz : st.op ≡ Stringz → (at : ℕ) (s : Stmt) → Faithful src at st s → Stepping rs qs src rs qs o (λ v. directed s.op s v) (Ok o)
  direct-stringz e at s f = by-op rs qs src rs qs o s stringz (Ok o) (f.op ∙ ap meant_op e) (over-ok rs qs src o h (λ v. directed stringz s v) (stringz-rule s (seen rs qs src o)))

  pub direct-orig : st.op ≡ Orig → (r : Result code.Pass1State Refusal)
      → ((s : Stmt) → s.bits ≡ st.bits → s.place ≡ span st.start st.end → counting.Stepping o (λ x y. directed orig s (view_pass1 x y o)) r)
      → (at : ℕ) (s : Stmt) → Faithful src at st s → Stepping rs qs src rs qs o (λ v. directed s.op s v) r
  direct-orig e r k at s f = by-op rs qs src rs qs o s orig r (f.op ∙ ap meant_op e) (over_none rs qs src o h (λ v. directed orig s v) r (k s f.bits f.place))

  pub direct-end : st.op ≡ op.End → (r : Result code.Pass1State Refusal)
      → ((s : Stmt) → s.place ≡ span st.start st.end → counting.Stepping o (λ x y. directed words.end s (view_pass1 x y o)) r)
      → (at : ℕ) (s : Stmt) → Faithful src at st s → Stepping rs qs src rs qs o (λ v. directed s.op s v) r
  direct-end e r k at s f = by-op rs qs src rs qs o s words.end r (f.op ∙ ap meant_op e) (over_none rs qs src o h (λ v. directed words.end s v) r (k s f.place))

  pub direct-fill : st.op ≡ Fill → (qs' : List ℕ) (r : Result code.Pass1State Refusal)
      → ((at : ℕ) (s : Stmt) → Faithful src at st s → Stepping rs qs src rs qs' o (λ v. directed fill s v) r)
      → (at : ℕ) (s : Stmt) → Faithful src at st s → Stepping rs qs src rs qs' o (λ v. directed s.op s v) r
  direct-fill e qs' r k at s f = by-op rs qs src rs qs' o s fill r (f.op ∙ ap meant_op e) (k at s f)

  pub direct-external : st.op ≡ External → (rs' : List ℕ) (r : Result code.Pass1State Refusal)
      → ((at : ℕ) (s : Stmt) → Faithful src at st s → naming.Stepping rs src rs' o (λ v. directed external s v) r)
      → (at : ℕ) (s : Stmt) → Faithful src at st s → Stepping rs qs src rs' qs o (λ v. directed s.op s v) r
  direct-external e rs' r k at s f = by-op rs qs src rs' qs o s external r (f.op ∙ ap meant_op e) (over-names rs qs src o h rs' (λ v. directed external s v) r (k at s f))

module _ (rs src : List ℕ) (o : code.Pass1State) (h : Lent rs src o) (st : Statement) where
  pub external-bare : st.reach ≡ 0 → (at : ℕ) (s : Stmt) → Faithful src at st s → naming.Stepping rs src rs o (λ v. directed external s v) (Ok o)
  external-bare z at s f = record {
    rule = λ y. sym (bare-external s _ (f.bare z));
    kept = λ o' q. (let w : o ≡ o' = cc in record { lent = rw w at h; relocations = ap (λ (u : code.Pass1State). u.relocations) (sym w) });
  }

  pub external-named : (st.reach ≡ 0 → ⊥) → (rs' : List ℕ) (r : Result code.Pass1State Refusal)
      → ((s : Stmt) (t : Target) → s.target ≡ some t → t.name ≡ name_between src st.label_start st.label_end → s.place ≡ span st.start st.end → naming.Stepping rs src rs' o (λ v. directed external s v) r)
      → (at : ℕ) (s : Stmt) → Faithful src at st s → naming.Stepping rs src rs' o (λ v. directed external s v) r
  external-named z rs' r k at s f = let a = f.aimed z in k s a.target a.is a.name f.place
