-- What each way through a step of pass one shows. Assumes nothing.
use Rattle.std.specs.declared.result.Result.{Result}
use Rattle.std.specs.declared.result.Result.TheVariants.{Ok, Err}
use mathlib.Core.Path.{◌≡◌, refl, sym, ◌∙◌, ap}
use mathlib.Core.Bool.{Bool, true, false, not, ◌&&◌}
use mathlib.Core.List.{List}
use mathlib.Core.Option.{none}
use Prim.Native.Nat.{ℕ, ◌+◌, ◌-◌, ◌<◌}
use native.Mathlib.Omega.{arith}
use borrow.Author.Tests.{ltb-true, eqb-true}
use lib.Dec.{ltb}
use Rattle.rules.specs.Base.{Outcome, ok, ◌>>=◌, span}
use Rattle.rules.specs.Words as words
use Rattle.rules.specs.Statements.{Name, Stmt, labels_at}
use Rattle.rules.proofs.Bools.{never, and_left, and_right}
use Rattle.rules.specs.Passes.{Pass1State, word_len, labelled, directed, advanced, step_one}
use Rattle.base_refusals.specs.Refusals.{refused_by}
use Rattle.base_refusals.specs.declared.Refusal.{Refusal}
use Rattle.pass1_symbols.specs.Symbols.{symbols}
use Rattle.pass1_relocations.specs.Pending.{notes}
use Rattle.parse.specs.declared.Statement.{Statement}
use Rattle.parse_rows.specs.declared.Op.{Op}
use Rattle.parse_rows.specs.declared.Op.TheVariants.{Instr, Orig, Fill, Blkw, Stringz, External}
use Rattle.parse_rows.specs.declared.Op.TheVariants as op
use Rattle.parse_meaning.specs.Reading.{meant_op, Faithful}
use Rattle.pass1_state.specs.declared.Pass1State as code
use Rattle.pass1_state.specs.State.{view_pass1, told, Steady, counting}
use Rattle.pass1_state.specs.State as steps
use Rattle.pass1_state.proofs.Counting.{step-on}
use Rattle.pass1_labels.specs.Tables as naming
use Rattle.pass1_fill.specs.Tables.{seen, Held, Stepping}
use Rattle.pass1_directive.specs.Sound.{Sound}
use Rattle.pass1_directive.proofs.Directing.{sound, over_none, over-names}
use Rattle.pass1.specs.Steps.{one_word, only_counts, step_on, Stands}

-- ONE STEP AFTER ANOTHER
module _ (rs qs src rs' qs' : List ℕ) (o : code.Pass1State) (f : Pass1State → Outcome Pass1State) (a : Result code.Pass1State Refusal) (k : Stepping rs qs src rs' qs' o f a) (g : Pass1State → Outcome Pass1State) where
  then-went : (b : code.Pass1State) → a ≡ Ok b → (rs'' qs'' : List ℕ) (r : Result code.Pass1State Refusal) → Stepping rs' qs' src rs'' qs'' b g r → Stepping rs qs src rs'' qs'' o (λ v. f v >>= g) r
  then-went b q rs'' qs'' r j =
      let w : f (seen rs qs src o) ≡ ok (seen rs' qs' src b) = sym k.rule ∙ ap (told (λ n. symbols n rs' src) (λ n. notes n qs' src)) q in
      record { rule = j.rule ∙ sym (ap (λ (x : Outcome Pass1State). x >>= g) w); kept = j.kept }

  then-refused : (x : Refusal) → a ≡ Err x → Stepping rs qs src rs' qs' o (λ v. f v >>= g) a
  then-refused x q =
      let w : f (seen rs qs src o) ≡ refused_by x = sym k.rule ∙ ap (told (λ n. symbols n rs' src) (λ n. notes n qs' src)) q in
      record {
        rule = ap (told (λ n. symbols n rs' src) (λ n. notes n qs' src)) q ∙ sym (ap (λ (x : Outcome Pass1State). x >>= g) w);
        kept = k.kept;
      }

-- AFTER THE LABELS
pub stands-sound : (src : List ℕ) (st : Statement) → Stands src st → Sound src st
stands-sound src st w = sound src w.at st w.stmt w.faithful

pub stands-low : (src : List ℕ) (st : Statement) → Stands src st → st.bits < 65536
stands-low src st w = (stands-sound src st w).low

module _ (rs qs src : List ℕ) (o : code.Pass1State) (st : Statement) (w : Stands src st) (rs' qs' : List ℕ) (a : Result code.Pass1State Refusal)
    (k : (at : ℕ) (s : Stmt) → Faithful src at st s → Stepping rs qs src rs' qs' o (λ v. directed s.op s v) a) where
  pub on-refused : (x : Refusal) → a ≡ Err x → (at : ℕ) (s : Stmt) → Faithful src at st s → Stepping rs qs src rs' qs' o (step_on s) a
  unfolding step_on
  on-refused x q at s f = then-refused rs qs src rs' qs' o (λ v. directed s.op s v) a (k at s f) (λ b. advanced (word_len s.op s) s.place b) x q

  module _ (b : code.Pass1State) (q : a ≡ Ok b) where
    on-held : Held rs' qs' src b
    on-held = (k w.at w.stmt w.faithful).kept b q

    pub on-steady : Steady b
    on-steady = on-held.lent.steady

    pub on-went : (n : ℕ) → ((at : ℕ) (s : Stmt) → Faithful src at st s → n ≡ word_len s.op s) → (r : Result code.Pass1State Refusal)
        → steps.Stepping b (λ x y. advanced n (span st.start st.end) (view_pass1 x y b)) r → (at : ℕ) (s : Stmt) → Faithful src at st s → Stepping rs qs src rs' qs' o (step_on s) r
    unfolding step_on
    on-went n z r j at s f =
        let u = over_none rs' qs' src b on-held (λ v. advanced n (span st.start st.end) v) r j in
        let v : Stepping rs' qs' src rs' qs' b (λ v. advanced (word_len s.op s) s.place v) r = record {
          rule = u.rule ∙ (λ i. advanced (z at s f i) (sym f.place i) (seen rs' qs' src b));
          kept = u.kept;
        } in
        then-went rs qs src rs' qs' o (λ v. directed s.op s v) a (k at s f) (λ b. advanced (word_len s.op s) s.place b) b q rs' qs' r v

-- WITHOUT LABELS
module _ (rs qs src : List ℕ) (o : code.Pass1State) (st : Statement) (rs' qs' : List ℕ) (r : Result code.Pass1State Refusal) (z : st.labelled ≡ false)
    (k : (at : ℕ) (s : Stmt) → Faithful src at st s → Stepping rs qs src rs' qs' o (step_on s) r) where
  pub step-bare : (at : ℕ) (s : Stmt) → Faithful src at st s → Stepping rs qs src rs' qs' o (step_one s) r
  unfolding step_one step_on labelled
  step-bare at s f =
      let q : step_one s (seen rs qs src o) ≡ step_on s (seen rs qs src o) = ap (λ (ls : List Name). labelled ls s.place (seen rs qs src o) >>= step_on s) (f.unlabelled z) in
      record { rule = (k at s f).rule ∙ sym q; kept = (k at s f).kept }

-- FROM THE LABELS ON
pub step-held : (rs qs src : List ℕ) (o : code.Pass1State) → Held rs qs src o → (rs' : List ℕ) (f : Pass1State → Outcome Pass1State) (a : Result code.Pass1State Refusal) → naming.Stepping rs src rs' o f a → (b : code.Pass1State) → a ≡ Ok b → Held rs' qs src b
step-held rs qs src o h rs' f a k b q = (over-names rs qs src o h rs' f a k).kept b q

module _ (rs qs src : List ℕ) (o : code.Pass1State) (h : Held rs qs src o) (st : Statement) (at : ℕ) (rs' : List ℕ) (a : Result code.Pass1State Refusal)
    (k : naming.Stepping rs src rs' o (λ v. labelled (labels_at src at) (span st.start st.end) v) a) where
  both : Stepping rs qs src rs' qs o (λ v. labelled (labels_at src at) (span st.start st.end) v) a
  both = over-names rs qs src o h rs' (λ v. labelled (labels_at src at) (span st.start st.end) v) a k

  labels-by : (s : Stmt) → Faithful src at st s → Stepping rs qs src rs' qs o (λ v. labelled s.labels s.place v) a
  labels-by s f = record { rule = both.rule ∙ (λ i. labelled (sym f.labels i) (sym f.place i) (seen rs qs src o)); kept = both.kept }

  pub step-refused : (x : Refusal) → a ≡ Err x → (s : Stmt) → Faithful src at st s → Stepping rs qs src rs' qs o (step_one s) a
  unfolding step_one step_on
  step-refused x q s f = then-refused rs qs src rs' qs o (λ v. labelled s.labels s.place v) a (labels-by s f) (step_on s) x q

  module _ (b : code.Pass1State) (q : a ≡ Ok b) where
    pub step_went : (rs'' qs'' : List ℕ) (r : Result code.Pass1State Refusal) → ((at : ℕ) (s : Stmt) → Faithful src at st s → Stepping rs' qs src rs'' qs'' b (step_on s) r) → (s : Stmt) → Faithful src at st s → Stepping rs qs src rs'' qs'' o (step_one s) r
    unfolding step_one step_on
    step_went rs'' qs'' r j s f = then-went rs qs src rs' qs o (λ v. labelled s.labels s.place v) a (labels-by s f) (step_on s) b q rs'' qs'' r (j at s f)

-- A STATEMENT THAT ONLY COUNTS

is-not : (b : Bool) → not b ≡ true → b ≡ false
is-not true e = never cc
is-not false e = refl

-- what the test says
pub record Counts (st : Statement) (o : code.Pass1State) : Type 0 where
  pub one : one_word st.op st.reach ≡ true
  pub bare : st.labelled ≡ false
  pub inside : o.inside ≡ true
  pub room : o.counter < 65024

pub counts : (st : Statement) (o : code.Pass1State) {t : Bool} → t ≡ only_counts st o → t ≡ true → Counts st o
unfolding only_counts
counts st o q y =
    let e = sym q ∙ y in
    let a = and_left (one_word st.op st.reach && not st.labelled && o.inside) (ltb o.counter 65024) e in
    let b = and_left (one_word st.op st.reach && not st.labelled) o.inside a in
    record {
      one = and_left (one_word st.op st.reach) (not st.labelled) b;
      bare = is-not st.labelled (and_right (one_word st.op st.reach) (not st.labelled) b);
      inside = and_right (one_word st.op st.reach && not st.labelled) o.inside a;
      room = ltb-true _ _ (and_right (one_word st.op st.reach && not st.labelled && o.inside) (ltb o.counter 65024) e);
    }

-- it directs nothing and takes a word
directs-none : (s : Stmt) (p : Op) (reach : ℕ) → one_word p reach ≡ true → (reach ≡ 0 → s.target ≡ none) → (v : Pass1State) → directed (meant_op p) s v ≡ ok v
unfolding directed
directs-none s Instr reach e b v = refl
directs-none s Fill reach e b v = rw (b (eqb-true _ _ e))
directs-none s Blkw reach e b v = refl
directs-none s Stringz reach e b v = refl
directs-none s Orig reach e b v = never cc
directs-none s op.End reach e b v = never cc
directs-none s External reach e b v = never cc

takes_one : (s : Stmt) (p : Op) (reach : ℕ) → one_word p reach ≡ true → word_len (meant_op p) s ≡ 1
unfolding word_len
takes_one s Instr reach e = refl
takes_one s Fill reach e = refl
takes_one s Blkw reach e = never cc
takes_one s Stringz reach e = never cc
takes_one s Orig reach e = never cc
takes_one s op.End reach e = never cc
takes_one s External reach e = never cc

module _ (rs qs src : List ℕ) (o : code.Pass1State) (h : Held rs qs src o) (st : Statement) (w : Counts st o) (o' : code.Pass1State) (q : o' ≡ counting o (o.counter + 1)) where
  advances : Stepping rs qs src rs qs o (λ v. advanced 1 (span st.start st.end) v) (Ok o')
  advances = over_none rs qs src o h (λ v. advanced 1 (span st.start st.end) v) (Ok o') (step-on o h.lent.steady 1 st.start st.end w.inside (λ z. omega arith) o' (o.counter + 1) q refl (omega (arith, w.room)))

  counts-on : (at : ℕ) (s : Stmt) → Faithful src at st s → Stepping rs qs src rs qs o (step_on s) (Ok o')
  unfolding step_on
  counts-on at s f =
      let v = seen rs qs src o in
      let d : directed s.op s v ≡ ok v = ap (λ (p : words.Op). directed p s v) f.op ∙ directs-none s st.op st.reach w.one f.bare v in
      let n : word_len s.op s ≡ 1 = ap (λ (p : words.Op). word_len p s) f.op ∙ takes_one s st.op st.reach w.one in
      let e : (directed s.op s v >>= λ b. advanced (word_len s.op s) s.place b) ≡ advanced 1 (span st.start st.end) v = rw (d, n, f.place) in
      record { rule = advances.rule ∙ sym e; kept = advances.kept }

  pub step_counts : (at : ℕ) (s : Stmt) → Faithful src at st s → Stepping rs qs src rs qs o (step_one s) (Ok o')
  step_counts = step-bare rs qs src o st rs qs (Ok o') w.bare counts-on
