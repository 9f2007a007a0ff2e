-- What each way through `define_labels` and `add_external` shows. Assumes nothing.
use Rattle.base_refusals.specs.declared.Refusal.{Refusal}
use Rattle.std.specs.declared.result.Result.{Result}
use Rattle.std.specs.declared.result.Result.TheVariants.{Ok, Err}
use mathlib.Core.Path.{◌≡◌, refl, sym, ◌∙◌, ap}
use mathlib.Core.Bool.{Bool, true, false}
use mathlib.Core.Option.{Option, none, some}
use mathlib.Core.List.{List, [], ◌∷◌}
use Prim.Native.Nat.{ℕ}
use Rattle.rules.specs.Base.{Outcome, ok, refuse, ◌>>=◌, Span, span}
use Rattle.rules.specs.Tables.{Table}
use Rattle.rules.specs.Objects.{outer}
use Rattle.rules.specs.Objects as objects
use Rattle.rules.specs.Words.{external}
use Rattle.rules.specs.Statements.{Name, Stmt, Target, labels_at, past_label}
use Rattle.rules.specs.Passes.{Symbol, Cursor, Pass1State, pass1_state, with_symbols, add_label, add_labels, labelled, directed}
use Rattle.rules.proofs.Ahead.{names-on, names-done}
use Rattle.rules.proofs.Bools.{never}
use Rattle.base_refusals.specs.Refusals.{refusal_at}
use Rattle.parse_labels.specs.Names.{name_between}
use Rattle.parse_labels.specs.Walk.{label_from}
use Rattle.parse_labels.specs.declared.NextLabel.{NextLabel}
use Rattle.parse_labels.specs.declared.NextLabel.TheVariants.{Label, Done}
use Rattle.pass1_symbols.specs.Symbols.{symbols, Growing}
use Rattle.pass1_state.specs.declared.Pass1State as code
use Rattle.pass1_state.specs.State.{cursor, cursor_of, view_pass1, told, Steady, with_labels}
use Rattle.pass1_labels.specs.Naming.{NameAdded, NamesReady, NamesAdded}
use Rattle.pass1_labels.specs.Naming as naming
use Rattle.pass1_labels.proofs.Adding.{met, unmet}
use Rattle.pass1_labels.specs.Tables.{step_of, Lent, Kept, Stepping}

-- THE RULE, case by case
labelled-none : (p : Span) (o : Pass1State) → labelled [] p o ≡ ok o
unfolding labelled
labelled-none p o = refl

labelled-outside : (m : Name) (ms : List Name) (p : Span) (x : Table objects.Name Symbol) (y : Table ℕ objects.Name) (b w : ℕ) → labelled (m ∷ ms) p (pass1_state none x y b w) ≡ refuse 20 m.place
unfolding labelled
labelled-outside m ms p x y b w = refl

labelled-inside : (ls : List Name) (p : Span) (c : Cursor) (x : Table objects.Name Symbol) (y : Table ℕ objects.Name) (b w : ℕ) → labelled ls p (pass1_state (some c) x y b w) ≡ (add_labels c.counter p ls x >>= λ ss. ok (pass1_state (some c) ss y b w))
unfolding labelled add_labels
labelled-inside [] p c x y b w = refl
labelled-inside (m ∷ ms) p c x y b w = refl

external-rule : (s : Stmt) (t : Target) (v : Pass1State) → s.target ≡ some t → directed external s v ≡ (add_label outer s.place t.name v.symbols >>= λ ss. ok (with_symbols ss v))
unfolding directed
external-rule s t v e = go s.target e
  where
    go : (x : Option Target) → x ≡ some t → ◌≡◌ {A = Outcome Pass1State} (elim x [ none ↦ ok v | some u ↦ (add_label outer s.place u.name v.symbols >>= λ ss. ok (with_symbols ss v)) ]) (add_label outer s.place t.name v.symbols >>= λ ss. ok (with_symbols ss v))
    go none q = never cc
    go (some u) q = let w : u ≡ t = cc in rw w

module _ (rs src : List ℕ) (o : code.Pass1State) (h : Lent rs src o) where
  -- names added to the symbols of a state
  module _ (rs' : List ℕ) (z : Result ℕ Refusal) (g : (m : ℕ) → z ≡ Ok m → Growing rs' src m) where
    went_on : (y : ℕ → Table ℕ objects.Name) (u : Result ℕ Refusal) → told (λ n. symbols n rs' src) y (step_of o u) ≡ (naming.told rs' src u >>= λ ss. ok (pass1_state (cursor_of o.inside (cursor o.start o.counter (span o.orig_start o.orig_end))) ss (y o.relocations) o.blocks o.words))
    went_on y (Ok m) = refl
    went_on y (Err f) = refl

    steady-with : (m : ℕ) → Steady (with_labels o m)
    steady-with m = record { rising = h.steady.rising; address = h.steady.address; few = h.steady.few; sum = h.steady.sum }

    kept_by : (u : Result ℕ Refusal) → z ≡ u → (o' : code.Pass1State) → step_of o u ≡ Ok o' → Kept rs' src o o'
    kept_by (Ok m) q o' e =
        let w : with_labels o m ≡ o' = cc in
        let v : Kept rs' src o (with_labels o m) = record { lent = record { steady = steady-with m; table = g m q; size = h.size }; relocations = refl } in
        rw w at v
    kept_by (Err f) q o' e = never cc

  -- AN EXTERNAL
  module _ (b e st en : ℕ) where
    pub define-external : (rs' : List ℕ) (z : Result ℕ Refusal) → NameAdded rs src rs' o.labels 0 1 b e (span st en) z → (r : Result code.Pass1State Refusal) → r ≡ step_of o z → (s : Stmt) (t : Target) → s.target ≡ some t → t.name ≡ name_between src b e → s.place ≡ span st en → Stepping rs src rs' o (λ v. directed external s v) r
    define-external rs' z k r q s t f n p = rw q (record {
      rule = λ y. went_on rs' z k.table y z
          ∙ (ap (λ (u : Outcome (Table objects.Name Symbol)). u >>= λ ss. ok (pass1_state (cursor_of o.inside (cursor o.start o.counter (span o.orig_start o.orig_end))) ss (y o.relocations) o.blocks o.words)) (rw (← n, ← p) at k.rule)
          ∙ sym (external-rule s t (view_pass1 (λ m. symbols m rs src) y o) f));
      kept = kept_by rs' z k.table z refl;
    })

  module _ (at st en : ℕ) where
    abbrev Rule : Pass1State → Outcome Pass1State
    Rule v = labelled (labels_at src at) (span st en) v

    -- IN A BLOCK
    module _ (i : o.inside ≡ true) (rs' : List ℕ) (z : Result ℕ Refusal) (k : NamesAdded rs src rs' at o.labels o.counter (span st en) z) where
      viewed : (y : ℕ → Table ℕ objects.Name) → Rule (view_pass1 (λ n. symbols n rs src) y o) ≡ Rule (pass1_state (some (cursor o.start o.counter (span o.orig_start o.orig_end))) (symbols o.labels rs src) (y o.relocations) o.blocks o.words)
      viewed y = rw i

      pub define-inside : (r : Result code.Pass1State Refusal) → r ≡ step_of o z → Stepping rs src rs' o Rule r
      define-inside r q = rw q (record {
        rule = λ y. went_on rs' z k.table y z ∙ ap (λ (t : Bool). naming.told rs' src z >>= λ ss. ok (pass1_state (cursor_of t (cursor o.start o.counter (span o.orig_start o.orig_end))) ss (y o.relocations) o.blocks o.words)) i
            ∙ (ap (λ (t : Outcome (Table objects.Name Symbol)). t >>= λ ss. ok (pass1_state (some (cursor o.start o.counter (span o.orig_start o.orig_end))) ss (y o.relocations) o.blocks o.words)) k.rule
            ∙ (sym (labelled-inside (labels_at src at) (span st en) _ _ _ _ _) ∙ sym (viewed y)));
        kept = kept_by rs' z k.table z refl;
      })

    -- OUTSIDE
    module _ (i : o.inside ≡ false) (x : NextLabel) (f : x ≡ label_from src at) where
      pub define-outside : (b e j : ℕ) → x ≡ Label b e j → (r : Result code.Pass1State Refusal) → r ≡ Err (refusal_at 20 b e) → Stepping rs src rs o Rule r
      define-outside b e j q r u =
          let m = met src at x b e j f q in
          let n = names-on src at (name_between src b e) m.named in
          rw u (record {
            rule = λ y. sym (ap (λ (ls : List Name). labelled ls (span st en) (view_pass1 (λ k. symbols k rs src) y o)) n ∙ rw i (labelled-outside (name_between src b e) (labels_at src (past_label src at)) (span st en) _ _ _ _));
            kept = λ o' z. (never cc);
          })

      pub define-none : x ≡ Done → Stepping rs src rs o Rule (Ok o)
      define-none q = record {
        rule = λ y. sym (ap (λ (ls : List Name). labelled ls (span st en) (view_pass1 (λ k. symbols k rs src) y o)) (names-done src at (unmet src at x f q)) ∙ labelled-none (span st en) _);
        kept = λ o' z. (let w : o ≡ o' = cc in record { lent = rw w at h; relocations = ap (λ (u : code.Pass1State). u.relocations) (sym w) });
      }
