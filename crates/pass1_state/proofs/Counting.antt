-- What each way through a step of the counter shows. Assumes nothing.
use Rattle.std.specs.declared.result.Result.{Result}
use Rattle.std.specs.declared.result.Result.TheVariants.{Ok, Err}
use mathlib.Core.Path.{◌≡◌, refl, sym}
use mathlib.Core.Bool.{true, false}
use Prim.Native.Nat.{ℕ, ◌+◌, ◌-◌, ◌≤◌, ◌<◌}
use native.Mathlib.Omega.{arith}
use Rattle.rules.specs.Base.{Outcome, ok, span}
use Rattle.rules.specs.Tables.{Table}
use Rattle.rules.specs.Objects.{Name}
use Rattle.rules.specs.Words.{orig}
use Rattle.rules.specs.Words as words
use Rattle.rules.specs.Statements.{Stmt}
use Rattle.rules.specs.Passes.{Symbol, advanced, directed}
use Rattle.rules.specs.Passes as rule
use Rattle.rules.proofs.Bools.{never}
use Rattle.base_refusals.specs.Refusals.{refusal, refusal_at, refused_by}
use Rattle.base_refusals.specs.declared.Refusal.{Refusal}
use Rattle.pass1_state.specs.declared.Pass1State.{Pass1State}
use Rattle.pass1_state.specs.State.{view_pass1, Steady, Kept, Stepping, counting, opening, closing}
use Rattle.pass1_state.proofs.Rule.{advance-outside, advance-none, advance-on, advance-27, advance-26, orig-outside, orig-inside, end-outside, end_empty, end-counted, end-full}

abbrev Rule : Type 0
Rule = (ℕ → Table Name Symbol) → (ℕ → Table ℕ Name) → Outcome rule.Pass1State

-- a step that went, and one that was refused
pub went : (o : Pass1State) (f : Rule) (o' : Pass1State) → Kept o o' → ((x : ℕ → Table Name Symbol) (y : ℕ → Table ℕ Name) → ok (view_pass1 x y o') ≡ f x y) → Stepping o f (Ok o')
went o f o' k e = record { rule = e; kept = λ z q. (let w : o' ≡ z = cc in rw w at k) }

pub stuck : (o : Pass1State) (f : Rule) (w : Refusal) → ((x : ℕ → Table Name Symbol) (y : ℕ → Table ℕ Name) → refused_by w ≡ f x y) → Stepping o f (Err w)
stuck o f w q = record { rule = q; kept = λ z e. (never cc) }

still : (o : Pass1State) → Steady o → Kept o o
still o h = record { steady = h; labels = refl; relocations = refl }

module _ (o : Pass1State) (h : Steady o) (n a e : ℕ) where
  abbrev Advancing : Rule
  Advancing x y = advanced n (span a e) (view_pass1 x y o)

  pub step-outside : o.inside ≡ false → Stepping o Advancing (Ok o)
  step-outside i = went o Advancing o (still o h) (λ x y. rw i (sym (advance-outside _ _ _ _ n (span a e))))

  module _ (i : o.inside ≡ true) where
    pub step-none : n ≡ 0 → Stepping o Advancing (Ok o)
    step-none z = went o Advancing o (still o h) (λ x y. rw i (sym (advance-none _ _ _ _ n (span a e) _ _ _ z)))

    module _ (z : n ≡ 0 → ⊥) where
      pub step-on : (o' : Pass1State) (k : ℕ) → o' ≡ counting o k → k ≡ o.counter + n → k ≤ 0xfe00 → Stepping o Advancing (Ok o')
      step-on o' k q s l = rw (q, s) (went o Advancing (counting o (o.counter + n))
          (record { steady = record { rising = omega (arith, h.rising); address = omega arith; few = h.few; sum = h.sum }; labels = refl; relocations = refl })
          (λ x y. rw i (sym (advance-on _ _ _ _ n (span a e) _ _ _ z (omega arith)))))

      pub step-27 : (r : Result Pass1State Refusal) (k : ℕ) → r ≡ Err (refusal_at 27 a e) → k ≡ o.counter + n → 0xfe00 < k → k ≤ 0x10000 → Stepping o Advancing r
      step-27 r k q s l m = rw q (stuck o Advancing (refusal_at 27 a e) (λ x y. rw i (sym (advance-27 _ _ _ _ n (span a e) _ _ _ z (omega arith) (omega arith)))))

      pub step-26 : (r : Result Pass1State Refusal) (k : ℕ) → r ≡ Err (refusal_at 26 a e) → k ≡ o.counter + n → 0x10000 < k → Stepping o Advancing r
      step-26 r k q s l = rw q (stuck o Advancing (refusal_at 26 a e) (λ x y. rw i (sym (advance-26 _ _ _ _ n (span a e) _ _ _ z (omega arith)))))

module _ (o : Pass1State) (h : Steady o) (n a e : ℕ) (t : Stmt) (b : t.bits ≡ n) (p : t.place ≡ span a e) where
  abbrev Beginning : Rule
  Beginning x y = directed orig t (view_pass1 x y o)

  pub begin-open : o.inside ≡ true → Stepping o Beginning (Err (refusal 24 o.orig_start o.orig_end a e))
  begin-open i = stuck o Beginning (refusal 24 o.orig_start o.orig_end a e) (λ x y. rw i (rw (← p) (sym (orig-inside _ _ _ _ t _))))

  pub begin-new : o.inside ≡ false → n < 65536 → (o' : Pass1State) → o' ≡ opening o n a e → Stepping o Beginning (Ok o')
  begin-new i l o' q = rw q (went o Beginning (opening o n a e)
      (record { steady = record { rising = omega arith; address = l; few = h.few; sum = h.sum }; labels = refl; relocations = refl })
      (λ x y. rw i (rw (← p, ← b) (sym (orig-outside _ _ _ _ t)))))

module _ (o : Pass1State) (h : Steady o) (a e : ℕ) (t : Stmt) (p : t.place ≡ span a e) where
  abbrev Ending : Rule
  Ending x y = directed words.end t (view_pass1 x y o)

  pub end_none : o.inside ≡ false → (r : Result Pass1State Refusal) → r ≡ Err (refusal_at 23 a e) → Stepping o Ending r
  end_none i r q = rw q (stuck o Ending (refusal_at 23 a e) (λ x y. rw i (rw (← p) (sym (end-outside _ _ _ _ t)))))

  module _ (i : o.inside ≡ true) (k : ℕ) (s : k ≡ o.counter - o.start) where
    pub end-dropped : k ≡ 0 → (o' : Pass1State) → o' ≡ closing o o.blocks o.words → Stepping o Ending (Ok o')
    end-dropped z o' q = rw q (went o Ending (closing o o.blocks o.words)
        (record { steady = record { rising = h.rising; address = h.address; few = h.few; sum = h.sum }; labels = refl; relocations = refl })
        (λ x y. rw i (sym (end_empty _ _ _ _ t _ _ _ (omega (arith, h.rising))))))

    differ : (k ≡ 0 → ⊥) → o.counter ≡ o.start → ⊥
    differ z w = z (omega arith)

    pub end_more : (k ≡ 0 → ⊥) → o.blocks < 64 → (o' : Pass1State) → o' ≡ closing o (o.blocks + 1) (o.words + k) → Stepping o Ending (Ok o')
    end_more z l o' q = rw (q, s) (went o Ending (closing o (o.blocks + 1) (o.words + (o.counter - o.start)))
        (record { steady = record { rising = h.rising; address = h.address; few = omega arith; sum = omega (arith, h.sum, h.address) }; labels = refl; relocations = refl })
        (λ x y. rw i (sym (end-counted _ _ _ _ t _ _ _ (differ z) l))))

    pub end-stuck : (k ≡ 0 → ⊥) → 64 ≤ o.blocks → (r : Result Pass1State Refusal) → r ≡ Err (refusal_at 40 a e) → Stepping o Ending r
    end-stuck z l r q = rw q (stuck o Ending (refusal_at 40 a e) (λ x y. rw i (rw (← p) (sym (end-full _ _ _ _ t _ _ _ (differ z) l)))))
