-- What each way through `fill_label` shows. Assumes nothing.
use Rattle.base_refusals.specs.declared.Refusal.{Refusal}
use Rattle.std.specs.declared.result.Result.{Result}
use Rattle.std.specs.declared.result.Result.TheVariants.{Ok, Err}
use Rattle.std.specs.declared.option.Option as O
use Rattle.std.specs.declared.option.Option.TheVariants.{Some, None}
use mathlib.Core.Path.{◌≡◌, refl, sym, ◌∙◌, ap}
use mathlib.Core.Bool.{Bool, true, false}
use mathlib.Core.Option.{Option, none, some}
use mathlib.Core.List.{List}
use Prim.Native.Nat.{ℕ, ◌-◌}
use native.Mathlib.Omega.{arith}
use lib.ListN.{length}
use Rattle.rules.specs.Base.{Outcome, ok, refuse, ◌>>=◌, Span, span}
use Rattle.rules.specs.Tables.{look, name_order}
use Rattle.rules.specs.Objects.{Lab, outer, defined}
use Rattle.rules.specs.Words.{fill}
use Rattle.rules.specs.Statements.{Name, Stmt, Target}
use Rattle.rules.specs.Passes.{Symbol, Cursor, Pass1State, relocated, filled, directed}
use Rattle.rules.proofs.Bools.{never}
use Rattle.base_refusals.specs.Refusals.{refusal_at}
use Rattle.parse_labels.specs.Names.{name_from, name_between, Between}
use Rattle.pass1_symbols.specs.Symbols.{symbols}
use Rattle.pass1_relocations.specs.Pending.{notes, Adding, outcome, noting}
use Rattle.pass1_state.specs.declared.Pass1State as code
use Rattle.pass1_state.specs.State.{told, with_relocations}
use Rattle.pass1_fill.specs.Tables.{step_of, outer_lab, is_outer, seen, Held, Stepping}

-- THE RULE, case by case
fill-rule : (s : Stmt) (t : Target) (v : Pass1State) → s.target ≡ some t → directed fill s v ≡ filled t.name s.place v
unfolding directed
fill-rule s t v e = go s.target e
  where
    go : (x : Option Target) → x ≡ some t → ◌≡◌ {A = Outcome Pass1State} (elim x [ none ↦ ok v | some u ↦ filled u.name s.place v ]) (filled t.name s.place v)
    go none q = never cc
    go (some u) q = let w : u ≡ t = cc in rw w

-- what a.fill of an external does
abbrev Noting : Name → Span → Pass1State → Option Cursor → Outcome Pass1State
Noting m p v none = refuse 21 p
Noting m p v (some c) = relocated c.counter m.text p v

abbrev OfLab : Name → Span → Pass1State → Lab → Outcome Pass1State
OfLab m p v outer = Noting m p v v.cursor
OfLab m p v (defined a) = ok v

module _ (m : Name) (p : Span) (v : Pass1State) where
  filled-plain : is_outer (look name_order v.symbols m.text) ≡ false → filled m p v ≡ ok v
  unfolding filled
  filled-plain h = go (look name_order v.symbols m.text) h
    where
      by : (l : Lab) → outer_lab l ≡ false → ◌≡◌ {A = Outcome Pass1State} (elim l [
        | defined a ↦ ok v
        | outer ↦ elim v.cursor [ none ↦ refuse 21 p | some c ↦ relocated c.counter m.text p v ]
      ]) (ok v)
      by outer e = never cc
      by (defined a) e = refl

      go : (x : Option Symbol) → is_outer x ≡ false → ◌≡◌ {A = Outcome Pass1State} (elim x [
        | none ↦ ok v
        | some s ↦ elim s.lab [
          | defined a ↦ ok v
          | outer ↦ elim v.cursor [ none ↦ refuse 21 p | some c ↦ relocated c.counter m.text p v ]
        ]
      ]) (ok v)
      go none e = refl
      go (some s) e = by s.lab e

  filled-outer : is_outer (look name_order v.symbols m.text) ≡ true → filled m p v ≡ Noting m p v v.cursor
  unfolding filled
  filled-outer h = go (look name_order v.symbols m.text) h
    where
      at : (c : Option Cursor) → ◌≡◌ {A = Outcome Pass1State} (elim c [ none ↦ refuse 21 p | some c ↦ relocated c.counter m.text p v ]) (Noting m p v c)
      at none = refl
      at (some c) = refl

      by : (l : Lab) → outer_lab l ≡ true → ◌≡◌ {A = Outcome Pass1State} (elim l [
        | defined a ↦ ok v
        | outer ↦ elim v.cursor [ none ↦ refuse 21 p | some c ↦ relocated c.counter m.text p v ]
      ]) (Noting m p v v.cursor)
      by outer e = at v.cursor
      by (defined a) e = never cc

      go : (x : Option Symbol) → is_outer x ≡ true → ◌≡◌ {A = Outcome Pass1State} (elim x [
        | none ↦ ok v
        | some s ↦ elim s.lab [
          | defined a ↦ ok v
          | outer ↦ elim v.cursor [ none ↦ refuse 21 p | some c ↦ relocated c.counter m.text p v ]
        ]
      ]) (Noting m p v v.cursor)
      go none e = never cc
      go (some s) e = by s.lab e

-- A.FILL
module _ (rs qs src : List ℕ) (o : code.Pass1State) (h : Held rs qs src o) (b e : ℕ) (w : Between src b e) where
  module _ (x y : ℕ) (i : x ≡ b) (j : y ≡ e - b) where
    module _ (f : Bool) (k : f ≡ is_outer (look name_order (symbols o.labels rs src) (name_from src x y))) (st en : ℕ) (s : Stmt) (t : Target) (aim : s.target ≡ some t) (name : t.name ≡ name_between src b e) (place : s.place ≡ span st en) where
      text : t.name.text ≡ name_from src x y
      text = rw (i, j) (ap (λ (m : Name). m.text) name)

      is : is_outer (look name_order (symbols o.labels rs src) t.name.text) ≡ f
      is = rw text (sym k)

      abbrev Rule : Pass1State → Outcome Pass1State
      Rule v = directed fill s v

      pub fill-plain : f ≡ false → Stepping rs qs src rs qs o Rule (Ok o)
      fill-plain q = record {
        rule = sym (fill-rule s t (seen rs qs src o) aim ∙ filled-plain t.name s.place (seen rs qs src o) (is ∙ q));
        kept = λ o' z. (let u : o ≡ o' = cc in rw u at h);
      }

      module _ (q : f ≡ true) where
        outside : Rule (seen rs qs src o) ≡ Noting t.name s.place (seen rs qs src o) (seen rs qs src o).cursor
        outside = fill-rule s t (seen rs qs src o) aim ∙ filled-outer t.name s.place (seen rs qs src o) (is ∙ q)

        pub fill-21 : o.inside ≡ false → (r : Result code.Pass1State Refusal) → r ≡ Err (refusal_at 21 st en) → Stepping rs qs src rs qs o Rule r
        fill-21 c r z = rw z (record {
          rule = sym (outside ∙ rw (c, place));
          kept = λ o' z. (never cc);
        })

        pub fill-noted : o.inside ≡ true → (qs' : List ℕ) → length qs' ≡ length qs → (d : O.Option ℕ) → Adding qs src qs' o.relocations o.counter x y d → (r : Result code.Pass1State Refusal) → r ≡ step_of o st en d → Stepping rs qs src rs qs' o Rule r
        fill-noted c qs' l d a r z = rw z (record {
          rule = goes d ∙ (a.rule (span st en) (seen rs qs src o) refl ∙ sym (outside ∙ rw (c, place, text)));
          kept = keeps d refl;
        })
          where
            goes : (d : O.Option ℕ) → told (λ n. symbols n rs src) (λ n. notes n qs' src) (step_of o st en d) ≡ (outcome qs' src (span st en) d >>= noting (seen rs qs src o))
            goes (Some m) = refl
            goes None = refl

            keeps : (u : O.Option ℕ) → d ≡ u → (o' : code.Pass1State) → step_of o st en u ≡ Ok o' → Held rs qs' src o'
            keeps (Some m) g o' p =
                let v : with_relocations o m ≡ o' = cc in
                let y : Held rs qs' src (with_relocations o m) = record {
                  lent = record { steady = record { rising = h.lent.steady.rising; address = h.lent.steady.address; few = h.lent.steady.few; sum = h.lent.steady.sum }; table = h.lent.table; size = h.lent.size };
                  table = a.table m g;
                  room = omega (arith, h.room, l);
                } in
                rw v at y
            keeps None g o' p = never cc
