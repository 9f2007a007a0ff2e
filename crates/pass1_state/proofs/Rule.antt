-- The rules' steps of pass one, case by case. Assumes nothing.
use mathlib.Core.Path.{◌≡◌, refl}
use mathlib.Core.Option.{none, some}
use Prim.Native.Nat.{ℕ, ◌+◌, ◌-◌, ◌≤◌, ◌<◌}
use native.Mathlib.Omega.{arith}
use borrow.Author.Tests.{eq-eqb, ne_eqb, lt-ltb, le-ltb, le-leb, lt-leb}
use Rattle.rules.specs.Base.{when◌then◌else◌, ok, refuse, refuse2, Span}
use Rattle.rules.specs.Tables.{Table}
use Rattle.rules.specs.Objects.{Name}
use Rattle.rules.specs.Words.{orig}
use Rattle.rules.specs.Words as words
use Rattle.rules.specs.Statements.{Stmt}
use Rattle.rules.specs.Passes.{Symbol, Cursor, pass1_state, advanced, closed, directed}
use Rattle.pass1_state.specs.State.{cursor}

module _ (x : Table Name Symbol) (y : Table ℕ Name) (b w : ℕ) where
  pub advance-outside : (n : ℕ) (p : Span) → advanced n p (pass1_state none x y b w) ≡ ok (pass1_state none x y b w)
  unfolding advanced
  advance-outside n p = refl

  module _ (n : ℕ) (p q : Span) (s c : ℕ) where
    pub advance-none : n ≡ 0 → advanced n p (pass1_state (some (cursor s c q)) x y b w) ≡ ok (pass1_state (some (cursor s c q)) x y b w)
    unfolding advanced when◌then◌else◌
    advance-none e = rw (eq-eqb n 0 e)

    pub advance-on : (n ≡ 0 → ⊥) → c + n ≤ 0xfe00 → advanced n p (pass1_state (some (cursor s c q)) x y b w) ≡ ok (pass1_state (some (cursor s (c + n) q)) x y b w)
    unfolding advanced when◌then◌else◌
    advance-on e l = rw (ne_eqb n 0 e, le-leb (c + n) 0xfe00 l)

    pub advance-27 : (n ≡ 0 → ⊥) → 0xfe00 < c + n → c + n ≤ 0x10000 → advanced n p (pass1_state (some (cursor s c q)) x y b w) ≡ refuse 27 p
    unfolding advanced when◌then◌else◌
    advance-27 e l m = rw (ne_eqb n 0 e, lt-leb (c + n) 0xfe00 l, le-leb (c + n) 0x10000 m)

    pub advance-26 : (n ≡ 0 → ⊥) → 0x10000 < c + n → advanced n p (pass1_state (some (cursor s c q)) x y b w) ≡ refuse 26 p
    unfolding advanced when◌then◌else◌
    advance-26 e l = rw (ne_eqb n 0 e, lt-leb (c + n) 0xfe00 (omega arith), lt-leb (c + n) 0x10000 l)

  module _ (t : Stmt) where
    pub orig-outside : directed orig t (pass1_state none x y b w) ≡ ok (pass1_state (some (cursor t.bits t.bits t.place)) x y b w)
    unfolding directed
    orig-outside = refl

    pub orig-inside : (c : Cursor) → directed orig t (pass1_state (some c) x y b w) ≡ refuse2 24 c.place t.place
    unfolding directed
    orig-inside c = refl

    pub end-outside : directed words.end t (pass1_state none x y b w) ≡ refuse 23 t.place
    unfolding directed
    end-outside = refl

    module _ (s c : ℕ) (q : Span) where
      pub end_empty : c ≡ s → directed words.end t (pass1_state (some (cursor s c q)) x y b w) ≡ ok (pass1_state none x y b w)
      unfolding directed closed when◌then◌else◌
      end_empty e = rw (eq-eqb c s e)

      pub end-counted : (c ≡ s → ⊥) → b < 64 → directed words.end t (pass1_state (some (cursor s c q)) x y b w) ≡ ok (pass1_state none x y (b + 1) (w + (c - s)))
      unfolding directed closed when◌then◌else◌
      end-counted e l = rw (ne_eqb c s e, lt-ltb b 64 l)

      pub end-full : (c ≡ s → ⊥) → 64 ≤ b → directed words.end t (pass1_state (some (cursor s c q)) x y b w) ≡ refuse 40 t.place
      unfolding directed closed when◌then◌else◌
      end-full e l = rw (ne_eqb c s e, le-ltb b 64 l)
