-- What goes before pass two in a call is the rule's: 42, the refusals up to the end of pass one, 41. Assumes nothing.
use Rattle.std.specs.declared.result.Result.{Result}
use Rattle.std.specs.declared.result.Result.TheVariants.{Ok, Err}
use mathlib.Core.Path.{◌≡◌, sym, ◌∙◌}
use mathlib.Core.Bool.{Bool, true, false}
use mathlib.Core.List.{List}
use Prim.Native.Nat.{ℕ, ◌≤◌, ◌<◌}
use borrow.Author.Tests.{lt-leb}
use Rattle.rules.specs.Base.{when◌then◌else◌, refuse2, span}
use Rattle.rules.specs.Passes.{assemble}
use Rattle.rules.proofs.Bools.{never}
use Rattle.base_refusals.specs.Refusals.{refusal_at}
use Rattle.base_refusals.specs.declared.Refusal.{Refusal}
use Rattle.pass1_state.specs.declared.Pass1State as code
use Rattle.asm_first_half.specs.Tabled.{Begun, Tabled}
use Rattle.asm_first_half.specs.Starting.{calling, Started}

-- a refusal at no place
started_none : (small : Bool) (room : ℕ) (rs qs s : List ℕ) (n : ℕ) → calling small room s ≡ refuse2 n (span 0 0) (span 0 0) → Started small room rs qs s (Err (refusal_at n 0 0))
started_none small room rs qs s n h = record {
  long = λ o e. (never cc);
  went = λ o e. (never cc);
  fits = λ o e. (never cc);
  stopped = λ f e. (let x : refusal_at n 0 0 ≡ f = cc in rw (← x) h);
}

calling-short : (small : Bool) (room : ℕ) (s : List ℕ) → small ≡ true → calling small room s ≡ refuse2 42 (span 0 0) (span 0 0)
unfolding when◌then◌else◌
calling-short small room s e = rw e

pub calling-long : (small : Bool) (room : ℕ) (s : List ℕ) → small ≡ false → calling small room s ≡ assemble room s
unfolding when◌then◌else◌
calling-long small room s e = rw e

-- 41
no_room : (room : ℕ) (rs qs s : List ℕ) (o : code.Pass1State) → Begun rs qs s o → room < o.words → assemble room s ≡ refuse2 41 (span 0 0) (span 0 0)
unfolding assemble
no_room room rs qs s o g l = rw (g.readable.clean, g.readable.read, g.first, lt-leb o.words room l)

pub started-short : (small : Bool) (room : ℕ) (rs qs s : List ℕ) (r : Result code.Pass1State Refusal) → small ≡ true → r ≡ Err (refusal_at 42 0 0) → Started small room rs qs s r
started-short small room rs qs s r t e = rw e (started_none small room rs qs s 42 (calling-short small room s t))

module _ (small : Bool) (room : ℕ) (rs qs s : List ℕ) (f : small ≡ false) (x : Result code.Pass1State Refusal) (h : Tabled rs qs s x) where
  pub started-full : (o : code.Pass1State) → x ≡ Ok o → room < o.words → (r : Result code.Pass1State Refusal) → r ≡ Err (refusal_at 41 0 0) → Started small room rs qs s r
  started-full o q l r e = rw e (started_none small room rs qs s 41 (calling-long small room s f ∙ no_room room rs qs s o (h.went o q) l))

  same-went : (o p : code.Pass1State) → ◌≡◌ {A = Result code.Pass1State Refusal} (Ok o) (Ok p) → o ≡ p
  same-went o p e = cc

  pub started-went : (o : code.Pass1State) → x ≡ Ok o → o.words ≤ room → Started small room rs qs s (Ok o)
  started-went o q l = record {
    long = λ p e. f;
    went = λ p e. h.went p (q ∙ e);
    fits = λ p e. (let z = same-went o p e in rw (← z) l);
    stopped = λ y e. calling-long small room s f ∙ h.stopped y (q ∙ e) room;
  }

  pub started-stopped : (z : Refusal) → x ≡ Err z → Started small room rs qs s x
  started-stopped z q = record {
    long = λ p e. f;
    went = h.went;
    fits = λ p e. (let y : Ok p ≡ Err z = sym e ∙ q in never cc);
    stopped = λ y e. calling-long small room s f ∙ h.stopped y e room;
  }
