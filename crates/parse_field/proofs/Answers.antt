-- What each way through the reading of one operand answers. Assumes nothing.
use Rattle.std.specs.declared.result.Result.{Result}
use Rattle.std.specs.declared.result.Result.TheVariants.{Ok, Err}
use Rattle.base_refusals.specs.declared.Fault.{Fault}
use Rattle.base_refusals.specs.Refusals.{fault}
use Prim.Native.Nat.{ℕ, ◌+◌, ◌-◌, ◌*◌, ◌%◌, ◌≤◌, ◌<◌}
use mathlib.Core.Path.{◌≡◌, refl, sym, ◌∙◌, ap}
use mathlib.Core.Bool.{Bool, true, false}
use mathlib.Core.List.{List}
use mathlib.Core.Option.{none}
use native.Mathlib.Nat.{mod-lt, mul-le-mul}
use native.Mathlib.Omega.{arith}
use borrow.Author.Tests.{eq-eqb, ne_eqb, le-leb, lt-leb, leb-true}
use lib.Dec.{leb}
use lib.ListN.{length}
use Rattle.rules.specs.Base.{when◌then◌else◌, ok, span}
use Rattle.rules.specs.Tokens.{plus, minus, token_in, number, register, word, text}
use Rattle.rules.specs.Words.{find, instructions}
use Rattle.rules.specs.Statements.{bits, target, chars, in_range, reduced, named, operand}
use Rattle.lex_token.specs.declared.Lexeme.{Lexeme}
use Rattle.lex_token.specs.Flat.{fault_sort}
use Rattle.parse_field.specs.declared.Field.{Field}
use Rattle.parse_field.specs.declared.Range.{Range}
use Rattle.parse_field.specs.declared.Given.{Given}
use Rattle.parse_field.specs.Coded.{field_of, multiplier_of, range_of, raise_of, reach_of, texts_of, given, add_to, stepped, num_of, misplaced_at, Adds}
use Rattle.parse_field.proofs.Reading.{step-refused, step-bits, step_other, register-no, register-yes, multiplier-most, number-no, number_in, number-out, raised_is, sound, reached, label-no, label-yes, reached-is, text-no, text-yes}

pub took-given : (g : Given) (n i : ℕ) {r : Result Given Fault} → r ≡ Ok (given (g.bits + n) g.reach g.label_start g.label_end g.text_start g.text_end i) → r ≡ Ok (add_to g (bits n) i)
unfolding add_to
took-given g n i e = e

module _ (t : Lexeme) (other : ℕ) (r : Result Given Fault) where
  pub misplaced-own : t.sort ≡ fault_sort → r ≡ Err (fault t.value t.start t.end) → r ≡ misplaced_at t other
  unfolding misplaced_at when◌then◌else◌
  misplaced-own e h = rw (eq-eqb _ _ e) h

  pub misplaced-other : (t.sort ≡ fault_sort → ⊥) → r ≡ Err (fault other t.start t.end) → r ≡ misplaced_at t other
  unfolding misplaced_at when◌then◌else◌
  misplaced-other e h = rw (ne_eqb _ _ e) h

-- A REGISTER
module _ (v m : ℕ) (f : Field) (e : m ≡ multiplier_of f) (l : v < 65536) where
  pub register-small : v * m ≤ 33554432
  register-small = let a : v ≤ 65536 = omega arith in let b : m ≤ 512 = omega (arith, multiplier-most f) in let p : v * m ≤ 65536 * 512 = mul-le-mul a b in omega arith

  pub register-fits : v * m < 4294967296
  register-fits = omega (arith, register-small)

module _ (g : Given) (f : Field) (other : ℕ) (t : Lexeme) (m : ℕ) (r : Result Given Fault) (e : m ≡ multiplier_of f) where
  abbrev Registered : Type 0
  Registered = Adds g r (stepped g (operand (field_of f) other (token_in (register t.value) (span t.start t.end))) t.end)

  pub register-refused : m ≡ 0 → r ≡ Err (fault other t.start t.end) → Registered
  register-refused z h = step-refused g _ t.end r other t.start t.end (register-no f other t.value _ (sym e ∙ z)) h

  pub register-took : t.value < 65536 → (m ≡ 0 → ⊥) → r ≡ Ok (add_to g (bits (t.value * m)) t.end) → Registered
  register-took l z h = step-bits g _ t.end r (t.value * m) (register-small t.value m f e l) (rw e (register-yes f other t.value _ (λ (q : multiplier_of f ≡ 0). z (e ∙ q)))) h

-- A NUMBER
num-minus : (k v : ℕ) → k ≡ 1 → num_of k v ≡ minus v
unfolding num_of when◌then◌else◌
num-minus k v e = rw (eq-eqb _ _ e)

num-plus : (k v : ℕ) → (k ≡ 1 → ⊥) → num_of k v ≡ plus v
unfolding num_of when◌then◌else◌
num-plus k v e = rw (ne_eqb _ _ e)

module _ (g : Given) (f : Field) (other : ℕ) (t : Lexeme) (m : Range) (e : m ≡ range_of f) where
  low-is : m.low ≡ (range_of f).low
  low-is = ap (λ (y : Range). y.low) e

  high_is : m.high ≡ (range_of f).high
  high_is = ap (λ (y : Range). y.high) e

  modulus-is : m.modulus ≡ (range_of f).modulus
  modulus-is = ap (λ (y : Range). y.modulus) e

  pub number-low : (b : Bool) → b ≡ leb t.value m.low → b ≡ true → t.value ≤ m.modulus
  number-low b p y = omega (arith, leb-true t.value m.low (sym p ∙ y), (sound f).low, low-is, modulus-is)

  module _ (x : ℕ) (z : m.modulus ≡ 0 → ⊥) (q : x ≡ raise_of f) where
    pub minus-small : x + (m.modulus - t.value) % m.modulus ≤ 33554432
    minus-small = omega (arith, (sound f).raise, (sound f).most, modulus-is, mod-lt (m.modulus - t.value) {m = m.modulus} (omega arith))

    pub minus-fits : x + (m.modulus - t.value) % m.modulus < 4294967296
    minus-fits = omega (arith, minus-small)

    pub plus-small : t.value < 65536 → x + t.value ≤ 33554432
    plus-small h = omega (arith, (sound f).raise)

    pub plus-fits : t.value < 65536 → x + t.value < 4294967296
    plus-fits h = omega (arith, plus-small h)

  module _ (r : Result Given Fault) where
    abbrev Numbered : Type 0
    Numbered = Adds g r (stepped g (operand (field_of f) other (token_in (number (num_of t.sort t.value)) (span t.start t.end))) t.end)

    pub number-refused : m.modulus ≡ 0 → r ≡ Err (fault other t.start t.end) → Numbered
    number-refused z h = step-refused g _ t.end r other t.start t.end (number-no other _ _ f (sym modulus-is ∙ z)) h

    module _ (z : m.modulus ≡ 0 → ⊥) where
      some-numbers : (range_of f).modulus ≡ 0 → ⊥
      some-numbers k = z (modulus-is ∙ k)

      pub minus-took : (x : ℕ) (b : Bool) → t.sort ≡ 1 → b ≡ leb t.value m.low → b ≡ true → x ≡ raise_of f → r ≡ Ok (add_to g (bits (x + (m.modulus - t.value) % m.modulus)) t.end) → Numbered
      unfolding in_range reduced
      minus-took x b k p y q h =
          let l : leb t.value (range_of f).low ≡ true = rw low-is at (sym p ∙ y) in
          step-bits g _ t.end r (x + (m.modulus - t.value) % m.modulus) (minus-small x z q)
          (rw (num-minus t.sort t.value k) (number_in other (minus t.value) _ f some-numbers l ∙ rw (modulus-is, q) (ap (λ (n : ℕ). ok (bits n)) (raised_is f (((range_of f).modulus - t.value) % (range_of f).modulus)))))
          h

      pub minus-out : (b : Bool) → t.sort ≡ 1 → b ≡ leb t.value m.low → b ≡ false → r ≡ Err (fault 15 t.start t.end) → Numbered
      unfolding in_range
      minus-out b k p y h =
          let l : leb t.value (range_of f).low ≡ false = rw low-is at (sym p ∙ y) in
          step-refused g _ t.end r 15 t.start t.end (rw (num-minus t.sort t.value k) (number-out other (minus t.value) _ f some-numbers l)) h

      pub plus-took : (x : ℕ) (b : Bool) → (t.sort ≡ 1 → ⊥) → t.value < 65536 → b ≡ leb t.value m.high → b ≡ true → x ≡ raise_of f → r ≡ Ok (add_to g (bits (x + t.value)) t.end) → Numbered
      unfolding in_range reduced
      plus-took x b k s p y q h =
          let l : leb t.value (range_of f).high ≡ true = rw high_is at (sym p ∙ y) in
          step-bits g _ t.end r (x + t.value) (plus-small x z q s)
          (rw (num-plus t.sort t.value k) (number_in other (plus t.value) _ f some-numbers l ∙ rw q (ap (λ (n : ℕ). ok (bits n)) (raised_is f t.value))))
          h

      pub plus-out : (b : Bool) → (t.sort ≡ 1 → ⊥) → b ≡ leb t.value m.high → b ≡ false → r ≡ Err (fault 15 t.start t.end) → Numbered
      unfolding in_range
      plus-out b k p y h =
          let l : leb t.value (range_of f).high ≡ false = rw high_is at (sym p ∙ y) in
          step-refused g _ t.end r 15 t.start t.end (rw (num-plus t.sort t.value k) (number-out other (plus t.value) _ f some-numbers l)) h

-- A LABEL
module _ (g : Given) (f : Field) (other : ℕ) (t : Lexeme) (m : ℕ) (r : Result Given Fault) (e : m ≡ reach_of f) where
  abbrev Labelled : Type 0
  Labelled = (w : List ℕ) → find w instructions ≡ none → length w ≡ t.end - t.start → Adds g r (stepped g (operand (field_of f) other (token_in (word w) (span t.start t.end))) t.end)

  pub label-refused : m ≡ 0 → r ≡ Err (fault other t.start t.end) → Labelled
  label-refused z h w l s = step-refused g _ t.end r other t.start t.end (label-no other w _ l f (sym e ∙ z)) h

  module _ (z : m ≡ 0 → ⊥) where
    some-labels : reach_of f ≡ 0 → ⊥
    some-labels k = z (e ∙ k)

    pub label-took : (n : ℕ) → n ≡ t.end - t.start → n ≤ 64 → r ≡ Ok (given g.bits m t.start t.end g.text_start g.text_end t.end) → Labelled
    unfolding named when◌then◌else◌ add_to
    label-took n q k h w l s =
        let b : leb (length w) 64 ≡ true = le-leb (length w) 64 (omega arith) in
        step_other g _ t.end r (target (record { field = reached f; name = record { text = w; place = span t.start t.end } }))
        (label-yes other w (span t.start t.end) l f some-labels ∙ rw (b, named))
        (h ∙ rw (e, reached-is f some-labels)) refl

    pub label-long : (n : ℕ) → n ≡ t.end - t.start → 64 < n → r ≡ Err (fault 16 t.start t.end) → Labelled
    unfolding named when◌then◌else◌
    label-long n q k h w l s =
        let b : leb (length w) 64 ≡ false = lt-leb (length w) 64 (omega arith) in
        step-refused g _ t.end r 16 t.start t.end (label-yes other w (span t.start t.end) l f some-labels ∙ rw (b, named)) h

-- A STRING
module _ (g : Given) (f : Field) (other : ℕ) (t : Lexeme) (b : Bool) (r : Result Given Fault) (e : b ≡ texts_of f) where
  abbrev Quoted : Type 0
  Quoted = (c : List ℕ) → Adds g r (stepped g (operand (field_of f) other (token_in (text c) (span t.start t.end))) t.end)

  pub text-took : b ≡ true → r ≡ Ok (given g.bits g.reach g.label_start g.label_end t.start t.end t.end) → Quoted
  unfolding add_to
  text-took z h c = step_other g _ t.end r (chars c (span t.start t.end)) (text-yes other c _ f (sym e ∙ z)) h refl

  pub text-refused : b ≡ false → r ≡ Err (fault other t.start t.end) → Quoted
  text-refused z h c = step-refused g _ t.end r other t.start t.end (text-no other c _ f (sym e ∙ z)) h
