-- One operand by the sort of its token, for every field. Assumes nothing.
use Rattle.std.specs.declared.result.Result.{Result}
use Rattle.std.specs.declared.result.Result.TheVariants.{Ok, Err}
use Rattle.base_refusals.specs.declared.Fault.{Fault}
use Rattle.base_refusals.specs.Refusals.{fault}
use Prim.Native.Nat.{ℕ, ◌+◌, ◌*◌, ◌≤◌}
use mathlib.Core.Path.{◌≡◌, refl, ◌∙◌, ap}
use mathlib.Core.Bool.{true, false}
use mathlib.Core.List.{List}
use mathlib.Core.Option.{none}
use native.Mathlib.Omega.{arith}
use Rattle.rules.specs.Base.{when◌then◌else◌, Outcome, ok, refuse, ◌>>=◌, Span, span}
use Rattle.rules.specs.Tokens.{Num, token_in, number, register, word, text}
use Rattle.rules.specs.Words.{find, instructions, signed, unsigned, any_word}
use Rattle.rules.specs.Words as words
use Rattle.rules.specs.Statements.{Piece, bits, target, chars, as_number, as_register, as_word, as_text, as_label, in_range, reduced, fit, named, need, operand}
use Rattle.rules.proofs.Bools.{never}
use Rattle.parse_field.specs.declared.Field.{Field}
use Rattle.parse_field.specs.declared.Field.TheVariants.{Dr, Sr, RegOrImm, Offset6, Near9, Near11, Trap, Word, Fill, Name, Text}
use Rattle.parse_field.specs.declared.Given.{Given}
use Rattle.parse_field.specs.Coded.{field_of, multiplier_of, range_of, raise_of, raised, reach_of, texts_of, add_to, told, stepped, Below, Adds}

-- a refusal of an operand, and bits that it gives
module _ (g : Given) (o : Outcome Piece) (i : ℕ) where
  pub step-refused : (r : Result Given Fault) (n a e : ℕ) → o ≡ refuse n (span a e) → r ≡ Err (fault n a e) → Adds g r (stepped g o i)
  unfolding stepped told Below
  step-refused r n a e q h = rw (h, q) (record { is = refl; room = tt })

  pub step-bits : (r : Result Given Fault) (n : ℕ) → n ≤ 33554432 → o ≡ ok (bits n) → r ≡ Ok (add_to g (bits n) i) → Adds g r (stepped g o i)
  unfolding stepped told Below add_to
  step-bits r n l q h = rw (h, q) (record { is = refl; room = omega arith })

  pub step_other : (r : Result Given Fault) (p : Piece) → o ≡ ok p → r ≡ Ok (add_to g p i) → (add_to g p i).bits ≡ g.bits → Adds g r (stepped g o i)
  unfolding stepped told Below
  step_other r p q h b = rw (h, q) (record { is = refl; room = omega arith })

-- A REGISTER
module _ (f : Field) (other v : ℕ) (p : Span) where
  pub register-no : multiplier_of f ≡ 0 → operand (field_of f) other (token_in (register v) p) ≡ refuse other p
  unfolding operand need as_register as_number as_label as_word as_text
  register-no = go f
    where
      go : (f : Field) → multiplier_of f ≡ 0 → operand (field_of f) other (token_in (register v) p) ≡ refuse other p
      go Dr e = absurd (omega arith)
      go Sr e = absurd (omega arith)
      go RegOrImm e = absurd (omega arith)
      go Offset6 e = refl
      go Near9 e = refl
      go Near11 e = refl
      go Trap e = refl
      go Word e = refl
      go Fill e = refl
      go Name e = refl
      go Text e = refl

  pub register-yes : (multiplier_of f ≡ 0 → ⊥) → operand (field_of f) other (token_in (register v) p) ≡ ok (bits (v * multiplier_of f))
  unfolding operand need as_register
  register-yes = go f
    where
      go : (f : Field) → (multiplier_of f ≡ 0 → ⊥) → operand (field_of f) other (token_in (register v) p) ≡ ok (bits (v * multiplier_of f))
      go Dr e = refl
      go Sr e = refl
      go RegOrImm e = let z : v ≡ v * 1 = omega arith in ap (λ (n : ℕ). ok (bits n)) z
      go Offset6 e = absurd (e refl)
      go Near9 e = absurd (e refl)
      go Near11 e = absurd (e refl)
      go Trap e = absurd (e refl)
      go Word e = absurd (e refl)
      go Fill e = absurd (e refl)
      go Name e = absurd (e refl)
      go Text e = absurd (e refl)

pub multiplier-most : (f : Field) → multiplier_of f ≤ 512
multiplier-most Dr = omega arith
multiplier-most Sr = omega arith
multiplier-most RegOrImm = omega arith
multiplier-most Offset6 = omega arith
multiplier-most Near9 = omega arith
multiplier-most Near11 = omega arith
multiplier-most Trap = omega arith
multiplier-most Word = omega arith
multiplier-most Fill = omega arith
multiplier-most Name = omega arith
multiplier-most Text = omega arith

-- A NUMBER
abbrev pub ranged : Field → words.Range
ranged f = words.range (range_of f).low (range_of f).high (range_of f).modulus

module _ (other : ℕ) (n : Num) (p : Span) where
  pub number-no : (f : Field) → (range_of f).modulus ≡ 0 → operand (field_of f) other (token_in (number n) p) ≡ refuse other p
  unfolding operand need as_register as_number as_label as_word as_text
  number-no Dr e = refl
  number-no Sr e = refl
  number-no RegOrImm e = absurd (omega arith)
  number-no Offset6 e = absurd (omega arith)
  number-no Near9 e = absurd (omega arith)
  number-no Near11 e = absurd (omega arith)
  number-no Trap e = absurd (omega arith)
  number-no Word e = absurd (omega arith)
  number-no Fill e = absurd (omega arith)
  number-no Name e = refl
  number-no Text e = refl

  number-yes : (f : Field) → ((range_of f).modulus ≡ 0 → ⊥) → operand (field_of f) other (token_in (number n) p) ≡ (fit (ranged f) n p >>= λ b. ok (bits (raised f b)))
  unfolding operand need as_register as_number
  number-yes Dr e = absurd (e refl)
  number-yes Sr e = absurd (e refl)
  number-yes RegOrImm e = refl
  number-yes Offset6 e = refl
  number-yes Near9 e = refl
  number-yes Near11 e = refl
  number-yes Trap e = refl
  number-yes Word e = refl
  number-yes Fill e = refl
  number-yes Name e = absurd (e refl)
  number-yes Text e = absurd (e refl)

  pub number_in : (f : Field) → ((range_of f).modulus ≡ 0 → ⊥) → in_range (ranged f) n ≡ true → operand (field_of f) other (token_in (number n) p) ≡ ok (bits (raised f (reduced (ranged f) n)))
  unfolding fit when◌then◌else◌
  number_in f e h = number-yes f e ∙ rw (h, fit)

  pub number-out : (f : Field) → ((range_of f).modulus ≡ 0 → ⊥) → in_range (ranged f) n ≡ false → operand (field_of f) other (token_in (number n) p) ≡ refuse 15 p
  unfolding fit when◌then◌else◌
  number-out f e h = number-yes f e ∙ rw (h, fit)

pub raised_is : (f : Field) (b : ℕ) → raised f b ≡ raise_of f + b
raised_is Dr b = omega arith
raised_is Sr b = omega arith
raised_is RegOrImm b = omega arith
raised_is Offset6 b = omega arith
raised_is Near9 b = omega arith
raised_is Near11 b = omega arith
raised_is Trap b = omega arith
raised_is Word b = omega arith
raised_is Fill b = omega arith
raised_is Name b = omega arith
raised_is Text b = omega arith

-- a field's range is that of its numbers
pub record Sound (f : Field) : Type 0 where
  pub low : (range_of f).low ≤ (range_of f).modulus
  pub most : (range_of f).modulus ≤ 65536
  pub raise : raise_of f ≤ 32

pub sound : (f : Field) → Sound f
sound Dr = record { low = omega arith; most = omega arith; raise = omega arith }
sound Sr = record { low = omega arith; most = omega arith; raise = omega arith }
sound RegOrImm = record { low = omega arith; most = omega arith; raise = omega arith }
sound Offset6 = record { low = omega arith; most = omega arith; raise = omega arith }
sound Near9 = record { low = omega arith; most = omega arith; raise = omega arith }
sound Near11 = record { low = omega arith; most = omega arith; raise = omega arith }
sound Trap = record { low = omega arith; most = omega arith; raise = omega arith }
sound Word = record { low = omega arith; most = omega arith; raise = omega arith }
sound Fill = record { low = omega arith; most = omega arith; raise = omega arith }
sound Name = record { low = omega arith; most = omega arith; raise = omega arith }
sound Text = record { low = omega arith; most = omega arith; raise = omega arith }

-- A LABEL
abbrev pub reached : Field → words.Range
reached Dr = any_word
reached Sr = any_word
reached RegOrImm = any_word
reached Offset6 = any_word
reached Near9 = signed 9
reached Near11 = signed 11
reached Trap = any_word
reached Word = any_word
reached Fill = any_word
reached Name = unsigned 16
reached Text = any_word

module _ (other : ℕ) (w : List ℕ) (p : Span) (l : find w instructions ≡ none) where
  pub label-no : (f : Field) → reach_of f ≡ 0 → operand (field_of f) other (token_in (word w) p) ≡ refuse other p
  unfolding operand need as_register as_number as_label as_word as_text
  label-no Dr e = refl
  label-no Sr e = refl
  label-no RegOrImm e = refl
  label-no Offset6 e = refl
  label-no Near9 e = absurd (omega arith)
  label-no Near11 e = absurd (omega arith)
  label-no Trap e = refl
  label-no Word e = refl
  label-no Fill e = absurd (omega arith)
  label-no Name e = absurd (omega arith)
  label-no Text e = refl

  pub label-yes : (f : Field) → (reach_of f ≡ 0 → ⊥) → operand (field_of f) other (token_in (word w) p) ≡ (named w p >>= λ n. ok (target (record { field = reached f; name = n })))
  unfolding operand need as_register as_number as_label as_word
  label-yes Dr e = absurd (e refl)
  label-yes Sr e = absurd (e refl)
  label-yes RegOrImm e = absurd (e refl)
  label-yes Offset6 e = absurd (e refl)
  label-yes Near9 e = rw (l, as_label)
  label-yes Near11 e = rw (l, as_label)
  label-yes Trap e = absurd (e refl)
  label-yes Word e = absurd (e refl)
  label-yes Fill e = rw (l, as_label)
  label-yes Name e = rw (l, as_label)
  label-yes Text e = absurd (e refl)

pub reached-is : (f : Field) → (reach_of f ≡ 0 → ⊥) → reach_of f ≡ (reached f).modulus
reached-is Dr e = absurd (e refl)
reached-is Sr e = absurd (e refl)
reached-is RegOrImm e = absurd (e refl)
reached-is Offset6 e = absurd (e refl)
reached-is Near9 e = refl
reached-is Near11 e = refl
reached-is Trap e = absurd (e refl)
reached-is Word e = absurd (e refl)
reached-is Fill e = refl
reached-is Name e = refl
reached-is Text e = absurd (e refl)

-- A STRING, AND EVERY OTHER TOKEN
module _ (other : ℕ) (c : List ℕ) (p : Span) where
  pub text-no : (f : Field) → texts_of f ≡ false → operand (field_of f) other (token_in (text c) p) ≡ refuse other p
  unfolding operand need as_register as_number as_label as_word as_text
  text-no Dr e = refl
  text-no Sr e = refl
  text-no RegOrImm e = refl
  text-no Offset6 e = refl
  text-no Near9 e = refl
  text-no Near11 e = refl
  text-no Trap e = refl
  text-no Word e = refl
  text-no Fill e = refl
  text-no Name e = refl
  text-no Text e = never cc

  pub text-yes : (f : Field) → texts_of f ≡ true → operand (field_of f) other (token_in (text c) p) ≡ ok (chars c p)
  unfolding operand need as_text
  text-yes Dr e = never cc
  text-yes Sr e = never cc
  text-yes RegOrImm e = never cc
  text-yes Offset6 e = never cc
  text-yes Near9 e = never cc
  text-yes Near11 e = never cc
  text-yes Trap e = never cc
  text-yes Word e = never cc
  text-yes Fill e = never cc
  text-yes Name e = never cc
  text-yes Text e = refl
