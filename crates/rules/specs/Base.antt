-- What every rule is written with: a choice, places in the source, an answer or a refusal, texts as lists of bytes. Assumes nothing.
use Rattle.std.specs.Prelude.{ℕ, Bool, true, false, ◌&&◌, List, [], ◌∷◌, eqb, leb}
use Prim.Native.Char.{Char, code}
use Prim.Native.String.{String}
use Prim.Native.String as S
use Rattle.std.proofs.Math.Option.{Option, none, some}

infix 10 when◌then◌else◌
unfoldable pub when◌then◌else◌ : {A : Type 0} → Bool → A → A → A
when true then a else b = a
when false then a else b = b

-- a span (start, end) of the source
pub record Span : Type 0 where
  pub start : ℕ
  pub stop : ℕ

abbrev pub span : ℕ → ℕ → Span
span a e = record { start = a; stop = e }

-- a missing one is 0, 0
abbrev pub nowhere : Span
nowhere = span 0 0

-- an offset stands at both ends
abbrev pub offset_at : ℕ → Span
offset_at i = span i i

-- a refusal: the number, two spans
pub record Refusal : Type 0 where
  pub number : ℕ
  pub first : Span
  pub second : Span

-- what a stage answers
pub data Outcome (A : Type 0) : Type 0 where
  ok : A → Outcome A
  refused : Refusal → Outcome A

-- the next stage goes on with what the stage before gave; a refusal ends all
infixl 20 ◌>>=◌
abbrev pub ◌>>=◌ : {A B : Type 0} → Outcome A → (A → Outcome B) → Outcome B
ok a >>= f = f a
refused r >>= f = refused r

abbrev pub refuse : {A : Type 0} → ℕ → Span → Outcome A
refuse n s = refused (record { number = n; first = s; second = nowhere })

abbrev pub refuse2 : {A : Type 0} → ℕ → Span → Span → Outcome A
refuse2 n s t = refused (record { number = n; first = s; second = t })

-- a line of a `do` block that refuses where a test fails
infixl 20 ◌>>◌
abbrev pub ◌>>◌ : {A B : Type 0} → Outcome A → Outcome B → Outcome B
a >> b = a >>= (λ x. b)

abbrev pub require : Bool → ℕ → Span → Outcome (Unit {0})
require true n p = ok tt
require false n p = refuse n p

-- acceptance or the refusal, whatever was accepted
unfoldable pub verdict : {A : Type 0} → Outcome A → Outcome (Unit {0})
verdict (ok a) = ok tt
verdict (refused r) = refused r

-- the bytes of a text
abbrev pub bytes : String → List ℕ
bytes S.[] = []
bytes (S.◌∷◌ c s) = code c ∷ bytes s

-- a byte is this character; lies between these two
abbrev pub is : Char → ℕ → Bool
is k c = eqb c (code k)

abbrev pub within : Char → Char → ℕ → Bool
within a z c = leb (code a) c && leb c (code z)

-- two lists are the same
abbrev pub same : List ℕ → List ℕ → Bool
same [] [] = true
same [] (y ∷ ys) = false
same (x ∷ xs) [] = false
same (x ∷ xs) (y ∷ ys) = eqb x y && same xs ys

-- there is a value
abbrev pub has : {U : Type 0} → Option U → Bool
has none = false
has (some u) = true
