-- Two answers that a contract of the lexer's crates allows are equal, a theorem to a public function. Assumes nothing.
use Rattle.std.specs.declared.result.Result.{Result}
use Rattle.std.specs.declared.result.Result.TheVariants.{Ok, Err}
use Rattle.base_refusals.specs.declared.Fault.{Fault}
use Rattle.base_refusals.specs.Refusals.{fault}
use Prim.Native.Nat.{ℕ}
use mathlib.Core.Path.{◌≡◌, refl, sym, ◌∙◌, ap}
use mathlib.Core.Bool.{Bool, false}
use mathlib.Core.List.{List, map}
use lib.ListN.{get_or}
use Rattle.rules.specs.Base.{Outcome, ok, refused, Refusal, same, verdict}
use Rattle.rules.specs.Tokens.{digit, letter, wordy, space, upper, value, Match, next_token, lexed}
use Rattle.rules.proofs.Bools.{never}
use Rattle.base_text.specs.Runs.{in_class, from, run_end}
use Rattle.base_text.specs.Names.{ordered}
use Rattle.base_text.specs.declared.Class.{Class}
use Rattle.std.specs.declared.cmp.Ordering.{Ordering}
use Rattle.lex_reserved.specs.Ident.{ident_of}
use Rattle.lex_reserved.specs.declared.Ident.{Ident}
use Rattle.lex_literals.specs.Numbers.{number_from}
use Rattle.lex_literals.specs.Strings.{scan, char_at}
use Rattle.lex_literals.specs.declared.Reading.{Reading}
use Rattle.lex_literals.specs.declared.Scanned.{Scanned}
use Rattle.lex_literals.specs.declared.StringChar.{StringChar}
use Rattle.lex_token.specs.Coded.{coded}
use Rattle.lex_token.specs.Coded as Coded
use Rattle.lex_token.specs.declared.Next.{Next}
use Rattle.lex.specs.Label.{label_text}
use Rattle.lex_source.specs.Lexed.{meant_lexed}

-- an equation determines its answer
one : {A : Type 0} {x r r' : A} → r ≡ x → r' ≡ x → r ≡ r'
one p q = p ∙ sym q

-- `base_text`
module _ (b : ℕ) where
  pub is-digit-one : {r r' : Bool} → r ≡ digit b → r' ≡ digit b → r ≡ r'
  is-digit-one = one

  pub is-letter-one : {r r' : Bool} → r ≡ letter b → r' ≡ letter b → r ≡ r'
  is-letter-one = one

  pub is-word-one : {r r' : Bool} → r ≡ wordy b → r' ≡ wordy b → r ≡ r'
  is-word-one = one

  pub is-space-one : {r r' : Bool} → r ≡ space b → r' ≡ space b → r ≡ r'
  is-space-one = one

  pub in-class-one : (k : Class) {r r' : Bool} → r ≡ in_class k b → r' ≡ in_class k b → r ≡ r'
  in-class-one k = one

  pub upper-case-one : {r r' : ℕ} → r ≡ upper b → r' ≡ upper b → r ≡ r'
  upper-case-one = one

  pub digit-value-one : {r r' : ℕ} → r ≡ value b → r' ≡ value b → r ≡ r'
  digit-value-one = one

module _ (s : List ℕ) (at : ℕ) where
  pub run-end-one : (k : Class) {r r' : ℕ} → r ≡ run_end k s at → r' ≡ run_end k s at → r ≡ r'
  run-end-one k = one

  pub byte-at-one : {r r' : ℕ} → r ≡ get_or s at 0 → r' ≡ get_or s at 0 → r ≡ r'
  byte-at-one = one

module _ (a b : List ℕ) where
  pub same-name-one : {r r' : Bool} → r ≡ same (map upper a) (map upper b) → r' ≡ same (map upper a) (map upper b) → r ≡ r'
  same-name-one = one

  pub compare-names-one : {r r' : Ordering} → r ≡ ordered (map upper a) (map upper b) → r' ≡ ordered (map upper a) (map upper b) → r ≡ r'
  compare-names-one = one

  pub compare-bytes-one : {r r' : Ordering} → r ≡ ordered a b → r' ≡ ordered a b → r ≡ r'
  compare-bytes-one = one

-- `lex_reserved`
pub ident-of-one : (s : List ℕ) {r r' : Ident} → r ≡ ident_of (map upper s) → r' ≡ ident_of (map upper s) → r ≡ r'
ident-of-one s = one

-- `lex_literals`
module _ (s : List ℕ) (at : ℕ) where
  pub read-number-one : (base bound : ℕ) {r r' : Reading} → r ≡ number_from base bound at at 0 (from s at) → r' ≡ number_from base bound at at 0 (from s at) → r ≡ r'
  read-number-one base bound = one

  pub scan-string-one : {r r' : Scanned} → r ≡ scan false 0 at (from s at) → r' ≡ scan false 0 at (from s at) → r ≡ r'
  scan-string-one = one

  pub string-char-one : {r r' : StringChar} → r ≡ char_at at (from s at) → r' ≡ char_at at (from s at) → r ≡ r'
  string-char-one = one

-- `lex_token`: each of its functions tells a match at a place
pub told-one : (s : List ℕ) (start : ℕ) (m : Match) {r r' : Next} → r ≡ Coded.told s start m → r' ≡ Coded.told s start m → r ≡ r'
told-one s start m = one

-- `lex`
pub next-token-one : (s : List ℕ) (at : ℕ) {r r' : Next} → r ≡ coded (next_token s at) → r' ≡ coded (next_token s at) → r ≡ r'
next-token-one s at = one

pub label-text-one : (s : List ℕ) (start end : ℕ) {r r' : List ℕ} → r ≡ label_text s start end → r' ≡ label_text s start end → r ≡ r'
label-text-one s start end = one

-- `lex_source`: the number and the span say which answer it is
abbrev told : (Refusal → ℕ) → Outcome (Unit {0}) → ℕ
told f (ok a) = 0
told f (refused r) = f r

meant-one : (r r' : Result (Unit {0}) Fault) → meant_lexed r ≡ meant_lexed r' → r ≡ r'
unfolding meant_lexed
meant-one (Ok u) (Ok w) e = refl
meant-one (Ok u) (Err g) p = never cc
meant-one (Err f) (Ok w) p = never cc
meant-one (Err f) (Err g) p =
    let number : f.number ≡ g.number = ap (told (λ r. r.number)) p in
    let start : f.start ≡ g.start = ap (told (λ r. r.first.start)) p in
    let stop : f.end ≡ g.end = ap (told (λ r. r.first.stop)) p in
    λ i. Err (fault (number i) (start i) (stop i))

pub first-refusal-one : (s : List ℕ) (r r' : Result (Unit {0}) Fault) → meant_lexed r ≡ verdict (lexed s) → meant_lexed r' ≡ verdict (lexed s) → r ≡ r'
first-refusal-one s r r' p q = meant-one r r' (p ∙ sym q)
