-- A lexeme's sort tells which mark it is, and its end where the token stops. Assumes nothing.
use Prim.Native.Nat.{ℕ, ◌<◌}
use mathlib.Core.Path.{◌≡◌, refl, sym, ◌∙◌}
use mathlib.Core.Bool.{Bool, true, false, ◌||◌}
use mathlib.Core.List.{List}
use native.Mathlib.Decide.{dec_lt}
use native.Mathlib.Omega.{arith}
use lib.Dec.{T, eqb}
use borrow.Author.Tests.{ne_eqb}
use Rattle.rules.specs.Base.{has}
use Rattle.rules.specs.Statements.{is_mark, as_word, token_is, stop_at}
use Rattle.rules.proofs.Run.{in_run}
use Rattle.rules.proofs.Ahead.{is-token, is-refused, stop-token}
use Rattle.lex_token.specs.Meant.{kind_at}
use Rattle.lex_token.specs.declared.Lexeme.{Lexeme}
use Rattle.lex_token.specs.Flat.{fault_sort}
use Rattle.lex.specs.Sorts.{kind_by, Stands, NoFault}

-- two Bools are the same, as a test that computes
unfoldable pub alike : Bool → Bool → Bool
alike true b = b
alike false true = false
alike false false = true

pub alike-eq : (a b : Bool) → T (alike a b) → a ≡ b
unfolding alike
alike-eq true true t = refl
alike-eq true false t = absurd t
alike-eq false true t = absurd t
alike-eq false false t = refl

module _ (s : List ℕ) (t : Lexeme) where
  -- mark m is sort n
  abbrev pub Marks : ℕ → ℕ → Type 0
  Marks m n = (k : ℕ) → k < fault_sort → is_mark m (kind_by s k t) ≡ eqb k n

  pub colon-sort : Marks 58 7
  unfolding is_mark kind_at alike
  colon-sort k l = alike-eq (is_mark 58 (kind_by s k t)) (eqb k 7) (in_run (λ j. alike (is_mark 58 (kind_by s j t)) (eqb j 7)) 0 fault_sort tt k (omega arith) (omega arith))

  pub comma-sort : Marks 44 8
  unfolding is_mark kind_at alike
  comma-sort k l = alike-eq (is_mark 44 (kind_by s k t)) (eqb k 8) (in_run (λ j. alike (is_mark 44 (kind_by s j t)) (eqb j 8)) 0 fault_sort tt k (omega arith) (omega arith))

  pub line-sort : Marks 10 9
  unfolding is_mark kind_at alike
  line-sort k l = alike-eq (is_mark 10 (kind_by s k t)) (eqb k 9) (in_run (λ j. alike (is_mark 10 (kind_by s j t)) (eqb j 9)) 0 fault_sort tt k (omega arith) (omega arith))

  pub end-sort : Marks 0 10
  unfolding is_mark kind_at alike
  end-sort k l = alike-eq (is_mark 0 (kind_by s k t)) (eqb k 10) (in_run (λ j. alike (is_mark 0 (kind_by s j t)) (eqb j 10)) 0 fault_sort tt k (omega arith) (omega arith))

  -- words are sorts 3 and 5
  pub word-sort : (k : ℕ) → k < fault_sort → has (as_word (kind_by s k t)) ≡ (eqb k 3 || eqb k 5)
  unfolding as_word kind_at alike
  word-sort k l = alike-eq (has (as_word (kind_by s k t))) (eqb k 3 || eqb k 5) (in_run (λ j. alike (has (as_word (kind_by s j t))) (eqb j 3 || eqb j 5)) 0 fault_sort tt k (omega arith) (omega arith))

module _ (s : List ℕ) (i : ℕ) (t : Lexeme) (h : Stands s i t) where
  pub token-mark : (m n : ℕ) → n < fault_sort → Marks s t m n → token_is (is_mark m) s i ≡ eqb t.sort n
  token-mark m n l f = go (dec_lt t.sort fault_sort)
    where
      go : Dec (NoFault t) → token_is (is_mark m) s i ≡ eqb t.sort n
      go (yes p) = is-token (is_mark m) s i _ (h.token p) ∙ f t.sort p
      go (no p) = is-refused (is_mark m) s i _ (h.bad (omega arith)) ∙ sym (ne_eqb t.sort n (λ (e : t.sort ≡ n). omega arith))

  pub stop-end : NoFault t → stop_at s i ≡ t.end
  stop-end p = stop-token s i _ (h.token p)
