-- What pass two leaves in the buffers of a source that it accepts: closed blocks, their words, and zeros. Assumes nothing.
use Rattle.base_refusals.specs.declared.Refusal.{Refusal}
use Rattle.std.specs.declared.result.Result.{Result}
use Rattle.std.specs.declared.result.Result.TheVariants.{Ok, Err}
use mathlib.Core.Path.{◌≡◌, refl, sym, ◌∙◌, ap}
use mathlib.Core.Bool.{Bool}
use mathlib.Core.List.{List, [], ◌∷◌}
use mathlib.Core.Option.{none}
use Prim.Native.Nat.{ℕ, zero, suc, ◌-◌, ◌*◌, ◌≤◌, zero-le}
use native.Mathlib.Omega.{arith}
use lib.ListN.{length, drop, get_or}
use Rattle.rules.specs.Base.{ok}
use Rattle.rules.specs.Statements.{Stmt, statements}
use Rattle.rules.specs.Passes.{pass2_state, pass2_start, pass_two}
use Rattle.rules.specs.Buffers.{head_row, sum_of, zeros, WordsOk}
use Rattle.pass2_blocks.specs.Rows.{view_obj_blocks}
use Rattle.pass1_symbols.specs.Symbols.{symbols}
use Rattle.pass2_statement.specs.declared.Pass2State.{Pass2State}
use Rattle.pass2_statement.specs.State.{open_of, opened, told, Standing}
use Rattle.pass2.specs.Passing.{PassedTwo}

all-zero : (l : List ℕ) → ((i : ℕ) → get_or l i 0 ≡ 0) → l ≡ zeros (length l)
all-zero [] h = refl
all-zero (x ∷ l) h = let e : x ≡ 0 = h 0 in let r : l ≡ zeros (length l) = all-zero l (λ i. h (suc i)) in λ v. e v ∷ r v

-- a list that is zero from a place on
pub rest-zero : (k : ℕ) (l : List ℕ) → ((i : ℕ) → k ≤ i → get_or l i 0 ≡ 0) → drop k l ≡ zeros (length l - k)
rest-zero zero l h = let e : length l - 0 ≡ length l = omega arith in rw e (all-zero l (λ i. h i zero-le))
rest-zero (suc k) [] h = let e : 0 - suc k ≡ 0 = omega arith in rw e
rest-zero (suc k) (x ∷ l) h = let e : suc (length l) - suc k ≡ length l - k = omega arith in rw e (rest-zero k l (λ i q. h (suc i) (omega arith)))

module _ (rs src : List ℕ) (n : ℕ) (bs os ws ms : List ℕ) (r : Result Pass2State Refusal) (p : PassedTwo rs src n bs os ws ms r) (t : Pass2State) (e : r ≡ Ok t) where
  k : Standing bs os ws ms t
  k = p.kept t e

  all_closed : t.used ≡ t.base
  all_closed = k.shut (p.shut t e)

  pub left-rule : (ss : List Stmt) → statements src ≡ ok ss → pass_two (symbols n rs src) ss pass2_start ≡ ok (pass2_state none (view_obj_blocks t.blocks bs os ws ms))
  left-rule ss q = sym (p.rule ss q) ∙ (ap (told bs os ws ms) e ∙ ap (λ (b : Bool). ok (pass2_state (open_of b (opened ws ms t)) (view_obj_blocks t.blocks bs os ws ms))) (p.shut t e))

  pub left-few : t.blocks ≤ 64
  left-few = k.few

  pub left-sum : sum_of (head_row bs) t.blocks ≡ t.used
  left-sum = k.sum ∙ sym all_closed

  pub left_words : WordsOk t.used ws ms
  left_words = record { room_words = k.words; room_marks = k.marks; rows = k.rows }

  pub left-rest-blocks : drop (t.blocks * 2) bs ≡ zeros (length bs - t.blocks * 2)
  left-rest-blocks = rest-zero (t.blocks * 2) bs k.clear_blocks

  pub left-rest-words : drop t.used ws ≡ zeros (length ws - t.used)
  left-rest-words = rest-zero t.used ws k.clear.words

  pub left-rest-marks : drop t.used ms ≡ zeros (length ms - t.used)
  left-rest-marks = rest-zero t.used ms k.clear.marks
