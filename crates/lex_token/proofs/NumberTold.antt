-- What a number's reading is told as. Assumes nothing.
use Prim.Native.Nat.{ℕ, ◌+◌, ◌≤◌}
use mathlib.Core.Path.{◌≡◌, refl, sym, ◌∙◌, ap, subst}
use mathlib.Core.List.{List}
use native.Mathlib.Omega.{arith}
use lib.ListN.{length, drop}
use Rattle.rules.specs.Tokens.{match, while, wordy, number_after}
use Rattle.rules.specs.Tokens as tokens
use Rattle.rules.proofs.Next.{here}
use Rattle.base_text.specs.Runs.{in_class, from, run_end}
use Rattle.base_text.specs.declared.Class.TheVariants as class
use Rattle.lex_literals.specs.Numbers.{number_from, meant_by}
use Rattle.lex_literals.specs.declared.Reading.{Reading}
use Rattle.lex_literals.specs.declared.Reading.TheVariants.{Good, Empty, Wrong, Over}
use Rattle.lex_literals.proofs.NumberRule.{Ends, number-means, number-ends}
use Rattle.lex_token.specs.Coded.{coded_as, coded, told}
use Rattle.lex_token.specs.declared.Next.{Next}
use Rattle.lex_token.specs.declared.Next.TheVariants.{Refused}

pub word_end : (s : List ℕ) (start n at : ℕ) → start + n ≡ at → start + (n + length (while wordy (from s at))) ≡ run_end class.Word s at
unfolding run_end in_class
word_end s start n at e = omega arith

module _ (s : List ℕ) (start p : ℕ) (f : tokens.Form) (small : f.base ≤ 16) where
  abbrev at : ℕ
  at = start + p

  abbrev found : Reading
  found = number_from f.base f.bound at at 0 (from s at)

  abbrev answer : Next
  answer = told s start (number_after p f (from s at))

  shown : (x : Reading) → x ≡ found → answer ≡ coded (here start (match (meant_by f x) (p + length (while wordy (from s at)))) (drop (start + 1) s))
  unfolding told number_after
  shown x e = rw (e, number-means f small at (from s at))

  ends : (x : Reading) → x ≡ found → Ends s at f.bound (run_end class.Word s at) x
  ends x e = subst (Ends s at f.bound (run_end class.Word s at)) (sym e) (number-ends s f.base f.bound at small)

  pub good-small : {n e : ℕ} → Good n e ≡ found → n ≤ f.bound
  good-small {n} {e} h = (ends (Good n e) h).1

  pub good-told : {n e : ℕ} → Good n e ≡ found → coded_as (f.kind n) start e ≡ answer
  unfolding here coded meant_by
  good-told {n} {e} h = sym (shown (Good n e) h ∙ ap (coded_as (f.kind n) start) (word_end s start p at refl ∙ sym (ends (Good n e) h).0))

  pub none_told : Empty ≡ found → Refused f.none start at ≡ answer
  unfolding here coded meant_by
  none_told h = sym (shown Empty h ∙ ap (Refused f.none start) (word_end s start p at refl ∙ sym (ends Empty h)))

  pub wrong-told : {i x : ℕ} → Wrong i ≡ found → x ≡ run_end class.Word s i → Refused f.wrong start x ≡ answer
  unfolding here coded meant_by
  wrong-told {i} {x} h q = sym (shown (Wrong i) h ∙ ap (Refused f.wrong start) (word_end s start p at refl ∙ sym (ends (Wrong i) h) ∙ sym q))

  pub over-told : {i x : ℕ} → Over i ≡ found → x ≡ run_end class.Word s i → Refused f.over start x ≡ answer
  unfolding here coded meant_by
  over-told {i} {x} h q = sym (shown (Over i) h ∙ ap (Refused f.over start) (word_end s start p at refl ∙ sym (ends (Over i) h) ∙ sym q))
