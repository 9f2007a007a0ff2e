-- The operand at a place, by its token's sort. Assumes nothing.
use Rattle.std.specs.declared.result.Result.{Result}
use Rattle.std.specs.declared.result.Result.TheVariants.{Err}
use Rattle.base_refusals.specs.declared.Fault.{Fault}
use Rattle.base_refusals.specs.Refusals.{fault}
use Prim.Native.Nat.{ℕ, zero, suc, ◌-◌, ◌≤◌, ◌<◌}
use mathlib.Core.Path.{◌≡◌, refl, sym, ◌∙◌}
use mathlib.Core.List.{List}
use mathlib.Core.Option.{none, some}
use native.Mathlib.Decide.{dec_lt}
use native.Mathlib.Omega.{arith}
use borrow.Author.Tests.{eq-eqb, ne_eqb}
use lib.ListN.{length, get_or}
use Rattle.rules.specs.Base.{when◌then◌else◌, ok, refuse, Span, span}
use Rattle.rules.specs.Tokens.{Kind, token_in, number, register, word, text, next_token}
use Rattle.rules.specs.Words.{find, instructions}
use Rattle.rules.specs.Words as words
use Rattle.rules.specs.Statements.{as_number, as_register, as_word, as_text, as_label, need, operand}
use Rattle.lex_token.specs.Meant.{kind_at}
use Rattle.lex_token.specs.declared.Lexeme.{Lexeme}
use Rattle.lex_token.specs.Flat.{fault_sort}
use Rattle.lex.specs.Sorts.{name_of, kind_by, no_row, Stands, NoFault}
use Rattle.parse_field.specs.declared.Field.{Field}
use Rattle.parse_field.specs.declared.Given.{Given}
use Rattle.parse_field.specs.Coded.{field_of, told, stepped, operand_given, operand_step, num_of, misplaced_at, Below, Adds}

-- a token that no operand is
other-token : (f : words.Field) (other : ℕ) (k : Kind) (p : Span) → as_register k ≡ none → as_number k ≡ none → as_label k ≡ none → as_text k ≡ none → operand f other (token_in k p) ≡ refuse other p
unfolding operand need
other-token (words.reg m) other k p a b c d = rw (a, need)
other-token words.reg_or_imm other k p a b c d = rw (a, b, operand)
other-token (words.num r) other k p a b c d = rw (b, need)
other-token (words.near r) other k p a b c d = rw (b, c, operand)
other-token (words.name r) other k p a b c d = rw (c, need)
other-token words.string other k p a b c d = rw (d, need)

record Plain (k : Kind) : Type 0 where
  pub reg : as_register k ≡ none
  pub num : as_number k ≡ none
  pub label : as_label k ≡ none
  pub text : as_text k ≡ none

plain-kind : (s : List ℕ) (t : Lexeme) (k : ℕ) → 4 < k → (k ≡ 5 → find (name_of s t) instructions ≡ some (get_or instructions t.value no_row)) → Plain (kind_by s k t)
unfolding as_register as_number as_label as_word as_text kind_at
plain-kind s t zero l h = absurd (omega arith)
plain-kind s t (suc zero) l h = absurd (omega arith)
plain-kind s t (suc (suc zero)) l h = absurd (omega arith)
plain-kind s t (suc (suc (suc zero))) l h = absurd (omega arith)
plain-kind s t (suc (suc (suc (suc zero)))) l h = absurd (omega arith)
plain-kind s t (suc (suc (suc (suc (suc zero))))) l h = record { reg = refl; num = refl; label = rw (h refl, as_label); text = refl }
plain-kind s t (suc (suc (suc (suc (suc (suc zero)))))) l h = record { reg = refl; num = refl; label = refl; text = refl }
plain-kind s t (suc (suc (suc (suc (suc (suc (suc zero))))))) l h = record { reg = refl; num = refl; label = refl; text = refl }
plain-kind s t (suc (suc (suc (suc (suc (suc (suc (suc zero)))))))) l h = record { reg = refl; num = refl; label = refl; text = refl }
plain-kind s t (suc (suc (suc (suc (suc (suc (suc (suc (suc zero))))))))) l h = record { reg = refl; num = refl; label = refl; text = refl }
plain-kind s t (suc (suc (suc (suc (suc (suc (suc (suc (suc (suc k)))))))))) l h = record { reg = refl; num = refl; label = refl; text = refl }

module _ (s : List ℕ) (i : ℕ) (t : Lexeme) (g : Given) (f : Field) (other : ℕ) where
  at-token : (k : Kind) → next_token s i ≡ ok (token_in k (span t.start t.end)) → operand_step s (field_of f) other g i ≡ stepped g (operand (field_of f) other (token_in k (span t.start t.end))) t.end
  unfolding operand_step operand_given stepped
  at-token k e = rw (e, operand_given)

  at-refused : (n : ℕ) → next_token s i ≡ refuse n (span t.start t.end) → operand_step s (field_of f) other g i ≡ Err (fault n t.start t.end)
  unfolding operand_step operand_given told
  at-refused n e = rw (e, operand_given)

  module _ (r : Result Given Fault) (h : Stands s i t) where
    abbrev Placed : Type 0
    Placed = Adds g r (operand_step s (field_of f) other g i)

    by_kind : (k : Kind) → NoFault t → kind_by s t.sort t ≡ k → Adds g r (stepped g (operand (field_of f) other (token_in k (span t.start t.end))) t.end) → Placed
    by_kind k l e a = rw (at-token k (h.token l ∙ rw e)) a

    pub at_register : t.sort ≡ 2 → Adds g r (stepped g (operand (field_of f) other (token_in (register t.value) (span t.start t.end))) t.end) → Placed
    at_register e a = by_kind (register t.value) (omega arith) (rw e) a

    pub at-number : t.sort ≤ 1 → Adds g r (stepped g (operand (field_of f) other (token_in (number (num_of t.sort t.value)) (span t.start t.end))) t.end) → Placed
    unfolding num_of when◌then◌else◌
    at-number e a = by_kind (number (num_of t.sort t.value)) (omega arith) (go t.sort e) a
      where
        go : (k : ℕ) → k ≤ 1 → kind_by s k t ≡ number (num_of k t.value)
        go zero l = refl
        go (suc zero) l = refl
        go (suc (suc k)) l = absurd (omega arith)

    pub at_label : t.sort ≡ 3 → ((w : List ℕ) → find w instructions ≡ none → length w ≡ t.end - t.start → Adds g r (stepped g (operand (field_of f) other (token_in (word w) (span t.start t.end))) t.end)) → Placed
    at_label e a = by_kind (word (name_of s t)) (omega arith) (rw e) (a (name_of s t) (h.label e) (h.size e))

    pub at-text : t.sort ≡ 4 → ((c : List ℕ) → Adds g r (stepped g (operand (field_of f) other (token_in (text c) (span t.start t.end))) t.end)) → Placed
    unfolding kind_at
    at-text e a = by_kind (kind_by s 4 t) (omega arith) (rw e) (a _)

    pub at_other : (t.sort ≡ 2 → ⊥) → 1 < t.sort → (t.sort ≡ 3 → ⊥) → (t.sort ≡ 4 → ⊥) → r ≡ misplaced_at t other → Placed
    unfolding misplaced_at when◌then◌else◌ Below stepped told
    at_other a b c d e = go (dec_lt t.sort fault_sort)
      where
        plain : Err (fault other t.start t.end) ≡ r → operand_step s (field_of f) other g i ≡ Err (fault other t.start t.end) → Placed
        plain q w = rw (← q, w) (record { is = refl; room = tt })

        go : Dec (NoFault t) → Placed
        go (yes l) =
            let k = plain-kind s t t.sort (omega arith) h.reserved in
            let o : operand (field_of f) other (token_in (kind_by s t.sort t) (span t.start t.end)) ≡ refuse other (span t.start t.end) = other-token (field_of f) other (kind_by s t.sort t) (span t.start t.end) k.reg k.num k.label k.text in
            plain (sym (rw (ne_eqb t.sort fault_sort (λ (z : t.sort ≡ fault_sort). omega arith)) at e)) (at-token _ (h.token l) ∙ rw o)
        go (no l) =
            let z : t.sort ≡ fault_sort = omega (arith, h.known) in
            rw (e, eq-eqb t.sort fault_sort z, at-refused t.value (h.bad (omega arith))) (record { is = refl; room = tt })
