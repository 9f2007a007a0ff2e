-- A word's text handed out is the rule's word. Assumes nothing.
use Prim.Native.Nat.{ℕ, ◌≤◌}
use mathlib.Core.Path.{◌≡◌, refl, sym, ◌∙◌, ap, subst}
use mathlib.Core.List.{List, map}
use mathlib.Core.Logic.{◌⊎◌, inl, inr, ⊎_elim}
use native.Mathlib.Omega.{arith}
use borrow.Author.Tests.{le-leb}
use lib.ListN.{length}
use Rattle.rules.specs.Base.{when◌then◌else◌, Outcome, ok, refused, span}
use Rattle.rules.specs.Tokens.{Token, mark, word, upper, token_in, next_token}
use Rattle.rules.proofs.Next.{next-induction}
use Rattle.rules.proofs.Bools.{never}
use Rattle.lex_reserved.specs.declared.Ident as reserved
use Rattle.lex_token.specs.Meant.{part, kind_at, meant}
use Rattle.lex_token.specs.declared.Token.TheVariants.{Ident}
use Rattle.lex_token.specs.declared.Next.TheVariants.{Took}
use Rattle.lex.specs.Label.{label_text}

module _ (s : List ℕ) where
  -- a token's span lies in the source
  abbrev Lies : Outcome Token → Type 0
  Lies (ok t) = (t.kind ≡ mark 0) ⊎ ((t.place.start ≤ t.place.stop) × (t.place.stop ≤ length s))
  Lies (refused r) = Unit {0}

  next-lies : (i : ℕ) → Lies (next_token s i)
  next-lies i =
      next-induction s (λ i o. Lies o)
      (λ i h. inl refl)
      (λ i n k h e l u t. inr (omega arith, u))
      (λ i n m h e l u. tt)
      (λ i n h e l u p. p)
      i

  text-part : (a e : ℕ) → a ≤ e → e ≤ length s → label_text s a e ≡ part s a e
  unfolding label_text when◌then◌else◌
  text-part a e h k = rw (le-leb _ _ h, le-leb _ _ k)

  -- of each word that `next_token` finds, what `label_text` hands out is its text: in upper case the rule's word
  pub label-word : (at : ℕ) (i : reserved.Ident) (a e : ℕ) → meant s (Took (Ident i) a e) ≡ next_token s at → next_token s at ≡ ok (token_in (word (map upper (label_text s a e))) (span a e))
  unfolding meant kind_at
  label-word at i a e m =
      ⊎_elim
      (λ p. never cc)
      (λ p. sym m ∙ ap (λ (l : List ℕ). ok (token_in (word (map upper l)) (span a e))) (sym (text-part a e p.0 p.1)))
      (subst Lies (sym m) (next-lies at))
