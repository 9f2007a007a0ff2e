-- A good name stands in upper case. Assumes nothing.
use mathlib.Core.Path.{◌≡◌, refl, sym, ◌∙◌, ap}
use mathlib.Core.Bool.{true, false}
use mathlib.Core.Option.{Option, none, some}
use mathlib.Core.List.{List, [], ◌∷◌, map}
use Prim.Native.Nat.{ℕ}
use lib.Dec.{eqb, leb}
use lib.ListN.{length, take}
use lib.Seq.{take-length}
use borrow.Author.Tests.{eqb-true}
use Rattle.rules.specs.Base.{same}
use Rattle.rules.specs.Tokens.{number, register, mark, word, directive, text, Found, token, blank, bad, Match, token_at, upper}
use Rattle.rules.specs.Words.{instructions, find, Row}
use Rattle.rules.specs.Statements.{as_word, as_label}
use Rattle.rules.specs.Objects.{label_word, label_token, good_name}
use Rattle.rules.proofs.Bools.{and_left, and_right, never}
use Rattle.rules.proofs.Shown.{Shows, token-right}

pub same_true : (a b : List ℕ) → same a b ≡ true → a ≡ b
same_true [] [] e = refl
same_true [] (y ∷ b) e = never cc
same_true (x ∷ a) [] e = never cc
same_true (x ∷ a) (y ∷ b) e =
    let p = eqb-true x y (and_left (eqb x y) (same a b) e) in
    let q = same_true a b (and_right (eqb x y) (same a b) e) in
    λ i. p i ∷ q i

-- a word that is a label is the word itself
label-word : (t : List ℕ) (o : Option (List ℕ)) → (elim o [ none ↦ false | some u ↦ same t u ]) ≡ true → (u : List ℕ) × (o ≡ some u) × (t ≡ u)
label-word t none e = never cc
label-word t (some u) e = (u, refl, same_true t u e)

as-label : (t u : List ℕ) (o : Option Row) → (elim o [ none ↦ some t | some r ↦ none ]) ≡ some u → t ≡ u
as-label t u none e = cc
as-label t u (some r) e = never cc

-- a label token covers its own upper case
covered : (l : List ℕ) (n : ℕ) (f : Found) → label_word l f ≡ true → Shows l n f → l ≡ map upper (take n l)
unfolding label_word as_label as_word
covered l n (token (word w)) e h =
    let r = label-word l (elim (find w instructions) [ none ↦ some w | some r ↦ none ]) e in
    r.2 ∙ (sym (as-label w r.0 (find w instructions) r.1) ∙ h)
covered l n (token (number x)) e h = never cc
covered l n (token (register x)) e h = never cc
covered l n (token (mark x)) e h = never cc
covered l n (token (directive x)) e h = never cc
covered l n (token (text x)) e h = never cc
covered l n blank e h = never cc
covered l n (bad m) e h = never cc

pub token-upper : (n : List ℕ) → label_token n ≡ true → map upper n ≡ n
unfolding label_token
token-upper [] e = refl
token-upper (c ∷ s) e =
    let m : Match = token_at c s in
    let a = eqb-true (token_at c s).size (length (c ∷ s)) (and_left _ (label_word (c ∷ s) (token_at c s).found) e) in
    let b = and_right (eqb (token_at c s).size (length (c ∷ s))) _ e in
    sym (covered (c ∷ s) (token_at c s).size (token_at c s).found b (token-right c s) ∙ ap (λ (k : ℕ). map upper (take k (c ∷ s))) a ∙ ap (map upper) (take-length (c ∷ s)))

pub name-upper : (n : List ℕ) → good_name n ≡ true → map upper n ≡ n
unfolding good_name
name-upper n e = token-upper n (and_left (label_token n) (leb (length n) 64) e)
