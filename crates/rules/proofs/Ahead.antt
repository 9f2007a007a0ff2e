-- Where tokens end, and with them newlines, labels and statements: each goes on from its place, and none past the source. Assumes nothing.
use Prim.Native.Nat.{ℕ, zero, suc, ◌+◌, ◌-◌, ◌≤◌, ◌<◌}
use mathlib.Core.Path.{◌≡◌, refl, sym, ◌∙◌, ap}
use mathlib.Core.Bool.{Bool, true, false}
use mathlib.Core.List.{List, [], ◌∷◌}
use mathlib.Core.Option.{Option, none, some}
use native.Mathlib.Omega.{arith}
use lib.ListN.{length}
use borrow.Author.Tests.{eqb-true, ne_eqb}
use Rattle.rules.specs.Base.{when◌then◌else◌, Outcome, ok, refused, Refusal, Span, has}
use Rattle.rules.specs.Tokens.{Token, Kind, number, register, mark, word, directive, text, next_token}
use Rattle.rules.specs.Statements.{Name, is_mark, as_label, as_word, as_name, name_at, token_is, stop_at, past_lines, past_colon, label_at, past_label, labels_from, labels_at, past_labels}
use Rattle.rules.proofs.Next.{next-induction}
use Rattle.rules.proofs.Walking.{Grows, walk-on, walk-done, walk-ge, walk-le}
use Rattle.rules.proofs.Bools.{never}

-- the token at i, where it is one and not the source's end, ends past i and inside
pub record Ends (n i : ℕ) (t : Token) : Type 0 where
  pub least : i ≤ t.place.stop
  pub more : is_mark 0 t.kind ≡ false → i < t.place.stop
  pub most : is_mark 0 t.kind ≡ false → t.place.stop ≤ n
  pub inside : i ≤ n → t.place.stop ≤ n

abbrev Stops : ℕ → ℕ → Outcome Token → Type 0
Stops n i (ok t) = Ends n i t
Stops n i (refused r) = Unit {0}

weaken : (n i j : ℕ) (o : Outcome Token) → i ≤ j → j ≤ n → Stops n j o → Stops n i o
weaken n i j (ok t) h l s = record { least = omega (arith, s.least); more = λ e. omega (arith, s.more e); most = s.most; inside = λ q. s.inside l }
weaken n i j (refused r) h l s = tt

stops : (s : List ℕ) (i : ℕ) → Stops (length s) i (next_token s i)
unfolding is_mark
stops s =
    next-induction s (λ i o. Stops (length s) i o)
    (λ i h. record { least = omega arith; more = λ e. (never cc); most = λ e. (never cc); inside = λ q. q })
    (λ i n k h e l u w. record { least = omega arith; more = λ e. omega arith; most = λ e. u; inside = λ q. u })
    (λ i n m h e l u. tt)
    (λ i n h e l u q. weaken (length s) i (i + n) (next_token s (i + n)) (omega arith) u q)

pub token-ends : (s : List ℕ) (i : ℕ) (t : Token) → next_token s i ≡ ok t → Ends (length s) i t
token-ends s i t e = rw e at (stops s i)

-- a mark is one mark
pub not_end : (m : ℕ) (k : Kind) → (m ≡ 0 → ⊥) → is_mark m k ≡ true → is_mark 0 k ≡ false
unfolding is_mark
not_end m (mark c) h e = let q : c ≡ m = eqb-true c m e in ne_eqb c 0 (λ (z : c ≡ 0). h (sym q ∙ z))
not_end m (number n) h e = refl
not_end m (register n) h e = refl
not_end m (word t) h e = refl
not_end m (directive t) h e = refl
not_end m (text t) h e = refl

-- what a test of the token says, and the place after it
module _ (p : Kind → Bool) (s : List ℕ) (i : ℕ) where
  pub is-token : (t : Token) → next_token s i ≡ ok t → token_is p s i ≡ p t.kind
  unfolding token_is
  is-token t e = rw (e, token_is)

  pub is-refused : (r : Refusal) → next_token s i ≡ refused r → token_is p s i ≡ false
  unfolding token_is
  is-refused r e = rw (e, token_is)

pub stop-token : (s : List ℕ) (i : ℕ) (t : Token) → next_token s i ≡ ok t → stop_at s i ≡ t.place.stop
unfolding stop_at
stop-token s i t e = rw (e, stop_at)

-- a token that passes a test which the source's end does not
passed : (p : Kind → Bool) → ((k : Kind) → p k ≡ true → is_mark 0 k ≡ false) → (s : List ℕ) (i : ℕ) → token_is p s i ≡ true → (i < stop_at s i) × (stop_at s i ≤ length s)
unfolding token_is stop_at
passed p f s i e = go (next_token s i) refl e
  where
    go : (o : Outcome Token) → next_token s i ≡ o → ◌≡◌ {A = Bool} (elim o [ ok t ↦ p t.kind | refused r ↦ false ]) true → (i < elim o as (λ x. ℕ) [ ok t ↦ t.place.stop | refused r ↦ i ]) × (elim o as (λ x. ℕ) [ ok t ↦ t.place.stop | refused r ↦ i ] ≤ length s)
    go (ok t) q h = let u = token-ends s i t q in (u.more (f t.kind h), u.most (f t.kind h))
    go (refused r) q h = never cc

-- NEWLINES
line-grows : (s : List ℕ) → Grows (token_is (is_mark 10) s) (stop_at s) (length s)
line-grows s = record {
  on = λ i e. (passed (is_mark 10) (λ k h. not_end 10 k (λ (z : 10 ≡ 0). omega arith) h) s i e).0;
  to = λ i e. (passed (is_mark 10) (λ k h. not_end 10 k (λ (z : 10 ≡ 0). omega arith) h) s i e).1;
}

module _ (s : List ℕ) (i : ℕ) where
  pub line-ahead : token_is (is_mark 10) s i ≡ true → (i < stop_at s i) × (stop_at s i ≤ length s)
  line-ahead e = passed (is_mark 10) (λ k h. not_end 10 k (λ (z : 10 ≡ 0). omega arith) h) s i e

  pub lines-on : token_is (is_mark 10) s i ≡ true → past_lines s i ≡ past_lines s (stop_at s i)
  unfolding past_lines
  lines-on e = walk-on (token_is (is_mark 10) s) (stop_at s) (length s) (line-grows s) i e

  pub lines-done : token_is (is_mark 10) s i ≡ false → past_lines s i ≡ i
  unfolding past_lines
  lines-done e = walk-done (token_is (is_mark 10) s) (stop_at s) (length s) (line-grows s) i e

  pub lines-ge : i ≤ past_lines s i
  unfolding past_lines
  lines-ge = walk-ge (token_is (is_mark 10) s) (stop_at s) (length s) (line-grows s) (length s - i) i

  pub lines-le : i ≤ length s → past_lines s i ≤ length s
  unfolding past_lines
  lines-le h = walk-le (token_is (is_mark 10) s) (stop_at s) (length s) (line-grows s) (length s - i) i h

  -- A COLON
  pub colon-on : token_is (is_mark 58) s i ≡ true → past_colon s i ≡ stop_at s i
  unfolding past_colon when◌then◌else◌
  colon-on e = rw (e, when◌then◌else◌)

  pub colon-done : token_is (is_mark 58) s i ≡ false → past_colon s i ≡ i
  unfolding past_colon when◌then◌else◌
  colon-done e = rw (e, when◌then◌else◌)

  colon-in : i ≤ length s → (i ≤ past_colon s i) × (past_colon s i ≤ length s)
  colon-in h = go (token_is (is_mark 58) s i) refl
    where
      go : (b : Bool) → token_is (is_mark 58) s i ≡ b → (i ≤ past_colon s i) × (past_colon s i ≤ length s)
      go true e = let u = passed (is_mark 58) (λ k q. not_end 58 k (λ (z : 58 ≡ 0). omega arith) q) s i e in rw (colon-on e) (omega (arith, u.0), u.1)
      go false e = rw (colon-done e) (omega arith, h)

-- LABELS

label-word : (k : Kind) (p : Span) (n : Name) → as_name k p ≡ some n → is_mark 0 k ≡ false
unfolding as_name as_label as_word is_mark
label-word (number x) p n e = refl
label-word (register x) p n e = refl
label-word (word t) p n e = refl
label-word (directive t) p n e = refl
label-word (text t) p n e = refl
label-word (mark c) p n e = never cc

pub name-token : (s : List ℕ) (i : ℕ) (t : Token) → next_token s i ≡ ok t → name_at s i ≡ as_name t.kind t.place
unfolding name_at
name-token s i t e = rw (e, name_at)

pub name-refused : (s : List ℕ) (i : ℕ) (r : Refusal) → next_token s i ≡ refused r → name_at s i ≡ none
unfolding name_at
name-refused s i r e = rw (e, name_at)

named_in : (s : List ℕ) (i : ℕ) (n : Name) → name_at s i ≡ some n → (i < stop_at s i) × (stop_at s i ≤ length s)
unfolding name_at stop_at
named_in s i n e = go (next_token s i) refl e
  where
    go : (o : Outcome Token) → next_token s i ≡ o → ◌≡◌ {A = Option Name} (elim o [ ok t ↦ as_name t.kind t.place | refused r ↦ none ]) (some n) → (i < elim o as (λ x. ℕ) [ ok t ↦ t.place.stop | refused r ↦ i ]) × (elim o as (λ x. ℕ) [ ok t ↦ t.place.stop | refused r ↦ i ] ≤ length s)
    go (ok t) q h = let u = token-ends s i t q in let w = label-word t.kind t.place n h in (u.more w, u.most w)
    go (refused r) q h = never cc

module _ (s : List ℕ) (i : ℕ) where
  pub label-in : (n : Name) → name_at s (past_lines s i) ≡ some n → (i < past_label s i) × (past_label s i ≤ length s)
  unfolding past_label
  label-in n e =
      let u = named_in s (past_lines s i) n e in
      let w = colon-in s (stop_at s (past_lines s i)) u.1 in
      (omega (arith, lines-ge s i, u.0, w.0), w.1)

  pub label-some : (n : Name) → name_at s (past_lines s i) ≡ some n → label_at s i ≡ true
  unfolding label_at
  label-some n e = ap has e

  pub label-none : name_at s (past_lines s i) ≡ none → label_at s i ≡ false
  unfolding label_at
  label-none e = ap has e

label-grows : (s : List ℕ) → Grows (label_at s) (past_label s) (length s)
unfolding label_at
label-grows s = record { on = λ i e. (found i e).0; to = λ i e. (found i e).1 }
  where
    found : (i : ℕ) → has (name_at s (past_lines s i)) ≡ true → (i < past_label s i) × (past_label s i ≤ length s)
    found i e = go (name_at s (past_lines s i)) refl e
      where
        go : (o : Option Name) → name_at s (past_lines s i) ≡ o → has o ≡ true → (i < past_label s i) × (past_label s i ≤ length s)
        go none q h = never cc
        go (some n) q h = label-in s i n q

-- the names, whatever count is large enough
names_same : (s : List ℕ) (k l i : ℕ) → length s - i ≤ k → length s - i ≤ l → labels_from k s i ≡ labels_from l s i
unfolding labels_from
names_same s zero zero i a c = refl
names_same s zero (suc l) i a c = go (name_at s (past_lines s i)) refl
  where
    go : (o : Option Name) → name_at s (past_lines s i) ≡ o → ◌≡◌ {A = List Name} [] (elim o [ none ↦ [] | some n ↦ n ∷ labels_from l s (past_label s i) ])
    go none q = refl
    go (some n) q = let u = label-in s i n q in absurd (omega (arith, u.0, u.1))
names_same s (suc k) zero i a c = go (name_at s (past_lines s i)) refl
  where
    go : (o : Option Name) → name_at s (past_lines s i) ≡ o → ◌≡◌ {A = List Name} (elim o [ none ↦ [] | some n ↦ n ∷ labels_from k s (past_label s i) ]) []
    go none q = refl
    go (some n) q = let u = label-in s i n q in absurd (omega (arith, u.0, u.1))
names_same s (suc k) (suc l) i a c = go (name_at s (past_lines s i)) refl (names_same s k l (past_label s i))
  where
    go :
        (o : Option Name) → name_at s (past_lines s i) ≡ o → (length s - past_label s i ≤ k → length s - past_label s i ≤ l → labels_from k s (past_label s i) ≡ labels_from l s (past_label s i))
        → ◌≡◌ {A = List Name} (elim o [ none ↦ [] | some n ↦ n ∷ labels_from k s (past_label s i) ]) (elim o [ none ↦ [] | some n ↦ n ∷ labels_from l s (past_label s i) ])
    go none q r = refl
    go (some n) q r = let u = label-in s i n q in ap (λ (x : List Name). n ∷ x) (r (omega (arith, u.0, u.1)) (omega (arith, u.0, u.1)))

module _ (s : List ℕ) (i : ℕ) where
  pub labels-on : (n : Name) → name_at s (past_lines s i) ≡ some n → past_labels s i ≡ past_labels s (past_label s i)
  unfolding past_labels
  labels-on n e = walk-on (label_at s) (past_label s) (length s) (label-grows s) i (label-some s i n e)

  pub labels-done : name_at s (past_lines s i) ≡ none → past_labels s i ≡ i
  unfolding past_labels
  labels-done e = walk-done (label_at s) (past_label s) (length s) (label-grows s) i (label-none s i e)

  pub labels-ge : i ≤ past_labels s i
  unfolding past_labels
  labels-ge = walk-ge (label_at s) (past_label s) (length s) (label-grows s) (length s - i) i

  pub labels-le : i ≤ length s → past_labels s i ≤ length s
  unfolding past_labels
  labels-le h = walk-le (label_at s) (past_label s) (length s) (label-grows s) (length s - i) i h

  pub names-on : (n : Name) → name_at s (past_lines s i) ≡ some n → labels_at s i ≡ n ∷ labels_at s (past_label s i)
  unfolding labels_at labels_from
  names-on n e =
      let u = label-in s i n e in
      let z : length s - i ≡ suc (length s - (i + 1)) = omega (arith, u.0, u.1) in
      rw (z, e, labels_from) (ap (λ (x : List Name). n ∷ x) (names_same s (length s - (i + 1)) (length s - past_label s i) (past_label s i) (omega (arith, u.0, u.1)) (omega arith)))

  pub names-done : name_at s (past_lines s i) ≡ none → labels_at s i ≡ []
  unfolding labels_at labels_from
  names-done e = go (length s - i)
    where
      go : (k : ℕ) → labels_from k s i ≡ []
      go zero = refl
      go (suc k) = rw (e, labels_from)
