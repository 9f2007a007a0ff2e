-- Where the statements of a source are read, each of its tokens has been: the lexer's walk accepts it. Assumes nothing.
use Prim.Native.Nat.{ℕ, zero, suc, ◌+◌, ◌-◌, ◌≤◌, ◌<◌}
use mathlib.Core.Path.{◌≡◌, refl, sym, ◌∙◌, ap, subst}
use mathlib.Core.Bool.{Bool, true, false}
use mathlib.Core.List.{List}
use mathlib.Core.Logic.{⊎_elim}
use mathlib.Core.Option.{Option, none, some}
use native.Mathlib.Omega.{arith}
use lib.ListN.{length, drop}
use borrow.Author.Tests.{eqb-true}
use Rattle.rules.specs.Base.{when◌then◌else◌, Outcome, ok, refused, ◌>>◌, verdict}
use Rattle.rules.specs.Tokens.{Token, Kind, number, register, mark, word, directive, text, next_token, ascii, lexed}
use Rattle.rules.specs.Statements.{Name, Stmt, is_mark, token_is, stop_at, walk, past_lines, past_colon, label_at, past_label, labels_at, past_labels, Read, next_statement, statements_at, statements}
use Rattle.rules.proofs.Walk.{tokens_on, onward, tokens-end, tokens-onward, Moves, next-moves, whole_on, whole-start}
use Rattle.rules.proofs.Gave.{gave}
use Rattle.rules.proofs.Following.{statement-goes, statements-on, statements-refused}
use Rattle.rules.proofs.Bools.{never}
use Rattle.rules.proofs.Inverted.{Inverted, inverted}
use Rattle.rules.proofs.Along.{row-along}

is-end : (k : Kind) → is_mark 0 k ≡ true → k ≡ mark 0
unfolding is_mark
is-end (mark c) e = ap mark (eqb-true c 0 e)
is-end (number n) e = never cc
is-end (register n) e = never cc
is-end (word t) e = never cc
is-end (directive t) e = never cc
is-end (text t) e = never cc

module _ (s : List ℕ) where
  -- the lexer's verdict from one place on is that from another
  abbrev Same : ℕ → ℕ → Type 0
  Same i j = tokens_on s i ≡ tokens_on s j

  -- ONE TOKEN
  token-on : (i : ℕ) (t : Token) → next_token s i ≡ ok t → Same i t.place.stop
  unfolding onward
  token-on i t e = tokens-onward s i ∙ ap (onward s) e

  token-last : (i : ℕ) (t : Token) → next_token s i ≡ ok t → is_mark 0 t.kind ≡ true → tokens_on s i ≡ ok tt
  token-last i t e m =
      let l : length s ≤ t.place.stop = ⊎_elim (λ p. p.1) (λ p. absurd (p.0 (is-end t.kind m))) (subst (Moves s i) e (next-moves s i)) in
      token-on i t e ∙ tokens-end s t.place.stop l

  -- A WALK over newlines, colons and labels: a token that is refused is not passed over
  stop-on : (i : ℕ) → Same i (stop_at s i)
  unfolding stop_at
  stop-on i = go (next_token s i) refl
    where
      go : (o : Outcome Token) → next_token s i ≡ o → Same i (elim o as (λ x. ℕ) [ ok t ↦ t.place.stop | refused r ↦ i ])
      go (ok t) q = token-on i t q
      go (refused r) q = refl

  walk_same : (p : ℕ → Bool) (f : ℕ → ℕ) → ((i : ℕ) → Same i (f i)) → (k i : ℕ) → Same i (walk p f k i)
  unfolding walk
  walk_same p f h zero i = refl
  walk_same p f h (suc k) i = go (p i) (h i ∙ walk_same p f h k (f i))
    where
      go : (b : Bool) → Same i (walk p f k (f i)) → Same i (elim b as (λ x. ℕ) [ true ↦ walk p f k (f i) | false ↦ i ])
      go true r = r
      go false r = refl

  lines_same : (i : ℕ) → Same i (past_lines s i)
  unfolding past_lines
  lines_same i = walk_same (token_is (is_mark 10) s) (stop_at s) stop-on (length s - i) i

  colon-same : (i : ℕ) → Same i (past_colon s i)
  unfolding past_colon when◌then◌else◌
  colon-same i = go (token_is (is_mark 58) s i)
    where
      go : (b : Bool) → Same i (when b then stop_at s i else i)
      go true = stop-on i
      go false = refl

  label_same : (i : ℕ) → Same i (past_label s i)
  unfolding past_label
  label_same i = lines_same i ∙ (stop-on (past_lines s i) ∙ colon-same (stop_at s (past_lines s i)))

  labels-same : (i : ℕ) → Same i (past_labels s i)
  unfolding past_labels
  labels-same i = walk_same (label_at s) (past_label s) label_same (length s - i) i

  -- A STATEMENT: where one is read, the verdict is that from its end; where none is left, acceptance
  abbrev After : ℕ → Option Read → Type 0
  After i (some x) = Same i x.next
  After i none = tokens_on s i ≡ ok tt

  earlier : (i j : ℕ) (m : Option Read) → Same i j → After j m → After i m
  earlier i j (some x) h a = h ∙ a
  earlier i j none h a = h ∙ a

  token-after : (i : ℕ) (ls : List Name) (t : Token) (m : Option Read) → next_token s i ≡ ok t → Inverted s ls t m → After i m
  token-after i ls t (some x) f r = token-on i t f ∙ row-along s Same (λ j. refl) (λ j k l p q. p ∙ q) token-on ls t x r
  token-after i ls t none f r = token-last i t f r

  statement-after : (i : ℕ) (m : Option Read) → next_statement s i ≡ ok m → After i m
  unfolding next_statement
  statement-after i m e =
      let u = gave (next_token s (past_lines s (past_labels s i))) _ m e in
      earlier i (past_lines s (past_labels s i)) m (labels-same i ∙ lines_same (past_labels s i)) (token-after (past_lines s (past_labels s i)) (labels_at s i) u.given' m u.first (inverted s (labels_at s i) u.given' m u.then'))

  pub statement-same : (i : ℕ) (x : Read) → next_statement s i ≡ ok (some x) → tokens_on s i ≡ tokens_on s x.next
  statement-same i x e = statement-after i (some x) e

  pub statement-none : (i : ℕ) → next_statement s i ≡ ok none → tokens_on s i ≡ ok tt
  statement-none i e = statement-after i none e

  -- ALL OF THEM
  accepted-on : (k i : ℕ) → length s - i < k → (ss : List Stmt) → statements_at s i ≡ ok ss → tokens_on s i ≡ ok tt
  accepted-on zero i l ss e = absurd (omega arith)
  accepted-on (suc k) i l ss e = go (next_statement s i) refl (accepted-on k)
    where
      go : (o : Outcome (Option Read)) → next_statement s i ≡ o → ((j : ℕ) → length s - j < k → (ts : List Stmt) → statements_at s j ≡ ok ts → tokens_on s j ≡ ok tt) → tokens_on s i ≡ ok tt
      go (ok none) q r = statement-none i q
      go (ok (some x)) q r =
          let g = statement-goes s i x q in
          let w = gave (statements_at s x.next) _ ss (sym (statements-on s i x q) ∙ e) in
          statement-same i x q ∙ r x.next (omega (arith, g.on, g.in')) w.given' w.first
      go (refused y) q r = let m : refused y ≡ ok ss = sym (statements-refused s i y q) ∙ e in never cc

  pub read-tokens : (ss : List Stmt) → statements s ≡ ok ss → tokens_on s 0 ≡ ok tt
  unfolding statements
  read-tokens ss e = accepted-on (length s + 1) 0 (omega arith) ss e

  -- the lexer's verdict on a source that is not too long and whose statements are read: 12 alone is left
  pub read-verdict : (ss : List Stmt) → statements s ≡ ok ss → length s ≤ 262144 → verdict (lexed s) ≡ (ascii 0 (drop 0 s) >> ok tt)
  unfolding whole_on
  read-verdict ss e l = sym (whole-start s l) ∙ rw (read-tokens ss e)
