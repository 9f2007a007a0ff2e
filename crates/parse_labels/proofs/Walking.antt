-- Newlines, colons and labels, told by a lexeme's sort. Assumes nothing.
use Prim.Native.Nat.{ℕ, ◌+◌, ◌-◌, ◌≤◌, ◌<◌}
use mathlib.Core.Path.{◌≡◌, refl, sym, ◌∙◌, ap}
use mathlib.Core.Bool.{Bool, true, false, ◌&&◌, ◌||◌}
use mathlib.Core.Logic.{⊎_elim}
use mathlib.Core.List.{List}
use mathlib.Core.Option.{Option, none, some}
use native.Mathlib.Decide.{dec_lt, ℕ_discrete}
use native.Mathlib.Omega.{arith}
use borrow.Author.Tests.{eq-eqb, ne_eqb, eqb-true, eqb-false, le-leb, lt-leb, leb-true, leb-false}
use lib.Dec.{eqb, leb}
use lib.ListN.{length, get_or}
use Rattle.rules.specs.Base.{when◌then◌else◌, Outcome, ok, refused, Span, span, has}
use Rattle.rules.specs.Tokens.{Kind, word, Token, token_in, next_token}
use Rattle.rules.specs.Words.{find, instructions}
use Rattle.rules.specs.Statements.{Name, is_mark, as_word, as_label, as_name, name_at, token_is, stop_at, past_lines, past_colon, past_label}
use Rattle.rules.proofs.Ahead.{lines-on, lines-done, line-ahead, colon-on, colon-done, name-token, name-refused}
use Rattle.rules.proofs.Bools.{never}
use Rattle.base_text.specs.Runs.{run_end}
use Rattle.base_text.specs.declared.Class.TheVariants as class
use Rattle.lex_token.specs.declared.Lexeme.{Lexeme}
use Rattle.lex_token.specs.Flat.{fault_sort}
use Rattle.lex.specs.Sorts.{name_of, kind_by, Stands, NoFault}
use Rattle.lex.proofs.Marks.{token-mark, stop-end, line-sort, colon-sort, word-sort}
use Rattle.lex.proofs.Peek.{stands_from, peek-from, peek_is, peek-stop, peek-not}
use Rattle.parse_labels.specs.declared.Label.{Label}
use Rattle.parse_labels.specs.declared.Label.TheVariants.{At, Nothing}
use Rattle.parse_labels.specs.declared.NextLabel.TheVariants as next
use Rattle.parse_labels.specs.Walk.{after_line, leads_line, placed, label_here, labelled, label_from, is_label}

-- A NEWLINE, by the first byte behind spaces
module _ (s : List ℕ) (i p : ℕ) (e : p ≡ run_end class.Space s i) where
  module _ (t : Lexeme) (k : Stands s p t) where
    h : Stands s i t
    h = stands_from s i p t (peek-from s i p e) k

    pub line-yes : t.sort ≡ 9 → t.end ≡ after_line s i
    unfolding after_line when◌then◌else◌
    line-yes x = rw (token-mark s i t h 10 9 (omega arith) (line-sort s t), eq-eqb _ _ x) (sym (stop-end s i t h (omega arith)))

    pub line-no : (t.sort ≡ 9 → ⊥) → i ≡ after_line s i
    unfolding after_line when◌then◌else◌
    line-no n = rw (token-mark s i t h 10 9 (omega arith) (line-sort s t), ne_eqb _ _ n)

  pub line-none : (c : ℕ) → c ≡ get_or s p 0 → (b : Bool) → b ≡ leads_line c → b ≡ false → i ≡ after_line s i
  unfolding after_line leads_line when◌then◌else◌
  line-none c q b l f = go (eqb c 10) (eqb c 13) (eqb c 59) refl refl refl (sym l ∙ f)
    where
      go : (x y z : Bool) → eqb c 10 ≡ x → eqb c 13 ≡ y → eqb c 59 ≡ z → (x || y || z) ≡ false → i ≡ after_line s i
      go true y z a1 a2 a3 n = never cc
      go false true z a1 a2 a3 n = never cc
      go false false true a1 a2 a3 n = never cc
      go false false false a1 a2 a3 n = rw (peek-not s i p e c q 10 (omega arith) (eqb-false c 10 a1) (λ z w. ⊎_elim (eqb-false c 13 a2) (eqb-false c 59 a3) w))

-- A COLON: by its byte, and by its token
module _ (s : List ℕ) (i p : ℕ) (e : p ≡ run_end class.Space s i) (c : ℕ) (q : c ≡ get_or s p 0) where
  pub colon-here : c ≡ 58 → p + 1 ≡ past_colon s i
  colon-here x = let y : 58 ≡ get_or s p 0 = sym x ∙ q in sym (colon-on s i (peek_is s i p e 58 y refl 58) ∙ peek-stop s i p e 58 y refl)

  pub colon-none : (c ≡ 58 → ⊥) → i ≡ past_colon s i
  colon-none n = sym (colon-done s i (peek-not s i p e c q 58 (omega arith) n (λ (z : 58 ≡ 10) w. omega arith)))

module _ (s : List ℕ) (i : ℕ) (t : Lexeme) (h : Stands s i t) where
  pub colon-yes : t.sort ≡ 7 → t.end ≡ past_colon s i
  colon-yes e = sym (stop-end s i t h (omega arith)) ∙ sym (colon-on s i (token-mark s i t h 58 7 (omega arith) (colon-sort s t) ∙ eq-eqb _ _ e))

  pub colon-no : (t.sort ≡ 7 → ⊥) → i ≡ past_colon s i
  colon-no n = sym (colon-done s i (token-mark s i t h 58 7 (omega arith) (colon-sort s t) ∙ ne_eqb _ _ n))

-- NEWLINES IN A LOOP
pub record Lines (s : List ℕ) (at i : ℕ) : Type 0 where
  pub same : past_lines s at ≡ past_lines s i

pub lines_start : (s : List ℕ) (at : ℕ) → Lines s at at
lines_start s at = record { same = refl }

module _ (s : List ℕ) (i next : ℕ) (e : next ≡ after_line s i) where
  by-line : {A : Type 0} → (token_is (is_mark 10) s i ≡ true → next ≡ stop_at s i → A) → (token_is (is_mark 10) s i ≡ false → next ≡ i → A) → A
  unfolding after_line when◌then◌else◌
  by-line {A} f g = go (token_is (is_mark 10) s i) refl e
    where
      go : (b : Bool) → token_is (is_mark 10) s i ≡ b → next ≡ (when b then stop_at s i else i) → A
      go true q p = f q p
      go false q p = g q p

  pub lines_next : (at : ℕ) → Lines s at i → (next ≡ i → ⊥) → Lines s at next
  lines_next at l n = record { same = l.same ∙ by-line (λ q p. rw p (lines-on s i q)) (λ q p. absurd (n p)) }

  pub lines-ahead : (next ≡ i → ⊥) → i < next
  lines-ahead n = by-line (λ q p. (let u = line-ahead s i q in omega (arith, u.0))) (λ q p. absurd (n p))

  pub lines-inside : (next ≡ i → ⊥) → next ≤ length s
  lines-inside n = by-line (λ q p. (let u = line-ahead s i q in omega (arith, u.1))) (λ q p. absurd (n p))

  pub lines-less : (next ≡ i → ⊥) → length s - next < length s - i
  lines-less n = omega (arith, lines-ahead n, lines-inside n)

  pub lines-stop : (at : ℕ) → Lines s at i → next ≡ i → i ≡ past_lines s at
  lines-stop at l n = sym (l.same ∙ by-line (λ q p. (let u = line-ahead s i q in absurd (omega (arith, u.0)))) (λ q p. lines-done s i q))

pub lines_end : (s : List ℕ) (at i : ℕ) → Lines s at i → length s ≤ i → i ≡ past_lines s at
lines_end s at i l h = sym (l.same ∙ go (token_is (is_mark 10) s i) refl)
  where
    go : (b : Bool) → token_is (is_mark 10) s i ≡ b → past_lines s i ≡ i
    go true q = let u = line-ahead s i q in absurd (omega (arith, u.0, u.1))
    go false q = lines-done s i q

-- A LABEL
module _ (s : List ℕ) (i : ℕ) (t : Lexeme) (h : Stands s i t) where
  here-named : t.sort ≡ 3 → name_at s i ≡ as_name (word (name_of s t)) (span t.start t.end)
  unfolding name_of
  here-named e = name-token s i _ (rw e at (h.token (omega arith)))

  label-yes : t.sort ≡ 3 → t.end - t.start ≤ 64 → At t.start t.end ≡ label_here s i
  unfolding label_here placed as_name as_label as_word when◌then◌else◌
  label-yes e l =
      let z : leb (length (name_of s t)) 64 ≡ true = le-leb (length (name_of s t)) 64 (omega (arith, h.size e)) in
      let w : name_at s i ≡ some (record { text = name_of s t; place = span t.start t.end }) = here-named e ∙ rw (h.label e, z, as_name) in
      sym (ap placed w)

  label-long : t.sort ≡ 3 → 64 < t.end - t.start → Nothing ≡ label_here s i
  unfolding label_here placed as_name as_label as_word when◌then◌else◌
  label-long e l =
      let z : leb (length (name_of s t)) 64 ≡ false = lt-leb (length (name_of s t)) 64 (omega (arith, h.size e)) in
      let w : name_at s i ≡ none = here-named e ∙ rw (h.label e, z, as_name) in
      sym (ap placed w)

no_label : (k : Kind) (p : Span) → has (as_word k) ≡ false → as_name k p ≡ none
unfolding as_name as_label
no_label k p e = go (as_word k) e
  where
    go : (o : Option (List ℕ)) → has o ≡ false → ◌≡◌ {A = Option Name} (elim (elim o as (λ x. Option (List ℕ)) [ none ↦ none | some t ↦ elim (find t instructions) [ none ↦ some t | some r ↦ none ] ]) [ none ↦ none | some t ↦ when leb (length t) 64 then some (record { text = t; place = p }) else none ]) none
    go none q = refl
    go (some w) q = never cc

module _ (s : List ℕ) (i : ℕ) (t : Lexeme) (h : Stands s i t) where
  reserved-none : t.sort ≡ 5 → name_at s i ≡ none
  unfolding as_name as_label as_word name_of
  reserved-none e =
      let q : next_token s i ≡ ok (token_in (word (name_of s t)) (span t.start t.end)) = rw e at (h.token (omega arith)) in
      name-token s i _ q ∙ rw (h.reserved e, as_name)

  other_none : NoFault t → (t.sort ≡ 3 → ⊥) → (t.sort ≡ 5 → ⊥) → name_at s i ≡ none
  other_none l a b = name-token s i _ (h.token l) ∙ no_label (kind_by s t.sort t) (span t.start t.end) (word-sort s t t.sort l ∙ rw (ne_eqb _ _ a, ne_eqb _ _ b))

  label-no : (t.sort ≡ 3 → ⊥) → Nothing ≡ label_here s i
  unfolding label_here placed
  label-no n = sym (ap placed (go (dec_lt t.sort fault_sort) (ℕ_discrete t.sort 5)))
    where
      go : Dec (NoFault t) → Dec (t.sort ≡ 5) → name_at s i ≡ none
      go (yes l) (yes e) = reserved-none e
      go (yes l) (no e) = other_none l n e
      go (no l) d = name-refused s i _ (h.bad (omega arith))

-- by the code's test
by-test : (t : Lexeme) (b : Bool) → b ≡ is_label t → {A : Type 0} → (b ≡ true → t.sort ≡ 3 → t.end - t.start ≤ 64 → A) → (b ≡ false → t.sort ≡ 3 → 64 < t.end - t.start → A) → (b ≡ false → (t.sort ≡ 3 → ⊥) → A) → A
unfolding is_label
by-test t b q {A} f g h = go (eqb t.sort 3) (leb (t.end - t.start) 64) refl refl q
  where
    go : (x y : Bool) → eqb t.sort 3 ≡ x → leb (t.end - t.start) 64 ≡ y → b ≡ (x && y) → A
    go true true u v w = f w (eqb-true t.sort 3 u) (leb-true (t.end - t.start) 64 v)
    go true false u v w = g w (eqb-true t.sort 3 u) (leb-false (t.end - t.start) 64 v)
    go false y u v w = h w (eqb-false t.sort 3 u)

impossible : {A : Type 0} → ◌≡◌ {A = Bool} true false → A
impossible e = never cc

pub label-sort : (t : Lexeme) (b : Bool) → b ≡ is_label t → b ≡ true → t.sort ≡ 3
label-sort t b q y = by-test t b q (λ x e l. e) (λ x e l. impossible (sym y ∙ x)) (λ x e. impossible (sym y ∙ x))

module _ (s : List ℕ) (i : ℕ) (t : Lexeme) (h : Stands s i t) (b : Bool) (q : b ≡ is_label t) where
  pub label_is : b ≡ true → At t.start t.end ≡ label_here s i
  label_is y = by-test t b q (λ x e l. label-yes s i t h e l) (λ x e l. impossible (sym y ∙ x)) (λ x e. impossible (sym y ∙ x))

  pub label-none : b ≡ false → Nothing ≡ label_here s i
  label-none y = by-test t b q (λ x e l. impossible (sym x ∙ y)) (λ x e l. label-long s i t h e l) (λ x e. label-no s i t h e)

-- THE FIRST LABEL FROM A PLACE

-- a label's place is its token's
pub as-placed : (k : Kind) (p : Span) (n : Name) → as_name k p ≡ some n → n.place ≡ p
unfolding as_name when◌then◌else◌
as-placed k p n e = go (as_label k) e
  where
    sized : (t : List ℕ) (b : Bool) → (when b then some (record { text = t; place = p }) else none) ≡ some n → n.place ≡ p
    sized t true q = let z : record { text = t; place = p } ≡ n = cc in ap (λ (x : Name). x.place) (sym z)
    sized t false q = never cc

    go : (o : Option (List ℕ)) → ◌≡◌ {A = Option Name} (elim o [ none ↦ none | some t ↦ when leb (length t) 64 then some (record { text = t; place = p }) else none ]) (some n) → n.place ≡ p
    go none q = never cc
    go (some t) q = sized t (leb (length t) 64) q

pub name-stop : (s : List ℕ) (i : ℕ) (n : Name) → name_at s i ≡ some n → stop_at s i ≡ n.place.stop
unfolding name_at stop_at
name-stop s i n e = go (next_token s i) e
  where
    go : (o : Outcome Token) → ◌≡◌ {A = Option Name} (elim o [ ok t ↦ as_name t.kind t.place | refused r ↦ none ]) (some n) → ◌≡◌ {A = ℕ} (elim o [ ok t ↦ t.place.stop | refused r ↦ i ]) n.place.stop
    go (ok t) q = ap (λ (p : Span). p.stop) (sym (as-placed t.kind t.place n q))
    go (refused r) q = never cc

module _ (s : List ℕ) (at place : ℕ) (p : place ≡ past_lines s at) (r : Label) (h : r ≡ label_here s place) where
  pub first-label : (a e n : ℕ) → r ≡ At a e → n ≡ past_colon s e → next.Label a e n ≡ label_from s at
  unfolding label_here placed label_from labelled past_label
  first-label a e n q c = rw (← p) (go (name_at s place) refl (sym h ∙ q))
    where
      go : (o : Option Name) → name_at s place ≡ o → placed o ≡ At a e → next.Label a e n ≡ labelled o (past_colon s (stop_at s place))
      go none f z = never cc
      go (some m) f z =
          let x : m.place.start ≡ a = cc in
          let y : m.place.stop ≡ e = cc in
          let w : stop_at s place ≡ e = name-stop s place m f ∙ y in
          rw (x, y, w, c)

  pub no-label-from : r ≡ Nothing → next.Done ≡ label_from s at
  unfolding label_here placed label_from labelled
  no-label-from q = rw (← p) (go (name_at s place) (sym h ∙ q))
    where
      go : (o : Option Name) → placed o ≡ Nothing → next.Done ≡ labelled o (past_label s at)
      go none z = refl
      go (some m) z = never cc
