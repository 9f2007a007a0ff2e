-- What the walk over labels keeps. Assumes nothing.
use Prim.Native.Nat.{ℕ, suc, ◌+◌, ◌-◌, ◌≤◌, ◌<◌}
use mathlib.Core.Path.{◌≡◌, refl, sym, ◌∙◌, ap}
use mathlib.Core.Bool.{Bool, true, false, ◌&&◌, ◌||◌, not}
use mathlib.Core.List.{List, [], ◌∷◌}
use mathlib.Core.Option.{Option, none, some}
use native.Mathlib.Omega.{arith}
use borrow.Author.Tests.{eq-eqb, ne_eqb, eqb-true, eqb-false}
use lib.Dec.{eqb}
use lib.ListN.{length, get_or}
use Rattle.rules.specs.Base.{when◌then◌else◌}
use Rattle.rules.specs.Statements.{Name, is_mark, name_at, stop_at, past_lines, past_colon, past_label, past_labels, labels_at}
use Rattle.rules.proofs.Ahead.{Ends, token-ends, lines-on, lines-done, labels-on, labels-done, names-on, names-done}
use Rattle.rules.proofs.Bools.{never}
use Rattle.base_text.specs.Runs.{run_end}
use Rattle.base_text.specs.declared.Class.TheVariants as class
use Rattle.base_text.proofs.RunLaws.{end_ge}
use Rattle.lex_token.specs.declared.Lexeme.{Lexeme}
use Rattle.lex_token.specs.Coded.{marked}
use Rattle.lex_token.specs.Flat.{lexeme}
use Rattle.lex.specs.Sorts.{kind_by, Stands}
use Rattle.lex.proofs.Marks.{token-mark, stop-end, line-sort, end-sort}
use Rattle.lex.proofs.Peek.{stands_from, peek-from, peek-stands, peek-inside}
use Rattle.parse_labels.specs.declared.Label.TheVariants.{At, Nothing}
use Rattle.parse_labels.specs.Walk.{placed, label_here, is_label, is_before, Walked}
use Rattle.parse_labels.proofs.Walking.{colon-yes, colon-no, label_is, label-none, label-sort, name-stop}

impossible : {A : Type 0} → ◌≡◌ {A = Bool} true false → A
impossible e = never cc

-- where labels go on: past a colon, where one may stand
abbrev pub onward : List ℕ → (colon : Bool) → ℕ → ℕ
onward s true i = past_colon s i
onward s false i = i

-- the place of the first token after labels and newlines
abbrev pub head_from : List ℕ → ℕ → ℕ
head_from s i = past_lines s (past_labels s i)

-- at i, past the labels so far; `seen` says whether there were any, `colon` whether a colon may stand here
pub record Walking (s : List ℕ) (at i : ℕ) (seen colon : Bool) : Type 0 where
  pub same : head_from s at ≡ head_from s (onward s colon i)
  pub none_yet : seen ≡ false → labels_at s at ≡ labels_at s (onward s colon i)
  pub some-yet : seen ≡ true → 0 < length (labels_at s at)

pub walk_start : (s : List ℕ) (at : ℕ) → Walking s at at false false
walk_start s at = record { same = refl; none_yet = λ e. refl; some-yet = λ e. impossible (sym e) }

-- A LABEL AT A PLACE
record Found (s : List ℕ) (j e : ℕ) : Type 0 where
  pub name : Name
  pub named : name_at s j ≡ some name
  pub stop : stop_at s j ≡ e

found : (s : List ℕ) (j a e : ℕ) → At a e ≡ label_here s j → Found s j e
unfolding label_here placed
found s j a e h = go (name_at s j) refl (sym h)
  where
    go : (o : Option Name) → name_at s j ≡ o → placed o ≡ At a e → Found s j e
    go none f z = never cc
    go (some m) f z = let y : m.place.stop ≡ e = cc in record { name = m; named = f; stop = name-stop s j m f ∙ y }

not_found : (s : List ℕ) (j : ℕ) → Nothing ≡ label_here s j → name_at s j ≡ none
unfolding label_here placed
not_found s j h = go (name_at s j) refl (sym h)
  where
    go : (o : Option Name) → name_at s j ≡ o → placed o ≡ Nothing → name_at s j ≡ none
    go none f z = f
    go (some m) f z = never cc

-- NEWLINES change nothing
module _ (s : List ℕ) (i j : ℕ) (l : past_lines s i ≡ past_lines s j) where
  head-alike : head_from s i ≡ head_from s j
  unfolding past_label
  head-alike = go (name_at s (past_lines s i)) refl
    where
      go : (o : Option Name) → name_at s (past_lines s i) ≡ o → head_from s i ≡ head_from s j
      go none f = ap (past_lines s) (labels-done s i f) ∙ (l ∙ sym (ap (past_lines s) (labels-done s j (rw l at f))))
      go (some m) f = ap (past_lines s) (labels-on s i m f ∙ (ap (λ (p : ℕ). past_labels s (past_colon s (stop_at s p))) l ∙ sym (labels-on s j m (rw l at f))))

  names-alike : labels_at s i ≡ labels_at s j
  unfolding past_label
  names-alike = go (name_at s (past_lines s i)) refl
    where
      go : (o : Option Name) → name_at s (past_lines s i) ≡ o → labels_at s i ≡ labels_at s j
      go none f = names-done s i f ∙ sym (names-done s j (rw l at f))
      go (some m) f = names-on s i m f ∙ (ap (λ (p : ℕ). m ∷ labels_at s (past_colon s (stop_at s p))) l ∙ sym (names-on s j m (rw l at f)))

-- A TOKEN
module _ (s : List ℕ) (i : ℕ) (t : Lexeme) (h : Stands s i t) where
  -- a token that is not the source's end moves on
  token-on : t.sort < 10 → (i < t.end) × (t.end ≤ length s)
  token-on l =
      let u : Ends (length s) i _ = token-ends s i _ (h.token (omega arith)) in
      let z : is_mark 0 (kind_by s t.sort t) ≡ false = end-sort s t t.sort (omega arith) ∙ ne_eqb t.sort 10 (λ (x : t.sort ≡ 10). omega arith) in
      (u.more z, u.most z)

  no_line : (t.sort ≡ 9 → ⊥) → past_lines s i ≡ i
  no_line n = lines-done s i (token-mark s i t h 10 9 (omega arith) (line-sort s t) ∙ ne_eqb _ _ n)

  a-line : t.sort ≡ 9 → past_lines s i ≡ past_lines s t.end
  a-line e = lines-on s i (token-mark s i t h 10 9 (omega arith) (line-sort s t) ∙ eq-eqb _ _ e) ∙ ap (past_lines s) (stop-end s i t h (omega arith))

  -- no colon is passed where none may stand or none stands
  stays : (colon : Bool) → (colon && eqb t.sort 7) ≡ false → onward s colon i ≡ i
  stays true e = sym (colon-no s i t h (eqb-false t.sort 7 e))
  stays false e = refl

  is-label-at : is_label t ≡ true → Found s i t.end
  is-label-at e = found s i t.start t.end (label_is s i t h (is_label t) refl e)

  no-label-at : is_label t ≡ false → name_at s i ≡ none
  no-label-at e = not_found s i (label-none s i t h (is_label t) refl e)

or_no : (b : Bool) → (b || false) ≡ b
or_no true = refl
or_no false = refl

or_yes : (b : Bool) → (b || true) ≡ true
or_yes true = refl
or_yes false = refl

and_no : (b : Bool) → (b && false) ≡ false
and_no true = refl
and_no false = refl

-- A STEP OF THE WALK, over a token
module _ (s : List ℕ) (at i : ℕ) (seen colon : Bool) (w : Walking s at i seen colon) (t : Lexeme) (h : Stands s i t) where
  not-colon : (t.sort ≡ 7 → ⊥) → onward s colon i ≡ i
  not-colon n = stays s i t h colon (rw (ne_eqb t.sort 7 n) (and_no colon))

  label-step : is_label t ≡ true → Walking s at t.end true true
  unfolding past_label
  label-step e = record {
    same = w.same ∙ (ap (head_from s) here ∙ ap (past_lines s) (labels-on s i f.name m ∙ ap (past_labels s) q));
    none_yet = λ x. impossible x;
    some-yet = λ x. yet seen refl;
  }
    where
      f : Found s i t.end
      f = is-label-at s i t h e

      here : onward s colon i ≡ i
      here = not-colon (λ (x : t.sort ≡ 7). omega (arith, label-sort t (is_label t) refl e))

      p : past_lines s i ≡ i
      p = no_line s i t h (λ (x : t.sort ≡ 9). omega (arith, label-sort t (is_label t) refl e))

      m : name_at s (past_lines s i) ≡ some f.name
      m = rw p f.named

      q : past_colon s (stop_at s (past_lines s i)) ≡ past_colon s t.end
      q = rw (p, f.stop)

      yet : (b : Bool) → seen ≡ b → 0 < length (labels_at s at)
      yet true g = w.some-yet g
      yet false g = let u : length (labels_at s at) ≡ suc (length (labels_at s (past_label s i))) = ap length (w.none_yet g ∙ (ap (labels_at s) here ∙ names-on s i f.name m)) in omega (arith, u)

  line_step_lem : t.sort ≡ 9 → Walking s at t.end seen false
  line_step_lem e =
      let here : onward s colon i ≡ i = not-colon (λ (x : t.sort ≡ 7). omega arith) in
      record {
        same = w.same ∙ (ap (head_from s) here ∙ head-alike s i t.end (a-line s i t h e));
        none_yet = λ x. w.none_yet x ∙ (ap (labels_at s) here ∙ names-alike s i t.end (a-line s i t h e));
        some-yet = w.some-yet;
      }

  colon-step : colon ≡ true → t.sort ≡ 7 → Walking s at t.end seen false
  colon-step c e =
      let here : onward s colon i ≡ t.end = ap (λ (b : Bool). onward s b i) c ∙ sym (colon-yes s i t h e) in
      record {
        same = w.same ∙ ap (head_from s) here;
        none_yet = λ x. w.none_yet x ∙ ap (labels_at s) here;
        some-yet = w.some-yet;
      }

-- over a line feed, by its byte
module _ (s : List ℕ) (i p : ℕ) (e : p ≡ run_end class.Space s i) (c : ℕ) (q : c ≡ get_or s p 0) where
  pub line-less : 0 < c → length s - (p + 1) < length s - i
  line-less n = omega (arith, peek-inside s p c q n, e, end_ge class.Space s i)

  pub walk-line : (at : ℕ) (seen colon : Bool) → Walking s at i seen colon → c ≡ 10 → Walking s at (p + 1) seen false
  unfolding marked when◌then◌else◌
  walk-line at seen colon w x = line_step_lem s at i seen colon w (lexeme 9 0 p (p + 1)) (peek-stands s i p e 10 (sym x ∙ q) refl) refl

-- over a token, looked for behind the spaces
module _ (s : List ℕ) (at i : ℕ) (seen colon : Bool) (w : Walking s at i seen colon) (p : ℕ) (e : p ≡ run_end class.Space s i) (t : Lexeme) (k : Stands s p t) where
  h : Stands s i t
  h = stands_from s i p t (peek-from s i p e) k

  module _ (b : Bool) (q : b ≡ is_before t colon) where
    -- what a token that is passed is
    by_before : {A : Type 0} → b ≡ true → (is_label t ≡ true → A) → (is_label t ≡ false → t.sort ≡ 9 → A) → (is_label t ≡ false → colon ≡ true → t.sort ≡ 7 → A) → A
    unfolding is_before
    by_before {A} y f g k = go (is_label t) (eqb t.sort 9) colon (eqb t.sort 7) refl refl refl refl (sym q ∙ y)
      where
        go : (l n c d : Bool) → is_label t ≡ l → eqb t.sort 9 ≡ n → colon ≡ c → eqb t.sort 7 ≡ d → ((l || n) || (c && d)) ≡ true → A
        go true n c d a1 a2 a3 a4 z = f a1
        go false true c d a1 a2 a3 a4 z = g a1 (eqb-true t.sort 9 a2)
        go false false true true a1 a2 a3 a4 z = k a1 a3 (eqb-true t.sort 7 a4)
        go false false true false a1 a2 a3 a4 z = impossible (sym z)
        go false false false d a1 a2 a3 a4 z = impossible (sym z)

    pub walk_more : (l : Bool) → b ≡ true → l ≡ is_label t → Walking s at t.end (seen || l) l
    walk_more l y e =
        by_before y
        (λ a. rw (e ∙ a, or_yes seen) (label-step s at i seen colon w t h a))
        (λ a c. rw (e ∙ a, or_no seen) (line_step_lem s at i seen colon w t h c))
        (λ a c d. rw (e ∙ a, or_no seen) (colon-step s at i seen colon w t h c d))

    moved : b ≡ true → (i < t.end) × (t.end ≤ length s)
    moved y =
        by_before y
        (λ a. token-on s i t h (omega (arith, label-sort t (is_label t) refl a)))
        (λ a c. token-on s i t h (omega arith))
        (λ a c d. token-on s i t h (omega arith))

    pub walk-less : b ≡ true → length s - t.end < length s - i
    walk-less y = let u = moved y in omega (arith, u.0, u.1)

    -- the token that is not passed
    module _ (y : b ≡ false) where
      stopped : (is_label t ≡ false) × ((eqb t.sort 9 ≡ false) × ((colon && eqb t.sort 7) ≡ false))
      unfolding is_before
      stopped = go (is_label t) (eqb t.sort 9) (colon && eqb t.sort 7) refl refl refl (sym q ∙ y)
        where
          go : (l n c : Bool) → is_label t ≡ l → eqb t.sort 9 ≡ n → (colon && eqb t.sort 7) ≡ c → ((l || n) || c) ≡ false → (is_label t ≡ false) × ((eqb t.sort 9 ≡ false) × ((colon && eqb t.sort 7) ≡ false))
          go true n c a1 a2 a3 z = impossible z
          go false true c a1 a2 a3 z = impossible z
          go false false true a1 a2 a3 z = impossible z
          go false false false a1 a2 a3 z = (a1, (a2, a3))

      line-none : past_lines s i ≡ i
      line-none = no_line s i t h (eqb-false t.sort 9 stopped.1.0)

      name-none : name_at s (past_lines s i) ≡ none
      name-none = rw line-none (no-label-at s i t h stopped.0)

      here : onward s colon i ≡ i
      here = stays s i t h colon stopped.1.1

      head-here : head_from s at ≡ i
      head-here = w.same ∙ (ap (head_from s) here ∙ (ap (past_lines s) (labels-done s i name-none) ∙ line-none))

      seen_here : seen ≡ not (eqb (length (labels_at s at)) 0)
      seen_here = go seen refl
        where
          go : (b : Bool) → seen ≡ b → seen ≡ not (eqb (length (labels_at s at)) 0)
          go true e = let l = w.some-yet e in rw (ne_eqb (length (labels_at s at)) 0 (λ (z : length (labels_at s at) ≡ 0). omega arith)) e
          go false e = let u : labels_at s at ≡ [] = w.none_yet e ∙ (ap (labels_at s) here ∙ names-done s i name-none) in rw u e

      pub walk-stop : Walked s at (record { token = t; labelled = seen })
      walk-stop = record { token = rw head-here h; labelled = seen_here }
