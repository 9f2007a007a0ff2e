-- A label before a statement whose place is known. Assumes nothing.
use Prim.Native.Nat.{ℕ, ◌≤◌, ◌<◌}
use mathlib.Core.Path.{◌≡◌, refl, sym, ◌∙◌, ap}
use mathlib.Core.Bool.{Bool, false}
use mathlib.Core.List.{List}
use mathlib.Core.Option.{Option, none, some}
use native.Mathlib.Decide.{ℕ_discrete}
use native.Mathlib.Omega.{arith}
use lib.ListN.{get_or}
use Rattle.rules.specs.Base.{Outcome, ok, refused, Span}
use Rattle.rules.specs.Tokens.{Kind, number, register, mark, word, directive, text, Token, next_token}
use Rattle.rules.specs.Words.{Row, Field}
use Rattle.rules.specs.Statements.{Name, Stmt, is_mark, ends, as_word, as_directive, as_label, as_name, name_at, stop_at, past_lines, past_colon, past_label, past_labels, labels_at, Read, next_statement}
use Rattle.rules.proofs.Ahead.{token-ends, stop-token, lines-ge, labels-on, labels-done, labels-ge}
use Rattle.rules.proofs.Gave.{gave}
use Rattle.rules.proofs.Inverted.{Headed, whole, alone, directed, inverted}
use Rattle.rules.proofs.Bools.{never}
use Rattle.base_text.specs.Runs.{run_end}
use Rattle.base_text.specs.declared.Class.TheVariants as class
use Rattle.base_text.proofs.RunLaws.{end_ge}
use Rattle.lex.proofs.Peek.{peek-from}
use Rattle.parse_labels.specs.declared.NextLabel.TheVariants as next
use Rattle.parse_labels.specs.Walk.{leads_line, labelled, label_from, Heads}
use Rattle.parse_labels.proofs.Walking.{line-none, colon-here, colon-none, lines_start, lines-stop, as-placed}
use Rattle.parse_labels.proofs.Whole.{Whole}
use Rattle.parse_labels.proofs.Whole as bytes

-- THE LABEL'S TOKEN is a word, at the label's place
record Wordy (s : List ℕ) (q : ℕ) (n : Name) : Type 0 where
  pub token : Token
  pub is : next_token s q ≡ ok token
  pub text : List ℕ
  pub kind : token.kind ≡ word text
  pub place : n.place ≡ token.place

wordy-name : (s : List ℕ) (q : ℕ) (n : Name) → name_at s q ≡ some n → Wordy s q n
unfolding name_at as_name as_label as_word
wordy-name s q n e = go (next_token s q) refl e
  where
    is_word : (k : Kind) (t : Token) → t.kind ≡ k → next_token s q ≡ ok t → as_name k t.place ≡ some n → Wordy s q n
    is_word (word w) t x f z = record { token = t; is = f; text = w; kind = x; place = as-placed (word w) t.place n z }
    is_word (number x) t y f z = never cc
    is_word (register x) t y f z = never cc
    is_word (mark x) t y f z = never cc
    is_word (directive x) t y f z = never cc
    is_word (text x) t y f z = never cc

    go : (o : Outcome Token) → next_token s q ≡ o → ◌≡◌ {A = Option Name} (elim o [ ok t ↦ as_name t.kind t.place | refused r ↦ none ]) (some n) → Wordy s q n
    go (ok t) f z = is_word t.kind t refl f z
    go (refused r) f z = never cc

-- a word is no newline and not the source's end
word_more : (k : Kind) (w : List ℕ) → k ≡ word w → ends k ≡ false
unfolding ends is_mark
word_more k w e = rw e refl

word-real : (k : Kind) (w : List ℕ) → k ≡ word w → is_mark 0 k ≡ false
unfolding is_mark
word-real k w e = rw e refl

-- WHERE THINGS STAND

-- behind newlines and spaces, where no newline is led to
pub first-here : (s : List ℕ) (at p : ℕ) → p ≡ run_end class.Space s at → (c : ℕ) → c ≡ get_or s p 0 → (b : Bool) → b ≡ leads_line c → b ≡ false → p ≡ run_end class.Space s (past_lines s at)
first-here s at p e c q b l f = e ∙ ap (run_end class.Space s) (lines-stop s at at (line-none s at p e c q b l f) at (lines_start s at) refl)

colon-ge : (s : List ℕ) (i : ℕ) → i ≤ past_colon s i
colon-ge s i = go (ℕ_discrete (get_or s (run_end class.Space s i) 0) 58)
  where
    go : Dec (get_or s (run_end class.Space s i) 0 ≡ 58) → i ≤ past_colon s i
    go (yes y) = omega (arith, end_ge class.Space s i, colon-here s i (run_end class.Space s i) refl _ refl y)
    go (no y) = omega (arith, colon-none s i (run_end class.Space s i) refl _ refl y)

-- a statement's first token does not stand before the place where its labels end
head-ge : (s : List ℕ) (i head : ℕ) → Heads s i head → past_labels s i ≤ head
head-ge s i head h =
    let w = bytes.whole s (past_lines s (past_labels s i)) (run_end class.Space s (past_lines s (past_labels s i))) refl h.token h.is h.more in
    omega (arith, lines-ge s (past_labels s i), end_ge class.Space s (past_lines s (past_labels s i)), w.start, h.start)

-- THE FIRST LABEL FROM A PLACE, by the first byte behind newlines and spaces
module _ (s : List ℕ) (at head : ℕ) (h : Heads s at head) (p : ℕ) (e : p ≡ run_end class.Space s (past_lines s at)) where
  module _ (n : Name) (f : name_at s (past_lines s at) ≡ some n) where
    it : Wordy s (past_lines s at) n
    it = wordy-name s (past_lines s at) n f

    shape : Whole s p it.token
    shape = bytes.whole s (past_lines s at) p e it.token it.is (word_more it.token.kind it.text it.kind)

    starts : n.place.start ≡ p
    starts = ap (λ (x : Span). x.start) it.place ∙ shape.start

    stops : n.place.stop ≡ run_end class.Word s p
    stops = ap (λ (x : Span). x.stop) it.place ∙ shape.stop it.text it.kind

    stop_is : stop_at s (past_lines s at) ≡ n.place.stop
    stop_is = stop-token s (past_lines s at) it.token it.is ∙ ap (λ (x : Span). x.stop) (sym it.place)

    behind : p < stop_at s (past_lines s at)
    behind =
        let u = token-ends s p it.token (sym (peek-from s (past_lines s at) p e) ∙ it.is) in
        rw (stop-token s (past_lines s at) it.token it.is) (u.more (word-real it.token.kind it.text it.kind))

    label-less : p < head
    unfolding past_label
    label-less = omega (arith, behind, colon-ge s (stop_at s (past_lines s at)), labels-ge s (past_label s at), labels-on s at n f, head-ge s at head h)

  none-less : name_at s (past_lines s at) ≡ none → head ≡ p
  none-less f =
      let j : past_lines s (past_labels s at) ≡ past_lines s at = ap (past_lines s) (labels-done s at f) in
      sym h.start ∙ (bytes.whole s (past_lines s at) p e h.token (rw j at h.is) h.more).start

  pub before-none : head ≤ p → next.Done ≡ label_from s at
  unfolding label_from labelled
  before-none l = go (name_at s (past_lines s at)) refl
    where
      go : (o : Option Name) → name_at s (past_lines s at) ≡ o → next.Done ≡ labelled o (past_label s at)
      go none f = refl
      go (some n) f = absurd (omega (arith, label-less n f))

  pub before-label : p < head → (z : ℕ) → z ≡ run_end class.Word s p → (j : ℕ) → j ≡ past_colon s z → next.Label p z j ≡ label_from s at
  unfolding label_from labelled past_label
  before-label l z y j k = go (name_at s (past_lines s at)) refl
    where
      go : (o : Option Name) → name_at s (past_lines s at) ≡ o → next.Label p z j ≡ labelled o (past_colon s (stop_at s (past_lines s at)))
      go none f = absurd (omega (arith, none-less f))
      go (some n) f =
          let a : n.place.stop ≡ z = stops n f ∙ sym y in
          rw (stop_is n f, starts n f, a, k)

-- THE STATEMENT'S FIRST TOKEN stays, label by label
pub heads-on : (s : List ℕ) (i head : ℕ) (n : Name) → name_at s (past_lines s i) ≡ some n → Heads s i head → Heads s (past_label s i) head
heads-on s i head n e h = record {
  token = h.token;
  is = ap (λ (j : ℕ). next_token s (past_lines s j)) (sym (labels-on s i n e)) ∙ h.is;
  more = h.more;
  start = h.start;
}

-- and is known of a statement that was read
word-head : (k : Kind) (w : List ℕ) → as_word k ≡ some w → ends k ≡ false
unfolding as_word ends is_mark
word-head (word t) w e = refl
word-head (number x) w e = never cc
word-head (register x) w e = never cc
word-head (mark x) w e = never cc
word-head (directive x) w e = never cc
word-head (text x) w e = never cc

dot-head : (k : Kind) (w : List ℕ) → as_directive k ≡ some w → ends k ≡ false
unfolding as_directive ends is_mark
dot-head (directive t) w e = refl
dot-head (number x) w e = never cc
dot-head (register x) w e = never cc
dot-head (mark x) w e = never cc
dot-head (word x) w e = never cc
dot-head (text x) w e = never cc

pub heads-read : (s : List ℕ) (i : ℕ) (x : Read) → next_statement s i ≡ ok (some x) → Heads s i x.stmt.place.start
unfolding next_statement
heads-read s i x e =
    let u = gave (next_token s (past_lines s (past_labels s i))) _ (some x) e in
    let r = inverted s (labels_at s i) u.given' (some x) u.then' in
    record {
      token = u.given';
      is = u.first;
      more = headed u.given' r.row r.fields r.headed;
      start = sym (ap (λ (y : Stmt). y.place.start) r.is);
    }
  where
    headed : (t : Token) (r : Row) (fs : List Field) → Headed s (labels_at s i) t r fs → ends t.kind ≡ false
    headed t r fs (whole w a f q) = word-head t.kind w a
    headed t r fs (alone w a f q) = word-head t.kind w a
    headed t r fs (directed d a f q) = dot-head t.kind d a
