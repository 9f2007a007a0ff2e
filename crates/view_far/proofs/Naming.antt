-- What a statement is looked for by: its label operand, and the labels before it one by one. Assumes nothing.
use Prim.Native.Nat.{ℕ, ◌-◌, ◌≤◌, ◌<◌}
use mathlib.Core.Path.{◌≡◌, refl, sym, ◌∙◌, ap}
use mathlib.Core.Bool.{Bool, true, false, ◌&&◌, ◌||◌}
use mathlib.Core.List.{List, map}
use mathlib.Core.Option.{Option, none, some}
use native.Mathlib.Decide.{dec_lt}
use native.Mathlib.Omega.{arith}
use borrow.Author.Tests.{le-leb, lt-ltb, le-ltb, eqb-true, eqb-false}
use lib.Dec.{eqb, ltb}
use lib.ListN.{length}
use Rattle.rules.specs.Base.{when◌then◌else◌, same}
use Rattle.rules.specs.Tokens.{upper}
use Rattle.rules.specs.Words.{signed}
use Rattle.rules.specs.Statements.{Name, Target, Stmt, past_lines, past_label, labels_at}
use Rattle.rules.specs.Statements as rules
use Rattle.rules.proofs.Ahead.{label-in, names-on, names-done}
use Rattle.rules.proofs.Bools.{never}
use Rattle.lex_token.specs.Meant.{part}
use Rattle.lex.specs.Label.{label_text}
use Rattle.parse_labels.specs.Names.{name_from, Between}
use Rattle.parse_labels.specs.Walk.{label_from, labelled}
use Rattle.parse_labels.specs.declared.NextLabel.{NextLabel}
use Rattle.parse_labels.specs.declared.NextLabel.TheVariants.{Label, Done}
use Rattle.parse_labels.proofs.Texts.{name-stands}
use Rattle.parse_rows.specs.declared.Op.{Op}
use Rattle.parse_rows.specs.declared.Op.TheVariants as op
use Rattle.parse.specs.declared.Statement.{Statement}
use Rattle.parse_meaning.specs.Reading.{meant_op, Aimed, Faithful}
use Rattle.view_far.specs.declared.Sought.{Sought}
use Rattle.view_far.specs.declared.Sought.TheVariants as sought
use Rattle.view_far.specs.Far.{is_instr, aim_of, begins, aims_at, named, has_label}
use Rattle.view_far.specs.Seeking.{name_at, tested, range_by, aimed}

-- THE LABEL OPERAND
instr-op : (o : Op) → is_instr (meant_op o) ≡ true → o ≡ op.Instr
unfolding is_instr
instr-op op.Instr e = refl
instr-op op.Orig e = never cc
instr-op op.Fill e = never cc
instr-op op.Blkw e = never cc
instr-op op.Stringz e = never cc
instr-op op.End e = never cc
instr-op op.External e = never cc

-- an instruction's label operand, as the code has it
pub record Aims (src : List ℕ) (st : Statement) (s : Stmt) : Type 0 where
  pub is : aim_of s ≡ some (aimed src st)
  pub between : Between src st.label_start st.label_end

module _ (st : Statement) (place : ℕ) (src : List ℕ) (at : ℕ) (s : Stmt) (f : Faithful src at st s) where
  pub aims-tested : {b : Bool} → b ≡ is_instr (meant_op st.op) → ((b && ltb 0 st.reach) && eqb st.label_start place) ≡ aims_at place s
  unfolding aims_at aim_of begins when◌then◌else◌
  aims-tested {b} q = go (dec_lt 0 st.reach) b (ap is_instr f.op ∙ sym q)
    where
      go : Dec (0 < st.reach) → (b : Bool) → is_instr s.op ≡ b → ((b && ltb 0 st.reach) && eqb st.label_start place) ≡ begins place (when is_instr s.op then s.target else none)
      go (yes l) true e = let a = f.aimed (λ z. omega arith) in rw (e, a.is, lt-ltb 0 st.reach l, a.name) refl
      go (yes l) false e = rw e refl
      go (no l) true e = rw (e, f.bare (omega arith), le-ltb 0 st.reach (omega arith)) refl
      go (no l) false e = rw e refl

  range-is : (a : Aimed src st s.target) → st.op ≡ op.Instr → a.target.field ≡ range_by st.reach
  unfolding when◌then◌else◌
  range-is a o = go (eqb st.reach 512) refl
    where
      go : (b : Bool) → eqb st.reach 512 ≡ b → a.target.field ≡ (when b then signed 9 else signed 11)
      go true e = a.near o (eqb-true st.reach 512 e)
      go false e = a.far o (eqb-false st.reach 512 e)

  target_is : (a : Aimed src st s.target) → st.op ≡ op.Instr → a.target ≡ aimed src st
  target_is a o = let r = range-is a o in λ c. record { field = r c; name = a.name c }

  pub aims-found : aims_at place s ≡ true → Aims src st s
  unfolding aims_at aim_of begins when◌then◌else◌
  aims-found h = go (is_instr s.op) refl (dec_lt 0 st.reach) h
    where
      go : (b : Bool) → is_instr s.op ≡ b → Dec (0 < st.reach) → begins place (when b then s.target else none) ≡ true → Aims src st s
      go true e (yes l) h =
          let a = f.aimed (λ z. omega arith) in
          let o = instr-op st.op (sym (ap is_instr f.op) ∙ e) in
          record { is = rw e (a.is ∙ ap (λ (t : Target). some t) (target_is a o)); between = a.between }
      go true e (no l) h = let z : begins place none ≡ true = rw (f.bare (omega arith)) at h in never cc
      go false e d h = never cc

-- LABELS, one by one
text-there : (s : List ℕ) (a e : ℕ) → a ≤ e → e ≤ length s → name_from s a (e - a) ≡ name_at s a e
unfolding name_at label_text part when◌then◌else◌
text-there s a e h g = rw (le-leb a e h, le-leb e (length s) g) refl

pub between-name : (s : List ℕ) (a e : ℕ) → Between s a e → name_from s a (e - a) ≡ name_at s a e
between-name s a e h = text-there s a e h.rising h.within

-- the label that is met
record Met (s : List ℕ) (i a e j : ℕ) : Type 0 where
  name : Name
  here : rules.name_at s (past_lines s i) ≡ some name
  text : name.text ≡ name_at s a e
  onward : j ≡ past_label s i

module _ (s : List ℕ) (i : ℕ) (x : NextLabel) (h : x ≡ label_from s i) where
  met : (a e j : ℕ) → x ≡ Label a e j → Met s i a e j
  unfolding label_from labelled
  met a e j q = go (rules.name_at s (past_lines s i)) refl (sym h ∙ q)
    where
      go : (o : Option Name) → rules.name_at s (past_lines s i) ≡ o → labelled o (past_label s i) ≡ Label a e j → Met s i a e j
      go none f z = never cc
      go (some m) f z =
          let y : m.place.start ≡ a = cc in
          let w : m.place.stop ≡ e = cc in
          let g = name-stands s (past_lines s i) m f in
          let t : m.text ≡ name_from s a (e - a) = rw (y, w) at g.stands.same in
          record { name = m; here = f; text = t ∙ text-there s a e (omega (arith, g.stands.rising)) (omega (arith, g.stands.within)); onward = cc }

  pub label-less : (a e j : ℕ) → x ≡ Label a e j → length s - j < length s - i
  label-less a e j q = let m = met a e j q in let w = label-in s i m.name m.here in omega (arith, m.onward, w.0, w.1)

  module _ (c d : ℕ) {v : Bool} (g : named (name_at s c d) (labels_at s i) ≡ v) where
    module _ (a e j : ℕ) (q : x ≡ Label a e j) {t u : List ℕ} (k : t ≡ label_text s a e) (l : u ≡ label_text s c d) {b : Bool} (r : b ≡ same (map upper t) (map upper u)) where
      one_more : named (name_at s c d) (labels_at s i) ≡ (b || named (name_at s c d) (labels_at s j))
      unfolding named name_at
      one_more =
          let m = met a e j q in
          let z : same m.name.text (name_at s c d) ≡ b = rw (m.text, ← k, ← l) (sym r) in
          ap (named (name_at s c d)) (names-on s i m.name m.here) ∙ rw (z, m.onward) refl

      pub label_same : b ≡ true → true ≡ v
      label_same z = sym (rw z at one_more) ∙ g

      pub label-more : b ≡ false → named (name_at s c d) (labels_at s j) ≡ v
      label-more z = sym (rw z at one_more) ∙ g

    pub label-done : x ≡ Done → false ≡ v
    unfolding label_from labelled named
    label-done z = go (rules.name_at s (past_lines s i)) refl (sym h ∙ z)
      where
        go : (o : Option Name) → rules.name_at s (past_lines s i) ≡ o → labelled o (past_label s i) ≡ Done → false ≡ v
        go none f y = sym (ap (named (name_at s c d)) (names-done s i f)) ∙ g
        go (some m) f y = never cc

-- WHAT IS LOOKED FOR
module _ (src : List ℕ) (at : ℕ) (st : Statement) (x : Sought) {b : Bool} where
  pub sought-operand : (place : ℕ) → x ≡ sought.Operand place → ((src : List ℕ) (at : ℕ) (s : Stmt) → Faithful src at st s → b ≡ aims_at place s) → (s : Stmt) → Faithful src at st s → b ≡ tested src x s
  unfolding tested
  sought-operand place q k s f = rw (q, tested) (k src at s f)

  pub sought-label : (a e : ℕ) → x ≡ sought.Label a e → b ≡ named (name_at src a e) (labels_at src at) → (s : Stmt) → Faithful src at st s → b ≡ tested src x s
  unfolding tested has_label
  sought-label a e q k s f = rw (q, tested, f.labels) k
