-- What is due, token by token and label by label. Assumes nothing.
use Prim.Native.Nat.{ℕ, zero, suc, ◌+◌, ◌-◌, ◌≤◌, ◌<◌}
use mathlib.Core.Path.{◌≡◌, refl, sym, ◌∙◌, ap}
use mathlib.Core.List.{List, [], ◌∷◌, map}
use mathlib.Core.Option.{Option, none, some}
use native.Mathlib.Decide.{dec_lt, dec_le}
use native.Mathlib.Omega.{arith}
use borrow.Author.Tests.{le-leb, lt-leb}
use lib.Dec.{leb}
use lib.ListN.{length, get_or, take, drop}
use Rattle.rules.specs.Base.{when◌then◌else◌, Span, span, nowhere}
use Rattle.rules.specs.Tokens.{token_in, directive, next_token, upper}
use Rattle.rules.specs.Words.{Field, find, instructions, directives}
use Rattle.rules.specs.Statements.{Name, is_mark, as_word, as_directive, past_lines, past_labels, past_label, labels_at, name_at}
use Rattle.rules.proofs.Bools.{never}
use Rattle.rules.proofs.Ahead.{token-ends, names-on, names-done, label-in}
use Rattle.lex_token.specs.Meant.{part, kind_at}
use Rattle.lex_token.specs.declared.Lexeme.{Lexeme}
use Rattle.lex_token.specs.Flat.{fault_sort}
use Rattle.lex.specs.Label.{label_text}
use Rattle.lex.specs.Sorts.{name_of, kind_by, no_row, Stands, NoFault}
use Rattle.parse_field.specs.Coded.{field_of}
use Rattle.parse_field.specs.declared.Field as code
use Rattle.parse_rows.specs.declared.Row as rows
use Rattle.parse_rows.specs.Rows.{fields_by, row_at, Means, code_from}
use Rattle.parse_rows.proofs.Rule.{Found, instruction-means, directive-found, directive-missed}
use Rattle.view_places.specs.Lines.{line_start}
use Rattle.parse_labels.specs.declared.NextLabel.{NextLabel}
use Rattle.parse_labels.specs.declared.NextLabel.TheVariants as label
use Rattle.parse_labels.specs.declared.Walk.{Walk}
use Rattle.parse_labels.specs.Walk.{Walked, label_from, labelled}
use Rattle.view_due.specs.declared.Due.{Due}
use Rattle.view_due.specs.declared.Due.TheVariants.{Statement, Directive, Comma, LineEnd, Operand}
use Rattle.view_due.specs.declared.Onward as step
use Rattle.view_due.specs.declared.Onward.TheVariants as go
use Rattle.view_due.specs.Wanted.{Wanted, statement, start_at, end_at, operand_or, due_from, row_of, due_behind, due_head, due_by, due_at, last_place, label_before}
use Rattle.view_due.specs.Coded.{meant, onward, Coding}

-- A TOKEN'S PLACE
module _ (s : List ℕ) (i : ℕ) (t : Lexeme) (h : Stands s i t) where
  pub start_is : start_at s i ≡ t.start
  unfolding start_at
  start_is = go' (dec_lt t.sort fault_sort)
    where
      go' : Dec (NoFault t) → start_at s i ≡ t.start
      go' (yes l) = rw (h.token l, start_at)
      go' (no l) = rw (h.bad (omega arith), start_at)

  pub end_is : end_at s i ≡ t.end
  unfolding end_at
  end_is = go' (dec_lt t.sort fault_sort)
    where
      go' : Dec (NoFault t) → end_at s i ≡ t.end
      go' (yes l) = rw (h.token l, end_at)
      go' (no l) = rw (h.bad (omega arith), end_at)

-- OPERANDS
module _ (s : List ℕ) (i place : ℕ) (t : Lexeme) (h : Stands s i t) (f : code.Field) where
  pub last-operand : place ≤ t.start → meant (Operand f) ≡ due_from s (field_of f ∷ []) i place
  unfolding meant due_from when◌then◌else◌
  last-operand l = rw (start_is s i t h, le-leb place t.start l)

  pub last_line : t.start < place → meant LineEnd ≡ due_from s (field_of f ∷ []) i place
  unfolding meant due_from when◌then◌else◌
  last_line l = rw (start_is s i t h, lt-leb place t.start l)

  pub due-operand : place ≤ t.start → onward (go.Found (Operand f)) ≡ operand_or s (field_of f) i place
  unfolding meant onward operand_or when◌then◌else◌
  due-operand l = rw (start_is s i t h, le-leb place t.start l)

  module _ (u : Lexeme) (k : Stands s t.end u) (l : t.start < place) where
    pub due-comma : place ≤ u.start → onward (go.Found Comma) ≡ operand_or s (field_of f) i place
    unfolding meant onward operand_or when◌then◌else◌
    due-comma m = rw (start_is s i t h, lt-leb place t.start l, end_is s i t h, start_is s t.end u k, le-leb place u.start m)

    pub due-next : u.start < place → onward (go.Next u.end) ≡ operand_or s (field_of f) i place
    unfolding meant onward operand_or when◌then◌else◌
    due-next m = rw (start_is s i t h, lt-leb place t.start l, end_is s i t h, start_is s t.end u k, lt-leb place u.start m, end_is s t.end u k)

module _ (s : List ℕ) (f g : Field) (fs : List Field) (i place : ℕ) (o : step.Onward) (h : onward o ≡ operand_or s f i place) where
  pub more-found : (d : Due) → o ≡ go.Found d → meant d ≡ due_from s (f ∷ g ∷ fs) i place
  unfolding due_from onward
  more-found d e = rw (sym h, e, due_from)

  pub more-next : (j : ℕ) {w : Wanted} → o ≡ go.Next j → w ≡ due_from s (g ∷ fs) j place → w ≡ due_from s (f ∷ g ∷ fs) i place
  unfolding due_from onward
  more-next j e q = rw (sym h, e, due_from) q

-- ROWS
module _ (s : List ℕ) (a b c : code.Field) (i place : ℕ) where
  pub row-none : (n : ℕ) → n ≡ 0 → meant LineEnd ≡ due_from s (fields_by n a b c) i place
  unfolding meant due_from
  row-none n e = rw e refl

  pub row_one : (n : ℕ) {w : Wanted} → n ≡ 1 → w ≡ due_from s (field_of a ∷ []) i place → w ≡ due_from s (fields_by n a b c) i place
  row_one n e q = rw e q

  pub row-two : (n : ℕ) {w : Wanted} → n ≡ 2 → w ≡ due_from s (field_of a ∷ field_of b ∷ []) i place → w ≡ due_from s (fields_by n a b c) i place
  row-two n e q = rw e q

  pub row-three : (n : ℕ) {w : Wanted} → (n ≡ 0 → ⊥) → (n ≡ 1 → ⊥) → (n ≡ 2 → ⊥) → w ≡ due_from s (field_of a ∷ field_of b ∷ field_of c ∷ []) i place → w ≡ due_from s (fields_by n a b c) i place
  row-three zero x y z q = absurd (x refl)
  row-three (suc zero) x y z q = absurd (y refl)
  row-three (suc (suc zero)) x y z q = absurd (z refl)
  row-three (suc (suc (suc n))) x y z q = q

-- THE TOKEN AFTER THE LABELS, by its sort
module _ (s : List ℕ) (t : Lexeme) where
  pub code-reserved : {v : ℕ} → t.sort ≡ 5 → v ≡ t.value → (i : ℕ) → Stands s i t → Coding (row_of (kind_by s t.sort t)) v
  unfolding row_of as_directive as_word
  code-reserved {v} e q i h =
      let z : row_of (kind_by s t.sort t) ≡ find (name_of s t) instructions = rw e refl in
      let r : row_of (kind_by s t.sort t) ≡ some (get_or instructions t.value no_row) = z ∙ h.reserved e in
      let l = h.code e in
      record {
        known = λ m. record { row = get_or instructions t.value no_row; is = r; means = rw q (instruction-means t.value l) };
        unknown = λ m. absurd (omega (arith, l, q));
      }

  -- a directive's name behind its dot lies in the source
  directive-kind : t.sort ≡ 6 → kind_by s t.sort t ≡ directive (map upper (part s (t.start + 1) t.end))
  unfolding kind_at
  directive-kind e = rw e refl

  directive-in : t.sort ≡ 6 → (i : ℕ) → Stands s i t → t.end ≤ length s
  unfolding is_mark
  directive-in e i h = (token-ends s i (token_in (kind_by s t.sort t) (span t.start t.end)) (h.token (omega arith))).most (ap (is_mark 0) (directive-kind e))

  directive-name : (a : ℕ) → t.end ≤ length s → label_text s a t.end ≡ part s a t.end
  unfolding label_text part when◌then◌else◌
  directive-name a l = rw (le-leb t.end (length s) l) (go' (dec_le a t.end))
    where
      go' : Dec (a ≤ t.end) → (when leb a t.end then take (t.end - a) (drop a s) else []) ≡ take (t.end - a) (drop a s)
      go' (yes m) = rw (le-leb a t.end m)
      go' (no m) = let z : t.end - a ≡ 0 = omega arith in rw (lt-leb a t.end (omega arith), z)

  directive-coded : {v : ℕ} → t.sort ≡ 6 → v ≡ code_from 32 (map upper (part s (t.start + 1) t.end)) directives → Coding (row_of (kind_by s t.sort t)) v
  unfolding row_of as_directive
  directive-coded {v} e z =
      let r : row_of (kind_by s t.sort t) ≡ find (map upper (part s (t.start + 1) t.end)) directives = rw (directive-kind e) refl in
      record {
        known = λ m. (let f : Found (map upper (part s (t.start + 1) t.end)) v directives = directive-found (map upper (part s (t.start + 1) t.end)) v z m in record { row = f.row; is = r ∙ f.is; means = f.means });
        unknown = λ m. r ∙ directive-missed (map upper (part s (t.start + 1) t.end)) v z m;
      }

  pub code-directive : (n : List ℕ) {v : ℕ} → t.sort ≡ 6 → n ≡ label_text s (t.start + 1) t.end → v ≡ code_from 32 (map upper n) directives → (i : ℕ) → Stands s i t → Coding (row_of (kind_by s t.sort t)) v
  code-directive n e p q i h = directive-coded e (q ∙ ap (λ (l : List ℕ). code_from 32 (map upper l) directives) (p ∙ directive-name (t.start + 1) (directive-in e i h)))

  pub code-nameless : t.sort ≡ 6 → t.end ≤ t.start → (i : ℕ) → Stands s i t → Coding (row_of (kind_by s t.sort t)) 38
  unfolding part code_from directives when◌then◌else◌
  code-nameless e l i h = directive-coded e (let z : t.end - (t.start + 1) ≡ 0 = omega arith in rw z refl)

  no-row : (k : ℕ) → (k ≡ 5 → ⊥) → (k ≡ 6 → ⊥) → (k ≡ 3 → find (name_of s t) instructions ≡ none) → row_of (kind_by s k t) ≡ none
  unfolding row_of as_directive as_word kind_at
  no-row zero a b l = refl
  no-row (suc zero) a b l = refl
  no-row (suc (suc zero)) a b l = refl
  no-row (suc (suc (suc zero))) a b l = l refl
  no-row (suc (suc (suc (suc zero)))) a b l = refl
  no-row (suc (suc (suc (suc (suc zero))))) a b l = absurd (a refl)
  no-row (suc (suc (suc (suc (suc (suc zero)))))) a b l = absurd (b refl)
  no-row (suc (suc (suc (suc (suc (suc (suc zero))))))) a b l = refl
  no-row (suc (suc (suc (suc (suc (suc (suc (suc zero)))))))) a b l = refl
  no-row (suc (suc (suc (suc (suc (suc (suc (suc (suc zero))))))))) a b l = refl
  no-row (suc (suc (suc (suc (suc (suc (suc (suc (suc (suc k)))))))))) a b l = refl

  pub code-none : (t.sort ≡ 5 → ⊥) → (t.sort ≡ 6 → ⊥) → (i : ℕ) → Stands s i t → Coding (row_of (kind_by s t.sort t)) 38
  code-none a b i h = record { known = λ m. absurd (omega arith); unknown = λ m. no-row t.sort a b h.label }

  pub behind-row :
      (c : rows.Row) (place : ℕ) {v : ℕ} {w : Wanted}
      → ((i : ℕ) → Stands s i t → Coding (row_of (kind_by s t.sort t)) v) → v < 38 → c ≡ row_at v
      → w ≡ due_from s (fields_by c.count c.first c.second c.third) t.end place
      → (i : ℕ) → Stands s i t → w ≡ due_behind s (row_of (kind_by s t.sort t)) t.end place
  unfolding due_behind
  behind-row c place k l e q i h =
      let x = (k i h).known l in
      let m : Means c x.row = rw e x.means in
      rw (x.is, due_behind) (rw (sym m.fields) q)

  pub behind-none :
      (place : ℕ) {v : ℕ} → ((i : ℕ) → Stands s i t → Coding (row_of (kind_by s t.sort t)) v) → 38 ≤ v
      → (i : ℕ) → Stands s i t → meant Statement ≡ due_behind s (row_of (kind_by s t.sort t)) t.end place
  unfolding due_behind meant
  behind-none place k l i h = rw ((k i h).unknown l, due_behind)

module _ (s : List ℕ) (place : ℕ) {first : ℕ} (w : Walk) (e : first ≡ line_start s place) (k : Walked s first w) where
  abbrev t : Lexeme
  t = w.token

  at_key : due_at s place ≡ due_by s place (next_token s (past_lines s (past_labels s first)))
  unfolding due_at
  at_key = rw e

  pub at-behind :
      {x : Wanted} → t.start < place → ((i : ℕ) → Stands s i t → x ≡ due_behind s (row_of (kind_by s t.sort t)) t.end place) → x ≡ due_at s place
  unfolding due_by due_behind row_of as_directive as_word when◌then◌else◌
  at-behind {x} l q = go' (dec_lt t.sort fault_sort)
    where
      go' : Dec (NoFault t) → x ≡ due_at s place
      go' (yes n) = q _ k.token ∙ sym (at_key ∙ rw (k.token.token n, due_by, lt-leb place t.start l))
      go' (no n) =
          let z : t.sort ≡ fault_sort = omega (arith, k.token.known) in
          (rw z at (q _ k.token)) ∙ sym (at_key ∙ rw (k.token.bad (omega arith), due_by))

  heads : (n : ℕ) → (n ≡ 6 → ⊥) → due_head (kind_by s n t) ≡ statement
  unfolding due_head as_directive kind_at
  heads zero b = refl
  heads (suc zero) b = refl
  heads (suc (suc zero)) b = refl
  heads (suc (suc (suc zero))) b = refl
  heads (suc (suc (suc (suc zero)))) b = refl
  heads (suc (suc (suc (suc (suc zero))))) b = refl
  heads (suc (suc (suc (suc (suc (suc zero)))))) b = absurd (b refl)
  heads (suc (suc (suc (suc (suc (suc (suc zero))))))) b = refl
  heads (suc (suc (suc (suc (suc (suc (suc (suc zero)))))))) b = refl
  heads (suc (suc (suc (suc (suc (suc (suc (suc (suc zero))))))))) b = refl
  heads (suc (suc (suc (suc (suc (suc (suc (suc (suc (suc k)))))))))) b = refl

  pub at-directive : place ≤ t.start → t.sort ≡ 6 → meant Directive ≡ due_at s place
  unfolding due_by due_head as_directive kind_at meant when◌then◌else◌
  at-directive l z = sym (at_key ∙ (rw (k.token.token (omega arith), due_by, le-leb place t.start l, z, due_head) refl))

  pub at-statement : place ≤ t.start → (t.sort ≡ 6 → ⊥) → meant Statement ≡ due_at s place
  unfolding due_by meant when◌then◌else◌
  at-statement l z = go' (dec_lt t.sort fault_sort)
    where
      go' : Dec (NoFault t) → statement ≡ due_at s place
      go' (yes n) = sym (at_key ∙ rw (k.token.token n, due_by, le-leb place t.start l) (heads t.sort z))
      go' (no n) = sym (at_key ∙ rw (k.token.bad (omega arith), due_by))

-- LABELS, one by one
module _ (s : List ℕ) (i : ℕ) (r : NextLabel) (q : r ≡ label_from s i) where
  named : (o : Option Name) (j : ℕ) → r ≡ labelled o j → name_at s (past_lines s i) ≡ o → (a e n : ℕ) → r ≡ label.Label a e n → (m : Name) × (name_at s (past_lines s i) ≡ some m) × (span a e ≡ m.place) × (n ≡ j)
  unfolding labelled
  named none j x y a e n z = never cc
  named (some m) j x y a e n z =
      let u : a ≡ m.place.start = cc in
      let v : e ≡ m.place.stop = cc in
      (m, y, rw (u, v) refl, cc)

  pub label-more : (p : Span) (a e n : ℕ) {v : Span} → r ≡ label.Label a e n → last_place p (labels_at s i) ≡ v → last_place (span a e) (labels_at s n) ≡ v
  unfolding label_from last_place
  label-more p a e n {v} z g = let x = named (name_at s (past_lines s i)) (past_label s i) q refl a e n z in shift x.0 x.1 x.2 x.3
    where
      shift : (m : Name) → name_at s (past_lines s i) ≡ some m → span a e ≡ m.place → n ≡ past_label s i → last_place (span a e) (labels_at s n) ≡ v
      shift m y u w = rw (u, w) (sym (ap (last_place p) (names-on s i m y)) ∙ g)

  pub label-less : (a e n : ℕ) → r ≡ label.Label a e n → length s - n < length s - i
  unfolding label_from
  label-less a e n z =
      let x = named (name_at s (past_lines s i)) (past_label s i) q refl a e n z in
      let y = label-in s i x.0 x.1 in
      omega (arith, x.3, y.0, y.1)

  pub label-done : (a e : ℕ) {v : Span} → r ≡ label.Done → last_place (span a e) (labels_at s i) ≡ v → span a e ≡ v
  unfolding label_from labelled last_place
  label-done a e {v} z g = ended (name_at s (past_lines s i)) refl q
    where
      ended : (o : Option Name) → name_at s (past_lines s i) ≡ o → r ≡ labelled o (past_label s i) → span a e ≡ v
      ended none y x = sym (ap (last_place (span a e)) (names-done s i y)) ∙ g
      ended (some m) y x = never cc

pub before-is : (s : List ℕ) (place : ℕ) {first : ℕ} {p : Span} → first ≡ line_start s place → p ≡ last_place nowhere (labels_at s first) → p ≡ label_before s place
unfolding label_before
before-is s place e q = q ∙ rw e
