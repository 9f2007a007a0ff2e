-- Operands after operands: the code's reading is the rules'. Assumes nothing.
use Rattle.std.specs.declared.result.Result.{Result}
use Rattle.std.specs.declared.result.Result.TheVariants.{Ok, Err}
use Rattle.base_refusals.specs.declared.Fault.{Fault}
use Rattle.base_refusals.specs.Refusals.{fault}
use Prim.Native.Nat.{ℕ, zero, suc, ◌+◌, ◌*◌, ◌≤◌, ◌<◌}
use mathlib.Core.Path.{◌≡◌, refl, sym, ◌∙◌, ap}
use mathlib.Core.Bool.{false}
use mathlib.Core.List.{List, [], ◌∷◌}
use native.Mathlib.Numerals.{add-one}
use native.Mathlib.Omega.{arith}
use borrow.Author.Tests.{eq-eqb, ne_eqb}
use lib.ListN.{length, get_or, drop, drop_of_length-le}
use Rattle.rules.specs.Base.{when◌then◌else◌, Outcome, ok, refused, refuse, ◌>>=◌, span}
use Rattle.rules.specs.Tokens.{Token, token_in, next_token}
use Rattle.rules.specs.Words.{Field}
use Rattle.rules.specs.Statements.{Piece, bits, target, chars, is_mark, operand, add, bare, comma_at, operand_at, more_from, operands_from}
use Rattle.rules.specs.Statements as rules
use Rattle.rules.proofs.Ahead.{is-token}
use Rattle.rules.proofs.Bools.{never}
use Rattle.base_text.specs.Runs.{run_end}
use Rattle.base_text.specs.declared.Class.TheVariants as class
use Rattle.lex_token.specs.declared.Lexeme.{Lexeme}
use Rattle.lex_token.specs.Flat.{fault_sort}
use Rattle.lex.specs.Sorts.{kind_by, Stands}
use Rattle.lex.proofs.Peek.{peek-from, peek, peek-not}
use Rattle.parse_field.specs.declared.Field as code
use Rattle.parse_field.specs.declared.Given.{Given}
use Rattle.parse_field.specs.Coded.{field_of, given, add_to, told, operand_given, operand_step, Below, Adds}
use Rattle.parse_rows.specs.Rows.{fields_by}
use Rattle.parse_operands.specs.Lines.{field_in, due_at, coded_due, next_step, coded_given, coded_step, line_step}

-- WHERE AN OPERAND IS DUE
module _ (s : List ℕ) (k i : ℕ) where
  pub due-first : k ≡ 0 → Ok i ≡ coded_due (due_at s k i)
  unfolding due_at coded_due when◌then◌else◌
  due-first e = rw (eq-eqb k 0 e)

  module _ (n : k ≡ 0 → ⊥) where
    due-comma : due_at s k i ≡ comma_at s i
    unfolding due_at when◌then◌else◌
    due-comma = rw (ne_eqb k 0 n)

    module _ (p : ℕ) (e : p ≡ run_end class.Space s i) (c : ℕ) (q : c ≡ get_or s p 0) where
      pub due-behind : c ≡ 44 → Ok (p + 1) ≡ coded_due (due_at s k i)
      unfolding coded_due comma_at is_mark
      due-behind x =
          let y : comma_at s i ≡ ok (p + 1) = rw (peek s i p e 44 (sym x ∙ q) refl, comma_at) in
          sym (ap coded_due (due-comma ∙ y))

      module _ (x : c ≡ 44 → ⊥) (t : Lexeme) (h : Stands s p t) where
        pub due-bad : t.sort ≡ fault_sort → Err (fault t.value t.start t.end) ≡ coded_due (due_at s k i)
        unfolding coded_due comma_at
        due-bad z =
            let y : comma_at s i ≡ refuse t.value (span t.start t.end) = rw (peek-from s i p e ∙ h.bad (omega arith), comma_at) in
            sym (ap coded_due (due-comma ∙ y))

        pub due-other : (t.sort ≡ fault_sort → ⊥) → Err (fault 13 t.start t.end) ≡ coded_due (due_at s k i)
        unfolding coded_due comma_at
        due-other z =
            let o : next_token s i ≡ ok (token_in (kind_by s t.sort t) (span t.start t.end)) = peek-from s i p e ∙ h.token (omega (arith, h.known)) in
            let n : is_mark 44 (kind_by s t.sort t) ≡ false = sym (is-token (is_mark 44) s i _ o) ∙ peek-not s i p e c q 44 (omega arith) x (λ (b : 44 ≡ 10). absurd (omega arith)) in
            let y : comma_at s i ≡ refuse 13 (span t.start t.end) = rw (o, comma_at, n) in
            sym (ap coded_due (due-comma ∙ y))

module _ (s : List ℕ) (k : ℕ) (g : Given) (f : Field) (other : ℕ) (r : Result Given Fault) where
  pub next-at : (d : Result ℕ Fault) → d ≡ coded_due (due_at s k g.stop) → (i : ℕ) → d ≡ Ok i → Adds g r (operand_step s f other g i) → Adds g r (next_step s k f other g)
  unfolding next_step operand_step coded_due
  next-at d e i q a = go (due_at s k g.stop) (sym q ∙ e)
    where
      go : (o : Outcome ℕ) → Ok i ≡ coded_due o → Adds g r (told (o >>= λ j. operand_given s f other g j))
      go (ok j) p = let z : i ≡ j = cc in rw (← z) a
      go (refused x) p = never cc

  pub next-refused : (d : Result ℕ Fault) → d ≡ coded_due (due_at s k g.stop) → (x : Fault) → d ≡ Err x → r ≡ Err x → Adds g r (next_step s k f other g)
  unfolding next_step coded_due told Below
  next-refused d c x q h = go (due_at s k g.stop) (sym q ∙ c)
    where
      go : (o : Outcome ℕ) → Err x ≡ coded_due o → Adds g r (told (o >>= λ j. operand_given s f other g j))
      go (ok j) p = never cc
      go (refused y) p = rw h (record { is = cc; room = tt })

-- WHAT THE RULES GIVE
add-coded : (g : rules.Given) (p : Piece) (i : ℕ) → add_to (coded_given g) p i ≡ coded_given (add g p i)
unfolding add_to coded_given add
add-coded g (bits n) i = refl
add-coded g (target t) i = refl
add-coded g (chars c q) i = refl

module _ (s : List ℕ) (f : Field) (other : ℕ) where
  operand-coded : (g : rules.Given) (i : ℕ) → operand_step s f other (coded_given g) i ≡ coded_step (operand_at s f other g i)
  unfolding operand_step operand_given operand_at told coded_step
  operand-coded g i = by_token (next_token s i)
    where
      by-piece : (o : Outcome Piece) (j : ℕ) → told (o >>= λ p. ok (add_to (coded_given g) p j)) ≡ coded_step (o >>= λ p. ok (add g p j))
      by-piece (ok p) j = ap Ok (add-coded g p j)
      by-piece (refused r) j = refl

      by_token : (o : Outcome Token) → told (o >>= λ t. operand f other t >>= λ p. ok (add_to (coded_given g) p t.place.stop)) ≡ coded_step (o >>= λ t. operand f other t >>= λ p. ok (add g p t.place.stop))
      by_token (ok t) = by-piece (operand f other t) t.place.stop
      by_token (refused r) = refl

  next-coded : (k : ℕ) (g : rules.Given) → next_step s k f other (coded_given g) ≡ coded_step (due_at s k g.stop >>= λ j. operand_at s f other g j)
  unfolding next_step coded_step told operand_step coded_given
  next-coded k g = by_place (due_at s k g.stop)
    where
      by_place : (o : Outcome ℕ) → told (o >>= λ j. operand_given s f other (coded_given g) j) ≡ coded_step (o >>= λ j. operand_at s f other g j)
      by_place (ok j) = operand-coded g j
      by_place (refused r) = refl

-- WHAT IS LEFT TO READ
module _ (s : List ℕ) (other : ℕ) where
  -- operand k and those after it
  unfoldable pub rest_from : ℕ → List Field → rules.Given → Outcome rules.Given
  rest_from k [] g = ok g
  rest_from k (f ∷ fs) g = (due_at s k g.stop >>= λ j. operand_at s f other g j) >>= more_from s fs other

  all_left : (fs : List Field) (g : rules.Given) → operands_from s fs other g ≡ rest_from 0 fs g
  unfolding operands_from rest_from due_at when◌then◌else◌
  all_left [] g = refl
  all_left (f ∷ fs) g = refl

  more_left : (k : ℕ) (fs : List Field) (g : rules.Given) → more_from s fs other g ≡ rest_from (suc k) fs g
  unfolding more_from rest_from
  more_left k [] g = refl
  more_left k (f ∷ fs) g = by-comma (comma_at s g.stop) ∙ ap (λ (o : Outcome ℕ). (o >>= λ j. operand_at s f other g j) >>= more_from s fs other) (sym (due-comma s (suc k) g.stop (λ e. omega arith)))
    where
      by-comma : (o : Outcome ℕ) → (o >>= λ j. operand_at s f other g j >>= more_from s fs other) ≡ ((o >>= λ j. operand_at s f other g j) >>= more_from s fs other)
      by-comma (ok j) = refl
      by-comma (refused r) = refl

  -- operands 0 to k - 1 of a row are read, and give g
  pub record Midway (fs : List Field) (w at k : ℕ) (g : Given) : Type 0 where
    pub done : rules.Given
    pub is : g ≡ coded_given done
    pub left : operands_from s fs other (bare w at) ≡ rest_from k (drop k fs) done
    pub room : g.bits ≤ 65535 + k * 33554432

  module _ (fs : List Field) (w at : ℕ) where
    pub mid_start : w < 65536 → (g : Given) → g ≡ given w 0 0 0 0 0 at → Midway fs w at 0 g
    unfolding coded_given
    mid_start l g e = record {
      done = bare w at;
      is = e;
      left = all_left fs (bare w at);
      room = rw e (omega arith);
    }

    pub mid-end : (k : ℕ) (g : Given) → Midway fs w at k g → length fs ≤ k → Ok g ≡ line_step s fs other w at
    unfolding line_step coded_step rest_from
    mid-end k g m l =
        let q : operands_from s fs other (bare w at) ≡ ok m.done = rw (drop_of_length-le fs l) at m.left in
        rw (q, m.is)

    module _ (k : ℕ) (g : Given) (m : Midway fs w at k g) (f : Field) (gs : List Field) (e : drop k fs ≡ f ∷ gs) where
      abbrev here : Outcome rules.Given
      here = due_at s k m.done.stop >>= λ j. operand_at s f other m.done j

      here-left : operands_from s fs other (bare w at) ≡ (here >>= more_from s gs other)
      unfolding rest_from
      here-left = m.left ∙ ap (λ (l : List Field). rest_from k l m.done) e

      here-step : next_step s k f other g ≡ coded_step here
      here-step = ap (next_step s k f other) m.is ∙ next-coded s f other k m.done

      pub mid-refused : (r : Result Given Fault) (x : Fault) → Adds g r (next_step s k f other g) → r ≡ Err x → r ≡ line_step s fs other w at
      unfolding line_step coded_step
      mid-refused r x d q = go here refl (sym q ∙ d.is ∙ here-step)
        where
          go : (o : Outcome rules.Given) → here ≡ o → Err x ≡ coded_step o → r ≡ coded_step (operands_from s fs other (bare w at))
          go (ok h) p c = never cc
          go (refused y) p c = q ∙ c ∙ sym (ap coded_step (here-left ∙ ap (λ (o : Outcome rules.Given). o >>= more_from s gs other) p))

      pub mid-on : drop (k + 1) fs ≡ gs → (r : Result Given Fault) (h : Given) → Adds g r (next_step s k f other g) → r ≡ Ok h → Midway fs w at (k + 1) h
      unfolding coded_step Below
      mid-on b r h d q = go here refl (sym q ∙ d.is ∙ here-step)
        where
          go : (o : Outcome rules.Given) → here ≡ o → Ok h ≡ coded_step o → Midway fs w at (k + 1) h
          go (refused x) p c = never cc
          go (ok x) p c =
              let y : h ≡ coded_given x = cc in
              let z : h.bits ≤ g.bits + 33554432 = rw q at d.room in
              record {
                done = x;
                is = y;
                left = here-left ∙ ap (λ (o : Outcome rules.Given). o >>= more_from s gs other) p ∙ more_left k gs x ∙ rw (b, add-one);
                room = omega (arith, m.room);
              }

-- A ROW'S FIELDS
module _ (a b c : code.Field) where
  pub third-field : (k : ℕ) → (k ≡ 0 → ⊥) → (k ≡ 1 → ⊥) → c ≡ field_in k a b c
  third-field zero p q = absurd (p refl)
  third-field (suc zero) p q = absurd (q refl)
  third-field (suc (suc k)) p q = refl

  pub field_is : (k : ℕ) → k < 3 → (n : ℕ) → k < length (fields_by n a b c) → drop k (fields_by n a b c) ≡ field_of (field_in k a b c) ∷ drop (k + 1) (fields_by n a b c)
  field_is zero j zero l = absurd (omega arith)
  field_is (suc k) j zero l = absurd (omega arith)
  field_is zero j (suc zero) l = refl
  field_is (suc k) j (suc zero) l = absurd (omega arith)
  field_is zero j (suc (suc zero)) l = refl
  field_is (suc zero) j (suc (suc zero)) l = refl
  field_is (suc (suc k)) j (suc (suc zero)) l = absurd (omega arith)
  field_is zero j (suc (suc (suc n))) l = refl
  field_is (suc zero) j (suc (suc (suc n))) l = refl
  field_is (suc (suc zero)) j (suc (suc (suc n))) l = refl
  field_is (suc (suc (suc k))) j (suc (suc (suc n))) l = absurd (omega arith)

-- A ROW'S OPERANDS
module _ (s : List ℕ) (other w at n : ℕ) (a b c : code.Field) (count k : ℕ) (g : Given) (m : Midway s other (fields_by n a b c) w at k g) (size : count ≡ length (fields_by n a b c)) where
  pub row-end : count ≤ k → Ok g ≡ line_step s (fields_by n a b c) other w at
  row-end l = mid-end s other (fields_by n a b c) w at k g m (omega arith)

  module _ (most : count ≤ 3) (l : k < count) where
    pub row_room : g.bits ≤ 268435456
    row_room = omega (arith, m.room)

    module _ (x : code.Field) (e : x ≡ field_in k a b c) where
      field-here : drop k (fields_by n a b c) ≡ field_of x ∷ drop (k + 1) (fields_by n a b c)
      field-here = rw e (field_is a b c k (omega arith) n (omega arith))

      pub row-refused : (r : Result Given Fault) (y : Fault) → Adds g r (next_step s k (field_of x) other g) → r ≡ Err y → r ≡ line_step s (fields_by n a b c) other w at
      row-refused r y d q = mid-refused s other (fields_by n a b c) w at k g m (field_of x) (drop (k + 1) (fields_by n a b c)) field-here r y d q

      pub row_on : (r : Result Given Fault) (h : Given) → Adds g r (next_step s k (field_of x) other g) → r ≡ Ok h → Midway s other (fields_by n a b c) w at (k + 1) h
      row_on r h d q = mid-on s other (fields_by n a b c) w at k g m (field_of x) (drop (k + 1) (fields_by n a b c)) field-here refl r h d q
