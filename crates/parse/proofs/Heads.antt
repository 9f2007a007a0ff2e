-- A statement by its first token: the code's reading is the rules'. Assumes nothing.
use Rattle.parse.specs.declared.Statement.{Statement}
use Rattle.std.specs.declared.result.Result.{Result}
use Rattle.std.specs.declared.result.Result.TheVariants.{Ok, Err}
use Rattle.std.specs.declared.option.Option as O
use Rattle.std.specs.declared.option.Option.TheVariants.{Some, None}
use Rattle.base_refusals.specs.declared.Fault.{Fault}
use Rattle.base_refusals.specs.Refusals.{fault}
use Prim.Native.Nat.{ℕ, zero, suc, ◌+◌, ◌-◌, ◌≤◌, ◌<◌}
use mathlib.Core.Path.{◌≡◌, refl, sym, ◌∙◌, ap}
use mathlib.Core.Bool.{Bool, true, false, ◌&&◌, not}
use mathlib.Core.List.{List, [], map}
use mathlib.Core.Option.{none, some}
use native.Mathlib.Decide.{dec_lt, ℕ_discrete}
use native.Mathlib.Omega.{arith}
use borrow.Author.Tests.{eq-eqb, ne_eqb}
use lib.Dec.{eqb}
use lib.ListN.{length, take, drop, get_or, length-drop, drop_of_length-le}
use lib.Seq.{take_all}
use Rattle.rules.specs.Base.{when◌then◌else◌, ok, refuse, ◌>>=◌, span}
use Rattle.rules.specs.Tokens.{token_in, directive, word, upper, next_token}
use Rattle.rules.specs.Words.{find, instructions, directives}
use Rattle.rules.specs.Statements.{as_word, as_directive, need, past_lines, past_labels, labels_at, token_read, next_statement}
use Rattle.lex_token.specs.Meant.{part, kind_at}
use Rattle.lex_token.specs.declared.Lexeme.{Lexeme}
use Rattle.lex_token.specs.Flat.{fault_sort}
use Rattle.lex.specs.Sorts.{name_of, kind_by, no_row, Stands, NoFault}
use Rattle.lex.proofs.Marks.{end-sort}
use Rattle.parse_labels.specs.declared.Walk.{Walk}
use Rattle.parse_labels.specs.Walk.{Walked}
use Rattle.parse_rows.specs.Rows.{code_from}
use Rattle.parse_rows.proofs.Rule.{instruction-means, code-ge, Found, directive-found, directive-missed}
use Rattle.parse.specs.Coded.{coded_statement, unfit_at, code_step, is_bare, other_of, code_at, headless_at}
use Rattle.parse.proofs.Reading.{code-coded, instr-row}

-- A DIRECTIVE'S NAME
module _ (s : List ℕ) (dot e : ℕ) where
  pub name-past : length s ≤ dot → take (0 - 0) (drop 0 s) ≡ part s (dot + 1) e
  unfolding part
  name-past h = rw (drop_of_length-le s {i = dot + 1} (omega arith)) (no_more (e - (dot + 1)))
    where
      no_more : (n : ℕ) → ◌≡◌ {A = List ℕ} [] (take n [])
      no_more zero = refl
      no_more (suc n) = refl

  pub name-rest : length s < e → take (length s - (dot + 1)) (drop (dot + 1) s) ≡ part s (dot + 1) e
  unfolding part
  name-rest h = take_all (length s - (dot + 1)) (drop (dot + 1) s) (omega (arith, length-drop (dot + 1) s)) ∙ sym (take_all (e - (dot + 1)) (drop (dot + 1) s) (omega (arith, length-drop (dot + 1) s)))

  pub name-short : e < dot + 1 → take (0 - 0) (drop 0 s) ≡ part s (dot + 1) e
  unfolding part
  name-short h = let z : e - (dot + 1) ≡ 0 = omega arith in rw z

  pub name-whole : take (e - (dot + 1)) (drop (dot + 1) s) ≡ part s (dot + 1) e
  unfolding part
  name-whole = refl

-- THE ROW THAT A TOKEN BEGINS
module _ (s : List ℕ) (t : Lexeme) where
  pub code-word : t.sort ≡ 5 → t.value ≡ code_at s t
  unfolding code_at when◌then◌else◌
  code-word e = rw (eq-eqb t.sort 5 e)

  pub code-dot : (t.sort ≡ 5 → ⊥) → t.sort ≡ 6 → (n : List ℕ) → n ≡ part s (t.start + 1) t.end → (code : ℕ) → code ≡ code_from 32 (map upper n) directives → code ≡ code_at s t
  unfolding code_at when◌then◌else◌
  code-dot a e n p code q = rw (ne_eqb t.sort 5 a, eq-eqb t.sort 6 e) (rw p at q)

  pub code-none : (t.sort ≡ 5 → ⊥) → (t.sort ≡ 6 → ⊥) → 38 ≡ code_at s t
  unfolding code_at when◌then◌else◌
  code-none a b = rw (ne_eqb t.sort 5 a, ne_eqb t.sort 6 b)

-- NO ROW
module _ (b : Bool) (t : Lexeme) (r : Result (O.Option Statement) Fault) where
  pub headless-long : t.sort ≡ 3 → r ≡ Err (fault 16 t.start t.end) → r ≡ headless_at b t
  unfolding headless_at when◌then◌else◌
  headless-long e f = rw (eq-eqb t.sort 3 e) f

  module _ (n : t.sort ≡ 3 → ⊥) where
    pub headless-labels : t.sort ≡ 10 → b ≡ true → r ≡ Err (fault 13 t.start t.end) → r ≡ headless_at b t
    unfolding headless_at when◌then◌else◌
    headless-labels e x f = rw (ne_eqb t.sort 3 n, eq-eqb t.sort 10 e, x) f

    pub headless-unfit : (t.sort ≡ 10 → ⊥) → r ≡ unfit_at t → r ≡ headless_at b t
    unfolding headless_at when◌then◌else◌
    headless-unfit e f = rw (ne_eqb t.sort 3 n, ne_eqb t.sort 10 e) f

pub headless-end : (b : Bool) (t : Lexeme) → (t.sort ≡ 3 → ⊥) → t.sort ≡ 10 → b ≡ false → Ok None ≡ headless_at b t
unfolding headless_at when◌then◌else◌
headless-end b t n e x = rw (ne_eqb t.sort 3 n, eq-eqb t.sort 10 e, x)

-- THE FIRST TOKEN AFTER LABELS
module _ (s : List ℕ) (t : Lexeme) where
  not-directive : (k : ℕ) → (k ≡ 6 → ⊥) → as_directive (kind_by s k t) ≡ none
  unfolding as_directive kind_at
  not-directive zero n = refl
  not-directive (suc zero) n = refl
  not-directive (suc (suc zero)) n = refl
  not-directive (suc (suc (suc zero))) n = refl
  not-directive (suc (suc (suc (suc zero)))) n = refl
  not-directive (suc (suc (suc (suc (suc zero))))) n = refl
  not-directive (suc (suc (suc (suc (suc (suc zero)))))) n = absurd (n refl)
  not-directive (suc (suc (suc (suc (suc (suc (suc zero))))))) n = refl
  not-directive (suc (suc (suc (suc (suc (suc (suc (suc zero)))))))) n = refl
  not-directive (suc (suc (suc (suc (suc (suc (suc (suc (suc zero))))))))) n = refl
  not-directive (suc (suc (suc (suc (suc (suc (suc (suc (suc (suc k)))))))))) n = refl

  not-word : (k : ℕ) → (k ≡ 3 → ⊥) → (k ≡ 5 → ⊥) → as_word (kind_by s k t) ≡ none
  unfolding as_word kind_at
  not-word zero n m = refl
  not-word (suc zero) n m = refl
  not-word (suc (suc zero)) n m = refl
  not-word (suc (suc (suc zero))) n m = absurd (n refl)
  not-word (suc (suc (suc (suc zero)))) n m = refl
  not-word (suc (suc (suc (suc (suc zero))))) n m = absurd (m refl)
  not-word (suc (suc (suc (suc (suc (suc zero)))))) n m = refl
  not-word (suc (suc (suc (suc (suc (suc (suc zero))))))) n m = refl
  not-word (suc (suc (suc (suc (suc (suc (suc (suc zero)))))))) n m = refl
  not-word (suc (suc (suc (suc (suc (suc (suc (suc (suc zero))))))))) n m = refl
  not-word (suc (suc (suc (suc (suc (suc (suc (suc (suc (suc k)))))))))) n m = refl

module _ (s : List ℕ) (i : ℕ) (w : Walk) (r : Result (O.Option Statement) Fault) (k : Walked s i w) where
  abbrev t : Lexeme
  t = w.token

  h : Stands s (past_lines s (past_labels s i)) t
  h = k.token

  at_head : next_statement s i ≡ (next_token s (past_lines s (past_labels s i)) >>= token_read s (labels_at s i))
  unfolding next_statement
  at_head = refl

  at-token : NoFault t → next_statement s i ≡ token_read s (labels_at s i) (token_in (kind_by s t.sort t) (span t.start t.end))
  at-token l = at_head ∙ rw (h.token l)

  abbrev Answer : Type 0
  Answer = r ≡ coded_statement (next_statement s i)

  module _ (code : ℕ) (c : code ≡ code_at s t) where
    -- what is read of the row
    abbrev RowAt : Type 0
    RowAt = r ≡ code_step s w.labelled code (is_bare s code t.end) (other_of code) t.start t.end

    head-instruction : t.sort ≡ 5 → RowAt → Answer
    unfolding token_read as_directive as_word
    head-instruction e f =
        let v : code ≡ t.value = c ∙ sym (code-word s t e) in
        let l : code < 32 = omega (arith, h.code e) in
        let u : find (name_of s t) instructions ≡ some (get_or instructions code no_row) = rw v (h.reserved e) in
        let q : next_statement s i ≡ token_read s (labels_at s i) (token_in (word (name_of s t)) (span t.start t.end)) = at-token (omega arith) ∙ rw e in
        f
        ∙ code-coded s (labels_at s i) w.labelled k.labelled (word (name_of s t)) code (get_or instructions code no_row) (instruction-means code l) (other_of code) t.start t.end (is_bare s code t.end)
        ∙ ap coded_statement (sym (q ∙ rw (u, token_read) (instr-row s (labels_at s i) code l (word (name_of s t)) t.start t.end)))

    -- a directive's place lies behind NOP's
    dot-code : t.sort ≡ 6 → code ≡ code_from 32 (map upper (part s (t.start + 1) t.end)) directives
    unfolding code_at when◌then◌else◌
    dot-code e = c ∙ rw e

    head-directive : t.sort ≡ 6 → code < 38 → RowAt → Answer
    unfolding token_read as_directive kind_at need is_bare other_of when◌then◌else◌
    head-directive e l f =
        let n = map upper (part s (t.start + 1) t.end) in
        let d : Found n code directives = directive-found n code (dot-code e) l in
        let z : eqb code 22 ≡ false = ne_eqb code 22 (λ (x : code ≡ 22). omega (arith, dot-code e, code-ge 32 n directives)) in
        let q : next_statement s i ≡ token_read s (labels_at s i) (token_in (directive n) (span t.start t.end)) = at-token (omega arith) ∙ rw e in
        (rw z at f)
        ∙ code-coded s (labels_at s i) w.labelled k.labelled (directive n) code d.row d.means 14 t.start t.end false
        ∙ ap coded_statement (sym (q ∙ rw (d.is, need)))

    head-unknown : t.sort ≡ 6 → 38 ≤ code → r ≡ Err (fault 13 t.start t.end) → Answer
    unfolding token_read as_directive kind_at need coded_statement
    head-unknown e l f =
        let n = map upper (part s (t.start + 1) t.end) in
        let q : next_statement s i ≡ token_read s (labels_at s i) (token_in (directive n) (span t.start t.end)) = at-token (omega arith) ∙ rw e in
        let u : next_statement s i ≡ refuse 13 (span t.start t.end) = q ∙ rw (directive-missed n code (dot-code e) l, need) in
        f ∙ ap coded_statement (sym u)

  head-label : t.sort ≡ 3 → r ≡ Err (fault 16 t.start t.end) → Answer
  unfolding token_read as_directive as_word coded_statement
  head-label e f =
      let q : next_statement s i ≡ token_read s (labels_at s i) (token_in (word (name_of s t)) (span t.start t.end)) = at-token (omega arith) ∙ rw e in
      let u : next_statement s i ≡ refuse 16 (span t.start t.end) = q ∙ rw (h.label e, token_read) in
      f ∙ ap coded_statement (sym u)

  -- any other token: its kind is no directive and no word
  module _ (l : NoFault t) (a : t.sort ≡ 5 → ⊥) (b : t.sort ≡ 6 → ⊥) (c : t.sort ≡ 3 → ⊥) where
    other-token : next_statement s i ≡ (when eqb t.sort 10 && eqb (length (labels_at s i)) 0 then ok none else refuse 13 (span t.start t.end))
    unfolding token_read
    other-token =
        let d : as_directive (kind_by s t.sort t) ≡ none = not-directive s t t.sort b in
        let w : as_word (kind_by s t.sort t) ≡ none = not-word s t t.sort c a in
        at-token l ∙ rw (d, w, token_read, end-sort s t t.sort l)

  head-end : t.sort ≡ 10 → r ≡ (when w.labelled then Err (fault 13 t.start t.end) else Ok None) → Answer
  unfolding coded_statement when◌then◌else◌
  head-end e f =
      let u : next_statement s i ≡ (when eqb (length (labels_at s i)) 0 then ok none else refuse 13 (span t.start t.end)) = other-token (omega arith) (λ (x : t.sort ≡ 5). omega arith) (λ (x : t.sort ≡ 6). omega arith) (λ (x : t.sort ≡ 3). omega arith) ∙ rw (eq-eqb t.sort 10 e) in
      f ∙ rw (k.labelled, u) (go (eqb (length (labels_at s i)) 0))
    where
      go : (b : Bool) → (when not b then Err (fault 13 t.start t.end) else Ok None) ≡ coded_statement (when b then ok none else refuse 13 (span t.start t.end))
      go true = refl
      go false = refl

  head-unfit : (t.sort ≡ 5 → ⊥) → (t.sort ≡ 6 → ⊥) → (t.sort ≡ 3 → ⊥) → (t.sort ≡ 10 → ⊥) → r ≡ unfit_at t → Answer
  unfolding coded_statement unfit_at when◌then◌else◌
  head-unfit a b c d f = go (dec_lt t.sort fault_sort)
    where
      go : Dec (NoFault t) → Answer
      go (yes l) =
          let u : next_statement s i ≡ refuse 13 (span t.start t.end) = other-token l a b c ∙ rw (ne_eqb t.sort 10 d) in
          (rw (ne_eqb t.sort fault_sort (λ (z : t.sort ≡ fault_sort). omega arith)) at f) ∙ ap coded_statement (sym u)
      go (no l) =
          let z : t.sort ≡ fault_sort = omega (arith, h.known) in
          let u : next_statement s i ≡ refuse t.value (span t.start t.end) = at_head ∙ rw (h.bad (omega arith)) in
          (rw (eq-eqb t.sort fault_sort z) at f) ∙ ap coded_statement (sym u)

  module _ (code : ℕ) (c : code ≡ code_at s t) where
    pub head-row : code < 38 → (bare : Bool) → bare ≡ is_bare s code t.end → (other : ℕ) → other ≡ other_of code → r ≡ code_step s w.labelled code bare other t.start t.end → Answer
    head-row l bare p other q f = go (ℕ_discrete t.sort 5) (ℕ_discrete t.sort 6)
      where
        row : RowAt code c
        row = rw (p, q) at f

        go : Dec (t.sort ≡ 5) → Dec (t.sort ≡ 6) → Answer
        go (yes e) d = head-instruction code c e row
        go (no a) (yes e) = head-directive code c e l row
        go (no a) (no b) = absurd (omega (arith, c, code-none s t a b))

    pub head-less : 38 ≤ code → r ≡ headless_at w.labelled t → Answer
    unfolding headless_at unfit_at when◌then◌else◌
    head-less l f = go (ℕ_discrete t.sort 5) (ℕ_discrete t.sort 6) (ℕ_discrete t.sort 3) (ℕ_discrete t.sort 10)
      where
        go : Dec (t.sort ≡ 5) → Dec (t.sort ≡ 6) → Dec (t.sort ≡ 3) → Dec (t.sort ≡ 10) → Answer
        go (yes e) x y z = absurd (omega (arith, c, code-word s t e, h.code e))
        go (no a) (yes e) y z = head-unknown code c e l (rw e at f)
        go (no a) (no b) (yes e) z = head-label e (rw e at f)
        go (no a) (no b) (no d) (yes e) = head-end e (rw e at f)
        go (no a) (no b) (no d) (no g) = head-unfit a b d g (rw (ne_eqb t.sort 3 d, ne_eqb t.sort 10 g) at f)
