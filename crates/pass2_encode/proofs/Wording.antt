-- What each way to a statement's word shows. Assumes nothing.
use Rattle.isa_fields.specs.declared.OffsetNewErr.{OffsetNewErr}
use Rattle.isa_fields.specs.declared.OffsetNewErr.TheVariants.{CannotFitSigned}
use Rattle.std.specs.declared.result.Result.{Result}
use Rattle.std.specs.declared.result.Result.TheVariants.{Ok, Err}
use Rattle.std.specs.declared.option.Option as O
use Rattle.std.specs.declared.option.Option.TheVariants.{Some, None}
use Rattle.base_refusals.specs.declared.Fault.{Fault}
use Rattle.base_refusals.specs.Refusals.{fault}
use mathlib.Core.Path.{◌≡◌, refl, sym, ◌∙◌, ap}
use mathlib.Core.Bool.{Bool, true, false}
use mathlib.Core.Option.{Option, none, some}
use mathlib.Core.List.{List, [], ◌∷◌}
use Prim.Native.Nat.{ℕ, zero, suc, ◌+◌, ◌*◌, ◌%◌, ◌≤◌}
use native.Mathlib.Omega.{arith}
use lib.ListN.{get_or}
use lib.Dec.{eqb}
use borrow.Author.Tests.{eq-eqb, ne_eqb, eqb-true, eqb-false}
use Rattle.rules.specs.Base.{when◌then◌else◌, Outcome, ok, refuse, refused, ◌>>=◌, Span, span, nowhere}
use Rattle.rules.specs.Words.{Range, signed, fits, offset, reach, field, instr, fill}
use Rattle.rules.specs.Tables.{Table, look, name_order}
use Rattle.rules.specs.Objects.{Cell, word, outer, defined, Lab, address_of}
use Rattle.rules.specs.Objects as objects
use Rattle.rules.specs.Statements.{Name, Stmt, Target}
use Rattle.rules.specs.Passes.{Symbol, address, offset_to, words_of}
use Rattle.rules.specs.Buffers.{lab_from}
use Rattle.rules.proofs.Bools.{never}
use Rattle.isa_fields.specs.Fields.{meant_offset}
use Rattle.pass1_symbols.specs.Symbols.{symbol_row, symbols}
use Rattle.pass1_symbols.specs.Adding.{Found}
use Rattle.parse_rows.specs.declared.Op.{Op}
use Rattle.parse_rows.specs.declared.Op.TheVariants.{Instr, Orig, Fill, Blkw, Stringz, External}
use Rattle.parse_rows.specs.declared.Op.TheVariants as op
use Rattle.parse.specs.declared.Statement.{Statement}
use Rattle.parse_meaning.specs.Reading.{meant_op, Aimed, Faithful}
use Rattle.pass2_encode.specs.Worded.{told, label_of, field_of, offset_word, offset_word_to, address_word, Aiming, Ready}

-- THE OFFSET, whatever its place
module _ (f : Range) (l n : ℕ) (p : Span) where
  reached : (d : ℕ) → ok d ≡ reach f l n nowhere → reach f l n p ≡ ok d
  unfolding reach when◌then◌else◌
  reached d e = go (fits f (offset l n)) e
    where
      go : (b : Bool) → ok d ≡ (when b then ok (offset l n) else refuse 29 nowhere) → (when b then ok (offset l n) else refuse 29 p) ≡ ok d
      go true q = sym q
      go false q = never cc

  unreached : refuse 29 nowhere ≡ reach f l n nowhere → reach f l n p ≡ refuse 29 p
  unfolding reach when◌then◌else◌
  unreached e = go (fits f (offset l n)) e
    where
      go : (b : Bool) → refuse 29 nowhere ≡ (when b then ok (offset l n) else refuse 29 nowhere) → (when b then ok (offset l n) else refuse 29 p) ≡ refuse 29 p
      go true q = never cc
      go false q = refl

near_of : (r : ℕ) → r ≡ 512 → field_of r ≡ signed 9
unfolding when◌then◌else◌
near_of r e = rw (eq-eqb r 512 e)

far-of : (r : ℕ) → (r ≡ 512 → ⊥) → field_of r ≡ signed 11
unfolding when◌then◌else◌
far-of r e = rw (ne_eqb r 512 e)

module _ (st : Statement) (l n : ℕ) (z : Result ℕ OffsetNewErr) where
  abbrev Spot : Span
  Spot = span st.label_start st.label_end

  offset-given : (f : Range) → field_of st.reach ≡ f → meant_offset z ≡ reach f l n nowhere → (d : ℕ) → z ≡ Ok d → (w : ℕ) → w ≡ st.bits + field f d → told (Ok w) ≡ offset_word st l n
  unfolding offset_word
  offset-given f u h d q w e = let v = reached f l n Spot d (sym (ap meant_offset q) ∙ h) in rw (u, v, e)

  offset-refused : (f : Range) → field_of st.reach ≡ f → meant_offset z ≡ reach f l n nowhere → z ≡ Err CannotFitSigned → (r : Result ℕ Fault) → r ≡ Err (fault 29 st.label_start st.label_end) → told r ≡ offset_word st l n
  unfolding offset_word
  offset-refused f u h q r e = let v = unreached f l n Spot (sym (ap meant_offset q) ∙ h) in rw (u, v, e)

  module _ (s : st.reach ≡ 512) (h : meant_offset z ≡ reach (signed 9) l n nowhere) where
    pub near_word : (d : ℕ) → z ≡ Ok d → (b : ℕ) → b ≡ d % 512 → (w : ℕ) → w ≡ st.bits + b → told (Ok w) ≡ offset_word st l n
    unfolding field
    near_word d q b y w e = offset-given (signed 9) (near_of st.reach s) h d q w (rw y at e)

    pub near-refused : z ≡ Err CannotFitSigned → (r : Result ℕ Fault) → r ≡ Err (fault 29 st.label_start st.label_end) → told r ≡ offset_word st l n
    near-refused q r e = offset-refused (signed 9) (near_of st.reach s) h q r e

  module _ (s : st.reach ≡ 512 → ⊥) (h : meant_offset z ≡ reach (signed 11) l n nowhere) where
    pub far-word : (d : ℕ) → z ≡ Ok d → (b : ℕ) → b ≡ d % 2048 → (w : ℕ) → w ≡ st.bits + b → told (Ok w) ≡ offset_word st l n
    unfolding field
    far-word d q b y w e = offset-given (signed 11) (far-of st.reach s) h d q w (rw y at e)

    pub far-refused : z ≡ Err CannotFitSigned → (r : Result ℕ Fault) → r ≡ Err (fault 29 st.label_start st.label_end) → told r ≡ offset_word st l n
    far-refused q r e = offset-refused (signed 11) (far-of st.reach s) h q r e

-- THE RULES, by what the table says of the label
abbrev by_lab : Lab → ℕ → Target → Outcome ℕ
by_lab outer pc t = refuse 30 t.name.place
by_lab (defined a) pc t = reach t.field a pc t.name.place >>= λ d. ok (field t.field d)

abbrev by_symbol : Option Symbol → ℕ → Target → Outcome ℕ
by_symbol none pc t = refuse 31 t.name.place
by_symbol (some s) pc t = by_lab s.lab pc t

abbrev address_by : Option Symbol → Name → Outcome ℕ
address_by none m = refuse 31 m.place
address_by (some s) m = ok (address_of s.lab)

offset-by : (ss : Table objects.Name Symbol) (pc : ℕ) (t : Target) → offset_to ss pc t ≡ by_symbol (look name_order ss t.name.text) pc t
unfolding offset_to
offset-by ss pc t = go (look name_order ss t.name.text)
  where
    lab : (l : Lab) → ◌≡◌ {A = Outcome ℕ} (elim l [ outer ↦ refuse 30 t.name.place | defined a ↦ (reach t.field a pc t.name.place >>= λ d. ok (field t.field d)) ]) (by_lab l pc t)
    lab outer = refl
    lab (defined a) = refl

    go : (o : Option Symbol) → ◌≡◌ {A = Outcome ℕ} (elim o [ none ↦ refuse 31 t.name.place | some s ↦ elim s.lab [ outer ↦ refuse 30 t.name.place | defined a ↦ (reach t.field a pc t.name.place >>= λ d. ok (field t.field d)) ] ]) (by_symbol o pc t)
    go none = refl
    go (some s) = lab s.lab

address-by : (ss : Table objects.Name Symbol) (m : Name) → address ss m ≡ address_by (look name_order ss m.text) m
unfolding address
address-by ss m = go (look name_order ss m.text)
  where
    go : (o : Option Symbol) → ◌≡◌ {A = Outcome ℕ} (elim o [ none ↦ refuse 31 m.place | some s ↦ ok (address_of s.lab) ]) (address_by o m)
    go none = refl
    go (some s) = refl

-- an external's address is 0
address-of : (a f : ℕ) → (f ≡ 1 → a ≡ 0) → f ≤ 1 → address_of (lab_from a f) ≡ a
address-of a zero h l = refl
address-of a (suc f) h l = sym (h (omega arith))

lab-defined : (a f : ℕ) → f ≡ 0 → lab_from a f ≡ defined a
lab-defined a f e = rw e

lab-outer : (a f : ℕ) → (f ≡ 0 → ⊥) → lab_from a f ≡ outer
lab-outer a zero h = absurd (h refl)
lab-outer a (suc f) h = refl

joined : (st : Statement) (o : Outcome ℕ) → (o >>= λ x. ok (word (st.bits + field (field_of st.reach) x) ∷ [])) ≡ ((o >>= λ x. ok (field (field_of st.reach) x)) >>= λ x. ok (word (st.bits + x) ∷ []))
joined st (ok x) = refl
joined st (refused x) = refl

flat-offset : (st : Statement) (src : List ℕ) (a d : ℕ) → offset_word st a d ≡ (by_lab (defined a) d (record { field = field_of st.reach; name = label_of src st }) >>= λ x. ok (word (st.bits + x) ∷ []))
unfolding offset_word
flat-offset st src a d = joined st (reach (field_of st.reach) a d (span st.label_start st.label_end))

-- THE LABEL
module _ (rs src : List ℕ) (n : ℕ) (st : Statement) (v : Aiming rs src n st) (r : O.Option ℕ) (h : Found n rs src (label_of src st).text r) where
  abbrev Aim : Target
  Aim = record { field = field_of st.reach; name = label_of src st }

  offset-told : (d : ℕ) (o : Option Symbol) → look name_order (symbols n rs src) (label_of src st).text ≡ o → offset_word_to (symbols n rs src) src st d ≡ (by_symbol o d Aim >>= λ x. ok (word (st.bits + x) ∷ []))
  unfolding offset_word_to
  offset-told d o e = ap (λ (y : Outcome ℕ). y >>= λ x. ok (word (st.bits + x) ∷ [])) (offset-by (symbols n rs src) d Aim ∙ ap (λ (y : Option Symbol). by_symbol y d Aim) e)

  address-told : (o : Option Symbol) → look name_order (symbols n rs src) (label_of src st).text ≡ o → address_word (symbols n rs src) src st ≡ (address_by o (label_of src st) >>= λ x. ok (word x ∷ []))
  unfolding address_word
  address-told o e = ap (λ (y : Outcome ℕ). y >>= λ x. ok (word x ∷ [])) (address-by (symbols n rs src) (label_of src st) ∙ ap (λ (y : Option Symbol). address_by y (label_of src st)) e)

  module _ (k : ℕ) (q : r ≡ Some k) where
    first : k * 4 + 0 ≡ k * 4
    first = omega arith

    says : look name_order (symbols n rs src) (label_of src st).text ≡ some (symbol_row rs src k).1
    says = rw q at (sym h.says)

    pub to-label : (f a d : ℕ) → f ≡ get_or rs (k * 4 + 1) 0 → f ≡ 0 → a ≡ get_or rs (k * 4 + 0) 0 → (l : ℕ) → l ≡ a → (m : ℕ) → m ≡ d → (w : Outcome (List Cell)) → w ≡ offset_word st l m → w ≡ offset_word_to (symbols n rs src) src st d
    to-label f a d e z g l y m x w u =
        let i : l ≡ get_or rs (k * 4) 0 = rw first at (y ∙ g) in
        let j = lab-defined (get_or rs (k * 4) 0) (get_or rs (k * 4 + 1) 0) (sym e ∙ z) in
        (u ∙ ap (offset_word st l) x) ∙ (rw (← i) (flat-offset st src l d) ∙ (ap (λ (m : Lab). by_lab m d Aim >>= λ x. ok (word (st.bits + x) ∷ [])) (sym j) ∙ sym (offset-told d _ says)))

    pub to-external : (f d : ℕ) → f ≡ get_or rs (k * 4 + 1) 0 → (f ≡ 0 → ⊥) → (w : Result ℕ Fault) → w ≡ Err (fault 30 st.label_start st.label_end) → told w ≡ offset_word_to (symbols n rs src) src st d
    to-external f d e z w u =
        let j = lab-outer (get_or rs (k * 4) 0) (get_or rs (k * 4 + 1) 0) (λ x. z (e ∙ x)) in
        ap told u ∙ (ap (λ (m : Lab). by_lab m d Aim >>= λ x. ok (word (st.bits + x) ∷ [])) (sym j) ∙ sym (offset-told d _ says))

    pub to-address : (a : ℕ) → a ≡ get_or rs (k * 4 + 0) 0 → (w : ℕ) → w ≡ a → told (Ok w) ≡ address_word (symbols n rs src) src st
    to-address a e w u =
        let c = v.table.rows k (h.row k q).0 in
        let i : w ≡ get_or rs (k * 4) 0 = rw first at (u ∙ e) in
        let j = address-of (get_or rs (k * 4) 0) (get_or rs (k * 4 + 1) 0) c.outside c.flag in
        ap (λ (x : ℕ). told (Ok x)) (i ∙ sym j) ∙ sym (address-told _ says)

  module _ (q : r ≡ None) where
    unsaid : look name_order (symbols n rs src) (label_of src st).text ≡ none
    unsaid = rw q at (sym h.says)

    pub to-nothing : (d : ℕ) (w : Result ℕ Fault) → w ≡ Err (fault 31 st.label_start st.label_end) → told w ≡ offset_word_to (symbols n rs src) src st d
    to-nothing d w u = ap told u ∙ sym (offset-told d none unsaid)

    pub no_address : (w : Result ℕ Fault) → w ≡ Err (fault 31 st.label_start st.label_end) → told w ≡ address_word (symbols n rs src) src st
    no_address w u = ap told u ∙ sym (address-told none unsaid)

-- THE STATEMENT'S WORD
module _ (ss : Table objects.Name Symbol) (a : ℕ) (s : Stmt) where
  instr-none : s.target ≡ none → words_of ss a instr s ≡ ok (word s.bits ∷ [])
  unfolding words_of
  instr-none e = go s.target e
    where
      go : (o : Option Target) → o ≡ none → ◌≡◌ {A = Outcome (List Cell)} (elim o [ none ↦ ok (word s.bits ∷ []) | some t ↦ (offset_to ss (a + 1) t >>= λ n. ok (word (s.bits + n) ∷ [])) ]) (ok (word s.bits ∷ []))
      go none q = refl
      go (some t) q = never cc

  fill_none : s.target ≡ none → words_of ss a fill s ≡ ok (word s.bits ∷ [])
  unfolding words_of
  fill_none e = go s.target e
    where
      go : (o : Option Target) → o ≡ none → ◌≡◌ {A = Outcome (List Cell)} (elim o [ none ↦ ok (word s.bits ∷ []) | some t ↦ (address ss t.name >>= λ n. ok (word n ∷ [])) ]) (ok (word s.bits ∷ []))
      go none q = refl
      go (some t) q = never cc

  module _ (t : Target) (e : s.target ≡ some t) where
    instr-some : words_of ss a instr s ≡ (offset_to ss (a + 1) t >>= λ n. ok (word (s.bits + n) ∷ []))
    unfolding words_of
    instr-some = go s.target e
      where
        go : (o : Option Target) → o ≡ some t → ◌≡◌ {A = Outcome (List Cell)} (elim o [ none ↦ ok (word s.bits ∷ []) | some u ↦ (offset_to ss (a + 1) u >>= λ n. ok (word (s.bits + n) ∷ [])) ]) (offset_to ss (a + 1) t >>= λ n. ok (word (s.bits + n) ∷ []))
        go none q = never cc
        go (some u) q = let w : u ≡ t = cc in rw w

    fill-some : words_of ss a fill s ≡ (address ss t.name >>= λ n. ok (word n ∷ []))
    unfolding words_of
    fill-some = go s.target e
      where
        go : (o : Option Target) → o ≡ some t → ◌≡◌ {A = Outcome (List Cell)} (elim o [ none ↦ ok (word s.bits ∷ []) | some u ↦ (address ss u.name >>= λ n. ok (word n ∷ [])) ]) (address ss t.name >>= λ n. ok (word n ∷ []))
        go none q = never cc
        go (some u) q = let w : u ≡ t = cc in rw w

aim-of : (src : List ℕ) (st : Statement) (o : Option Target) (x : Aimed src st o) → st.op ≡ Instr → x.target ≡ record { field = field_of st.reach; name = label_of src st }
unfolding when◌then◌else◌
aim-of src st o x i = go (eqb st.reach 512) refl
  where
    go : (b : Bool) → eqb st.reach 512 ≡ b → x.target ≡ record { field = when b then signed 9 else signed 11; name = label_of src st }
    go true q = let f = x.near i (eqb-true st.reach 512 q) in λ c. record { field = f c; name = x.name c }
    go false q = let f = x.far i (eqb-false st.reach 512 q) in λ c. record { field = f c; name = x.name c }

instr-meant : (o : Op) → meant_op o ≡ instr → o ≡ Instr
instr-meant Instr e = refl
instr-meant Orig e = never cc
instr-meant Fill e = never cc
instr-meant Blkw e = never cc
instr-meant Stringz e = never cc
instr-meant op.End e = never cc
instr-meant External e = never cc

module _ (rs src : List ℕ) (n : ℕ) (st : Statement) (v : Ready rs src n st) where
  module _ (z : st.reach ≡ 0 → ⊥) where
    pub instr-aimed : (a : ℕ) (w : Outcome (List Cell)) → w ≡ offset_word_to (symbols n rs src) src st (a + 1) → (at : ℕ) (s : Stmt) → Faithful src at st s → s.op ≡ instr → w ≡ words_of (symbols n rs src) a instr s
    unfolding offset_word_to
    instr-aimed a w e at s f o =
        let x = f.aimed z in
        let t = aim-of src st s.target x (instr-meant st.op (sym f.op ∙ o)) in
        e ∙ sym (instr-some (symbols n rs src) a s x.target x.is ∙ rw (t, f.bits))

    pub fill-aimed : (w : Outcome (List Cell)) → w ≡ address_word (symbols n rs src) src st → (at : ℕ) (s : Stmt) → Faithful src at st s → (a : ℕ) → w ≡ words_of (symbols n rs src) a fill s
    unfolding address_word
    fill-aimed w e at s f a =
        let x = f.aimed z in
        e ∙ sym (fill-some (symbols n rs src) a s x.target x.is ∙ rw x.name)

  module _ (z : st.reach ≡ 0) (w : ℕ) (e : w ≡ st.bits) where
    pub instr-bare : (a : ℕ) (at : ℕ) (s : Stmt) → Faithful src at st s → told (Ok w) ≡ words_of (symbols n rs src) a instr s
    instr-bare a at s f = ap (λ (x : ℕ). told (Ok x)) (e ∙ sym f.bits) ∙ sym (instr-none (symbols n rs src) a s (f.bare z))

    pub fill-bare : (at : ℕ) (s : Stmt) → Faithful src at st s → (a : ℕ) → told (Ok w) ≡ words_of (symbols n rs src) a fill s
    fill-bare at s f a = ap (λ (x : ℕ). told (Ok x)) (e ∙ sym f.bits) ∙ sym (fill_none (symbols n rs src) a s (f.bare z))
