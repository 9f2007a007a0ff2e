-- The refusals of both passes, and so of assembling, have a number of the table. Assumes nothing.
use Prim.Native.Nat.{ℕ, ◌+◌, ◌-◌}
use mathlib.Core.Path.{refl}
use mathlib.Core.List.{List, [], ◌∷◌, ◌++◌}
use mathlib.Core.Option.{Option, none, some}
use lib.ListN.{length}
use lib.Dec.{eqb, leb, ltb}
use Rattle.rules.specs.Answers.{refusals}
use Rattle.rules.specs.Base.{when◌then◌else◌, ok, refuse, refuse2, Span, ◌>>=◌, nowhere}
use Rattle.rules.specs.Capacities.{label_room}
use Rattle.rules.specs.Words.{Range, reach, field, Op, instr, orig, fill, blkw, stringz, end, external}
use Rattle.rules.specs.Statements as S
use Rattle.rules.specs.Statements.{Target, Stmt}
use Rattle.rules.specs.Tables.{Table, name_order, look, insert, newer}
use Rattle.rules.specs.Objects.{Cell, word, Lab, outer, defined, address_of, Name}
use Rattle.rules.specs.Passes.{word_len, Symbol, symbol, Cursor, Pass1State, pass1_start, with_cursor, with_symbols, add_label, add_labels, labelled, relocated, filled, closed, directed, advanced, step_one, pass_one, address, offset_to, words_of, ObjBlock, obj_block, Pass2State, pass2_state, pass2_start, overlapping, place, emit, finish, written, pass_two, assemble}
use Rattle.laws_numbers.specs.Known.{in_table, known, Numbered}
use Rattle.laws_numbers.proofs.Stages.{gives, refuses, chosen, required, bound}
use Rattle.laws_numbers.proofs.Tokens.{lexed-numbered}
use Rattle.laws_numbers.proofs.Statements.{statements-numbered}

-- PASS ONE
label-numbered : (v : Lab) (p : Span) (n : S.Name) (ss : Table Name Symbol) → Numbered (add_label v p n ss)
unfolding add_label known in_table refusals
label-numbered v p n ss = go (look name_order ss n.text)
  where
    go :
        (x : Option Symbol)
        → Numbered {A = Table Name Symbol} (elim x [
          | some s ↦ when eqb (address_of s.lab) (address_of v) then ok ss else refuse2 25 s.place n.place
          | none ↦ when ltb (length ss) label_room then ok (insert name_order newer (n.text, symbol v n.place) ss) else refuse 40 p
        ])
    go (some s) = chosen _ (gives _) (refuses _ refl)
    go none = chosen _ (gives _) (refuses _ refl)

labels-numbered : (a : ℕ) (p : Span) (ns : List S.Name) (ss : Table Name Symbol) → Numbered (add_labels a p ns ss)
unfolding add_labels
labels-numbered a p [] ss = gives ss
labels-numbered a p (n ∷ ns) ss = bound _ _ (label-numbered (defined a) p n ss) λ t. labels-numbered a p ns t

labelled-numbered : (ns : List S.Name) (p : Span) (o : Pass1State) → Numbered (labelled ns p o)
unfolding labelled known in_table refusals
labelled-numbered [] p o = gives o
labelled-numbered (n ∷ ns) p o = go o.cursor
  where
    go : (x : Option Cursor) → Numbered {A = Pass1State} (elim x [ none ↦ refuse 20 n.place | some c ↦ add_labels c.counter p (n ∷ ns) o.symbols >>= λ ss. ok (with_symbols ss o) ])
    go none = refuses _ refl
    go (some c) = bound _ _ (labels-numbered c.counter p (n ∷ ns) o.symbols) λ ss. gives _

relocated-numbered : (a : ℕ) (n : Name) (p : Span) (o : Pass1State) → Numbered (relocated a n p o)
unfolding relocated known in_table refusals
relocated-numbered a n p o = chosen _ (gives _) (refuses _ refl)

filled-numbered : (n : S.Name) (p : Span) (o : Pass1State) → Numbered (filled n p o)
unfolding filled known in_table refusals
filled-numbered n p o = go (look name_order o.symbols n.text)
  where
    at : (x : Option Cursor) → Numbered {A = Pass1State} (elim x [ none ↦ refuse 21 p | some c ↦ relocated c.counter n.text p o ])
    at none = refuses _ refl
    at (some c) = relocated-numbered c.counter n.text p o

    by : (v : Lab) → Numbered {A = Pass1State} (elim v [ defined a ↦ ok o | outer ↦ elim o.cursor [ none ↦ refuse 21 p | some c ↦ relocated c.counter n.text p o ] ])
    by (defined a) = gives o
    by outer = at o.cursor

    go :
        (x : Option Symbol)
        → Numbered {A = Pass1State} (elim x [
          | none ↦ ok o
          | some s ↦ elim s.lab [ defined a ↦ ok o | outer ↦ elim o.cursor [ none ↦ refuse 21 p | some c ↦ relocated c.counter n.text p o ] ]
        ])
    go none = gives o
    go (some s) = by s.lab

closed-numbered : (c : Cursor) (p : Span) (o : Pass1State) → Numbered (closed c p o)
unfolding closed known in_table refusals
closed-numbered c p o = chosen _ (gives _) (chosen _ (gives _) (refuses _ refl))

directed-numbered : (k : Op) (s : Stmt) (o : Pass1State) → Numbered (directed k s o)
unfolding directed known in_table refusals
directed-numbered instr s o = gives o
directed-numbered blkw s o = gives o
directed-numbered stringz s o = gives o
directed-numbered orig s o = go o.cursor
  where
    go :
        (x : Option Cursor)
        → Numbered {A = Pass1State} (elim x [
          | some c ↦ refuse2 24 c.place s.place
          | none ↦ ok (with_cursor (some (record { start = s.bits; counter = s.bits; place = s.place })) o)
        ])
    go (some c) = refuses _ refl
    go none = gives _
directed-numbered end s o = go o.cursor
  where
    go : (x : Option Cursor) → Numbered {A = Pass1State} (elim x [ none ↦ refuse 23 s.place | some c ↦ closed c s.place o ])
    go none = refuses _ refl
    go (some c) = closed-numbered c s.place o
directed-numbered external s o = go s.target
  where
    go : (x : Option Target) → Numbered {A = Pass1State} (elim x [ none ↦ ok o | some t ↦ add_label outer s.place t.name o.symbols >>= λ ss. ok (with_symbols ss o) ])
    go none = gives o
    go (some t) = bound _ _ (label-numbered outer s.place t.name o.symbols) λ ss. gives _
directed-numbered fill s o = go s.target
  where
    go : (x : Option Target) → Numbered {A = Pass1State} (elim x [ none ↦ ok o | some t ↦ filled t.name s.place o ])
    go none = gives o
    go (some t) = filled-numbered t.name s.place o

advanced-numbered : (n : ℕ) (p : Span) (o : Pass1State) → Numbered (advanced n p o)
unfolding advanced known in_table refusals
advanced-numbered n p o = go o.cursor
  where
    go :
        (x : Option Cursor)
        → Numbered {A = Pass1State} (elim x [
          | none ↦ ok o
          | some c ↦
              let a = c.counter + n in
              when eqb n 0 then ok o
              else when leb a 0xfe00 then ok (with_cursor (some (record { start = c.start; counter = a; place = c.place })) o)
              else when leb a 0x10000 then refuse 27 p
              else refuse 26 p
        ])
    go none = gives o
    go (some c) = chosen _ (gives _) (chosen _ (gives _) (chosen _ (refuses _ refl) (refuses _ refl)))

one-numbered : (ss : List Stmt) (o : Pass1State) → Numbered (pass_one ss o)
unfolding pass_one step_one known in_table refusals
one-numbered [] o = go o.cursor
  where
    go : (x : Option Cursor) → Numbered {A = Pass1State} (elim x [ none ↦ ok o | some c ↦ refuse 22 c.place ])
    go none = gives o
    go (some c) = refuses _ refl
one-numbered (s ∷ ss) o =
    bound _ _
    (bound _ _ (labelled-numbered s.labels s.place o) λ a. bound _ _ (directed-numbered s.op s a) λ b. advanced-numbered (word_len s.op s) s.place b)
    λ u. one-numbered ss u

-- PASS TWO
address-numbered : (ss : Table Name Symbol) (n : S.Name) → Numbered (address ss n)
unfolding address known in_table refusals
address-numbered ss n = go (look name_order ss n.text)
  where
    go : (x : Option Symbol) → Numbered {A = ℕ} (elim x [ none ↦ refuse 31 n.place | some s ↦ ok (address_of s.lab) ])
    go none = refuses _ refl
    go (some s) = gives _

reach-numbered : (r : Range) (label next : ℕ) (p : Span) → Numbered (reach r label next p)
unfolding reach known in_table refusals
reach-numbered r label next p = chosen _ (gives _) (refuses _ refl)

offset-numbered : (ss : Table Name Symbol) (pc : ℕ) (t : Target) → Numbered (offset_to ss pc t)
unfolding offset_to known in_table refusals
offset-numbered ss pc t = go (look name_order ss t.name.text)
  where
    by : (v : Lab) → Numbered {A = ℕ} (elim v [ outer ↦ refuse 30 t.name.place | defined a ↦ reach t.field a pc t.name.place >>= λ d. ok (field t.field d) ])
    by outer = refuses _ refl
    by (defined a) = bound _ _ (reach-numbered t.field a pc t.name.place) λ d. gives _

    go :
        (x : Option Symbol)
        → Numbered {A = ℕ} (elim x [
          | none ↦ refuse 31 t.name.place
          | some s ↦ elim s.lab [ outer ↦ refuse 30 t.name.place | defined a ↦ reach t.field a pc t.name.place >>= λ d. ok (field t.field d) ]
        ])
    go none = refuses _ refl
    go (some s) = by s.lab

words-numbered : (ss : Table Name Symbol) (a : ℕ) (k : Op) (s : Stmt) → Numbered (words_of ss a k s)
unfolding words_of
words-numbered ss a orig s = gives _
words-numbered ss a end s = gives _
words-numbered ss a external s = gives _
words-numbered ss a blkw s = gives _
words-numbered ss a stringz s = gives _
words-numbered ss a fill s = go s.target
  where
    go : (x : Option Target) → Numbered {A = List Cell} (elim x [ none ↦ ok (word s.bits ∷ []) | some t ↦ address ss t.name >>= λ n. ok (word n ∷ []) ])
    go none = gives _
    go (some t) = bound _ _ (address-numbered ss t.name) λ n. gives _
words-numbered ss a instr s = go s.target
  where
    go : (x : Option Target) → Numbered {A = List Cell} (elim x [ none ↦ ok (word s.bits ∷ []) | some t ↦ offset_to ss (a + 1) t >>= λ n. ok (word (s.bits + n) ∷ []) ])
    go none = gives _
    go (some t) = bound _ _ (offset-numbered ss (a + 1) t) λ n. gives _

overlap-numbered : (p q : Span) → Numbered (overlapping p q)
unfolding overlapping known in_table refusals
overlap-numbered p q = chosen _ (refuses _ refl) (refuses _ refl)

place-numbered : (x : ObjBlock) (ys : List ObjBlock) → Numbered (place x ys)
unfolding place
place-numbered x [] = gives _
place-numbered x (y ∷ ys) = chosen _ (overlap-numbered x.place y.place) (chosen _ (gives _) (bound _ _ (place-numbered x ys) λ zs. gives _))

emit-numbered : (ss : Table Name Symbol) (s : Stmt) (t : Pass2State) → Numbered (emit ss s t)
unfolding emit known in_table refusals
emit-numbered ss s t = go t.current
  where
    go :
        (x : Option ObjBlock)
        → Numbered {A = Pass2State} (elim x [
          | none ↦ refuse 21 s.place
          | some x ↦ words_of ss (x.start + length x.words) s.op s >>= λ ws. ok (pass2_state (some (obj_block x.start (x.words ++ ws) x.place)) t.blocks)
        ])
    go none = refuses _ refl
    go (some x) = bound _ _ (words-numbered ss (x.start + length x.words) s.op s) λ ws. gives _

finish-numbered : (t : Pass2State) → Numbered (finish t)
unfolding finish
finish-numbered t = go t.current
  where
    go :
        (x : Option ObjBlock)
        → Numbered {A = Pass2State} (elim x [
          | none ↦ ok t
          | some x ↦
              when eqb (length x.words) 0 then ok (pass2_state none t.blocks)
              else (place x t.blocks >>= λ bs. ok (pass2_state none bs))
        ])
    go none = gives t
    go (some x) = chosen _ (gives _) (bound _ _ (place-numbered x t.blocks) λ bs. gives _)

written-numbered : (ss : Table Name Symbol) (k : Op) (s : Stmt) (t : Pass2State) → Numbered (written ss k s t)
unfolding written
written-numbered ss orig s t = gives _
written-numbered ss end s t = finish-numbered t
written-numbered ss external s t = gives t
written-numbered ss instr s t = emit-numbered ss s t
written-numbered ss fill s t = emit-numbered ss s t
written-numbered ss blkw s t = emit-numbered ss s t
written-numbered ss stringz s t = emit-numbered ss s t

two_numbered : (ss : Table Name Symbol) (rest : List Stmt) (t : Pass2State) → Numbered (pass_two ss rest t)
unfolding pass_two
two_numbered ss [] t = gives t
two_numbered ss (s ∷ rest) t = bound _ _ (written-numbered ss s.op s t) λ u. two_numbered ss rest u

-- THE LAW
pub assembling-numbered : (room : ℕ) (s : List ℕ) → Numbered (assemble room s)
unfolding assemble known in_table refusals
assembling-numbered room s =
    bound _ _ (lexed-numbered s) λ x. bound _ _ (statements-numbered s) λ ss. bound _ _ (one-numbered ss pass1_start) λ o.
    bound _ _ (required (leb o.words room) 41 nowhere refl) λ y. bound _ _ (two_numbered o.symbols ss pass2_start) λ t. gives _
