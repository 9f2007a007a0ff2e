-- What a statement that was read is: the row of its first token, the operands that were read and the line's end. Assumes nothing.
use Prim.Native.Nat.{ℕ}
use mathlib.Core.Path.{◌≡◌, refl, subst}
use mathlib.Core.Bool.{Bool, true, false, ◌&&◌}
use mathlib.Core.List.{List, []}
use mathlib.Core.Option.{Option, none, some}
use lib.Dec.{eqb}
use lib.ListN.{length}
use Rattle.rules.specs.Base.{when◌then◌else◌, Outcome, ok, refuse}
use Rattle.rules.specs.Tokens.{Token}
use Rattle.rules.specs.Words.{Field, Row, find, instructions, directives}
use Rattle.rules.specs.Statements.{Name, Given, bare, is_mark, as_word, as_directive, need, ends, token_is, operands_from, line_end, Read, read, stmt, row_read, instr_read, token_read}
use Rattle.rules.proofs.Bools.{never, and_left}
use Rattle.rules.proofs.Gave.{gave}

module _ (s : List ℕ) (ls : List Name) (t : Token) where
  -- where the row comes from, and the fields that are read: all of the row's, or none after a NOP alone
  pub data Headed (r : Row) (fs : List Field) : Type 0 where
    whole : (w : List ℕ) → as_word t.kind ≡ some w → find w instructions ≡ some r → fs ≡ r.fields → Headed r fs
    alone : (w : List ℕ) → as_word t.kind ≡ some w → find w instructions ≡ some r → fs ≡ [] → Headed r fs
    directed : (d : List ℕ) → as_directive t.kind ≡ some d → find d directives ≡ some r → fs ≡ r.fields → Headed r fs

  pub record Rowed (x : Read) : Type 0 where
    pub row : Row
    pub fields : List Field
    pub other : ℕ
    pub headed : Headed row fields
    pub given' : Given
    pub taken : operands_from s fields other (bare row.base t.place.stop) ≡ ok given'
    pub ended : line_end s given'.stop ≡ ok x.next
    pub is : x.stmt ≡ stmt ls row.op given' t.place.start

  -- no statement is left at the end of the source only
  abbrev pub Inverted : Option Read → Type 0
  Inverted (some x) = Rowed x
  Inverted none = is_mark 0 t.kind ≡ true

  module _ (m : Option Read) where
    of_row : (r : Row) (fs : List Field) (other : ℕ) → Headed r fs → row_read s ls r t fs other ≡ ok m → Inverted m
    unfolding row_read
    of_row r fs other h e =
        let u = gave (operands_from s fs other (bare r.base t.place.stop)) _ m e in
        let w = gave (line_end s u.given'.stop) _ m u.then' in
        let q : some (read (stmt ls r.op u.given' t.place.start) w.given') ≡ m = cc w.then' in
        subst Inverted q (record { row = r; fields = fs; other = other; headed = h; given' = u.given'; taken = u.first; ended = w.first; is = refl })

    of-instr : (w : List ℕ) (r : Row) → as_word t.kind ≡ some w → find w instructions ≡ some r → instr_read s ls r t ≡ ok m → Inverted m
    unfolding instr_read when◌then◌else◌
    of-instr w r a f e = by-nop r.optional e
      where
        by_end : (b : Bool) → row_read s ls r t (when b then [] else r.fields) 13 ≡ ok m → Inverted m
        by_end true q = of_row r [] 13 (alone w a f refl) q
        by_end false q = of_row r r.fields 13 (whole w a f refl) q

        by-nop : (b : Bool) → (when b then row_read s ls r t (when token_is ends s t.place.stop then [] else r.fields) 13 else row_read s ls r t r.fields 14) ≡ ok m → Inverted m
        by-nop true q = by_end (token_is ends s t.place.stop) q
        by-nop false q = of_row r r.fields 14 (whole w a f refl) q

    pub inverted : token_read s ls t ≡ ok m → Inverted m
    unfolding token_read need when◌then◌else◌
    inverted e = by-dot (as_directive t.kind) refl e
      where
        by_row_lem : (d : List ℕ) → as_directive t.kind ≡ some d → (o : Option Row) → find d directives ≡ o → need o 13 t.place (λ r. row_read s ls r t r.fields 14) ≡ ok m → Inverted m
        by_row_lem d a none q h = never cc
        by_row_lem d a (some r) q h = of_row r r.fields 14 (directed d a q refl) h

        by-find : (w : List ℕ) → as_word t.kind ≡ some w → (o : Option Row) → find w instructions ≡ o → ◌≡◌ {A = Outcome (Option Read)} (elim o [ some r ↦ instr_read s ls r t | none ↦ refuse 16 t.place ]) (ok m) → Inverted m
        by-find w a none q h = never cc
        by-find w a (some r) q h = of-instr w r a q h

        by_end : (b : Bool) → (b ≡ true → is_mark 0 t.kind ≡ true) → (when b then ok none else refuse 13 t.place) ≡ ok m → Inverted m
        by_end true k h = let q : none ≡ m = cc in subst Inverted q (k refl)
        by_end false k h = never cc

        by_word : (o : Option (List ℕ)) → as_word t.kind ≡ o → ◌≡◌ {A = Outcome (Option Read)} (elim o [
          | some w ↦ elim (find w instructions) [ some r ↦ instr_read s ls r t | none ↦ refuse 16 t.place ]
          | none ↦ when is_mark 0 t.kind && eqb (length ls) 0 then ok none else refuse 13 t.place
        ]) (ok m) → Inverted m
        by_word none a h = by_end (is_mark 0 t.kind && eqb (length ls) 0) (and_left (is_mark 0 t.kind) (eqb (length ls) 0)) h
        by_word (some w) a h = by-find w a (find w instructions) refl h

        by-dot : (o : Option (List ℕ)) → as_directive t.kind ≡ o → ◌≡◌ {A = Outcome (Option Read)} (elim o [
          | some d ↦ need (find d directives) 13 t.place (λ r. row_read s ls r t r.fields 14)
          | none ↦ elim (as_word t.kind) [
            | some w ↦ elim (find w instructions) [ some r ↦ instr_read s ls r t | none ↦ refuse 16 t.place ]
            | none ↦ when is_mark 0 t.kind && eqb (length ls) 0 then ok none else refuse 13 t.place
          ]
        ]) (ok m) → Inverted m
        by-dot none a h = by_word (as_word t.kind) refl h
        by-dot (some d) a h = by_row_lem d a (find d directives) refl h
