-- The statements of a source have names that an object may have and words of two bytes. Assumes nothing.
use mathlib.Core.Path.{◌≡◌, refl, sym, ◌∙◌, ap}
use mathlib.Core.Bool.{Bool, true, false, ◌||◌}
use mathlib.Core.List.{List, [], ◌∷◌}
use mathlib.Core.Option.{Option, none, some}
use Prim.Native.Nat.{ℕ, zero, suc, ◌+◌, ◌-◌, ◌<◌}
use native.Mathlib.Nat.{mod-lt}
use native.Mathlib.Omega.{arith}
use lib.Dec.{eqb, ltb}
use lib.ListN.{length, drop}
use borrow.Author.Tests.{ltb-true}
use Rattle.rules.specs.Base.{when◌then◌else◌, Outcome, ok, require, ◌>>=◌, span}
use Rattle.rules.specs.Tokens.{escape, ascii}
use Rattle.rules.specs.Words.{field}
use Rattle.rules.specs.Statements.{Name, Target, Stmt, Read, name_at, past_lines, past_label, labels_from, labels_at, next_statement, statements_from, statements_at, statements}
use Rattle.rules.specs.Objects.{good_name}
use Rattle.rules.proofs.Gave.{gave}
use Rattle.rules.proofs.Tables.{none-some}
use Rattle.rules.proofs.Bools.{never}
use Rattle.base_text.specs.Runs.{from}
use Rattle.lex_literals.specs.declared.StringChar.{StringChar}
use Rattle.lex_literals.specs.declared.StringChar.TheVariants.{Char, Done}
use Rattle.lex_literals.specs.Strings.{first_of, after_backslash, char_at}
use Rattle.parse_operands.specs.Lines.{reach_of}
use Rattle.parse.proofs.Reach.{no_target}
use Rattle.parse_labels.proofs.Texts.{name-stands}
use Rattle.laws.proofs.Known.{Names, Low, Sound, AllSound}
use Rattle.parse_meaning.specs.Reading.{chars_from, chars_at}
use Rattle.parse_meaning.proofs.Taken.{Stands}
use Rattle.parse_meaning.proofs.Read.{statement-known}

-- LABELS
labels-named : (k : ℕ) (s : List ℕ) (i : ℕ) → Names (labels_from k s i)
unfolding labels_from
labels-named zero s i = tt
labels-named (suc k) s i = go (name_at s (past_lines s i)) refl (labels-named k s (past_label s i))
  where
    go : (o : Option Name) → name_at s (past_lines s i) ≡ o → Names (labels_from k s (past_label s i)) → Names (elim o as (λ x. List Name) [ none ↦ [] | some n ↦ n ∷ labels_from k s (past_label s i) ])
    go none q ih = tt
    go (some n) q ih = ((name-stands s (past_lines s i) n q).good, ih)

labels_at_lem : (s : List ℕ) (i : ℕ) → Names (labels_at s i)
unfolding labels_at
labels_at_lem s i = labels-named (length s - i) s i

-- CHARACTERS
abbrev LowChar : StringChar → Type 0
LowChar (Char c j) = c < 65536
LowChar Done = Unit {0}

low-drop : (s : List ℕ) (i : ℕ) → Low s → Low (drop i s)
low-drop s zero h = h
low-drop [] (suc i) h = tt
low-drop (c ∷ s) (suc i) h = low-drop s i h.1

escape-low : (at d : ℕ) → d < 65536 → LowChar (first_of at (escape d))
unfolding escape when◌then◌else◌
escape-low at d h = go (eqb d 110) (eqb d 114) (eqb d 116) (eqb d 48)
  where
    last : (b : Bool) → LowChar (first_of at (when b then d ∷ [] else 92 ∷ d ∷ []))
    last true = h
    last false = omega arith

    go : (a b c e : Bool) → LowChar (first_of at (when a then 10 ∷ [] else when b then 13 ∷ [] else when c then 9 ∷ [] else when e then 0 ∷ [] else when eqb d 92 || eqb d 34 then d ∷ [] else 92 ∷ d ∷ []))
    go true b c e = omega arith
    go false true c e = omega arith
    go false false true e = omega arith
    go false false false true = omega arith
    go false false false false = last (eqb d 92 || eqb d 34)

back_low : (at : ℕ) (s : List ℕ) → Low s → LowChar (after_backslash at s)
unfolding after_backslash
back_low at [] h = omega arith
back_low at (d ∷ s) h = escape-low at d h.0

char-low : (at : ℕ) (s : List ℕ) → Low s → LowChar (char_at at s)
unfolding char_at when◌then◌else◌
char-low at [] h = tt
char-low at (c ∷ s) h = go (eqb c 34) (eqb c 92)
  where
    go : (q k : Bool) → LowChar (when q then Done else when k then after_backslash at s else Char c (at + 1))
    go true k = tt
    go false true = back_low at s h.1
    go false false = h.0

chars-low : (k : ℕ) (s : List ℕ) (i : ℕ) → Low s → Low (chars_from k s i)
unfolding chars_from from
chars-low zero s i h = tt
chars-low (suc k) s i h = go (char_at i (drop i s)) (char-low i (drop i s) (low-drop s i h)) (λ j. chars-low k s j h)
  where
    go : (o : StringChar) → LowChar o → ((j : ℕ) → Low (chars_from k s j)) → Low (elim o as (λ x. List ℕ) [ Char c j ↦ c ∷ chars_from k s j | Done ↦ [] ])
    go (Char c j) l ih = (l, ih j)
    go Done l ih = tt

chars-at : (s : List ℕ) (i : ℕ) → Low s → Low (chars_at s i)
unfolding chars_at
chars-at s i h = chars-low (length s - i) s i h

-- A STATEMENT
field-low : (t : Target) (b d : ℕ) → (t.field.modulus ≡ 0 → ⊥) → b + (t.field.modulus - 1) < 65536 → b + field t.field d < 65536
unfolding field
field-low t b d n l = let m = mod-lt d {m = t.field.modulus} (omega (arith, n)) in omega (arith, l, m)

module _ (s : List ℕ) (h : Low s) where
  sound : (i : ℕ) (x : Read) → next_statement s i ≡ ok (some x) → Sound x.stmt
  sound i x e =
      let k = statement-known s i x e in
      record {
        labels = rw k.labels (labels_at_lem s i);
        target = λ t q. named t (rw q at k.stands);
        bits = omega (arith, k.low);
        offset = λ t q d. field-low t x.stmt.bits d (λ z. none-some (sym (no_target s i x e (ap reach_of q ∙ z)) ∙ q)) (rw q at k.low);
        chars = λ q. rw (k.text q) (chars-at s (x.stmt.quote.start + 1) h);
      }
    where
      named : (t : Target) → Stands s (some t) → good_name t.name.text ≡ true
      named t l = l.good

  all_from : (k i : ℕ) (ss : List Stmt) → statements_from k s i ≡ ok ss → AllSound ss
  unfolding statements_from
  all_from zero i ss e = let q : [] ≡ ss = cc in rw (← q) tt
  all_from (suc k) i ss e =
      let u = gave (next_statement s i) _ ss e in
      go u.given' u.first u.then' (λ j. all_from k j)
    where
      go : (m : Option Read) → next_statement s i ≡ ok m → ◌≡◌ {A = Outcome (List Stmt)} (elim m [ none ↦ ok [] | some r ↦ statements_from k s r.next >>= λ ss. ok (r.stmt ∷ ss) ]) (ok ss) → ((j : ℕ) (rs : List Stmt) → statements_from k s j ≡ ok rs → AllSound rs) → AllSound ss
      go none q x ih = let z : [] ≡ ss = cc in rw (← z) tt
      go (some r) q x ih =
          let w = gave (statements_from k s r.next) _ ss x in
          let z : r.stmt ∷ w.given' ≡ ss = cc w.then' in
          rw (← z) (sound i r q, ih r.next w.given' w.first)

  pub all_sound_lem : (ss : List Stmt) → statements s ≡ ok ss → AllSound ss
  unfolding statements statements_at
  all_sound_lem ss e = all_from (length s - 0 + 1) 0 ss e

-- BYTES: those of a source that is lexed are ASCII
pub ascii-low : (i : ℕ) (s : List ℕ) → ascii i s ≡ ok tt → Low s
unfolding ascii
ascii-low i [] e = tt
ascii-low i (c ∷ s) e = go (ltb c 128) refl e (ascii-low (i + 1) s)
  where
    go : (b : Bool) → ltb c 128 ≡ b → (require b 12 (span i (i + 1)) >>= λ x. ascii (i + 1) s) ≡ ok tt → (ascii (i + 1) s ≡ ok tt → Low s) → (c < 65536) × Low s
    go true q x ih = (let l = ltb-true c 128 q in omega (arith, l), ih x)
    go false q x ih = never cc
