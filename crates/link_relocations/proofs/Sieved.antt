-- Relocations that stay open: the test, and what a row more adds. Assumes nothing.
use mathlib.Core.Path.{◌≡◌, refl, sym, ◌∙◌, ap}
use mathlib.Core.Bool.{Bool, true, false}
use mathlib.Core.List.{List, [], ◌∷◌, ◌++◌}
use mathlib.Core.Option.{Option, none, some}
use Prim.Native.Nat.{ℕ, ◌+◌, ◌*◌, ◌<◌}
use lib.Dec.{eqb}
use lib.ListN.{length, get_or}
use Rattle.rules.specs.Base.{when◌then◌else◌}
use Rattle.rules.specs.Tables.{Table, hold, sieve}
use Rattle.base_buffers.specs.Rows.{with_row}
use Rattle.link_notes.specs.Notes.{open_mark, note_row, carried}
use Rattle.link_relocations.specs.Open.{kept_if, is_open, open_rows, put_open, row_after, Placed}

-- the test reads the note of the relocation's label
pub open_told : (ns : List ℕ) (q p x : ℕ) → x ≡ (note_row ns q).1 → q ≡ p → eqb x open_mark ≡ is_open (note_row ns p)
open_told ns q p x a b = ap (λ (y : ℕ). eqb y open_mark) a ∙ ap (λ (y : ℕ). is_open (note_row ns y)) b

hold-append : {K U : Type 0} (k : K) (o : Option U) (s t : Table K U) → hold k o (s ++ t) ≡ hold k o s ++ t
hold-append k none s t = refl
hold-append k (some u) s t = refl

sieve-append : {K U : Type 0} (f : U → Option U) (s t : Table K U) → sieve f (s ++ t) ≡ sieve f s ++ sieve f t
sieve-append f [] t = refl
sieve-append f (e ∷ s) t = ap (hold e.0 (f e.1)) (sieve-append f s t) ∙ hold-append e.0 (f e.1) (sieve f s) (sieve f t)

pub open-append : (s t : Table ℕ (ℕ × ℕ)) → open_rows (s ++ t) ≡ open_rows s ++ open_rows t
unfolding open_rows
open-append s t = sieve-append (λ v. kept_if (is_open v) v) s t

pub open_none : open_rows [] ≡ []
unfolding open_rows
open_none = refl

-- a relocation at the front stays or goes
pub open_stays : (e : ℕ × (ℕ × ℕ)) (t : Table ℕ (ℕ × ℕ)) → is_open e.1 ≡ true → open_rows (e ∷ t) ≡ e ∷ open_rows t
unfolding open_rows
open_stays e t q = rw q refl

pub open-goes : (e : ℕ × (ℕ × ℕ)) (t : Table ℕ (ℕ × ℕ)) → is_open e.1 ≡ false → open_rows (e ∷ t) ≡ open_rows t
unfolding open_rows
open-goes e t q = rw q refl

-- and a table takes it or not
pub put-stays : (e : ℕ × (ℕ × ℕ)) (k : ℕ) (out : List ℕ) → is_open e.1 ≡ true → put_open e k out ≡ with_row out k e.0 e.1.0
unfolding put_open when◌then◌else◌
put-stays e k out q = rw q refl

pub put-goes : (e : ℕ × (ℕ × ℕ)) (k : ℕ) (out : List ℕ) → is_open e.1 ≡ false → put_open e k out ≡ out
unfolding put_open when◌then◌else◌
put-goes e k out q = rw q refl

pub row_stays : (e : ℕ × (ℕ × ℕ)) (k : ℕ) → is_open e.1 ≡ true → row_after e k ≡ k + 1
unfolding row_after when◌then◌else◌
row_stays e k q = rw q refl

pub row_goes : (e : ℕ × (ℕ × ℕ)) (k : ℕ) → is_open e.1 ≡ false → row_after e k ≡ k
unfolding row_after when◌then◌else◌
row_goes e k q = rw q refl

-- WHAT PUTTING A RELOCATION LEAVES

module _ {rs ns : List ℕ} {i : ℕ} {out : List ℕ} {k : ℕ} (p : Placed rs ns i out k) where
  module _ {t : Bool} (q : t ≡ is_open (carried rs ns i).1) where
    pub room_open : t ≡ true → k * 2 + 1 < length out
    room_open e = p.room (sym q ∙ e)

    pub after-stays : t ≡ true → k + 1 ≡ row_after (carried rs ns i) k
    after-stays e = sym (row_stays (carried rs ns i) k (sym q ∙ e))

    pub after-goes : t ≡ false → k ≡ row_after (carried rs ns i) k
    after-goes e = sym (row_goes (carried rs ns i) k (sym q ∙ e))

    pub left-stays : {out' : List ℕ} {x y : ℕ} → t ≡ true → x ≡ (note_row ns y).0 → y ≡ get_or rs (i * 2 + 1) 0 → out' ≡ with_row out k (get_or rs (i * 2) 0) x
        → out' ≡ put_open (carried rs ns i) k out
    left-stays {out'} {x} {y} e f g h =
        h ∙ (ap (with_row out k (get_or rs (i * 2) 0)) (f ∙ ap (λ (z : ℕ). (note_row ns z).0) g) ∙ sym (put-stays (carried rs ns i) k out (sym q ∙ e)))

    pub left-goes : t ≡ false → out ≡ put_open (carried rs ns i) k out
    left-goes e = sym (put-goes (carried rs ns i) k out (sym q ∙ e))
