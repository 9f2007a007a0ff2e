-- What stands in the field of a label: its tag, and its name as a part of the bytes. Assumes nothing.
use mathlib.Core.Path.{◌≡◌, refl, sym, ◌∙◌}
use mathlib.Core.Bool.{Bool, true, false}
use mathlib.Core.List.{List, [], ◌∷◌}
use mathlib.Core.Option.{Option, none, some}
use Prim.Native.Nat.{ℕ, zero, suc, ◌+◌, ◌-◌, ◌*◌, ◌<◌}
use native.Mathlib.Omega.{arith}
use lib.ListN.{length, drop, get_or}
use lib.Dec.{leb}
use borrow.Author.Tests.{leb-true, leb-false}
use Rattle.rules.specs.Objects.{Lab, outer, defined, Name}
use Rattle.rules.specs.Stored.{is_outer, label, words, as_sets, meant, field, field_at}
use Rattle.rules.proofs.Bools.{never}
use Rattle.laws_stored.specs.Offsets.{part_at, next_at}
use Rattle.laws_stored.proofs.Framed.{field_cut, field-there, field-extent}
use Rattle.laws_stored.proofs.Contents.{drop-part}
use Rattle.stored_read.specs.Told.{told}
use Rattle.stored_read.specs.declared.Field.{Field}
use Rattle.stored_read.specs.declared.Field.TheVariants.{Over, CutShort, Found}
use Rattle.stored_read.proofs.Found.{Stands, says-over, says-short, says-found}
use Rattle.stored_seek.specs.Seeking.{LabelAt}

-- a field that says a label is of one of two tags
data SaysLabel (n : Name) (v : Lab) (t : ℕ) (c : List ℕ) : Type 0 where
  of-defined : (a : ℕ) → t ≡ 4 → drop 2 c ≡ n → v ≡ defined a → SaysLabel n v t c
  of-outer : t ≡ 5 → c ≡ n → v ≡ outer → SaysLabel n v t c

no-sets : (w : Option (List ℕ)) (n : Name) (v : Lab) → as_sets w ≡ some (label n v) → ⊥
no-sets none n v e = never cc
no-sets (some ws) n v e = never cc

says-label : (t : ℕ) (c : List ℕ) (n : Name) (v : Lab) → meant t c ≡ some (label n v) → SaysLabel n v t c
unfolding meant
says-label zero [] n v e = never cc
says-label zero (x ∷ c) n v e = never cc
says-label (suc zero) [] n v e = never cc
says-label (suc zero) (x ∷ []) n v e = never cc
says-label (suc zero) (x ∷ y ∷ []) n v e = never cc
says-label (suc zero) (x ∷ y ∷ z ∷ []) n v e = never cc
says-label (suc zero) (x ∷ y ∷ z ∷ w ∷ []) n v e = never cc
says-label (suc zero) (x ∷ y ∷ z ∷ w ∷ u ∷ c) n v e = never cc
says-label (suc (suc zero)) c n v e = absurd (no-sets (words c) n v e)
says-label (suc (suc (suc zero))) [] n v e = never cc
says-label (suc (suc (suc zero))) (x ∷ []) n v e = never cc
says-label (suc (suc (suc zero))) (x ∷ y ∷ []) n v e = never cc
says-label (suc (suc (suc zero))) (x ∷ y ∷ z ∷ c) n v e = never cc
says-label (suc (suc (suc (suc zero)))) [] n v e = never cc
says-label (suc (suc (suc (suc zero)))) (x ∷ []) n v e = never cc
says-label (suc (suc (suc (suc zero)))) (x ∷ y ∷ c) n v e = of-defined (x * 256 + y) refl (cc) (cc)
says-label (suc (suc (suc (suc (suc zero))))) c n v e = of-outer refl (cc) (cc)
says-label (suc (suc (suc (suc (suc (suc zero)))))) [] n v e = never cc
says-label (suc (suc (suc (suc (suc (suc zero)))))) (x ∷ []) n v e = never cc
says-label (suc (suc (suc (suc (suc (suc zero)))))) (x ∷ y ∷ c) n v e = never cc
says-label (suc (suc (suc (suc (suc (suc (suc t))))))) c n v e = never cc

-- what a field that is found there says
stands-says : (b : List ℕ) (at : ℕ) (x : Name × Lab) → LabelAt b at x → (t s e : ℕ) → Stands b at t s e → SaysLabel x.0 x.1 t (part_at b s (e - s))
stands-says b at x l t s e st =
    let f = l.found in
    let d = st.there in
    let y : t ≡ f.tag = cc in
    let z : part_at b s (e - s) ≡ f.body = cc in
    rw (y, z) (says-label f.tag f.body x.0 x.1 f.says)

-- the first byte of a field is its tag
field-tag : (b : List ℕ) (at t : ℕ) (c : List ℕ) (z : ℕ) → field_at b at ≡ field t c z → get_or b at 0 ≡ t
field-tag b at t c z f = go (leb (next_at b at) (length b)) refl
  where
    go : (q : Bool) → leb (next_at b at) (length b) ≡ q → get_or b at 0 ≡ t
    go true p = let y = field-there b at (leb-true (next_at b at) (length b) p) in cc
    go false p =
        let x = field-extent b at t c z f in
        let y = field_cut b at (omega (arith, x.after, x.within)) (leb-false (next_at b at) (length b) p) in
        never cc

-- THE NAME, for each way through the code. f is what the code finds at the position, r what it gives.

module _ (b : List ℕ) (at : ℕ) (f : Field) (h : f ≡ told at (field_at b at)) (r : List ℕ) where
  pub named-over : f ≡ Over → (x : Name × Lab) → LabelAt b at x → r ≡ x.0
  named-over k x l = let d = says-over b at f h k in let g = l.found in never (cc g.there)

  pub named-short : f ≡ CutShort → (x : Name × Lab) → LabelAt b at x → r ≡ x.0
  named-short k x l = let d = says-short b at f h k in let g = l.found in never (cc g.there)

  module _ (t s e : ℕ) (k : f ≡ Found t s e) where
    pub named-defined : t ≡ 4 → r ≡ part_at b (s + 2) (e - (s + 2)) → (x : Name × Lab) → LabelAt b at x → r ≡ x.0
    named-defined q p x l = go (stands-says b at x l t s e (says-found b at f h t s e k))
      where
        go : SaysLabel x.0 x.1 t (part_at b s (e - s)) → r ≡ x.0
        go (of-defined a u d v) = p ∙ (let m : e - (s + 2) ≡ e - s - 2 = omega arith in rw m (sym (drop-part b s (e - s) 2)) ∙ d)
        go (of-outer u d v) = absurd (omega arith)

    pub named-outer : (t ≡ 4 → ⊥) → r ≡ part_at b s (e - s) → (x : Name × Lab) → LabelAt b at x → r ≡ x.0
    named-outer q p x l = go (stands-says b at x l t s e (says-found b at f h t s e k))
      where
        go : SaysLabel x.0 x.1 t (part_at b s (e - s)) → r ≡ x.0
        go (of-defined a u d v) = absurd (q u)
        go (of-outer u d v) = p ∙ d

-- WHETHER IT IS AN EXTERNAL, by the tag

module _ (b : List ℕ) (at : ℕ) (x : Name × Lab) (l : LabelAt b at x) where
  pub label-in : at < length b
  label-in = let f = l.found in let w = field-extent b at f.tag f.body l.next f.there in omega (arith, w.after, w.within)

  label-says : SaysLabel x.0 x.1 (get_or b at 0) l.found.body
  label-says = let f = l.found in rw (field-tag b at f.tag f.body l.next f.there) (says-label f.tag f.body x.0 x.1 f.says)

  pub tag-outer : get_or b at 0 ≡ 5 → x.1 ≡ outer
  tag-outer q = go label-says
    where
      go : SaysLabel x.0 x.1 (get_or b at 0) l.found.body → x.1 ≡ outer
      go (of-defined a u d v) = absurd (omega arith)
      go (of-outer u d v) = v

  pub tag-defined : (get_or b at 0 ≡ 5 → ⊥) → is_outer (some x.1) ≡ false
  tag-defined q = go label-says
    where
      go : SaysLabel x.0 x.1 (get_or b at 0) l.found.body → is_outer (some x.1) ≡ false
      go (of-defined a u d v) = rw v refl
      go (of-outer u d v) = absurd (q u)
