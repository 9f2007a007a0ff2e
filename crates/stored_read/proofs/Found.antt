-- The field at a position as the code tells it, the parts of the bytes, and what the code's answer says of the rules' field. Assumes nothing.
use Prim.Native.Nat.{ℕ, min, ◌+◌, ◌-◌, ◌≤◌, ◌<◌}
use mathlib.Core.Path.{◌≡◌, refl, sym, ap, ◌∙◌}
use mathlib.Core.Bool.{Bool, true, false}
use mathlib.Core.List.{List, []}
use native.Mathlib.Omega.{arith}
use lib.ListN.{length, get_or, take, drop, length-drop}
use lib.Dec.{leb}
use borrow.Author.Tests.{leb-true, leb-false}
use Rattle.std.proofs.lemmas.List.{take_min}
use Rattle.rules.specs.Stored.{over, cut_short, field, field_at}
use Rattle.rules.specs.Stored as rule
use Rattle.rules.proofs.Bools.{never}
use Rattle.laws_stored.specs.Offsets.{part_at, length_at, next_at}
use Rattle.laws_stored.proofs.Framed.{field-over, field-short, field_cut, field-there, field-extent}
use Rattle.stored_read.specs.declared.Field.{Field}
use Rattle.stored_read.specs.declared.Field.TheVariants.{Over, CutShort, Found}
use Rattle.stored_read.specs.Told.{told, content_of, meant}

-- THE FIELD AT A POSITION

module _ (b : List ℕ) (at : ℕ) where
  pub told_over : length b ≤ at → Over ≡ told at (field_at b at)
  unfolding told
  told_over h = rw (field-over b at h) refl

  pub told-short : at < length b → length b - at < 3 → CutShort ≡ told at (field_at b at)
  unfolding told
  told-short h k = rw (field-short b at h (omega arith)) refl

  pub told-cut : (n : ℕ) → 3 ≤ length b - at → n ≡ length_at b at → length b - (at + 3) < n → CutShort ≡ told at (field_at b at)
  unfolding told
  told-cut n h e k = rw (field_cut b at (omega arith) (omega arith)) refl

  pub told-found : (n : ℕ) → 3 ≤ length b - at → n ≡ length_at b at → n ≤ length b - (at + 3) → Found (get_or b at 0) (at + 3) (at + 3 + n) ≡ told at (field_at b at)
  unfolding told
  told-found n h e k = rw (field-there b at (omega arith), e) refl

-- PARTS

-- from s up to x, which is e or the bytes' end
module _ (b : List ℕ) (s e x : ℕ) (q : x ≡ min e (length b)) where
  pub part_some : take (x - s) (drop s b) ≡ part_at b s (e - s)
  unfolding part_at
  part_some = let n : x - s ≡ min (e - s) (length (drop s b)) = omega (arith, length-drop s b) in rw (n, take_min)

  pub part_none : x ≤ s → [] ≡ part_at b s (e - s)
  part_none h = let z : x - s ≡ 0 = omega arith in rw z at part_some

-- CONTENT

pub content-over : (b : List ℕ) → part_at b 0 (0 - 0) ≡ content_of b Over
unfolding part_at content_of
content-over b = refl

pub content-short : (b : List ℕ) → part_at b 0 (0 - 0) ≡ content_of b CutShort
unfolding part_at content_of
content-short b = refl

pub content-found : (b : List ℕ) (t s e : ℕ) → part_at b s (e - s) ≡ content_of b (Found t s e)
unfolding content_of
content-found b t s e = refl

-- WHAT THE ANSWER SAYS

-- of a field that is found: its place, and what the rules find there
pub record Stands (b : List ℕ) (at t s e : ℕ) : Type 0 where
  pub begins : s ≡ at + 3
  pub ends : s ≤ e
  pub within : e ≤ length b
  pub there : field_at b at ≡ field t (part_at b s (e - s)) e

module _ (b : List ℕ) (at : ℕ) where
  -- the content of a field that the rules find stands behind tag and length
  pub content-there : (t : ℕ) (c : List ℕ) (z : ℕ) → field_at b at ≡ field t c z → c ≡ part_at b (at + 3) (z - (at + 3))
  content-there t c z f = go (leb (next_at b at) (length b)) refl
    where
      go : (q : Bool) → leb (next_at b at) (length b) ≡ q → c ≡ part_at b (at + 3) (z - (at + 3))
      go true p =
          let y : field_at b at ≡ field (get_or b at 0) (part_at b (at + 3) (length_at b at)) (next_at b at) = field-there b at (leb-true (next_at b at) (length b) p) in
          let m : z ≡ next_at b at = cc in
          let n : z - (at + 3) ≡ length_at b at = omega arith in
          rw n cc
      go false p =
          let x = field-extent b at t c z f in
          let y : field_at b at ≡ cut_short = field_cut b at (omega (arith, x.after, x.within)) (leb-false (next_at b at) (length b) p) in
          never cc

  -- of an answer f
  module _ (f : Field) (h : f ≡ told at (field_at b at)) where
    pub says-over : f ≡ Over → field_at b at ≡ over
    unfolding told
    says-over k = go (field_at b at) (sym k ∙ h)
      where
        go : (x : rule.Field) → Over ≡ told at x → x ≡ over
        go over e = refl
        go cut_short e = never cc
        go (field t c z) e = never cc

    pub says-short : f ≡ CutShort → field_at b at ≡ cut_short
    unfolding told
    says-short k = go (field_at b at) (sym k ∙ h)
      where
        go : (x : rule.Field) → CutShort ≡ told at x → x ≡ cut_short
        go over e = never cc
        go cut_short e = refl
        go (field t c z) e = never cc

    pub says-found : (t s e : ℕ) → f ≡ Found t s e → Stands b at t s e
    unfolding told
    says-found t s e k = go (field_at b at) refl (sym k ∙ h)
      where
        go : (x : rule.Field) → field_at b at ≡ x → Found t s e ≡ told at x → Stands b at t s e
        go over d q = never cc
        go cut_short d q = never cc
        go (field t' c z) d q =
            let x = field-extent b at t' c z d in
            let e1 : t ≡ t' = cc in
            let e2 : s ≡ at + 3 = cc in
            let e3 : e ≡ z = cc in
            record {
              begins = e2;
              ends = omega (arith, x.after);
              within = omega (arith, x.within);
              there = rw (e1, e2, e3) (d ∙ ap (λ (l : List ℕ). field t' l z) (content-there t' c z d));
            }

  -- the code's answer means what the rules find
  pub meant-told : meant b (told at (field_at b at)) ≡ field_at b at
  unfolding told meant
  meant-told = go (field_at b at) refl
    where
      go : (f : rule.Field) → field_at b at ≡ f → meant b (told at f) ≡ f
      go over d = refl
      go cut_short d = refl
      go (field t c z) d = ap (λ (l : List ℕ). field t l z) (sym (content-there t c z d))

  -- and the content of what it tells is the field's
  pub content-told : (t : ℕ) (c : List ℕ) (z : ℕ) → field_at b at ≡ field t c z → content_of b (told at (field_at b at)) ≡ c
  unfolding told content_of
  content-told t c z f = rw f (sym (content-there t c z f))
