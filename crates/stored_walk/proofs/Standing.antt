-- What a field that is found says, by its tag and the length of its content. Assumes nothing.
use mathlib.Core.Path.{◌≡◌, refl, sym, ◌∙◌}
use mathlib.Core.Bool.{Bool, true, false}
use mathlib.Core.List.{List}
use Prim.Native.Nat.{ℕ, ◌+◌, ◌-◌, ◌*◌, ◌≤◌, ◌<◌}
use native.Mathlib.Omega.{arith}
use lib.ListN.{length, get_or}
use lib.Dec.{leb}
use borrow.Author.Tests.{leb-true, leb-false}
use Rattle.rules.specs.Objects.{outer, defined}
use Rattle.rules.specs.Stored.{cut_short, field, field_at, sets, gap, fin, block, run, label, reloc}
use Rattle.rules.proofs.Bools.{never}
use Rattle.laws_stored.specs.Offsets.{number_at, numbers_at, part_at, length_at, next_at}
use Rattle.laws_stored.proofs.Framed.{field_cut, field-there}
use Rattle.laws_stored.proofs.Accepted.{Finds, Mute}
use Rattle.laws_stored.proofs.Contents.{
  find-fin,
  mute-fin-at,
  find-block,
  mute-block-at,
  find-sets,
  mute-sets-at,
  find-gap,
  mute-gap-at,
  find-defined,
  mute-defined-at,
  find-outer,
  find-reloc,
  mute-reloc-at,
  mute-other-at,
}
use Rattle.stored_read.proofs.Found.{Stands}

-- tag and length, as the bytes have them
pub record Headed (b : List ℕ) (at t s e : ℕ) : Type 0 where
  pub fits : next_at b at ≤ length b
  pub tag : get_or b at 0 ≡ t
  pub size : length_at b at ≡ e - s
  pub next : next_at b at ≡ e

module _ (b : List ℕ) (at t s e : ℕ) (f : Stands b at t s e) where
  pub heads : Headed b at t s e
  heads = go (leb (next_at b at) (length b)) refl
    where
      go : (q : Bool) → leb (next_at b at) (length b) ≡ q → Headed b at t s e
      go true p =
          let y : field_at b at ≡ field (get_or b at 0) (part_at b (at + 3) (length_at b at)) (next_at b at) = field-there b at (leb-true (next_at b at) (length b) p) in
          let h = f.there in
          let n : next_at b at ≡ e = cc in
          record { fits = leb-true (next_at b at) (length b) p; tag = cc; size = omega (arith, f.begins); next = n }
      go false p =
          let y : field_at b at ≡ cut_short = field_cut b at (omega (arith, f.begins, f.ends, f.within)) (leb-false (next_at b at) (length b) p) in
          let h = f.there in
          never cc

module _ (b : List ℕ) (at s e : ℕ) where
  -- x00, empty
  pub stands-fin : Stands b at 0 s e → s ≡ e → Finds b at fin e
  stands-fin f l = let h = heads b at 0 s e f in rw h.next at (find-fin b at h.fits h.tag (omega (arith, h.size)))

  pub stands-fin-long : Stands b at 0 s e → (s ≡ e → ⊥) → Mute b at
  stands-fin-long f l = let h = heads b at 0 s e f in mute-fin-at b at h.fits h.tag (λ n. l (omega (arith, h.size, f.ends)))

  -- x01 block: start, word count
  pub stands-block : Stands b at 1 s e → e - s ≡ 4 → Finds b at (block (number_at b s) (number_at b (s + 2))) e
  stands-block f l =
      let h = heads b at 1 s e f in
      let p : at + 3 ≡ s = sym f.begins in
      let q : at + 5 ≡ s + 2 = omega arith in
      rw (h.next, p, q) at (find-block b at h.fits h.tag (h.size ∙ l))

  pub stands-block-not : Stands b at 1 s e → (e - s ≡ 4 → ⊥) → Mute b at
  stands-block-not f l = let h = heads b at 1 s e f in mute-block-at b at h.fits h.tag (λ n. l (sym h.size ∙ n))

  -- x02 set words
  pub stands-sets : (n : ℕ) → Stands b at 2 s e → e - s ≡ n * 2 → Finds b at (run (sets (numbers_at b s n))) e
  stands-sets n f l =
      let h = heads b at 2 s e f in
      let p : at + 3 ≡ s = sym f.begins in
      rw (h.next, p) at (find-sets b at h.fits n h.tag (h.size ∙ l))

  pub stands-sets-odd : (n : ℕ) → Stands b at 2 s e → e - s ≡ n * 2 + 1 → Mute b at
  stands-sets-odd n f l = let h = heads b at 2 s e f in mute-sets-at b at h.fits n h.tag (h.size ∙ l)

  -- x03 count of unset words
  pub stands-gap : Stands b at 3 s e → e - s ≡ 2 → Finds b at (run (gap (number_at b s))) e
  stands-gap f l =
      let h = heads b at 3 s e f in
      let p : at + 3 ≡ s = sym f.begins in
      rw (h.next, p) at (find-gap b at h.fits h.tag (h.size ∙ l))

  pub stands-gap-not : Stands b at 3 s e → (e - s ≡ 2 → ⊥) → Mute b at
  stands-gap-not f l = let h = heads b at 3 s e f in mute-gap-at b at h.fits h.tag (λ n. l (sym h.size ∙ n))

  -- x04 defined label: address, name
  pub stands-defined : Stands b at 4 s e → 2 ≤ e - s → Finds b at (label (part_at b (s + 2) (e - (s + 2))) (defined (number_at b s))) e
  stands-defined f l =
      let h = heads b at 4 s e f in
      let p : at + 3 ≡ s = sym f.begins in
      let q : at + 5 ≡ s + 2 = omega arith in
      let n : length_at b at - 2 ≡ e - (s + 2) = omega (arith, h.size) in
      rw (h.next, n, p, q) at (find-defined b at h.fits h.tag (omega (arith, h.size)))

  pub stands-defined-not : Stands b at 4 s e → e - s < 2 → Mute b at
  stands-defined-not f l = let h = heads b at 4 s e f in mute-defined-at b at h.fits h.tag (omega (arith, h.size))

  -- x05 external: name
  pub stands-outer : Stands b at 5 s e → Finds b at (label (part_at b s (e - s)) outer) e
  stands-outer f =
      let h = heads b at 5 s e f in
      let p : at + 3 ≡ s = sym f.begins in
      rw (h.next, h.size, p) at (find-outer b at h.fits h.tag)

  -- x06 relocation: address, name
  pub stands-reloc : Stands b at 6 s e → 2 ≤ e - s → Finds b at (reloc (number_at b s) (part_at b (s + 2) (e - (s + 2)))) e
  stands-reloc f l =
      let h = heads b at 6 s e f in
      let p : at + 3 ≡ s = sym f.begins in
      let q : at + 5 ≡ s + 2 = omega arith in
      let n : length_at b at - 2 ≡ e - (s + 2) = omega (arith, h.size) in
      rw (h.next, n, p, q) at (find-reloc b at h.fits h.tag (omega (arith, h.size)))

  pub stands-reloc-not : Stands b at 6 s e → e - s < 2 → Mute b at
  stands-reloc-not f l = let h = heads b at 6 s e f in mute-reloc-at b at h.fits h.tag (omega (arith, h.size))

  -- other tags
  pub stands-other : (t : ℕ) → Stands b at t s e → 7 ≤ t → Mute b at
  stands-other t f l = let h = heads b at t s e f in mute-other-at b at h.fits (omega (arith, h.tag))
