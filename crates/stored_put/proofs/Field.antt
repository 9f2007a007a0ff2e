-- What a field that is found says, by its tag and its content. Assumes nothing.
use mathlib.Core.Path.{◌≡◌, refl, sym, ◌∙◌, ap}
use mathlib.Core.Bool.{false}
use mathlib.Core.List.{List, [], ◌∷◌, ◌++◌}
use Prim.Native.Nat.{ℕ, ◌+◌, ◌-◌, ◌/◌, ◌%◌, ◌≤◌}
use native.Mathlib.Omega.{arith}
use lib.ListN.{length, take, drop, get_or}
use lib.Seq.{get_or-drop, drop-drop, take_at}
use Rattle.rules.specs.Objects.{outer, defined, Name}
use Rattle.rules.specs.Stored.{sets, gap, Item, fin, block, run, label, reloc, pairs, tag_of, content, frame, is_fin}
use Rattle.rules.proofs.Bools.{never}
use Rattle.laws_stored.specs.Beginnings.{AreBytes}
use Rattle.laws_stored.specs.Offsets.{number_at, numbers_at, part_at}
use Rattle.laws_stored.proofs.Framed.{all-bytes, whole, content-meant, field-bytes}
use Rattle.laws_stored.proofs.Accepted.{Finds, found-extent, found-spelled}

-- where bytes l stand in b, their numbers do
number_in : (b l : List ℕ) (p k : ℕ) → drop p b ≡ l → number_at b (p + k) ≡ number_at l k
number_in b l p k e =
    let h : get_or b (p + k) 0 ≡ get_or l k 0 = sym (get_or-drop p b k 0) ∙ ap (λ (u : List ℕ). get_or u k 0) e in
    let z : p + k + 1 ≡ p + (k + 1) = omega arith in
    let t : get_or b (p + k + 1) 0 ≡ get_or l (k + 1) 0 = ap (λ (i : ℕ). get_or b i 0) z ∙ (sym (get_or-drop p b (k + 1) 0) ∙ ap (λ (u : List ℕ). get_or u (k + 1) 0) e) in
    cc

number-here : (b l : List ℕ) (p n : ℕ) → drop p b ≡ n / 256 ∷ n % 256 ∷ l → number_at b p ≡ n
number-here b l p n e = let z : p + 0 ≡ p = omega arith in (rw z at (number_in b (n / 256 ∷ n % 256 ∷ l) p 0 e)) ∙ whole n

drop-two : (b l : List ℕ) (p x y : ℕ) → drop p b ≡ x ∷ y ∷ l → drop (p + 2) b ≡ l
drop-two b l p x y e = sym (drop-drop 2 p b) ∙ ap (drop 2) e

-- words are the numbers there
numbers-here : (ws b l : List ℕ) (p : ℕ) → drop p b ≡ pairs ws ++ l → numbers_at b p (length ws) ≡ ws
unfolding numbers_at
numbers-here [] b l p e = refl
numbers-here (w ∷ ws) b l p e =
    let h = number-here b (pairs ws ++ l) p w e in
    let t = numbers-here ws b l (p + 2) (drop-two b (pairs ws ++ l) p (w / 256) (w % 256) e) in
    cc

-- a name is the part there
part-here : (b n l : List ℕ) (p k : ℕ) → k ≡ length n → drop p b ≡ n ++ l → part_at b p k ≡ n
unfolding part_at
part-here b n l p k z e = ap (take k) e ∙ take_at n l k (sym z)

length_pairs : (ws : List ℕ) → length (pairs ws) ≡ length ws + length ws
length_pairs [] = refl
length_pairs (w ∷ ws) = let e = length_pairs ws in omega arith

-- A FIELD THAT SAYS AN ITEM

module _ (b : List ℕ) (at : ℕ) (i : Item) (z : ℕ) (v : AreBytes b) (f : Finds b at i z) where
  spelled : drop at b ≡ frame (tag_of i) (content i) ++ drop z b
  spelled = found-spelled b at i z (all-bytes b v) f

  pub tag-there : get_or b at 0 ≡ tag_of i
  tag-there = let e : at + 0 ≡ at = omega arith in rw e at (sym (get_or-drop at b 0 0) ∙ ap (λ (u : List ℕ). get_or u 0 0) spelled)

  -- the content begins behind tag and length
  body-there : drop (at + 3) b ≡ content i ++ drop z b
  body-there = sym (drop-drop 3 at b) ∙ ap (drop 3) spelled

  pub ends_there : z ≡ at + 3 + length (content i)
  ends_there =
      let u = content-meant f.tag f.body i (field-bytes b at f.tag f.body z (all-bytes b v) f.there) f.says in
      (found-extent b at i z f).after ∙ ap (λ (l : List ℕ). at + 3 + length l) (sym u.body)

  pub within-there : z ≤ length b
  within-there = (found-extent b at i z f).within

-- x01: a start and a word count
pub record BlockField (b : List ℕ) (at : ℕ) (i : Item) : Type 0 where
  pub says : i ≡ block (number_at b (at + 3)) (number_at b (at + 3 + 2))
  pub there : at + 3 + 4 ≤ length b

pub block-field : (b : List ℕ) (at : ℕ) (i : Item) (z : ℕ) → AreBytes b → Finds b at i z → get_or b at 0 ≡ 1 → BlockField b at i
block-field b at fin z v f e = let q = tag-there b at fin z v f in absurd (omega arith)
block-field b at (block a n) z v f e =
    let d = body-there b at (block a n) z v f in
    let p = number-here b (n / 256 ∷ n % 256 ∷ drop z b) (at + 3) a d in
    let q = number-here b (drop z b) (at + 3 + 2) n (drop-two b (n / 256 ∷ n % 256 ∷ drop z b) (at + 3) (a / 256) (a % 256) d) in
    record { says = rw (p, q) refl; there = omega (arith, ends_there b at (block a n) z v f, within-there b at (block a n) z v f) }
block-field b at (run (sets ws)) z v f e = let q = tag-there b at (run (sets ws)) z v f in absurd (omega arith)
block-field b at (run (gap n)) z v f e = let q = tag-there b at (run (gap n)) z v f in absurd (omega arith)
block-field b at (label n (defined a)) z v f e = let q = tag-there b at (label n (defined a)) z v f in absurd (omega arith)
block-field b at (label n outer) z v f e = let q = tag-there b at (label n outer) z v f in absurd (omega arith)
block-field b at (reloc a n) z v f e = let q = tag-there b at (reloc a n) z v f in absurd (omega arith)

-- x02: words
pub record SetsField (b : List ℕ) (at : ℕ) (i : Item) : Type 0 where
  pub count : ℕ
  pub says : i ≡ run (sets (numbers_at b (at + 3) count))
  pub there : at + 3 + count + count ≤ length b

pub sets-field : (b : List ℕ) (at : ℕ) (i : Item) (z : ℕ) → AreBytes b → Finds b at i z → get_or b at 0 ≡ 2 → SetsField b at i
sets-field b at fin z v f e = let q = tag-there b at fin z v f in absurd (omega arith)
sets-field b at (block a n) z v f e = let q = tag-there b at (block a n) z v f in absurd (omega arith)
sets-field b at (run (sets ws)) z v f e = record {
  count = length ws;
  says = ap (λ (u : List ℕ). run (sets u)) (sym (numbers-here ws b (drop z b) (at + 3) (body-there b at (run (sets ws)) z v f)));
  there = omega (arith, ends_there b at (run (sets ws)) z v f, within-there b at (run (sets ws)) z v f, length_pairs ws);
}
sets-field b at (run (gap n)) z v f e = let q = tag-there b at (run (gap n)) z v f in absurd (omega arith)
sets-field b at (label n (defined a)) z v f e = let q = tag-there b at (label n (defined a)) z v f in absurd (omega arith)
sets-field b at (label n outer) z v f e = let q = tag-there b at (label n outer) z v f in absurd (omega arith)
sets-field b at (reloc a n) z v f e = let q = tag-there b at (reloc a n) z v f in absurd (omega arith)

-- x04: an address and a name
pub record DefinedField (b : List ℕ) (at : ℕ) (i : Item) (z : ℕ) : Type 0 where
  pub says : i ≡ label (part_at b (at + 3 + 2) (z - (at + 3 + 2))) (defined (number_at b (at + 3)))
  pub there : at + 3 + 2 ≤ length b

pub defined-field : (b : List ℕ) (at : ℕ) (i : Item) (z : ℕ) → AreBytes b → Finds b at i z → get_or b at 0 ≡ 4 → DefinedField b at i z
defined-field b at fin z v f e = let q = tag-there b at fin z v f in absurd (omega arith)
defined-field b at (block a n) z v f e = let q = tag-there b at (block a n) z v f in absurd (omega arith)
defined-field b at (run (sets ws)) z v f e = let q = tag-there b at (run (sets ws)) z v f in absurd (omega arith)
defined-field b at (run (gap n)) z v f e = let q = tag-there b at (run (gap n)) z v f in absurd (omega arith)
defined-field b at (label n (defined a)) z v f e =
    let d = body-there b at (label n (defined a)) z v f in
    let y = ends_there b at (label n (defined a)) z v f in
    let p = number-here b (n ++ drop z b) (at + 3) a d in
    let q = part-here b n (drop z b) (at + 3 + 2) (z - (at + 3 + 2)) (omega arith) (drop-two b (n ++ drop z b) (at + 3) (a / 256) (a % 256) d) in
    record { says = rw (p, q) refl; there = omega (arith, within-there b at (label n (defined a)) z v f) }
defined-field b at (label n outer) z v f e = let q = tag-there b at (label n outer) z v f in absurd (omega arith)
defined-field b at (reloc a n) z v f e = let q = tag-there b at (reloc a n) z v f in absurd (omega arith)

-- x05: a name
pub external-field : (b : List ℕ) (at : ℕ) (i : Item) (z : ℕ) → AreBytes b → Finds b at i z → get_or b at 0 ≡ 5 → i ≡ label (part_at b (at + 3) (z - (at + 3))) outer
external-field b at fin z v f e = let q = tag-there b at fin z v f in absurd (omega arith)
external-field b at (block a n) z v f e = let q = tag-there b at (block a n) z v f in absurd (omega arith)
external-field b at (run (sets ws)) z v f e = let q = tag-there b at (run (sets ws)) z v f in absurd (omega arith)
external-field b at (run (gap n)) z v f e = let q = tag-there b at (run (gap n)) z v f in absurd (omega arith)
external-field b at (label n (defined a)) z v f e = let q = tag-there b at (label n (defined a)) z v f in absurd (omega arith)
external-field b at (label n outer) z v f e =
    let y = ends_there b at (label n outer) z v f in
    rw (part-here b n (drop z b) (at + 3) (z - (at + 3)) (omega arith) (body-there b at (label n outer) z v f)) refl
external-field b at (reloc a n) z v f e = let q = tag-there b at (reloc a n) z v f in absurd (omega arith)

-- x06: an address and a name
pub record RelocField (b : List ℕ) (at : ℕ) (i : Item) : Type 0 where
  pub name : Name
  pub says : i ≡ reloc (number_at b (at + 3)) name
  pub there : at + 3 + 2 ≤ length b

pub reloc-field : (b : List ℕ) (at : ℕ) (i : Item) (z : ℕ) → AreBytes b → Finds b at i z → get_or b at 0 ≡ 6 → RelocField b at i
reloc-field b at fin z v f e = let q = tag-there b at fin z v f in absurd (omega arith)
reloc-field b at (block a n) z v f e = let q = tag-there b at (block a n) z v f in absurd (omega arith)
reloc-field b at (run (sets ws)) z v f e = let q = tag-there b at (run (sets ws)) z v f in absurd (omega arith)
reloc-field b at (run (gap n)) z v f e = let q = tag-there b at (run (gap n)) z v f in absurd (omega arith)
reloc-field b at (label n (defined a)) z v f e = let q = tag-there b at (label n (defined a)) z v f in absurd (omega arith)
reloc-field b at (label n outer) z v f e = let q = tag-there b at (label n outer) z v f in absurd (omega arith)
reloc-field b at (reloc a n) z v f e =
    let p = number-here b (n ++ drop z b) (at + 3) a (body-there b at (reloc a n) z v f) in
    record { name = n; says = rw p refl; there = omega (arith, ends_there b at (reloc a n) z v f, within-there b at (reloc a n) z v f) }

-- x03: a count; no other tag is left but x00
pub record GapField (i : Item) : Type 0 where
  pub count : ℕ
  pub says : i ≡ run (gap count)

module _ (b : List ℕ) (at : ℕ) (n1 : get_or b at 0 ≡ 1 → ⊥) (n2 : get_or b at 0 ≡ 2 → ⊥) (n4 : get_or b at 0 ≡ 4 → ⊥) (n5 : get_or b at 0 ≡ 5 → ⊥) (n6 : get_or b at 0 ≡ 6 → ⊥) where
  pub gap-field : (i : Item) (z : ℕ) → AreBytes b → Finds b at i z → is_fin i ≡ false → GapField i
  gap-field fin z v f e = never cc
  gap-field (block a n) z v f e = absurd (n1 (tag-there b at (block a n) z v f))
  gap-field (run (sets ws)) z v f e = absurd (n2 (tag-there b at (run (sets ws)) z v f))
  gap-field (run (gap n)) z v f e = record { count = n; says = refl }
  gap-field (label n (defined a)) z v f e = absurd (n4 (tag-there b at (label n (defined a)) z v f))
  gap-field (label n outer) z v f e = absurd (n5 (tag-there b at (label n outer) z v f))
  gap-field (reloc a n) z v f e = absurd (n6 (tag-there b at (reloc a n) z v f))
