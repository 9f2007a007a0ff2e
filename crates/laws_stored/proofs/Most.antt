-- No good object takes more bytes than `most_bytes`. Assumes nothing.
use mathlib.Core.Path.{◌≡◌, refl, ◌∙◌, ap}
use mathlib.Core.List.{List, [], ◌∷◌, ◌++◌}
use mathlib.Core.Option.{some}
use Prim.Native.Nat.{ℕ, suc, ◌+◌, ◌*◌, ◌≤◌}
use native.Mathlib.Omega.{arith}
use lib.ListN.{length, length-append}
use Rattle.rules.specs.Capacities.{name_room, word_room}
use Rattle.rules.specs.Tables.{Tri, less, same, more, Table, pick, look, nat_order, name_order, Before}
use Rattle.rules.specs.Objects.{Cell, Lab, outer, defined, Name, Object, flat, Good}
use Rattle.rules.specs.Stored.{Run, sets, gap, Item, fin, pairs, spell, runs_of, run_items, block_items, label_items, reloc_items, stored, Prev, free, kind, skipped, flatten}
use Rattle.rules.proofs.Bools.{never}
use Rattle.rules.proofs.Tables.{none-some}
use Rattle.rules.proofs.Chains.{Chain}
use Rattle.rules.proofs.Fits.{good_length}
use Rattle.laws_stored.specs.Sizes.{most_bytes}
use Rattle.laws_stored.proofs.Cut.{Canon, fits-some, flatten_runs, canon-runs}
use Rattle.laws_stored.proofs.Framed.{spell-append}
use Rattle.laws_stored.proofs.Written.{flatten-one}
use Rattle.laws_stored.proofs.Ordered.{Each, each_of, Ends, Ordered, good-ordered}

abbrev pub bytes_of : List Item → ℕ
bytes_of is = length (spell is)

pub bytes-append : (is js : List Item) → bytes_of (is ++ js) ≡ bytes_of is + bytes_of js
bytes-append is js = ap length (spell-append is js) ∙ length-append (spell is) (spell js)

-- WORDS: five bytes each at most, with seven for each block

pub length_pairs : (ws : List ℕ) → length (pairs ws) ≡ length ws * 2
length_pairs [] = refl
length_pairs (w ∷ ws) = let e = length_pairs ws in omega arith

runs-bytes : (p : Prev) (rs : List Run) → Canon p rs → bytes_of (run_items rs) ≤ length (flatten rs) * 5
runs-bytes p [] c = omega arith
runs-bytes p (sets ws ∷ rs) c =
    omega (arith, fits-some p (sets ws) c.0, runs-bytes (kind (sets ws)) rs c.1, flatten-one (sets ws) rs, length_pairs ws, length-append (pairs ws) (spell (run_items rs)))
runs-bytes p (gap n ∷ rs) c = omega (arith, fits-some p (gap n) c.0, runs-bytes skipped rs c.1, flatten-one (gap n) rs)

blocks-bytes : (bs : Table ℕ (List Cell)) → bytes_of (block_items bs) ≤ length bs * 7 + length (flat bs) * 5
blocks-bytes [] = omega arith
blocks-bytes (b ∷ bs) =
    omega (
      arith,
      bytes-append (run_items (runs_of b.1)) (block_items bs),
      runs-bytes free (runs_of b.1) (canon-runs b.1),
      ap length (flatten_runs b.1),
      blocks-bytes bs,
      length-append b.1 (flat bs),
    )

-- no more words than addresses
pub words-few : (y : ℕ) (bs : Table ℕ (List Cell)) → y ≤ word_room → Chain y bs → Ends bs → y + length (flat bs) ≤ word_room
words-few y [] l c e = omega arith
words-few y (b ∷ bs) l c e = omega (arith, words-few (b.0 + length b.1) bs e.0 c.2 e.1, c.0, length-append b.1 (flat bs))

-- LABELS: 69 bytes each at most, an external 67

abbrev Fits : Name → Lab → Type 0
Fits n v = length n ≤ name_room

labels-bytes : (t : Table Name Lab) → Each Fits t → bytes_of (label_items t) ≤ length t * 69
labels-bytes [] h = omega arith
labels-bytes ((n, outer) ∷ t) h = omega (arith, h.0, labels-bytes t h.1, length-append n (spell (label_items t)))
labels-bytes ((n, defined a) ∷ t) h = omega (arith, h.0, labels-bytes t h.1, length-append n (spell (label_items t)))

outer-bytes : (t : Table Name Lab) (n : Name) → Each Fits t → look name_order t n ≡ some outer → bytes_of (label_items t) + 2 ≤ length t * 69
outer-bytes [] n h q = absurd (none-some q)
outer-bytes ((m, outer) ∷ t) n h q = omega (arith, h.0, labels-bytes t h.1, length-append m (spell (label_items t)))
outer-bytes ((m, defined a) ∷ t) n h q = go (name_order.tri n m) q (outer-bytes t n h.1)
  where
    go : (c : Tri Before n m) → pick c (defined a) (look name_order t n) ≡ some outer → (look name_order t n ≡ some outer → bytes_of (label_items t) + 2 ≤ length t * 69)
        → bytes_of (label_items ((m, defined a) ∷ t)) + 2 ≤ suc (length t) * 69
    go (less k) r i = omega (arith, h.0, i r, length-append m (spell (label_items t)))
    go (same e) r i = never cc
    go (more k) r i = omega (arith, h.0, i r, length-append m (spell (label_items t)))

-- RELOCATIONS: 69 bytes each at most

abbrev Short : ℕ → Name → Type 0
Short a n = length n ≤ name_room

relocs-bytes : (t : Table ℕ Name) → Each Short t → bytes_of (reloc_items t) ≤ length t * 69
relocs-bytes [] h = omega arith
relocs-bytes (e ∷ t) h = omega (arith, h.0, relocs-bytes t h.1, length-append e.1 (spell (reloc_items t)))

-- ALL

pub stored-length : (o : Object) → length (stored o) ≡ bytes_of (block_items o.blocks) + (bytes_of (label_items o.labels) + (bytes_of (reloc_items o.relocs) + 3))
unfolding stored
stored-length o =
    omega (
      arith,
      bytes-append (block_items o.blocks) (label_items o.labels ++ (reloc_items o.relocs ++ (fin ∷ []))),
      bytes-append (label_items o.labels) (reloc_items o.relocs ++ (fin ∷ [])),
      bytes-append (reloc_items o.relocs) (fin ∷ []),
    )

-- No good object takes more bytes.
pub stored-most : (o : Object) → Good o → length (stored o) ≤ most_bytes
stored-most o g = go o.relocs refl
  where
    w : Ordered o
    w = good-ordered o g

    labels : Each Fits o.labels
    labels = each_of name_order Fits o.labels g.labels_up (λ n v q. good_length n (g.named n v q))

    relocs : Each Short o.relocs
    relocs = each_of nat_order Short o.relocs g.relocs_up (λ x n q. good_length n (g.named n outer (g.reloc_outer x n q)))

    words : length (flat o.blocks) ≤ word_room
    words = omega (arith, words-few 0 o.blocks (omega arith) w.chain w.ends)

    go : (t : Table ℕ Name) → o.relocs ≡ t → length (stored o) ≤ most_bytes
    go [] e =
        omega (
          arith,
          stored-length o,
          words,
          blocks-bytes o.blocks,
          labels-bytes o.labels labels,
          ap (λ (t : Table ℕ Name). bytes_of (reloc_items t)) e,
          w.few_blocks,
          w.few_labels,
        )
    go (r ∷ t) e =
        omega (
          arith,
          stored-length o,
          words,
          blocks-bytes o.blocks,
          outer-bytes o.labels r.1 labels (rw e at w.places).1.1,
          relocs-bytes o.relocs relocs,
          w.few_blocks,
          w.few_labels,
          w.few_relocs,
        )
