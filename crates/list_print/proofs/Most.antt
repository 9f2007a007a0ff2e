-- How long the listing of a good object is at most. Assumes nothing.
use Prim.Native.Nat.{ℕ, ◌+◌, ◌*◌, ◌≤◌}
use mathlib.Core.Path.{◌≡◌, refl}
use mathlib.Core.List.{List, [], ◌∷◌, ◌++◌, flat_map}
use native.Mathlib.Omega.{arith}
use lib.ListN.{length, length-append}
use Rattle.rules.specs.Base.{bytes}
use Rattle.rules.specs.Capacities.{name_room, program_word_room}
use Rattle.rules.specs.Tables.{Table, nat_order, name_order}
use Rattle.rules.specs.Objects.{Cell, Lab, outer, defined, Name, Object, flat, Good}
use Rattle.rules.specs.Listing.{hex4, lf, block_lines, label_line, reloc_line, listing}
use Rattle.rules.proofs.Fits.{good_length}
use Rattle.laws_stored.proofs.Ordered.{Each, each_of}
use Rattle.list.proofs.Length.{hex-size, block_size}

blocks-most : (bs : Table ℕ (List Cell)) → length (flat_map block_lines bs) ≡ length bs * 16 + length (flat bs) * 10
unfolding flat_map
blocks-most [] = refl
blocks-most (b ∷ bs) = omega (arith, length-append (block_lines b) (flat_map block_lines bs), block_size b, blocks-most bs, length-append b.1 (flat bs))

abbrev Fits : Name → Lab → Type 0
Fits n v = length n ≤ name_room

label-most : (n : Name) (v : Lab) → length n ≤ name_room → length (label_line (n, v)) ≤ 76
unfolding label_line
label-most n outer h = omega (arith, length-append (bytes "EXTERN " ++ n) lf, length-append (bytes "EXTERN ") n)
label-most n (defined a) h =
    omega (
      arith,
      length-append (bytes "LABEL " ++ hex4 a ++ bytes " " ++ n) lf,
      length-append (bytes "LABEL " ++ hex4 a ++ bytes " ") n,
      length-append (bytes "LABEL " ++ hex4 a) (bytes " "),
      length-append (bytes "LABEL ") (hex4 a),
      hex-size a,
    )

labels-most : (t : Table Name Lab) → Each Fits t → length (flat_map label_line t) ≤ length t * 76
unfolding flat_map
labels-most [] h = omega arith
labels-most (e ∷ t) h = omega (arith, length-append (label_line e) (flat_map label_line t), label-most e.0 e.1 h.0, labels-most t h.1)

abbrev Short : ℕ → Name → Type 0
Short a n = length n ≤ name_room

reloc-most : (r : ℕ × Name) → length r.1 ≤ name_room → length (reloc_line r) ≤ 74
unfolding reloc_line
reloc-most r h =
    omega (
      arith,
      length-append (bytes "REL " ++ hex4 r.0 ++ bytes " " ++ r.1) lf,
      length-append (bytes "REL " ++ hex4 r.0 ++ bytes " ") r.1,
      length-append (bytes "REL " ++ hex4 r.0) (bytes " "),
      length-append (bytes "REL ") (hex4 r.0),
      hex-size r.0,
    )

relocs-most : (t : Table ℕ Name) → Each Short t → length (flat_map reloc_line t) ≤ length t * 74
unfolding flat_map
relocs-most [] h = omega arith
relocs-most (e ∷ t) h = omega (arith, length-append (reloc_line e) (flat_map reloc_line t), reloc-most e h.0, relocs-most t h.1)

-- of an object with no more words than the program lends
pub listing-most : (o : Object) → Good o → length (flat o.blocks) ≤ program_word_room → length (listing o) ≤ 482304
unfolding listing
listing-most o g w =
    omega (
      arith,
      length-append (flat_map block_lines o.blocks ++ flat_map label_line o.labels) (flat_map reloc_line o.relocs),
      length-append (flat_map block_lines o.blocks) (flat_map label_line o.labels),
      blocks-most o.blocks,
      labels-most o.labels (each_of name_order Fits o.labels g.labels_up (λ n v q. good_length n (g.named n v q))),
      relocs-most o.relocs (each_of nat_order Short o.relocs g.relocs_up (λ x n q. good_length n (g.named n outer (g.reloc_outer x n q)))),
      g.few_blocks,
      g.few_labels,
      g.few_relocs,
    )
