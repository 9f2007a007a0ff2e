-- Buffers of full size: those of these lengths are, and stay so when an object is written into them. Assumes nothing.
use Prim.Native.Nat.{ℕ, ◌≤◌}
use mathlib.Core.Path.{◌≡◌, refl}
use mathlib.Core.Bool.{false}
use mathlib.Core.List.{List}
use native.Mathlib.Omega.{arith}
use borrow.Author.Tests.{le-ltb}
use lib.Dec.{ltb}
use lib.ListN.{length, length-append, length-replicate}
use Rattle.rules.specs.Objects.{Object, heads}
use Rattle.rules.specs.Buffers.{Buffers, short, layout, lay, head_cells, label_cells, reloc_cells, name_bytes, lay_blocks, lay_labels, lay_relocs, lay_names}
use Rattle.rules.proofs.Fits.{long}

pub long-enough : (b : Buffers) → length b.blocks ≡ 128 → length b.labels ≡ 4096 → length b.relocs ≡ 2048 → length b.names ≡ 65536 → short b ≡ false
unfolding short
long-enough b p q r s = rw (p, q, r, s) refl

lay-long : (l : List ℕ) (len n : ℕ) → n ≤ len → ltb (length (lay l len)) n ≡ false
lay-long l len n h = le-ltb (length (lay l len)) n (rw (length-append, length-replicate) (omega arith))

pub layout-full : (o : Object) (b : Buffers) → short b ≡ false → short (layout o b) ≡ false
unfolding short lay_blocks lay_labels lay_relocs lay_names
layout-full o b e =
    let L = long b e in
    let p = lay-long (head_cells (heads o.blocks)) (length b.blocks) 128 L.blocks in
    let q = lay-long (label_cells 0 o.labels) (length b.labels) 4096 L.labels in
    let r = lay-long (reloc_cells o.labels o.relocs) (length b.relocs) 2048 L.relocs in
    let s = lay-long (name_bytes o.labels) (length b.names) 65536 L.names in
    rw (p, q, r, s)
