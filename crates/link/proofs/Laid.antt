-- The merges of a link, one after another, leave the layout of the rules' union. Assumes nothing.
use mathlib.Core.Path.{◌≡◌, sym, ◌∙◌, ap}
use mathlib.Core.List.{List, map}
use Prim.Native.Nat.{ℕ, ◌+◌, ◌*◌, ◌≤◌}
use native.Mathlib.Omega.{arith}
use lib.ListN.{length}
use Rattle.rules.specs.Tables.{Table}
use Rattle.rules.specs.Objects as Objects
use Rattle.rules.specs.Objects.{Cell, Object, flat, heads}
use Rattle.rules.specs.Buffers.{Buffers, six, tab, head_row, view, lay, head_cells, word_of, mark_of, lay_words, lay_relocs, layout}
use Rattle.rules.specs.Linking.{all_labels, all_relocs, union}
use Rattle.rules.proofs.Fits.{long, lent-in-words}
use Rattle.object.specs.declared.Counts.{Counts}
use Rattle.object.specs.Meaning.{counts}
use Rattle.object_layout_labels.specs.Laying.{LaidLabels}
use Rattle.link_notes.specs.Notes.{Noted, carried_rows}
use Rattle.link_blocks.specs.Merged.{both_blocks}
use Rattle.link_words.specs.Settled.{settled_words, SettleReady}
use Rattle.link_words.proofs.Union.{words-held, settled-held, settle-first, settle-second, union-words, union-marks, union-blocks}
use Rattle.link_labels.specs.Matching.{both_labels}
use Rattle.link_labels.proofs.Linked.{both-all, laid-rows, laid-names}
use Rattle.link_relocations.specs.Open.{open_rows, both_rows, row_cells}
use Rattle.link_relocations.proofs.Named.{open-cells}
use Rattle.link_decide.proofs.Counted.{all-low, rowed1, rowed2}
use Rattle.link.proofs.Ready.{LinkReady, blocks-both, words-both}

module _ {c : Counts} {b : Buffers} {d : Counts} {e : Buffers} {out : Buffers} {k : Counts} {xs ys : List ℕ} (L : LinkReady c b d e out k xs ys) where
  abbrev made : Object
  made = union (view (counts c) b) (view (counts d) e)

  -- the blocks of both, as they are merged
  abbrev both : Table ℕ (List Cell)
  both = both_blocks c.blocks c.words b.blocks b.words b.marks d.blocks d.words e.blocks e.words e.marks

  rows-counted : k.blocks ≡ c.blocks + d.blocks
  rows-counted = sym (ap (λ (n : Objects.Counts). n.blocks) L.sums) ∙ blocks-both L

  rows-room : (c.blocks + d.blocks) * 2 ≤ length out.blocks
  rows-room = omega (arith, blocks-both L, L.held.blocks, (long out L.wide).blocks)

  words-room : c.words + d.words ≤ length out.words
  words-room = omega (arith, words-both L, L.fits, lent-in-words out.words out.marks)

  noted-all1 : Noted (all_labels (view (counts c) b) (view (counts d) e)) b.labels b.names c.labels xs
  noted-all1 = rw (← both-all (counts c) (counts d) b e) L.noted1

  noted-all2 : Noted (all_labels (view (counts c) b) (view (counts d) e)) e.labels e.names d.labels ys
  noted-all2 = rw (← both-all (counts c) (counts d) b e) L.noted2

  module _ {blocks w₀ : List ℕ} (p : blocks ≡ lay (head_cells (heads both)) (length out.blocks)) (q : w₀ ≡ lay (map word_of (flat both)) (length out.words)) where
    pub first-settles : SettleReady c.relocations b.relocs xs k.blocks blocks w₀
    first-settles =
        rw rows-counted
        (settle-first L.first L.second L.apart xs blocks w₀ (length out.blocks) noted-all1 p rows-room
        (words-held L.first L.second L.apart w₀ (length out.words) q words-room))

    module _ {w₁ : List ℕ} (r : w₁ ≡ settled_words (tab k.blocks (head_row blocks)) w₀ (carried_rows c.relocations b.relocs xs)) where
      pub second-settles : SettleReady d.relocations e.relocs ys k.blocks blocks w₁
      second-settles =
          rw rows-counted
          (settle-second L.first L.second L.apart ys blocks w₁ (length out.blocks) noted-all2 p rows-room
          (settled-held L.first L.second L.apart w₀ w₁ (tab k.blocks (head_row blocks)) (carried_rows c.relocations b.relocs xs)
          (words-held L.first L.second L.apart w₀ (length out.words) q words-room) r))

      module _ {w₂ : List ℕ} (s : w₂ ≡ settled_words (tab k.blocks (head_row blocks)) w₁ (carried_rows d.relocations e.relocs ys)) where
        words-laid : w₂ ≡ lay_words made (length out.words)
        words-laid =
            union-words L.first L.second L.apart xs ys blocks w₀ w₁ w₂ (length out.words) (length out.blocks) noted-all1 noted-all2 p q (rw rows-counted at r) (rw rows-counted at s)

        relocs-laid : {rs : List ℕ} → rs ≡ lay (row_cells (open_rows (both_rows c.relocations b.relocs xs d.relocations e.relocs ys))) (length out.relocs) → rs ≡ lay_relocs made (length out.relocs)
        unfolding lay_relocs union all_labels all_relocs both_labels
        relocs-laid t =
            t
            ∙ ap (λ (l : List ℕ). lay l (length out.relocs))
            (open-cells (all-low c b d e L.first L.second) L.noted1 (rowed1 c b d e L.first L.second) L.noted2 (rowed2 c b d e L.first L.second))

        labels-laid : {ls ns : List ℕ} → LaidLabels (both_labels c.labels b.labels b.names d.labels e.labels e.names) out.labels out.names ls ns
            → LaidLabels (all_labels (view (counts c) b) (view (counts d) e)) out.labels out.names ls ns
        labels-laid t = rw (← both-all (counts c) (counts d) b e) t

        pub all_laid : {marks labels relocs names : List ℕ} → marks ≡ lay (map mark_of (flat both)) (length out.marks)
            → LaidLabels (both_labels c.labels b.labels b.names d.labels e.labels e.names) out.labels out.names labels names
            → relocs ≡ lay (row_cells (open_rows (both_rows c.relocations b.relocs xs d.relocations e.relocs ys))) (length out.relocs)
            → six blocks w₂ marks labels relocs names ≡ layout made out
        all_laid m l t =
            let f = p ∙ union-blocks L.first L.second L.apart (length out.blocks) in
            let g = m ∙ union-marks L.first L.second L.apart (length out.marks) in
            let h = laid-rows (view (counts c) b) (view (counts d) e) (labels-laid l) in
            let n = laid-names (view (counts c) b) (view (counts d) e) (labels-laid l) in
            λ i. six (f i) (words-laid i) (g i) (h i) (relocs-laid t i) (n i)
