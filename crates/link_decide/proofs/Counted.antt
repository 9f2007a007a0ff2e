-- The counts of the link of two lent objects, as they are added up. Assumes nothing.
use mathlib.Core.Path.{◌≡◌, sym, ◌∙◌, ap}
use mathlib.Core.Bool.{false}
use mathlib.Core.List.{List}
use Prim.Native.Nat.{ℕ, ◌+◌, ◌*◌}
use lib.ListN.{length, get_or}
use Rattle.rules.specs.Tables.{nat_order, look}
use Rattle.rules.specs.Objects as Objects
use Rattle.rules.specs.Objects.{word, counts_of}
use Rattle.rules.specs.Buffers.{Buffers, tab, head_row, view, Valid}
use Rattle.rules.specs.Linking.{shared, all_labels, all_blocks, all_relocs, union}
use Rattle.rules.proofs.Bools.{never}
use Rattle.rules.proofs.Sound.{labels-good}
use Rattle.laws_link.proofs.Answers.{count-blocks, count-words, count-labels, count-relocs}
use Rattle.laws_link.proofs.Tests.{overlap-shared}
use Rattle.laws_link.proofs.Union.{joined-low}
use Rattle.object.specs.declared.Counts.{Counts}
use Rattle.object.specs.Meaning.{counts}
use Rattle.link_blocks.specs.Meeting.{meeting}
use Rattle.link_blocks.specs.Merged.{both_blocks}
use Rattle.link_blocks.proofs.Shared.{shared_view}
use Rattle.link_blocks.proofs.Both.{both-blocks, both_words}
use Rattle.link_labels.specs.Matching.{both_labels, BothNoted}
use Rattle.link_relocations.specs.Open.{Apart}
use Rattle.link_relocations.proofs.Named.{Addresses, Rowed, open-count, both-count}
use Rattle.link_decide.specs.Decided.{tallied, open_count}
use Rattle.link_decide.proofs.Ready.{relocs-carried}

module _ (c : Counts) (b : Buffers) (d : Counts) (e : Buffers) (v : Valid (counts c) b) (u : Valid (counts d) e) where
  -- every address of the labels of both is one
  pub all-low : Addresses (both_labels c.labels b.labels b.names d.labels e.labels e.names)
  unfolding both_labels
  all-low n a q =
      let g = labels-good c.labels b.labels b.names v.labels in
      let h = labels-good d.labels e.labels e.names u.labels in
      joined-low (view (counts c) b).labels (view (counts d) e).labels g.up h.up g.addresses h.addresses n a q

  pub rowed1 : Rowed c.relocations b.relocs c.labels
  rowed1 = record { label = λ k l. (v.relocs.rows k l).row }

  pub rowed2 : Rowed d.relocations e.relocs d.labels
  rowed2 = record { label = λ k l. (u.relocs.rows k l).row }

  module _ (m : meeting (tab c.blocks (head_row b.blocks)) (tab d.blocks (head_row e.blocks)) ≡ false) where
    pub not-shared : shared (view (counts c) b) (view (counts d) e) ≡ false
    not-shared = shared_view (counts c) (counts d) b e v.blocks u.blocks ∙ m

    -- no address has a relocation of each
    pub relocs-apart : Apart c.relocations b.relocs d.relocations e.relocs
    relocs-apart = record {
      at = λ i j l k q.
          let p = (v.relocs.rows i l).zero.at in
          let r = (u.relocs.rows j k).zero.at in
          let s = overlap-shared (view (counts c) b) (view (counts d) e) (get_or b.relocs (i * 2) 0, word 0, word 0, p, ap (look nat_order (Objects.cells (view (counts d) e).blocks)) q ∙ r) in
          let t = not-shared in
          never cc;
    }

    module _ {xs ys : List ℕ} (n : BothNoted c.labels b.labels b.names d.labels e.labels e.names (length (both_labels c.labels b.labels b.names d.labels e.labels e.names)) xs ys) where
      relocs-added : (counts_of (union (view (counts c) b) (view (counts d) e))).relocs ≡ open_count c.relocations b.relocs xs + open_count d.relocations e.relocs ys
      unfolding all_labels all_relocs both_labels
      relocs-added =
          count-relocs (view (counts c) b) (view (counts d) e)
          ∙ (sym (open-count all-low n.first rowed1 n.second rowed2)
          ∙ both-count (relocs-carried v.relocs n.first.room) (relocs-carried u.relocs n.second.room) relocs-apart)

      pub counts-added : counts_of (union (view (counts c) b) (view (counts d) e))
          ≡ counts (tallied c d (length (both_labels c.labels b.labels b.names d.labels e.labels e.names)) (open_count c.relocations b.relocs xs) (open_count d.relocations e.relocs ys))
      unfolding all_labels all_blocks both_labels both_blocks
      counts-added =
          let p = count-blocks (view (counts c) b) (view (counts d) e) ∙ both-blocks b.words b.marks e.words e.marks v.blocks u.blocks m in
          let q = count-words (view (counts c) b) (view (counts d) e) ∙ both_words b.words b.marks e.words e.marks v.blocks u.blocks m in
          let r = count-labels (view (counts c) b) (view (counts d) e) in
          λ i. record { blocks = p i; words = q i; labels = r i; relocs = relocs-added i }
