-- A link that was decided has what its merges ask for. Assumes nothing.
use Rattle.std.specs.declared.result.Result.{Result}
use Rattle.std.specs.declared.result.Result.TheVariants.{Ok, Err}
use Rattle.base_refusals.specs.declared.Fault.{Fault}
use mathlib.Core.Path.{◌≡◌, refl, sym, ◌∙◌, ap}
use mathlib.Core.Bool.{Bool, true, false, ◌||◌}
use mathlib.Core.List.{List}
use Prim.Native.Nat.{ℕ, ◌+◌, ◌≤◌}
use native.Mathlib.Omega.{arith}
use lib.ListN.{length}
use borrow.Author.Tests.{leb-true}
use Rattle.rules.specs.Base.{Outcome, ok, refused}
use Rattle.rules.specs.Objects as Objects
use Rattle.rules.specs.Objects.{Object, counts_of}
use Rattle.rules.specs.Buffers.{Buffers, tab, head_row, short, lent_words, view, Valid}
use Rattle.rules.specs.Calls.{Answered, too_short, bad_object, on_object}
use Rattle.rules.specs.Linking.{all_labels, all_blocks, all_relocs, union, link}
use Rattle.rules.proofs.Bools.{never}
use Rattle.rules.proofs.Fits.{long, lent-in-words, lent-in-marks}
use Rattle.laws_link.proofs.Answers.{Answer, is_shared, is-differing, is-full, is-short, is_made, answer, Held, holds-true, count-blocks, count-words, count-labels, count-relocs}
use Rattle.object.specs.declared.Counts.{Counts}
use Rattle.object.specs.Meaning.{counts}
use Rattle.link_notes.specs.Notes.{Noted}
use Rattle.link_decide.specs.Decided.{said, counted, Decided}
use Rattle.link_blocks.specs.Meeting.{meeting}
use Rattle.link_blocks.specs.Merged.{both_blocks, MergeReady}
use Rattle.link_blocks.proofs.Shared.{shared_view}
use Rattle.link_blocks.proofs.Both.{both-blocks, both_words}
use Rattle.link_labels.specs.Matching.{both_labels}
use Rattle.link_labels.specs.Laying.{LayReady}
use Rattle.link_labels.proofs.Linked.{both-all}
use Rattle.link_relocations.specs.Open.{open_rows, both_rows, Both}
use Rattle.link_relocations.proofs.Named.{open-count}
use Rattle.link_decide.proofs.Ready.{relocs-carried}
use Rattle.link_decide.proofs.Counted.{all-low, rowed1, rowed2, relocs-apart}

-- two lent objects whose link is made, the notes of their labels, and buffers with room for it
pub record LinkReady (c : Counts) (b : Buffers) (d : Counts) (e : Buffers) (out : Buffers) (k : Counts) (xs ys : List ℕ) : Type 0 where
  pub first : Valid (counts c) b
  pub second : Valid (counts d) e
  pub apart : meeting (tab c.blocks (head_row b.blocks)) (tab d.blocks (head_row e.blocks)) ≡ false
  pub noted1 : Noted (both_labels c.labels b.labels b.names d.labels e.labels e.names) b.labels b.names c.labels xs
  pub noted2 : Noted (both_labels c.labels b.labels b.names d.labels e.labels e.names) e.labels e.names d.labels ys
  pub made : link (lent_words out.words out.marks) (view (counts c) b) (view (counts d) e) ≡ ok (union (view (counts c) b) (view (counts d) e))
  pub sums : counts_of (union (view (counts c) b) (view (counts d) e)) ≡ counts k
  pub wide : short out ≡ false
  pub all-wide : (short b || short e || short out) ≡ false
  pub held : Held (counts_of (union (view (counts c) b) (view (counts d) e)))
  pub fits : (counts_of (union (view (counts c) b) (view (counts d) e))).words ≤ lent_words out.words out.marks

pub or-last : (x y z : Bool) → (x || y || z) ≡ false → z ≡ false
or-last true y z e = never cc
or-last false true z e = never cc
or-last false false z e = e

abbrev counts_in : Objects.Counts → Outcome Objects.Counts → Objects.Counts
counts_in n (ok c) = c
counts_in n (refused r) = n

module _ (c : Counts) (b : Buffers) (d : Counts) (e : Buffers) (out : Buffers) (small : Bool) (room : ℕ) (r : Result Counts Fault) (xs ys : List ℕ) (k : Counts)
    (p : small ≡ short out) (q : room ≡ lent_words out.words out.marks) (D : Decided (counts c) b (counts d) e small room r xs ys) (z : r ≡ Ok k) where
  abbrev a₁ : Object
  a₁ = view (counts c) b

  abbrev a₂ : Object
  a₂ = view (counts d) e

  from-answer : (v : Valid (counts c) b) (u : Valid (counts d) e) → short out ≡ false → (short b || short e || short out) ≡ false → (o : Outcome Object) → Answer room a₁ a₂ o → link room a₁ a₂ ≡ o → ok (counts k) ≡ counted o
      → LinkReady c b d e out k xs ys
  from-answer v u w t o (is_shared s) l h = never cc
  from-answer v u w t o (is-differing s x g) l h = never cc
  from-answer v u w t o (is-full s g f) l h = never cc
  from-answer v u w t o (is-short s g f i) l h = never cc
  from-answer v u w t o (is_made s g f i) l h =
      record {
        first = v;
        second = u;
        apart = sym (shared_view (counts c) (counts d) b e v.blocks u.blocks) ∙ s;
        noted1 = rw (both-all (counts c) (counts d) b e) (D.noted1 k z);
        noted2 = rw (both-all (counts c) (counts d) b e) (D.noted2 k z);
        made = rw (← q) l;
        sums = sym (ap (counts_in (counts k)) h);
        wide = w;
        all-wide = t;
        held = holds-true (counts_of (union a₁ a₂)) f;
        fits = rw (← q) (leb-true (counts_of (union a₁ a₂)).words room i);
      }

  pub link-ready : LinkReady c b d e out k xs ys
  link-ready = go D.answer
    where
      go : Answered (short b || short e || small) (Valid (counts c) b × Valid (counts d) e) (counted (link room a₁ a₂)) (said r) → LinkReady c b d e out k xs ys
      go (too_short x y) = let w = sym (ap said z) ∙ y in never cc
      go (bad_object x n y) = let w = sym (ap said z) ∙ y in never cc
      go (on_object x v y) =
          from-answer v.0 v.1 (sym p ∙ or-last (short b) (short e) small x) (rw p at x) (link room a₁ a₂) (answer room a₁ a₂) refl (sym (ap said z) ∙ y)

module _ {c : Counts} {b : Buffers} {d : Counts} {e : Buffers} {out : Buffers} {k : Counts} {xs ys : List ℕ} (L : LinkReady c b d e out k xs ys) where
  abbrev one : Object
  one = view (counts c) b

  abbrev two : Object
  two = view (counts d) e

  pub blocks-both : (counts_of (union one two)).blocks ≡ c.blocks + d.blocks
  unfolding all_blocks both_blocks
  blocks-both = count-blocks one two ∙ both-blocks b.words b.marks e.words e.marks L.first.blocks L.second.blocks L.apart

  pub words-both : (counts_of (union one two)).words ≡ c.words + d.words
  unfolding all_blocks both_blocks
  words-both = count-words one two ∙ both_words b.words b.marks e.words e.marks L.first.blocks L.second.blocks L.apart

  pub merge-ready : MergeReady c.blocks c.words b.blocks b.words b.marks d.blocks d.words e.blocks e.words e.marks out.blocks out.words out.marks
  merge-ready =
      let w = long out L.wide in
      record {
        rows = L.first.blocks;
        cells = L.first.words;
        other_rows = L.second.blocks;
        other_cells = L.second.words;
        apart = L.apart;
        room_blocks = omega (arith, blocks-both, L.held.blocks, w.blocks);
        room_words = omega (arith, words-both, L.fits, lent-in-words out.words out.marks);
        room_marks = omega (arith, words-both, L.fits, lent-in-marks out.words out.marks);
      }

  labels-both : length (both_labels c.labels b.labels b.names d.labels e.labels e.names) ≡ (counts_of (union one two)).labels
  labels-both = ap length (both-all (counts c) (counts d) b e) ∙ sym (count-labels one two)

  pub labels-ready : LayReady c.labels b.labels b.names xs d.labels e.labels e.names ys out.labels out.names
  labels-ready =
      let w = long out L.wide in
      record {
        first = L.first.labels;
        second = L.second.labels;
        first_notes = L.noted1;
        second_notes = L.noted2;
        few = omega (arith, labels-both, L.held.labels);
        room = record { rows = omega (arith, labels-both, L.held.labels, w.labels); names = omega (arith, labels-both, L.held.labels, w.names) };
      }

  relocs-both : length (open_rows (both_rows c.relocations b.relocs xs d.relocations e.relocs ys)) ≡ (counts_of (union one two)).relocs
  unfolding all_labels all_relocs both_labels
  relocs-both =
      open-count (all-low c b d e L.first L.second) L.noted1 (rowed1 c b d e L.first L.second) L.noted2 (rowed2 c b d e L.first L.second)
      ∙ sym (count-relocs one two)

  pub relocs-ready : Both c.relocations b.relocs xs d.relocations e.relocs ys out.relocs
  relocs-ready =
      let w = long out L.wide in
      record {
        first = relocs-carried L.first.relocs L.noted1.room;
        second = relocs-carried L.second.relocs L.noted2.room;
        apart = relocs-apart c b d e L.first L.second L.apart;
        few = omega (arith, L.first.relocs.few, L.second.relocs.few);
        room = omega (arith, relocs-both, L.held.relocs, w.relocs);
      }
