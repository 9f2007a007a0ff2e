-- A link computed: the five answers that it has, each from its tests; and what the counts of the result are. For whoever proves code against `link`. Assumes nothing.
use mathlib.Core.Path.{◌≡◌, refl, ◌∙◌, ap}
use mathlib.Core.Bool.{Bool, true, false, ◌&&◌, not}
use Prim.Native.Nat.{ℕ, ◌+◌, ◌≤◌, ◌<◌}
use native.Mathlib.Omega.{arith}
use lib.Dec.{leb}
use lib.ListN.{length}
use borrow.Author.Tests.{leb-true, le-leb}
use Rattle.rules.specs.Base.{Outcome, ok, refused, refuse, Refusal, ◌>>◌, require, nowhere}
use Rattle.rules.specs.Capacities.{block_room, label_room, reloc_room}
use Rattle.rules.specs.Tables.{merge, look, nat_order, name_order, newer, sieve}
use Rattle.rules.specs.Objects.{Cell, Object, Counts, counts_of, flat, heads, Good}
use Rattle.rules.specs.Linking.{shared, agree, join_lab, all_labels, all_blocks, all_relocs, patch, stay, each_cell, union, holds, link}
use Rattle.rules.proofs.Bools.{never}
use Rattle.rules.proofs.Tables.{length-merge}
use Rattle.laws_link.proofs.Mapped.{length-map_t, length-sieve}
use Rattle.laws_link.proofs.Blocks.{good-chain, heads-merge, Merged, merged, turned, heads-turned, words-turned}
use Rattle.laws_link.proofs.Tests.{shared-apart}

-- THE ANSWERS

abbrev judged : Bool → Outcome (Unit {0}) → Bool → Bool → Object → Outcome Object
judged s g h w o = do
  require (not s) 28 nowhere
  g
  require h 40 nowhere
  require w 41 nowhere
  ok o

module _ (room : ℕ) (a b : Object) where
  link-judged : link room a b ≡ judged (shared a b) (agree 0 a.labels b.labels) (holds (counts_of (union a b))) (leb (counts_of (union a b)).words room) (union a b)
  unfolding link
  link-judged = refl

  -- a shared address is 28;
  pub link-shared : shared a b ≡ true → link room a b ≡ refuse 28 nowhere
  link-shared e = link-judged ∙ ap (λ (s : Bool). judged s (agree 0 a.labels b.labels) (holds (counts_of (union a b))) (leb (counts_of (union a b)).words room) (union a b)) e

  module _ (s : shared a b ≡ false) where
    apart : link room a b ≡ judged false (agree 0 a.labels b.labels) (holds (counts_of (union a b))) (leb (counts_of (union a b)).words room) (union a b)
    apart = link-judged ∙ ap (λ (s : Bool). judged s (agree 0 a.labels b.labels) (holds (counts_of (union a b))) (leb (counts_of (union a b)).words room) (union a b)) s

    -- else what the walk over the names refuses, if it does;
    pub link-differs : (r : Refusal) → agree 0 a.labels b.labels ≡ refused r → link room a b ≡ refused r
    link-differs r e = apart ∙ ap (λ (g : Outcome (Unit {0})). judged false g (holds (counts_of (union a b))) (leb (counts_of (union a b)).words room) (union a b)) e

    module _ (g : agree 0 a.labels b.labels ≡ ok tt) where
      agreed : link room a b ≡ judged false (ok tt) (holds (counts_of (union a b))) (leb (counts_of (union a b)).words room) (union a b)
      agreed = apart ∙ ap (λ (g : Outcome (Unit {0})). judged false g (holds (counts_of (union a b))) (leb (counts_of (union a b)).words room) (union a b)) g

      -- else 40, where the result has too many blocks, labels or relocations;
      pub link-full : holds (counts_of (union a b)) ≡ false → link room a b ≡ refuse 40 nowhere
      link-full h = agreed ∙ ap (λ (h : Bool). judged false (ok tt) h (leb (counts_of (union a b)).words room) (union a b)) h

      module _ (h : holds (counts_of (union a b)) ≡ true) where
        held : link room a b ≡ judged false (ok tt) true (leb (counts_of (union a b)).words room) (union a b)
        held = agreed ∙ ap (λ (h : Bool). judged false (ok tt) h (leb (counts_of (union a b)).words room) (union a b)) h

        -- else 41, where its words are more than are lent;
        pub link-short : leb (counts_of (union a b)).words room ≡ false → link room a b ≡ refuse 41 nowhere
        link-short w = held ∙ ap (λ (w : Bool). judged false (ok tt) true w (union a b)) w

        -- else the union.
        pub link-made : leb (counts_of (union a b)).words room ≡ true → link room a b ≡ ok (union a b)
        link-made w = held ∙ ap (λ (w : Bool). judged false (ok tt) true w (union a b)) w

  -- the five, as cases
  pub data Answer : Outcome Object → Type 0 where
    is_shared : shared a b ≡ true → Answer (refuse 28 nowhere)
    is-differing : shared a b ≡ false → (r : Refusal) → agree 0 a.labels b.labels ≡ refused r → Answer (refused r)
    is-full : shared a b ≡ false → agree 0 a.labels b.labels ≡ ok tt → holds (counts_of (union a b)) ≡ false → Answer (refuse 40 nowhere)
    is-short : shared a b ≡ false → agree 0 a.labels b.labels ≡ ok tt → holds (counts_of (union a b)) ≡ true → leb (counts_of (union a b)).words room ≡ false → Answer (refuse 41 nowhere)
    is_made : shared a b ≡ false → agree 0 a.labels b.labels ≡ ok tt → holds (counts_of (union a b)) ≡ true → leb (counts_of (union a b)).words room ≡ true → Answer (ok (union a b))

  pub answer : Answer (link room a b)
  answer = rw link-judged (go (shared a b) refl (agree 0 a.labels b.labels) refl (holds (counts_of (union a b))) refl (leb (counts_of (union a b)).words room) refl)
    where
      go : (s : Bool) → shared a b ≡ s → (g : Outcome (Unit {0})) → agree 0 a.labels b.labels ≡ g → (h : Bool) → holds (counts_of (union a b)) ≡ h
          → (w : Bool) → leb (counts_of (union a b)).words room ≡ w → Answer (judged s g h w (union a b))
      go true p g q h i w j = is_shared p
      go false p (refused r) q h i w j = is-differing p r q
      go false p (ok tt) q false i w j = is-full p q i
      go false p (ok tt) q true i false j = is-short p q i j
      go false p (ok tt) q true i true j = is_made p q i j

-- WHAT A RESULT MAY HAVE

pub record Held (c : Counts) : Type 0 where
  pub blocks : c.blocks ≤ block_room
  pub labels : c.labels ≤ label_room
  pub relocs : c.relocs ≤ reloc_room

pub holds-true : (c : Counts) → holds c ≡ true → Held c
unfolding holds
holds-true c e =
    record {
      blocks = leb-true c.blocks block_room (first (leb c.blocks block_room) (leb c.labels label_room) (leb c.relocs reloc_room) e);
      labels = leb-true c.labels label_room (second (leb c.blocks block_room) (leb c.labels label_room) (leb c.relocs reloc_room) e);
      relocs = leb-true c.relocs reloc_room (third (leb c.blocks block_room) (leb c.labels label_room) (leb c.relocs reloc_room) e);
    }
  where
    first : (p q r : Bool) → (p && q && r) ≡ true → p ≡ true
    first true q r e = refl
    first false q r e = e

    second : (p q r : Bool) → (p && q && r) ≡ true → q ≡ true
    second true true r e = refl
    second true false r e = e
    second false q r e = never cc

    third : (p q r : Bool) → (p && q && r) ≡ true → r ≡ true
    third true true r e = e
    third true false r e = never cc
    third false q r e = never cc

pub true-holds : (c : Counts) → Held c → holds c ≡ true
unfolding holds
true-holds c h = both (leb c.blocks block_room) (leb c.labels label_room) (leb c.relocs reloc_room) (le-leb c.blocks block_room h.blocks) (le-leb c.labels label_room h.labels) (le-leb c.relocs reloc_room h.relocs)
  where
    both : (p q r : Bool) → p ≡ true → q ≡ true → r ≡ true → (p && q && r) ≡ true
    both true q r e f g = rw (f, g)
    both false q r e f g = e

not-held : (c : Counts) → (Held c → ⊥) → holds c ≡ false
not-held c n = go (holds c) refl
  where
    go : (b : Bool) → holds c ≡ b → b ≡ false
    go true e = absurd (n (holds-true c e))
    go false e = refl

-- one count above its capacity is enough
pub over-blocks : (c : Counts) → block_room < c.blocks → holds c ≡ false
over-blocks c l = not-held c (λ h. omega (arith, h.blocks))

pub over-labels : (c : Counts) → label_room < c.labels → holds c ≡ false
over-labels c l = not-held c (λ h. omega (arith, h.labels))

pub over-relocs : (c : Counts) → reloc_room < c.relocs → holds c ≡ false
over-relocs c l = not-held c (λ h. omega (arith, h.relocs))

-- THE COUNTS OF THE RESULT

module _ (a b : Object) where
  -- how the blocks of the result come from those of both
  abbrev pub written : ℕ → Cell → Cell
  written x c = patch (look name_order (all_labels a b)) (look nat_order (all_relocs a b) x) c

  pub union-blocks : (union a b).blocks ≡ turned written (all_blocks a b)
  unfolding union
  union-blocks = refl

  pub union-labels : (union a b).labels ≡ all_labels a b
  unfolding union
  union-labels = refl

  pub union-relocs : (union a b).relocs ≡ sieve (λ n. stay n (look name_order (all_labels a b) n)) (all_relocs a b)
  unfolding union
  union-relocs = refl

  -- starts and lengths of the result are those of both
  pub heads-all : heads (all_blocks a b) ≡ merge nat_order newer (heads a.blocks) (heads b.blocks)
  unfolding all_blocks
  heads-all = heads-merge a.blocks b.blocks

  pub heads-union : heads (union a b).blocks ≡ merge nat_order newer (heads a.blocks) (heads b.blocks)
  heads-union = ap heads union-blocks ∙ (heads-turned written (all_blocks a b) ∙ heads-all)

  pub count-blocks : (counts_of (union a b)).blocks ≡ length (all_blocks a b)
  count-blocks = ap length union-blocks ∙ length-map_t (λ s cs. each_cell written s cs) (all_blocks a b)

  pub count-words : (counts_of (union a b)).words ≡ length (flat (all_blocks a b))
  count-words = ap (λ t. length (flat t)) union-blocks ∙ words-turned written (all_blocks a b)

  pub count-labels : (counts_of (union a b)).labels ≡ length (all_labels a b)
  count-labels = ap length union-labels

  pub count-relocs : (counts_of (union a b)).relocs ≡ length (sieve (λ n. stay n (look name_order (all_labels a b) n)) (all_relocs a b))
  count-relocs = ap length union-relocs

  -- labels and relocations are at most those of both
  pub few_labels : (counts_of (union a b)).labels ≤ (counts_of a).labels + (counts_of b).labels
  unfolding all_labels
  few_labels = omega (arith, count-labels, length-merge name_order join_lab a.labels b.labels)

  pub few_relocs : (counts_of (union a b)).relocs ≤ (counts_of a).relocs + (counts_of b).relocs
  unfolding all_relocs
  few_relocs = omega (arith, count-relocs, length-sieve (λ n. stay n (look name_order (all_labels a b) n)) (all_relocs a b), length-merge nat_order newer a.relocs b.relocs)

  module _ (g : Good a) (h : Good b) (s : shared a b ≡ false) where
    pub blocks-merged : Merged a.blocks b.blocks
    blocks-merged = merged 0 a.blocks b.blocks (good-chain a.blocks g.filled g.cells_up) (good-chain b.blocks h.filled h.cells_up) (shared-apart a b s)

    -- where no address is shared, blocks and words add up
    pub all_blocks_lem : length (all_blocks a b) ≡ length a.blocks + length b.blocks
    unfolding all_blocks
    all_blocks_lem = blocks-merged.blocks

    pub all_words : length (flat (all_blocks a b)) ≡ length (flat a.blocks) + length (flat b.blocks)
    unfolding all_blocks
    all_words = blocks-merged.words

    pub sum-blocks : (counts_of (union a b)).blocks ≡ (counts_of a).blocks + (counts_of b).blocks
    sum-blocks = count-blocks ∙ all_blocks_lem

    pub sum-words : (counts_of (union a b)).words ≡ (counts_of a).words + (counts_of b).words
    sum-words = count-words ∙ all_words
