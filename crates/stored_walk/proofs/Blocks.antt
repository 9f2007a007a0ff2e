-- A field that may not follow, one that says nothing, and the field of a block. Assumes nothing.
use mathlib.Core.Path.{◌≡◌, refl, sym, ◌∙◌}
use mathlib.Core.Bool.{Bool, true, false, ◌&&◌, and_assoc}
use mathlib.Core.List.{List, []}
use Prim.Native.Nat.{ℕ, zero, suc, ◌+◌, ◌-◌, ◌<◌}
use native.Mathlib.Omega.{arith}
use lib.ListN.{length}
use lib.Dec.{eqb, leb, ltb}
use borrow.Author.Tests.{ltb-true, ne_eqb}
use Rattle.rules.specs.Stored.{Item, block, State, after, may, next}
use Rattle.rules.proofs.Bools.{and_right}
use Rattle.laws_stored.proofs.Accepted.{Finds, Mute}
use Rattle.laws_stored.proofs.Taken.{may-block}
use Rattle.laws_stored.proofs.Checking.{Checks, checks-more, checks-not, checks-mute}
use Rattle.laws_stored.specs.Offsets.{number_at}
use Rattle.stored_read.proofs.Found.{Stands}
use Rattle.stored_seek.specs.Seeking.{Cursor}
use Rattle.stored_walk.specs.declared.Walk.{Walk}
use Rattle.stored_walk.specs.declared.Walked.TheVariants.{On, Broken}
use Rattle.stored_walk.specs.Walking.{blocks_of, floor_of, Tells, Steps, Stepped}
use Rattle.stored_walk.specs.Behind.{behind_block, block_placed, block_fits}
use Rattle.stored_seek.proofs.Cursors.{cursor-start}
use Rattle.stored_walk.proofs.Standing.{stands-block, stands-block-not}

-- ANY FIELD

module _ (b places new : List ℕ) (w : Walk) (s : State) (t : Tells b places w s) where
  -- it may not follow
  pub breaks : (i : Item) (z : ℕ) → Finds b w.at i z → may s i ≡ false → Steps b new w s (Broken w.at)
  unfolding Steps
  breaks i z f m = checks-not b s w.at i z t.checks f m

  -- it says nothing
  pub silent : Mute b w.at → Steps b new w s (Broken w.at)
  unfolding Steps
  silent m = checks-mute b s w.at t.checks m

-- while there are no relocations, words are looked for from the first field on
pub cursor-fresh : (b places : List ℕ) (w : Walk) (s n : State) (at least : ℕ) → Tells b places w s → s.relocs ≡ [] → Checks b n at → Cursor n w.seen w.address least
cursor-fresh b places w s n at least t e c = let p = t.fresh e in rw (p.0, p.1) (cursor-start b n at least c)

-- BLOCKS

regroup : (x y z u v p q : Bool) → (x && y && z && (u && v && p) && q) ≡ (x && (y && (z && (u && (v && (p && q))))))
regroup x y z u v p q = simp and_assoc

block-count : (n x y : ℕ) → 0 < n → x ≡ y → x + 1 ≡ blocks_of n y
block-count zero x y l e = absurd (omega arith)
block-count (suc n) x y l e = omega arith

block-floor : (n x y : ℕ) → 0 < n → y ≡ floor_of n x y
block-floor zero x y l = absurd (omega arith)
block-floor (suc n) x y l = refl

module _ (b places : List ℕ) (w : Walk) (s : State) (t : Tells b places w s) where
  -- the tests are the rule's
  pub block-fits : (a n : ℕ) → block_fits w a n ≡ may s (block a n)
  unfolding block_fits may
  block-fits a n = go s.owed refl
    where
      go : (k : ℕ) → s.owed ≡ k → block_fits w a n ≡ may s (block a n)
      go zero e =
          let f : w.floor ≡ s.floor = rw e at t.floor in
          let k : w.blocks ≡ length s.blocks = rw e at t.blocks in
          rw (t.owed, t.labels, t.relocations, f, k, block_fits)
          (regroup (eqb s.owed 0) (eqb (length s.labels) 0) (eqb (length s.relocs) 0) (ltb 0 n) (leb s.floor a) (leb (a + n) 65024) (ltb (length s.blocks) 64))
      go (suc k) e = let z : eqb s.owed 0 ≡ false = ne_eqb s.owed 0 (λ h. omega arith) in rw (t.owed, z, block_fits, may) refl

  pub block_on : (a n e : ℕ) (r : Walk) → Finds b w.at (block a n) e → block_fits w a n ≡ true → r ≡ behind_block w e (a + n) n → Steps b places w s (On r)
  unfolding Steps next after
  block_on a n e r f y q =
      let m : may s (block a n) ≡ true = sym (block-fits a n) ∙ y in
      let k = may-block s a n m in
      let c = checks-more b s w.at (block a n) e t.checks f m refl in
      rw q (record {
        item = block a n;
        found = f;
        allowed = m;
        more = refl;
        row = tt;
        tells = record {
          checks = c;
          blocks = block-count n w.blocks (length s.blocks) k.words (rw k.closed at t.blocks);
          words = rw (t.shut k.closed) at t.words;
          floor = block-floor n s.floor (a + n) k.words;
          owed = refl;
          previous = refl;
          shut = λ h. refl;
          labels = t.labels;
          named = t.named;
          noted = t.noted;
          relocations = t.relocations;
          least = t.least;
          fresh = t.fresh;
          cursor = cursor-fresh b places w s (next s (block a n)) e s.least t k.no-relocs c;
        };
      })

-- x01: a start and a word count

pub block_room_lem : (w : Walk) (a n : ℕ) → block_fits w a n ≡ true → w.blocks < 64
unfolding block_fits
block_room_lem w a n y = ltb-true w.blocks 64 (and_right (block_placed w a n) (ltb w.blocks 64) y)

module _ (b : List ℕ) (w : Walk) (start end first count : ℕ) (f : Stands b w.at 1 start end) where
  pub block-taken : end - start ≡ 4 → first ≡ number_at b start → count ≡ number_at b (start + 2) → block_fits w first count ≡ true → (r : Walk) → r ≡ behind_block w end (first + count) count → Stepped b w (On r)
  block-taken l p q y r h = record {
    steps = λ places s t. block_on b places w s t first count end r (rw (p, q) (stands-block b w.at start end f l)) y h;
  }

  pub block_refused : end - start ≡ 4 → first ≡ number_at b start → count ≡ number_at b (start + 2) → block_fits w first count ≡ false → Stepped b w (Broken w.at)
  block_refused l p q y = record {
    steps = λ places s t. breaks b places places w s t (block first count) end (rw (p, q) (stands-block b w.at start end f l)) (sym (block-fits b places w s t first count) ∙ y);
  }

pub block-long : (b : List ℕ) (w : Walk) (start end : ℕ) → Stands b w.at 1 start end → (end - start ≡ 4 → ⊥) → Stepped b w (Broken w.at)
block-long b w start end f l = record { steps = λ places s t. silent b places places w s t (stands-block-not b w.at start end f l) }
