-- Storing as a loop over rows makes it: the bytes written so far and the items left, one law for each field. Assumes nothing.
use mathlib.Core.Path.{◌≡◌, refl, sym, ◌∙◌, ap}
use mathlib.Core.List.{List, [], ◌∷◌, ◌++◌, append_assoc, append-nil}
use Prim.Native.Nat.{ℕ, suc, ◌+◌, ◌≤◌, ◌<◌}
use native.Mathlib.Omega.{arith}
use lib.ListN.{length, length-append}
use borrow.Author.Tests.{le-leb, lt-leb}
use Rattle.rules.specs.Base.{ok, refuse, nowhere}
use Rattle.rules.specs.Tables.{Table}
use Rattle.rules.specs.Objects.{Cell, Lab, Name, Object}
use Rattle.rules.specs.Stored.{Run, sets, gap, Item, fin, block, run, label, reloc, pair, pairs, tag_of, content, frame, spell, run_room, runs_of, run_items, block_items, label_items, reloc_items, items_of, stored, store, words_then, unset_then}
use Rattle.laws_stored.proofs.Cut.{NoneSet, NoneUnset, runs_none, runs-gap, runs-set, runs-full}

-- AT EACH TURN: these bytes are written, and these items are left.
pub record Stores (o : Object) (done : List ℕ) (rest : List Item) : Type 0 where
  pub same : stored o ≡ done ++ spell rest

pub stores-start : (o : Object) → Stores o [] (items_of o)
unfolding stored
stores-start o = record { same = refl }

-- one field
pub stores-more : (o : Object) (done : List ℕ) (i : Item) (rest : List Item) → Stores o done (i ∷ rest) → Stores o (done ++ frame (tag_of i) (content i)) rest
stores-more o done i rest s = record { same = s.same ∙ sym (append_assoc done (frame (tag_of i) (content i)) (spell rest)) }

pub stores-end : (o : Object) (done : List ℕ) → Stores o done [] → stored o ≡ done
stores-end o done s = s.same ∙ append-nil done

-- a field that is left takes its room
pub stores-room : (o : Object) (done : List ℕ) (i : Item) (rest : List Item) → Stores o done (i ∷ rest) → length done + 3 + length (content i) ≤ length (stored o)
stores-room o done i rest s =
    omega (arith, ap length s.same, length-append done (spell (i ∷ rest)), length-append (content i) (spell rest))

-- BLOCKS AND THEIR RUNS

pub stores-block : (o : Object) (done : List ℕ) (b : ℕ × List Cell) (bs : Table ℕ (List Cell)) (tail : List Item) → Stores o done (block_items (b ∷ bs) ++ tail)
    → Stores o (done ++ frame 1 (pair b.0 ++ pair (length b.1))) (run_items (runs_of b.1) ++ (block_items bs ++ tail))
stores-block o done b bs tail s =
    stores-more o done (block b.0 (length b.1)) (run_items (runs_of b.1) ++ (block_items bs ++ tail))
    (rw (append_assoc (run_items (runs_of b.1)) (block_items bs) tail) at s)

-- unset words up to a set one or the end of the block
pub stores-gap : (o : Object) (done : List ℕ) (n : ℕ) (cs : List Cell) (tail : List Item) → NoneUnset cs → Stores o done (run_items (runs_of (unset_then (suc n) cs)) ++ tail)
    → Stores o (done ++ frame 3 (pair (suc n))) (run_items (runs_of cs) ++ tail)
stores-gap o done n cs tail h s = stores-more o done (run (gap (suc n))) (run_items (runs_of cs) ++ tail) (rw (runs-gap n cs h) at s)

-- set words, 16,384 at most, up to an unset one or the end of the block
pub stores-sets : (o : Object) (done : List ℕ) (w : ℕ) (ws : List ℕ) (cs : List Cell) (tail : List Item) → suc (length ws) ≤ run_room → NoneSet cs
    → Stores o done (run_items (runs_of (words_then (w ∷ ws) cs)) ++ tail) → Stores o (done ++ frame 2 (pairs (w ∷ ws))) (run_items (runs_of cs) ++ tail)
stores-sets o done w ws cs tail l h s =
    stores-more o done (run (sets (w ∷ ws))) (run_items (runs_of cs) ++ tail) (record { same = s.same ∙ ap (λ (rs : List Run). done ++ spell (run_items rs ++ tail)) (runs-set w ws cs l h) })

-- 16,384 set words, whatever follows
pub stores-full : (o : Object) (done ws : List ℕ) (cs : List Cell) (tail : List Item) → length ws ≡ run_room → Stores o done (run_items (runs_of (words_then ws cs)) ++ tail)
    → Stores o (done ++ frame 2 (pairs ws)) (run_items (runs_of cs) ++ tail)
stores-full o done ws cs tail l s =
    stores-more o done (run (sets ws)) (run_items (runs_of cs) ++ tail) (record { same = s.same ∙ ap (λ (rs : List Run). done ++ spell (run_items rs ++ tail)) (runs-full ws cs l) })

-- the block's words are written
pub stores-block-end : (o : Object) (done : List ℕ) (tail : List Item) → Stores o done (run_items (runs_of []) ++ tail) → Stores o done tail
stores-block-end o done tail s = record { same = s.same ∙ ap (λ (rs : List Run). done ++ spell (run_items rs ++ tail)) runs_none }

-- LABELS, RELOCATIONS, X00

pub stores-label : (o : Object) (done : List ℕ) (n : Name) (v : Lab) (t : Table Name Lab) (tail : List Item) → Stores o done (label_items ((n, v) ∷ t) ++ tail)
    → Stores o (done ++ frame (tag_of (label n v)) (content (label n v))) (label_items t ++ tail)
stores-label o done n v t tail s = stores-more o done (label n v) (label_items t ++ tail) s

pub stores-reloc : (o : Object) (done : List ℕ) (a : ℕ) (n : Name) (t : Table ℕ Name) (tail : List Item) → Stores o done (reloc_items ((a, n) ∷ t) ++ tail)
    → Stores o (done ++ frame 6 (pair a ++ n)) (reloc_items t ++ tail)
stores-reloc o done a n t tail s = stores-more o done (reloc a n) (reloc_items t ++ tail) s

pub stores-fin : (o : Object) (done : List ℕ) → Stores o done (fin ∷ []) → stored o ≡ done ++ frame 0 []
stores-fin o done s = stores-end o (done ++ frame 0 []) (stores-more o done fin [] s)

-- 51 EXACTLY WHEN THE BYTES DO NOT FIT

pub store-whole : (room : ℕ) (o : Object) → length (stored o) ≤ room → store room o ≡ ok (stored o)
unfolding store
store-whole room o l = rw (le-leb (length (stored o)) room l) refl

pub store-no-room : (room : ℕ) (o : Object) → room < length (stored o) → store room o ≡ refuse 51 nowhere
unfolding store
store-no-room room o l = rw (lt-leb (length (stored o)) room l) refl
