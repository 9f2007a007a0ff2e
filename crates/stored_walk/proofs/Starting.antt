-- The walk before the first field, how far a step goes, and how many words there can be. Assumes nothing.
use mathlib.Core.Path.{◌≡◌, refl, ◌∙◌}
use mathlib.Core.List.{List, [], ◌∷◌}
use Prim.Native.Nat.{ℕ, zero, suc, ◌+◌, ◌≤◌, ◌<◌}
use native.Mathlib.Omega.{arith}
use lib.ListN.{length, length-append}
use Rattle.rules.specs.Capacities.{label_room, word_room}
use Rattle.rules.specs.Tables.{Table}
use Rattle.rules.specs.Objects.{Cell, flat}
use Rattle.rules.specs.Stored.{State, begin, after, next}
use Rattle.laws_stored.specs.Beginnings.{AreBytes}
use Rattle.laws_stored.proofs.Accepted.{found-extent}
use Rattle.laws_stored.proofs.Kept.{ChainTo}
use Rattle.laws_stored.proofs.Checking.{checks-start}
use Rattle.stored_seek.proofs.Cursors.{cursor-start, noted-none}
use Rattle.stored_walk.specs.declared.Walk.{Walk}
use Rattle.stored_walk.specs.Walking.{begun, Tells, Going, Onward}

-- THE START

pub tells-start : (b places : List ℕ) → AreBytes b → label_room ≤ length places → Tells b places begun begin
unfolding after
tells-start b places h l =
    let c = checks-start b h in
    record {
      checks = c;
      blocks = refl;
      words = refl;
      floor = refl;
      owed = refl;
      previous = refl;
      shut = λ e. refl;
      labels = refl;
      named = refl;
      noted = noted-none b places l;
      relocations = refl;
      least = refl;
      fresh = λ e. (refl, refl);
      cursor = cursor-start b begin 0 0 c;
    }

pub going_start : (b places : List ℕ) → AreBytes b → label_room ≤ length places → Going b places begun
going_start b places h l = record { state = begin; tells = tells-start b places h l }

-- A STEP GOES ON, and not past the bytes

module _ (b places : List ℕ) (w : Walk) (s : State) (r : Walk) (o : Onward b places w s r) where
  pub step-further : w.at < r.at
  step-further = omega (arith, (found-extent b w.at o.item r.at o.found).after)

  pub step-within : r.at ≤ length b
  step-within = (found-extent b w.at o.item r.at o.found).within

  -- and how things stand behind it is told
  pub going_on : Going b places r
  going_on = record { state = next s o.item; tells = o.tells }

-- WORDS, read and owed, are no more than there are addresses

chain-words : (y : ℕ) (bs : Table ℕ (List Cell)) (z : ℕ) → ChainTo y bs z → y + length (flat bs) ≤ z
chain-words y [] z c = omega (arith, c)
chain-words y (b ∷ bs) z c = omega (arith, c.0, chain-words (b.0 + length b.1) bs z c.3, length-append b.1 (flat bs))

chain-room : (y : ℕ) (bs : Table ℕ (List Cell)) (z : ℕ) → y ≤ word_room → ChainTo y bs z → y + length (flat bs) ≤ word_room
chain-room y [] z l c = omega arith
chain-room y (b ∷ bs) z l c = omega (arith, c.0, chain-room (b.0 + length b.1) bs z c.2 c.3, length-append b.1 (flat bs))

pub words-room : (b places : List ℕ) (w : Walk) → Going b places w → w.words + w.owed ≤ 65024
words-room b places w g = go g.state g.tells
  where
    go : (s : State) → Tells b places w s → w.words + w.owed ≤ 65024
    go s t = split s.owed refl
      where
        split : (k : ℕ) → s.owed ≡ k → w.words + w.owed ≤ 65024
        split zero e =
            let q : w.words ≡ length (flat s.blocks) = rw (t.shut e) at t.words ∙ omega arith in
            omega (arith, t.owed, chain-room 0 s.blocks s.floor (omega arith) t.checks.kept.chain)
        split (suc k) e =
            let h : 0 < s.owed = omega arith in
            omega (arith, t.owed, t.words, chain-words 0 s.blocks s.floor t.checks.kept.chain, t.checks.kept.above h, t.checks.kept.below h, t.checks.along.sum h)
