-- What is decided of two lent objects is what the rule says of them. Assumes nothing.
use Rattle.std.specs.declared.result.Result.{Result}
use Rattle.std.specs.declared.result.Result.TheVariants.{Ok, Err}
use Rattle.base_refusals.specs.declared.Fault.{Fault}
use Rattle.base_refusals.specs.Refusals.{fault}
use mathlib.Core.Path.{◌≡◌, refl, sym, ◌∙◌, ap}
use mathlib.Core.Bool.{Bool, true, false, ◌||◌}
use mathlib.Core.List.{List}
use Prim.Native.Nat.{ℕ}
use lib.Dec.{ltb, leb}
use lib.ListN.{length}
use borrow.Author.Tests.{ltb-true, ltb-false, le-leb, lt-leb}
use Rattle.rules.specs.Base.{Outcome, ok, refused, refuse, nowhere}
use Rattle.rules.specs.Objects as Objects
use Rattle.rules.specs.Objects.{Object, counts_of}
use Rattle.rules.specs.Buffers.{Buffers, tab, head_row, short, view, Valid}
use Rattle.rules.specs.Calls.{OfObject, too_short, bad_object, on_object}
use Rattle.rules.specs.Linking.{shared, agree, all_labels, union, holds, link}
use Rattle.rules.proofs.Bools.{never}
use Rattle.laws_link.proofs.Answers.{true-holds, over-blocks, over-labels, over-relocs, link-shared, link-differs, link-full, link-short, link-made}
use Rattle.object.specs.declared.Counts.{Counts}
use Rattle.object.specs.Meaning.{counts}
use Rattle.object_check.specs.declared.ObjectErr.{ObjectErr}
use Rattle.object_check.specs.declared.ObjectErr.TheVariants.{ShortBuffer, BadObject}
use Rattle.object_check.specs.Checked.{outcome}
use Rattle.object_check.proofs.Whole.{checked-short, checked-wide, checked-bad, checked-valid, checked-long}
use Rattle.link_blocks.specs.Meeting.{meeting}
use Rattle.link_blocks.proofs.Shared.{shared_view}
use Rattle.link_labels.specs.Matching.{both_labels, both_agree, BothNoted}
use Rattle.link_decide.specs.Decided.{said, counted, Decided, given, weighed, Judged}
use Rattle.link_decide.proofs.Steps.{weigh-blocks, weigh-labels, weigh-relocations, weigh-words, weigh-fits}
use Rattle.link_decide.proofs.Counted.{not-shared, counts-added}

-- 40, 41 OR THE LINK: what is weighed is what the rule says of a union with these counts
module _ (room : ℕ) (a b : Object) (s : shared a b ≡ false) (g : agree 0 a.labels b.labels ≡ ok tt) (t : Counts) (u : counts_of (union a b) ≡ counts t) where
  held : holds (counts t) ≡ true → holds (counts_of (union a b)) ≡ true
  held h = ap holds u ∙ h

  full : holds (counts t) ≡ false → refuse 40 nowhere ≡ counted (link room a b)
  full h = sym (ap counted (link-full room a b s g (ap holds u ∙ h)))

  pub weighed-link : said (weighed t room) ≡ counted (link room a b)
  weighed-link = go (ltb 64 t.blocks) refl (ltb 1024 t.labels) refl (ltb 1024 t.relocations) refl (ltb room t.words) refl
    where
      go : (x : Bool) → ltb 64 t.blocks ≡ x → (y : Bool) → ltb 1024 t.labels ≡ y → (z : Bool) → ltb 1024 t.relocations ≡ z → (w : Bool) → ltb room t.words ≡ w
          → said (weighed t room) ≡ counted (link room a b)
      go true p y q z r w o =
          let h = ltb-true 64 t.blocks p in
          sym (ap said (weigh-blocks t room h)) ∙ full (over-blocks (counts t) h)
      go false p true q z r w o =
          let i = ltb-false 64 t.blocks p in
          let h = ltb-true 1024 t.labels q in
          sym (ap said (weigh-labels t room i h)) ∙ full (over-labels (counts t) h)
      go false p false q true r w o =
          let i = ltb-false 64 t.blocks p in
          let j = ltb-false 1024 t.labels q in
          let h = ltb-true 1024 t.relocations r in
          sym (ap said (weigh-relocations t room i j h)) ∙ full (over-relocs (counts t) h)
      go false p false q false r true o =
          let i = ltb-false 64 t.blocks p in
          let j = ltb-false 1024 t.labels q in
          let k = ltb-false 1024 t.relocations r in
          let h = ltb-true room t.words o in
          let l = held (true-holds (counts t) (record { blocks = i; labels = j; relocs = k })) in
          sym (ap said (weigh-words t room i j k h))
          ∙ sym (ap counted (link-short room a b s g l (ap (λ (n : ℕ). leb n room) (ap (λ (m : Objects.Counts). m.words) u) ∙ lt-leb t.words room h)))
      go false p false q false r false o =
          let i = ltb-false 64 t.blocks p in
          let j = ltb-false 1024 t.labels q in
          let k = ltb-false 1024 t.relocations r in
          let h = ltb-false room t.words o in
          let l = held (true-holds (counts t) (record { blocks = i; labels = j; relocs = k })) in
          sym (ap said (weigh-fits t room i j k h))
          ∙ (ap ok (sym u)
          ∙ sym (ap counted (link-made room a b s g l (ap (λ (n : ℕ). leb n room) (ap (λ (m : Objects.Counts). m.words) u) ∙ le-leb t.words room h))))

-- TWO OBJECTS
module _ (c : Counts) (b : Buffers) (d : Counts) (e : Buffers) (small : Bool) (room : ℕ) (r : Result Counts Fault) (xs ys : List ℕ) (v : Valid (counts c) b) (u : Valid (counts d) e)
    (long : (short b || short e || small) ≡ false) (J : Judged c b.blocks b.labels b.relocs b.names d e.blocks e.labels e.relocs e.names room r xs ys) where
  abbrev met : Bool
  met = meeting (tab c.blocks (head_row b.blocks)) (tab d.blocks (head_row e.blocks))

  abbrev agreed : Outcome (Unit {0})
  agreed = both_agree c.labels b.labels b.names d.labels e.labels e.names

  told-link : said r ≡ counted (link room (view (counts c) b) (view (counts d) e))
  told-link = go met refl agreed refl
    where
      go : (x : Bool) → met ≡ x → (g : Outcome (Unit {0})) → agreed ≡ g → said r ≡ counted (link room (view (counts c) b) (view (counts d) e))
      go true p g q =
          ap said (J.meets p)
          ∙ sym (ap counted (link-shared room (view (counts c) b) (view (counts d) e) (shared_view (counts c) (counts d) b e v.blocks u.blocks ∙ p)))
      go false p (refused w) q = J.differs p w q ∙ sym (ap counted (link-differs room (view (counts c) b) (view (counts d) e) (not-shared c b d e v u p) w q))
      go false p (ok tt) q =
          ap said (J.weighs p q)
          ∙ weighed-link room (view (counts c) b) (view (counts d) e) (not-shared c b d e v u p) q _ (counts-added c b d e v u p (J.noted p q))

  -- a link has its notes
  both-noted : (k : Counts) → r ≡ Ok k → BothNoted c.labels b.labels b.names d.labels e.labels e.names (length (both_labels c.labels b.labels b.names d.labels e.labels e.names)) xs ys
  both-noted k z = go met refl agreed refl
    where
      go : (x : Bool) → met ≡ x → (g : Outcome (Unit {0})) → agreed ≡ g
          → BothNoted c.labels b.labels b.names d.labels e.labels e.names (length (both_labels c.labels b.labels b.names d.labels e.labels e.names)) xs ys
      go true p g q = let w = J.meets p in never cc
      go false p (refused w) q = let s = sym (ap said z) ∙ J.differs p w q in never cc
      go false p (ok tt) q = J.noted p q

  pub decided-objects : Decided (counts c) b (counts d) e small room r xs ys
  unfolding all_labels both_labels
  decided-objects = record { answer = on_object long (v, u) told-link; noted1 = λ k z. (both-noted k z).first; noted2 = λ k z. (both-noted k z).second }

-- 42 AND 43

or-first : (x y z : Bool) → x ≡ true → (x || y || z) ≡ true
or-first x y z e = rw e refl

or-second : (x y z : Bool) → y ≡ true → (x || y || z) ≡ true
or-second true y z e = refl
or-second false y z e = rw e refl

or-third : (x y z : Bool) → z ≡ true → (x || y || z) ≡ true
or-third true y z e = refl
or-third false true z e = refl
or-third false false z e = e

module _ (c : Counts) (b : Buffers) (d : Counts) (e : Buffers) (small : Bool) (f s t : Result (Unit {0}) ObjectErr) (l : OfObject (counts c) b (ok tt) (outcome f))
    (m : OfObject (counts d) e (ok tt) (outcome s)) (o : t ≡ given f s small) where
  short-told : t ≡ Err ShortBuffer → (short b || short e || small) ≡ true
  unfolding given
  short-told q = go f s small refl refl refl (sym o ∙ q)
    where
      go : (f' s' : Result (Unit {0}) ObjectErr) (x : Bool) → f ≡ f' → s ≡ s' → small ≡ x → given f' s' x ≡ Err ShortBuffer → (short b || short e || small) ≡ true
      go f' s' true p w y z = or-third (short b) (short e) small y
      go (Err ShortBuffer) s' false p w y z = or-first (short b) (short e) small (checked-short f l p)
      go (Ok u) s' false p w y z = or-second (short b) (short e) small (checked-short s m (w ∙ z))
      go (Err BadObject) (Err ShortBuffer) false p w y z = or-second (short b) (short e) small (checked-short s m w)
      go (Err BadObject) (Ok u) false p w y z = never cc
      go (Err BadObject) (Err BadObject) false p w y z = never cc

  long-told : t ≡ Err BadObject → ((short b || short e || small) ≡ false) × (Valid (counts c) b × Valid (counts d) e → ⊥)
  unfolding given
  long-told q = go f s small refl refl refl (sym o ∙ q)
    where
      go : (f' s' : Result (Unit {0}) ObjectErr) (x : Bool) → f ≡ f' → s ≡ s' → small ≡ x → given f' s' x ≡ Err BadObject → ((short b || short e || small) ≡ false) × (Valid (counts c) b × Valid (counts d) e → ⊥)
      go f' s' true p w y z = never cc
      go (Err ShortBuffer) s' false p w y z = never cc
      go (Ok u) s' false p w y z = (rw (checked-long f l p, checked-wide s m (w ∙ z), y) refl, λ h. checked-bad s m (w ∙ z) h.1)
      go (Err BadObject) (Err ShortBuffer) false p w y z = never cc
      go (Err BadObject) (Ok u) false p w y z = (rw (checked-wide f l p, checked-long s m w, y) refl, λ h. checked-bad f l p h.0)
      go (Err BadObject) (Err BadObject) false p w y z = (rw (checked-wide f l p, checked-wide s m w, y) refl, λ h. checked-bad f l p h.0)

  objects-told : t ≡ Ok tt → ((short b || short e || small) ≡ false) × Valid (counts c) b × Valid (counts d) e
  unfolding given
  objects-told q = go f s small refl refl refl (sym o ∙ q)
    where
      go : (f' s' : Result (Unit {0}) ObjectErr) (x : Bool) → f ≡ f' → s ≡ s' → small ≡ x → given f' s' x ≡ Ok tt → ((short b || short e || small) ≡ false) × Valid (counts c) b × Valid (counts d) e
      go f' s' true p w y z = never cc
      go (Err ShortBuffer) s' false p w y z = never cc
      go (Ok u) s' false p w y z = (rw (checked-long f l p, checked-long s m (w ∙ z), y) refl, checked-valid f l p, checked-valid s m (w ∙ z))
      go (Err BadObject) (Err ShortBuffer) false p w y z = never cc
      go (Err BadObject) (Ok u) false p w y z = never cc
      go (Err BadObject) (Err BadObject) false p w y z = never cc

  pub decided-short : (room : ℕ) (r : Result Counts Fault) (xs ys : List ℕ) → t ≡ Err ShortBuffer → r ≡ Err (fault 42 0 0) → Decided (counts c) b (counts d) e small room r xs ys
  decided-short room r xs ys q z = record { answer = too_short (short-told q) (ap said z); noted1 = λ k w. never cc; noted2 = λ k w. never cc }

  pub decided-bad : (room : ℕ) (r : Result Counts Fault) (xs ys : List ℕ) → t ≡ Err BadObject → r ≡ Err (fault 43 0 0) → Decided (counts c) b (counts d) e small room r xs ys
  decided-bad room r xs ys q z = let h = long-told q in record { answer = bad_object h.0 h.1 (ap said z); noted1 = λ k w. never cc; noted2 = λ k w. never cc }

  module _ (q : t ≡ Ok tt) where
    pub first-valid : Valid (counts c) b
    first-valid = (objects-told q).1

    pub second-valid : Valid (counts d) e
    second-valid = (objects-told q).2

    pub decided-judged : (room : ℕ) (r : Result Counts Fault) (xs ys : List ℕ) → Judged c b.blocks b.labels b.relocs b.names d e.blocks e.labels e.relocs e.names room r xs ys → Decided (counts c) b (counts d) e small room r xs ys
    decided-judged room r xs ys J = decided-objects c b d e small room r xs ys (objects-told q).1 (objects-told q).2 (objects-told q).0 J
