-- What was read so far can be completed: a run or two for the words owed, and x00. Assumes nothing.
use mathlib.Core.Path.{◌≡◌, refl, sym, ◌∙◌, ap}
use mathlib.Core.Bool.{true, false}
use mathlib.Core.List.{List, [], ◌∷◌, ◌++◌}
use mathlib.Core.Option.{some}
use Prim.Native.Nat.{ℕ, zero, suc, ◌-◌, ◌<◌}
use native.Mathlib.Omega.{arith}
use Rattle.rules.specs.Objects.{Object, Good}
use Rattle.rules.specs.Stored.{run_room, Run, sets, gap, Item, fin, run, tag_of, content, frame, spell, stored, State, held, Prev, free, short, skipped, kind, after, may, grown, next, is_fin}
use Rattle.laws_stored.specs.Beginnings.{BeginsStored}
use Rattle.laws_stored.proofs.Cut.{after_more, Sets, Gaps, fits-gap, fits-sets, room-is}
use Rattle.laws_stored.proofs.Framed.{Bytes, bytes-both, spell-append}
use Rattle.laws_stored.proofs.Accepted.{accept}
use Rattle.laws_stored.proofs.Taken.{run-may, Along, so_far, accept-items}
use Rattle.laws_stored.proofs.Ordered.{ordered-good}
use Rattle.laws_stored.proofs.Complete.{accept-item, accept-fin}
use Rattle.laws_stored.proofs.Kept.{Kept, accept-ordered}
use Rattle.laws_stored.proofs.TwoBytes.{stored_low}

pub record Completion (s : State) : Type 0 where
  pub items : List Item
  pub object : Object
  pub taken : accept s items ≡ some object
  pub bytes : Bytes (spell items)

by-fin : (s : State) → s.owed ≡ 0 → Completion s
by-fin s e = record { items = fin ∷ []; object = held s; taken = accept-fin s e; bytes = (omega arith, (omega arith, (omega arith, tt))) }

by-item : (s : State) (i : Item) → is_fin i ≡ false → may s i ≡ true → Bytes (frame (tag_of i) (content i)) → Completion (next s i) → Completion s
by-item s i f m b c = record {
  items = i ∷ c.items;
  object = c.object;
  taken = accept-item s i c.items (some c.object) f m c.taken;
  bytes = bytes-both (frame (tag_of i) (content i)) (spell c.items) b c.bytes;
}

-- all words owed are unset
by-gap : (s : State) → 0 < s.owed → s.owed < 65536 → Gaps (after free s.runs) → Completion s
unfolding next
by-gap s p q g =
    let z : s.owed - s.owed ≡ 0 = omega arith in
    by-item s (run (gap s.owed)) refl (run-may s (gap s.owed) (record { owed = omega arith; follows = fits-gap (after free s.runs) s.owed g p }))
    (omega arith, (omega arith, (omega arith, (omega arith, (omega arith, tt)))))
    (by-fin (next s (run (gap s.owed))) (rw z refl))

one-short : kind (sets (0 ∷ [])) ≡ short
unfolding run_room
one-short = refl

-- one set word, and the others unset
by-set : (s : State) → 0 < s.owed → s.owed < 65536 → Sets (after free s.runs) → Completion s
unfolding next
by-set s p q g =
    by-item s (run (sets (0 ∷ []))) refl (run-may s (sets (0 ∷ [])) (record { owed = omega arith; follows = fits-sets (after free s.runs) 0 [] g (omega (arith, room-is)) }))
    (omega arith, (omega arith, (omega arith, (omega arith, (omega arith, tt))))) (go (s.owed - 1) refl)
  where
    rs : List Run
    rs = s.runs ++ (sets (0 ∷ []) ∷ [])

    go : (k : ℕ) → s.owed - 1 ≡ k → Completion (next s (run (sets (0 ∷ []))))
    go zero e = by-fin (next s (run (sets (0 ∷ [])))) (rw e refl)
    go (suc k) e = rw e (by-gap (grown s rs (suc k)) (omega arith) (omega arith) (rw (after_more free s.runs (sets (0 ∷ [])), one-short) tt))

completion : (s : State) → Along s → Kept s → Completion s
completion s v k = go s.owed refl (after free s.runs) refl
  where
    few : 0 < s.owed → s.owed < 65536
    few p = omega (arith, v.sum p, k.below p)

    go : (w : ℕ) → s.owed ≡ w → (p : Prev) → after free s.runs ≡ p → Completion s
    go zero e p q = by-fin s e
    go (suc w) e free q = by-gap s (omega arith) (few (omega arith)) (rw q tt)
    go (suc w) e short q = by-gap s (omega arith) (few (omega arith)) (rw q tt)
    go (suc w) e skipped q = by-set s (omega arith) (few (omega arith)) (rw q tt)

-- bytes read so far, with items behind them that are accepted, are a stored object
pub record Completes (x : List ℕ) (o : Object) (is : List Item) : Type 0 where
  pub good : Good o
  pub same : stored o ≡ x ++ spell is

pub complete : (x : List ℕ) (s : State) (is : List Item) (o : Object) → Bytes x → Along s → Kept s → x ≡ spell (so_far s) → accept s is ≡ some o → Bytes (spell is) → Completes x o is
unfolding stored
complete x s is o h v k e a c =
    let q : stored o ≡ x ++ spell is = ap spell (sym (accept-items s is o v a)) ∙ (spell-append (so_far s) is ∙ ap (λ (l : List ℕ). l ++ spell is) (sym e)) in
    let l = stored_low o (rw q (bytes-both x (spell is) h c)) in
    record { good = ordered-good o (accept-ordered s is o v k a) l.words l.addresses; same = q }

-- and begin one, whatever is owed
pub begins : (x : List ℕ) (s : State) → Bytes x → Along s → Kept s → x ≡ spell (so_far s) → BeginsStored x
begins x s h v k e =
    let c = completion s v k in
    let w = complete x s c.items c.object h v k e c.taken c.bytes in
    (c.object, spell c.items, w.good, w.same)
