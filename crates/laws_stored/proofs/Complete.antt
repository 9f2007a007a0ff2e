-- The items of a good object are accepted, and give the object. Assumes nothing.
use mathlib.Core.Path.{◌≡◌, refl, ap}
use mathlib.Core.Bool.{true, false}
use mathlib.Core.List.{List, [], ◌∷◌, ◌++◌, append_assoc, append-nil}
use mathlib.Core.Option.{Option, some}
use Prim.Native.Nat.{ℕ, zero, suc, ◌+◌, ◌-◌, ◌≤◌, ◌<◌}
use native.Mathlib.Omega.{arith}
use lib.ListN.{length, length-append}
use Rattle.rules.specs.Capacities.{block_room, label_room, reloc_room, word_room}
use Rattle.rules.specs.Tables.{Table}
use Rattle.rules.specs.Objects.{Cell, Lab, Name, Object}
use Rattle.rules.specs.Stored.{Run, Item, fin, block, run, label, reloc, runs_of, run_items, block_items, label_items, reloc_items, items_of, State, state, begin, held, size, free, kind, after, flatten, may, next, is_fin}
use Rattle.rules.proofs.Chains.{Chain}
use Rattle.laws_stored.proofs.Cut.{Canon, after_more, fits-some, flatten_runs, canon-runs}
use Rattle.laws_stored.proofs.Accepted.{accept}
use Rattle.laws_stored.proofs.Written.{flatten-one}
use Rattle.laws_stored.proofs.Taken.{fin-may, block-may, run-may, label-may, reloc-may}
use Rattle.laws_stored.proofs.Ordered.{Ends, Names, Places, Ordered}

-- one item
pub accept-item : (s : State) (i : Item) (is : List Item) (x : Option Object) → is_fin i ≡ false → may s i ≡ true → accept (next s i) is ≡ x → accept s (i ∷ is) ≡ x
unfolding accept
accept-item s i is x f m h = rw (m, f) h

-- STATES: between blocks, in a block, among labels, among relocations

abbrev shut : Table ℕ (List Cell) → ℕ → State
shut bs y = state bs y 0 0 0 [] [] [] [] 0

abbrev within : Table ℕ (List Cell) → ℕ → ℕ → ℕ → ℕ → List Run → State
within bs y a n k rs = state bs y a n k rs [] [] [] 0

abbrev naming : Table ℕ (List Cell) → ℕ → Table Name Lab → Name → State
naming bs y ls l = state bs y 0 0 0 [] ls l [] 0

abbrev placing : Table ℕ (List Cell) → ℕ → Table Name Lab → Name → Table ℕ Name → ℕ → State
placing bs y ls l rs a = state bs y 0 0 0 [] ls l rs a

-- RUNS
runs-read : (bs : Table ℕ (List Cell)) (y a n : ℕ) (is : List Item) (x : Option Object) (r : Run) (rs pre : List Run) (k : ℕ)
    → Canon (after free pre) (r ∷ rs) → length (flatten (r ∷ rs)) ≡ k
    → accept (shut (bs ++ ((a, flatten (pre ++ (r ∷ rs))) ∷ [])) (a + n)) is ≡ x
    → accept (within bs y a n k pre) (run r ∷ (run_items rs ++ is)) ≡ x
unfolding next
runs-read bs y a n is x r [] pre k c e h =
    let z : k - size r ≡ 0 = omega (arith, flatten-one r []) in
    accept-item (within bs y a n k pre) (run r) is x refl (run-may (within bs y a n k pre) r (record { owed = omega (arith, flatten-one r []); follows = c.0 }))
    (rw z h)
runs-read bs y a n is x r (q ∷ rs) pre k c e h = go (k - size r) refl (runs-read bs y a n is x q rs (pre ++ (r ∷ [])) (k - size r)
    (rw (after_more free pre r) c.1) (omega (arith, flatten-one r (q ∷ rs))) (rw (append_assoc pre (r ∷ []) (q ∷ rs)) h))
  where
    go : (j : ℕ) → k - size r ≡ j → accept (within bs y a n (k - size r) (pre ++ (r ∷ []))) (run q ∷ (run_items rs ++ is)) ≡ x
        → accept (within bs y a n k pre) (run r ∷ (run q ∷ (run_items rs ++ is))) ≡ x
    go zero z i = absurd (omega (arith, flatten-one r (q ∷ rs), flatten-one q rs, fits-some (kind r) q c.1.0))
    go (suc j) z i =
        accept-item (within bs y a n k pre) (run r) (run q ∷ (run_items rs ++ is)) x refl (run-may (within bs y a n k pre) r (record { owed = omega (arith, flatten-one r (q ∷ rs)); follows = c.0 }))
        (rw z (rw z at i))

-- BLOCKS
block_read : (bs : Table ℕ (List Cell)) (y a : ℕ) (cs : List Cell) (is : List Item) (x : Option Object)
    → y ≤ a → 0 < length cs → a + length cs ≤ word_room → length bs < block_room
    → accept (shut (bs ++ ((a, cs) ∷ [])) (a + length cs)) is ≡ x
    → accept (shut bs y) (block a (length cs) ∷ (run_items (runs_of cs) ++ is)) ≡ x
unfolding next after
block_read bs y a cs is x p q l m h = go (runs_of cs) (flatten_runs cs) (canon-runs cs)
  where
    go : (rs : List Run) → flatten rs ≡ cs → Canon free rs → accept (shut bs y) (block a (length cs) ∷ (run_items rs ++ is)) ≡ x
    go [] e c = absurd (omega (arith, ap length e))
    go (r ∷ rs) e c =
        accept-item (shut bs y) (block a (length cs)) (run r ∷ (run_items rs ++ is)) x refl
        (block-may (shut bs y) a (length cs) (record { closed = refl; no-labels = refl; no-relocs = refl; words = q; above = p; below = l; room = m }))
        (runs-read bs y a (length cs) is x r rs [] (length cs) c (ap length e) (rw e h))

blocks-read : (bs done : Table ℕ (List Cell)) (y : ℕ) (is : List Item) (x : Option Object)
    → Chain y bs → Ends bs → length done + length bs ≤ block_room
    → ((z : ℕ) → accept (shut (done ++ bs) z) is ≡ x)
    → accept (shut done y) (block_items bs ++ is) ≡ x
blocks-read [] done y is x c f l h = rw (append-nil done) at (h y)
blocks-read (b ∷ bs) done y is x c f l h =
    rw (append_assoc (run_items (runs_of b.1)) (block_items bs) is)
    (block_read done y b.0 b.1 (block_items bs ++ is) x c.0 c.1 f.0 (omega arith)
    (blocks-read bs (done ++ (b ∷ [])) (b.0 + length b.1) is x c.2 f.1 (omega (arith, length-append done (b ∷ [])))
    (λ z. rw (append_assoc done (b ∷ []) bs) (h z))))

-- LABELS
labels-read : (bs : Table ℕ (List Cell)) (y : ℕ) (t done : Table Name Lab) (last : Name) (is : List Item) (x : Option Object)
    → Names last t → length done + length t ≤ label_room
    → ((z : Name) → accept (naming bs y (done ++ t) z) is ≡ x)
    → accept (naming bs y done last) (label_items t ++ is) ≡ x
unfolding next
labels-read bs y [] done last is x n l h = rw (append-nil done) at (h last)
labels-read bs y (e ∷ t) done last is x n l h =
    accept-item (naming bs y done last) (label e.0 e.1) (label_items t ++ is) x refl
    (label-may (naming bs y done last) e.0 e.1 (record { closed = refl; no-relocs = refl; above = n.0; named = n.1; room = omega arith }))
    (labels-read bs y t (done ++ (e ∷ [])) e.0 is x n.2 (omega (arith, length-append done (e ∷ [])))
    (λ z. rw (append_assoc done (e ∷ []) t) (h z)))

-- RELOCATIONS
relocs-read : (bs : Table ℕ (List Cell)) (y : ℕ) (ls : Table Name Lab) (l : Name) (t done : Table ℕ Name) (a : ℕ) (is : List Item) (x : Option Object)
    → Places bs ls a t → length done + length t ≤ reloc_room
    → ((z : ℕ) → accept (placing bs y ls l (done ++ t) z) is ≡ x)
    → accept (placing bs y ls l done a) (reloc_items t ++ is) ≡ x
unfolding next
relocs-read bs y ls l [] done a is x p m h = rw (append-nil done) at (h a)
relocs-read bs y ls l (e ∷ t) done a is x p m h =
    accept-item (placing bs y ls l done a) (reloc e.0 e.1) (reloc_items t ++ is) x refl
    (reloc-may (placing bs y ls l done a) e.0 e.1 (record { closed = refl; above = p.0; room = omega arith; zero = p.1.0; outside = p.1.1 }))
    (relocs-read bs y ls l t (done ++ (e ∷ [])) (suc e.0) is x p.2 (omega (arith, length-append done (e ∷ [])))
    (λ z. rw (append_assoc done (e ∷ []) t) (h z)))

-- ALL
pub accept-fin : (s : State) → s.owed ≡ 0 → accept s (fin ∷ []) ≡ some (held s)
unfolding accept
accept-fin s e = rw (fin-may s e) refl

pub items-accepted : (o : Object) → Ordered o → accept begin (items_of o) ≡ some o
items-accepted o w =
    blocks-read o.blocks [] 0 (label_items o.labels ++ (reloc_items o.relocs ++ (fin ∷ []))) (some o) w.chain w.ends (omega (arith, w.few_blocks))
    (λ y. labels-read o.blocks y o.labels [] [] (reloc_items o.relocs ++ (fin ∷ [])) (some o) w.names (omega (arith, w.few_labels))
    (λ l. relocs-read o.blocks y o.labels l o.relocs [] 0 (fin ∷ []) (some o) w.places (omega (arith, w.few_relocs))
    (λ a. accept-fin (placing o.blocks y o.labels l o.relocs a) refl)))
