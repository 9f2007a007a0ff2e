-- Where a search for words begins, that it stays so as relocations are read, and that the labels' fields are noted as they are read. Assumes nothing.
use mathlib.Core.Path.{◌≡◌, refl, sym, ◌∙◌, ap, subst}
use mathlib.Core.Bool.{true}
use mathlib.Core.List.{List, [], ◌∷◌, ◌++◌, append_assoc}
use Prim.Native.Nat.{ℕ, zero, suc, ◌+◌, ◌≤◌, ◌<◌}
use native.Mathlib.Decide.{dec_lt}
use native.Mathlib.Omega.{arith}
use lib.ListN.{length, get_or, set, length-set, length-append, get_or-append}
use lib.Seq.{get_or-append_seam, get_or-set_same, get_or-set_other}
use Rattle.rules.specs.Capacities.{label_room}
use Rattle.rules.specs.Tables.{Table, look, nat_order}
use Rattle.rules.specs.Objects.{Cell, Lab, outer, Name, cells_from}
use Rattle.rules.specs.Stored.{Run, Item, fin, block, run, label, reloc, size, runs_of, run_items, block_items, label_items, reloc_items, flatten, State, may, next}
use Rattle.rules.proofs.Runs.{or_else}
use Rattle.laws_stored.specs.Lookups.{word_in}
use Rattle.laws_stored.proofs.Cut.{flatten_runs}
use Rattle.laws_stored.proofs.Written.{flatten-one}
use Rattle.laws_stored.proofs.Accepted.{Finds}
use Rattle.laws_stored.proofs.Lookups.{word-run}
use Rattle.laws_stored.proofs.Taken.{Along, so_far, step}
use Rattle.laws_stored.proofs.Kept.{ChainTo}
use Rattle.laws_stored.proofs.Checking.{Checks}
use Rattle.laws_stored.proofs.Walked.{walks-start}
use Rattle.stored_seek.specs.Seeking.{Rising, Cursor, LabelAt, Noted}

-- WHAT WAS READ RISES

rising-labels : (p : ℕ) (t : Table Name Lab) (r : Table ℕ Name) → Rising p (label_items t ++ reloc_items r)
unfolding Rising
rising-labels p [] [] = tt
rising-labels p [] (e ∷ r) = rising-labels p [] r
rising-labels p (e ∷ t) r = rising-labels p t r

rising-runs : (p : ℕ) (rs : List Run) (is : List Item) → Rising (p + length (flatten rs)) is → Rising p (run_items rs ++ is)
unfolding Rising
rising-runs p [] is h = let e : p + 0 ≡ p = omega arith in rw e at h
rising-runs p (r ∷ rs) is h =
    let e : p + length (flatten (r ∷ rs)) ≡ p + size r + length (flatten rs) = omega (arith, flatten-one r rs) in
    rising-runs (p + size r) rs is (rw e at h)

rising-blocks : (y : ℕ) (bs : Table ℕ (List Cell)) (z : ℕ) (is : List Item) → ChainTo y bs z → ((q : ℕ) → q ≤ z → Rising q is) → Rising y (block_items bs ++ is)
unfolding Rising
rising-blocks y [] z is c h = h y c
rising-blocks y (b ∷ bs) z is c h =
    let r = rising-blocks (b.0 + length b.1) bs z is c.3 h in
    (c.0, subst (Rising b.0) (sym (append_assoc (run_items (runs_of b.1)) (block_items bs) is)) (rising-runs b.0 (runs_of b.1) (block_items bs ++ is) (rw (flatten_runs b.1) r)))

rising-read : (b : List ℕ) (s : State) (at : ℕ) → Checks b s at → Rising 0 (so_far s)
unfolding Rising
rising-read b s at c = go s.owed refl
  where
    go : (w : ℕ) → s.owed ≡ w → Rising 0 (so_far s)
    go zero e = rw e (rising-blocks 0 s.blocks s.floor (label_items s.labels ++ reloc_items s.relocs) c.kept.chain (λ q l. rising-labels q s.labels s.relocs))
    go (suc k) e =
        rw e (rising-blocks 0 s.blocks s.floor (block s.start s.total ∷ (run_items s.runs ++ (label_items s.labels ++ reloc_items s.relocs))) c.kept.chain
        (λ q l. (omega (arith, c.kept.above (omega arith)), rising-runs s.start s.runs (label_items s.labels ++ reloc_items s.relocs) (rising-labels (s.start + length (flatten s.runs)) s.labels s.relocs))))

-- A SEARCH MAY BEGIN at the first field, where words begin at 0
pub cursor-start : (b : List ℕ) (s : State) (at least : ℕ) → Checks b s at → Cursor s 0 0 least
cursor-start b s at least c = record { rest = so_far s; walks = walks-start s; rising = rising-read b s at c; same = λ a l. refl }

-- A RELOCATION MORE says nothing of words

rising-more : (p : ℕ) (is : List Item) (x : ℕ) (n : Name) → Rising p is → Rising p (is ++ (reloc x n ∷ []))
unfolding Rising
rising-more p [] x n h = tt
rising-more p (fin ∷ is) x n h = rising-more p is x n h
rising-more p (block s k ∷ is) x n h = (h.0, rising-more s is x n h.1)
rising-more p (run r ∷ is) x n h = rising-more (p + size r) is x n h
rising-more p (label m v ∷ is) x n h = rising-more p is x n h
rising-more p (reloc y m ∷ is) x n h = rising-more p is x n h

word_more : (p : ℕ) (is : List Item) (x : ℕ) (n : Name) (a : ℕ) → word_in p (is ++ (reloc x n ∷ [])) a ≡ word_in p is a
unfolding word_in
word_more p [] x n a = refl
word_more p (fin ∷ is) x n a = word_more p is x n a
word_more p (block s k ∷ is) x n a = word_more s is x n a
word_more p (run r ∷ is) x n a =
    word-run p r (is ++ (reloc x n ∷ [])) a ∙ (ap (or_else (look nat_order (cells_from p (flatten (r ∷ []))) a)) (word_more (p + size r) is x n a) ∙ sym (word-run p r is a))
word_more p (label m v ∷ is) x n a = word_more p is x n a
word_more p (reloc y m ∷ is) x n a = word_more p is x n a

pub cursor-reloc : (s : State) (x : ℕ) (n : Name) (seen address least most : ℕ) → Along s → may s (reloc x n) ≡ true → least ≤ most → Cursor s seen address least → Cursor (next s (reloc x n)) seen address most
cursor-reloc s x n seen address least most v m l c =
    let e : so_far (next s (reloc x n)) ≡ so_far s ++ (reloc x n ∷ []) = (step s (reloc x n) v refl m).same in
    record {
      rest = c.rest ++ (reloc x n ∷ []);
      walks = record {
        past = c.walks.past;
        items = e ∙ (ap (λ (is : List Item). is ++ (reloc x n ∷ [])) c.walks.items ∙ append_assoc c.walks.past c.rest (reloc x n ∷ []));
        place = c.walks.place;
      };
      rising = rising-more address c.rest x n c.rising;
      same = λ a h. ap (λ (is : List Item). word_in 0 is a) e ∙ (word_more 0 (so_far s) x n a ∙ (c.same a (omega arith) ∙ sym (word_more address c.rest x n a)));
    }

-- LABELS NOTED

pub noted-none : (b places : List ℕ) → label_room ≤ length places → Noted b places []
noted-none b places l = record { room = l; rows = λ k h. absurd (omega arith) }

pub noted_more : (b places : List ℕ) (ls : Table Name Lab) (at : ℕ) (n : Name) (v : Lab) (z : ℕ) → Noted b places ls → Finds b at (label n v) z → length ls < label_room
    → Noted b (set places (length ls) at) (ls ++ ((n, v) ∷ []))
noted_more b places ls at n v z t f l = record { room = simp length-set t.room; rows = λ k h. go k h (dec_lt k (length ls)) }
  where
    go : (k : ℕ) → k < length (ls ++ ((n, v) ∷ [])) → Dec (k < length ls) → LabelAt b (get_or (set places (length ls) at) k 0) (get_or (ls ++ ((n, v) ∷ [])) k ([], outer))
    go k h (yes p) = rw (get_or-set_other places (length ls) k at 0 (λ e. omega arith), get_or-append ls ((n, v) ∷ []) ([], outer) k p) (t.rows k p)
    go k h (no p) =
        let e : k ≡ length ls = omega (arith, length-append ls ((n, v) ∷ [])) in
        rw (e, get_or-set_same places (length ls) at 0 (omega (arith, t.room)), get_or-append_seam ls (n, v) [] ([], outer)) (record { next = z; found = f })
