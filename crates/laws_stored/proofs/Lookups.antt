-- What was read says of an address and of a name what its fields say, looked through in their order. Assumes nothing.
use mathlib.Core.Path.{◌≡◌, refl, sym, ◌∙◌, ap}
use mathlib.Core.Bool.{Bool, true, false, ◌&&◌}
use mathlib.Core.List.{List, [], ◌∷◌, ◌++◌, append_assoc}
use mathlib.Core.Option.{Option, none, some}
use Prim.Native.Nat.{ℕ, zero, suc, ◌+◌, ◌-◌, ◌≤◌, ◌<◌}
use native.Mathlib.Omega.{arith}
use lib.ListN.{length, get_or}
use lib.Dec.{leb, ltb}
use borrow.Author.Tests.{leb-true, leb-false, ltb-true, ltb-false, eq-eqb}
use Rattle.rules.specs.Base.{same}
use Rattle.rules.specs.Tables as T
use Rattle.rules.specs.Tables.{Table, Tri, less, more, look, nat_order, name_order}
use Rattle.rules.specs.Objects.{Cell, unset, word, Lab, Name, cells_from, cells}
use Rattle.rules.specs.Stored.{Run, sets, gap, size, Item, run, runs_of, run_items, block_items, label_items, reloc_items, words_then, unset_then, flatten, State}
use Rattle.rules.proofs.Bools.{never}
use Rattle.rules.proofs.Tables.{look-here, look-there, lt-ne}
use Rattle.rules.proofs.Runs.{or_else, look-append, run_in, run-from}
use Rattle.rules.proofs.Named.{same_true}
use Rattle.laws_stored.specs.Lookups.{cell_of, word_in, label_in}
use Rattle.laws_stored.proofs.Cut.{flatten_runs}
use Rattle.laws_stored.proofs.Written.{flatten-one}
use Rattle.laws_stored.proofs.Taken.{so_far}

-- WORDS BY ADDRESS

pub inside : (p : ℕ) (cs : List Cell) (a : ℕ) → p ≤ a → a < p + length cs → look nat_order (cells_from p cs) a ≡ some (get_or cs (a - p) unset)
inside p [] a l m = absurd (omega arith)
inside p (c ∷ cs) a l m = go (nat_order.tri a p) (λ k. inside (suc p) cs a k (omega arith))
  where
    go : Tri ◌<◌ a p → (suc p ≤ a → look nat_order (cells_from (suc p) cs) a ≡ some (get_or cs (a - suc p) unset))
        → look nat_order (cells_from p (c ∷ cs)) a ≡ some (get_or (c ∷ cs) (a - p) unset)
    go (less k) ih = absurd (omega arith)
    go (T.same q) ih = let z : a - p ≡ 0 = omega arith in look-here nat_order (p, c) (cells_from (suc p) cs) a q ∙ rw z refl
    go (more k) ih =
        let z : a - p ≡ suc (a - suc p) = omega arith in
        look-there nat_order (p, c) (cells_from (suc p) cs) a (λ q. lt-ne nat_order p a k (sym q)) ∙ (ih k ∙ rw z refl)

outside : (p : ℕ) (cs : List Cell) (a : ℕ) → (p ≤ a → a < p + length cs → ⊥) → look nat_order (cells_from p cs) a ≡ none
outside p cs a n = go (look nat_order (cells_from p cs) a) refl
  where
    go : (x : Option Cell) → look nat_order (cells_from p cs) a ≡ x → x ≡ none
    go none q = refl
    go (some d) q = absurd (n (run-from p cs a d q) (run_in p cs a d q))

-- a run's words
word-of : (ws : List ℕ) (k : ℕ) → k < length ws → get_or (words_then ws []) k unset ≡ word (get_or ws k 0)
word-of [] k l = absurd (omega arith)
word-of (w ∷ ws) zero l = refl
word-of (w ∷ ws) (suc k) l = word-of ws k (omega arith)

unset-of : (n k : ℕ) → get_or (unset_then n []) k unset ≡ unset
unset-of zero k = refl
unset-of (suc n) zero = refl
unset-of (suc n) (suc k) = unset-of n k

cell-of : (r : Run) (k : ℕ) → k < size r → get_or (flatten (r ∷ [])) k unset ≡ cell_of r k
cell-of (sets ws) k l = word-of ws k l
cell-of (gap n) k l = unset-of n k

words-front : (ws : List ℕ) (cs : List Cell) → words_then ws cs ≡ words_then ws [] ++ cs
words-front [] cs = refl
words-front (w ∷ ws) cs = ap (λ (l : List Cell). word w ∷ l) (words-front ws cs)

unset-front : (n : ℕ) (cs : List Cell) → unset_then n cs ≡ unset_then n [] ++ cs
unset-front zero cs = refl
unset-front (suc n) cs = ap (λ (l : List Cell). unset ∷ l) (unset-front n cs)

flatten_front : (r : Run) (rs : List Run) → flatten (r ∷ rs) ≡ flatten (r ∷ []) ++ flatten rs
flatten_front (sets ws) rs = words-front ws (flatten rs)
flatten_front (gap n) rs = unset-front n (flatten rs)

pub cells-append : (p : ℕ) (x y : List Cell) → cells_from p (x ++ y) ≡ cells_from p x ++ cells_from (p + length x) y
cells-append p [] y = let e : p + 0 ≡ p = omega arith in rw e refl
cells-append p (c ∷ x) y =
    let e : suc p + length x ≡ p + suc (length x) = omega arith in
    ap (λ (l : Table ℕ Cell). (p, c) ∷ l) (rw e at (cells-append (suc p) x y))

-- one run: its word at the address, or what comes behind it says
pub word-run : (p : ℕ) (r : Run) (is : List Item) (a : ℕ) → word_in p (run r ∷ is) a ≡ or_else (look nat_order (cells_from p (flatten (r ∷ []))) a) (word_in (p + size r) is a)
unfolding word_in
word-run p r is a = go (leb p a) refl (ltb a (p + size r)) refl
  where
    n : length (flatten (r ∷ [])) ≡ size r
    n = flatten-one r [] ∙ omega arith

    go : (x : Bool) → leb p a ≡ x → (y : Bool) → ltb a (p + size r) ≡ y
        → elim (x && y) [ true ↦ some (cell_of r (a - p)) | false ↦ word_in (p + size r) is a ] ≡ or_else (look nat_order (cells_from p (flatten (r ∷ []))) a) (word_in (p + size r) is a)
    go false e y f = rw (outside p (flatten (r ∷ [])) a (λ l m. omega (arith, leb-false p a e))) refl
    go true e false f = rw (outside p (flatten (r ∷ [])) a (λ l m. omega (arith, n, ltb-false a (p + size r) f))) refl
    go true e true f =
        let l = leb-true p a e in
        let m = ltb-true a (p + size r) f in
        rw (inside p (flatten (r ∷ [])) a l (omega (arith, n)), cell-of r (a - p) (omega arith)) refl

or_assoc : {A : Type 0} (x y z : Option A) → or_else x (or_else y z) ≡ or_else (or_else x y) z
or_assoc none y z = refl
or_assoc (some x) y z = refl

word-runs : (p : ℕ) (rs : List Run) (is : List Item) (a : ℕ)
    → word_in p (run_items rs ++ is) a ≡ or_else (look nat_order (cells_from p (flatten rs)) a) (word_in (p + length (flatten rs)) is a)
word-runs p [] is a = let e : p + 0 ≡ p = omega arith in rw e refl
word-runs p (r ∷ rs) is a =
    let c = flatten (r ∷ []) in
    let n : length c ≡ size r = flatten-one r [] ∙ omega arith in
    let e : p + size r + length (flatten rs) ≡ p + length (flatten (r ∷ rs)) = omega (arith, flatten-one r rs) in
    let s : look nat_order (cells_from p (flatten (r ∷ rs))) a ≡ or_else (look nat_order (cells_from p c) a) (look nat_order (cells_from (p + size r) (flatten rs)) a) =
    ap (λ (l : List Cell). look nat_order (cells_from p l) a) (flatten_front r rs)
    ∙ (ap (λ (t : Table ℕ Cell). look nat_order t a) (cells-append p c (flatten rs))
    ∙ (look-append nat_order (cells_from p c) (cells_from (p + length c) (flatten rs)) a ∙ ap (λ (k : ℕ). or_else (look nat_order (cells_from p c) a) (look nat_order (cells_from (p + k) (flatten rs)) a)) n)) in
    word-run p r (run_items rs ++ is) a
    ∙ (ap (or_else (look nat_order (cells_from p c) a)) (rw e at (word-runs (p + size r) rs is a))
    ∙ (or_assoc (look nat_order (cells_from p c) a) (look nat_order (cells_from (p + size r) (flatten rs)) a) (word_in (p + length (flatten (r ∷ rs))) is a)
    ∙ ap (λ (x : Option Cell). or_else x (word_in (p + length (flatten (r ∷ rs))) is a)) (sym s)))

word-blocks : (p : ℕ) (bs : Table ℕ (List Cell)) (is : List Item) (a : ℕ) → ((q : ℕ) → word_in q is a ≡ none) → word_in p (block_items bs ++ is) a ≡ look nat_order (cells bs) a
unfolding word_in
word-blocks p [] is a h = h p
word-blocks p (b ∷ bs) is a h =
    ap (λ (l : List Item). word_in b.0 l a) (append_assoc (run_items (runs_of b.1)) (block_items bs) is)
    ∙ (word-runs b.0 (runs_of b.1) (block_items bs ++ is) a
    ∙ (rw (flatten_runs b.1, word-blocks (b.0 + length b.1) bs is a h) refl ∙ sym (look-append nat_order (cells_from b.0 b.1) (cells bs) a)))

word-relocs : (p : ℕ) (t : Table ℕ Name) (a : ℕ) → word_in p (reloc_items t) a ≡ none
unfolding word_in
word-relocs p [] a = refl
word-relocs p (e ∷ t) a = word-relocs p t a

word-labels : (p : ℕ) (t : Table Name Lab) (r : Table ℕ Name) (a : ℕ) → word_in p (label_items t ++ reloc_items r) a ≡ none
unfolding word_in
word-labels p [] r a = word-relocs p r a
word-labels p (e ∷ t) r a = word-labels p t r a

-- what was read says of an address what its fields say
pub word-so-far : (s : State) (a : ℕ) → s.owed ≡ 0 → look nat_order (cells s.blocks) a ≡ word_in 0 (so_far s) a
word-so-far s a e = rw e (sym (word-blocks 0 s.blocks (label_items s.labels ++ reloc_items s.relocs) a (λ q. word-labels q s.labels s.relocs a)))

-- LABELS BY NAME

same_refl : (n : Name) → same n n ≡ true
same_refl [] = refl
same_refl (c ∷ n) = rw (eq-eqb c c refl, same_refl n) refl

label-relocs : (t : Table ℕ Name) (n : Name) → label_in (reloc_items t) n ≡ none
unfolding label_in
label-relocs [] n = refl
label-relocs (e ∷ t) n = label-relocs t n

label-labels : (t : Table Name Lab) (r : Table ℕ Name) (n : Name) → label_in (label_items t ++ reloc_items r) n ≡ look name_order t n
unfolding label_in
label-labels [] r n = label-relocs r n
label-labels (e ∷ t) r n = go (same e.0 n) refl (label-labels t r n)
  where
    go : (x : Bool) → same e.0 n ≡ x → label_in (label_items t ++ reloc_items r) n ≡ look name_order t n
        → elim x [ true ↦ some e.1 | false ↦ label_in (label_items t ++ reloc_items r) n ] ≡ look name_order (e ∷ t) n
    go true q h = sym (look-here name_order e t n (sym (same_true e.0 n q)))
    go false q h = h ∙ sym (look-there name_order e t n (λ z. let y : same e.0 n ≡ true = rw z (same_refl e.0) in never cc))

label-runs : (rs : List Run) (is : List Item) (n : Name) → label_in (run_items rs ++ is) n ≡ label_in is n
unfolding label_in
label-runs [] is n = refl
label-runs (r ∷ rs) is n = label-runs rs is n

label-blocks : (bs : Table ℕ (List Cell)) (is : List Item) (n : Name) → label_in (block_items bs ++ is) n ≡ label_in is n
unfolding label_in
label-blocks [] is n = refl
label-blocks (b ∷ bs) is n =
    ap (λ (l : List Item). label_in l n) (append_assoc (run_items (runs_of b.1)) (block_items bs) is)
    ∙ (label-runs (runs_of b.1) (block_items bs ++ is) n ∙ label-blocks bs is n)

-- what was read says of a name what its fields say
pub label-so-far : (s : State) (n : Name) → s.owed ≡ 0 → look name_order s.labels n ≡ label_in (so_far s) n
label-so-far s n e = rw e (sym (label-blocks s.blocks (label_items s.labels ++ reloc_items s.relocs) n ∙ label-labels s.labels s.relocs n))
