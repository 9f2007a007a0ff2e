-- The object that both passes give is good. Assumes nothing.
use mathlib.Core.Path.{◌≡◌, refl, sym, ◌∙◌, ap}
use mathlib.Core.List.{List, [], ◌∷◌, map}
use mathlib.Core.Logic.{◌⊎◌, inl, inr}
use mathlib.Core.Option.{Option, none, some}
use Prim.Native.Nat.{ℕ, zero, suc, ◌≤◌, ◌<◌}
use native.Mathlib.Omega.{arith}
use lib.ListN.{length, length-map}
use Rattle.rules.specs.Tables.{Table, Tri, less, same, more, pick, look, Low, Sorted, map_t, nat_order, name_order}
use Rattle.rules.specs.Objects.{Cell, unset, word, Lab, defined, Name, object, cells_from, cells, Good}
use Rattle.rules.specs.Passes.{Symbol, Pass1State, ObjBlock, Pass2State}
use Rattle.rules.proofs.Tables.{none-some, look-here, look-there, lt-ne}
use Rattle.rules.proofs.Runs.{or_else, look-append, or_split, left-some, run_in, run-from}
use Rattle.rules.proofs.Chains.{Chain, chain-full, chain-cells, chain-heads}
use Rattle.rules.proofs.Bools.{never}
use Rattle.laws.proofs.Alongside.{Level, Apart, stop, All, Any}
use Rattle.laws_accepted.proofs.Cells.{LowCells, Has, HeldIn, Finished}

-- BLOCKS
abbrev pub blocks_of : List ObjBlock → Table ℕ (List Cell)
blocks_of bs = map (λ (b : ObjBlock). (b.start, b.words)) bs

apart-chain : (y : ℕ) (bs : List ObjBlock) → Apart y bs → Chain y (blocks_of bs)
apart-chain y [] a = tt
apart-chain y (b ∷ bs) a = (a.0.0, a.0.1.0, apart-chain (stop b) bs a.1)

module _ (x : ℕ) (c : Cell) where
  -- a word at an address is one of the first block's, or of those behind it
  split : (b : ObjBlock) (bs : List ObjBlock) → look nat_order (cells (blocks_of (b ∷ bs))) x ≡ some c → (look nat_order (cells_from b.start b.words) x ≡ some c) ⊎ (look nat_order (cells (blocks_of bs)) x ≡ some c)
  split b bs e = or_split (look nat_order (cells_from b.start b.words) x) (look nat_order (cells (blocks_of bs)) x) c (sym (look-append nat_order (cells_from b.start b.words) (cells (blocks_of bs)) x) ∙ e)

  below : (y : ℕ) (bs : List ObjBlock) → Apart y bs → look nat_order (cells (blocks_of bs)) x ≡ some c → x < 65024
  below y [] a e = absurd (none-some e)
  below y (b ∷ bs) a e = go (split b bs e) (below (stop b) bs a.1)
    where
      go : (look nat_order (cells_from b.start b.words) x ≡ some c) ⊎ (look nat_order (cells (blocks_of bs)) x ≡ some c) → (look nat_order (cells (blocks_of bs)) x ≡ some c → x < 65024) → x < 65024
      go (inl q) ih = let l = run_in b.start b.words x c q in omega (arith, l, a.0.1.1)
      go (inr q) ih = ih q

  above : (y : ℕ) (bs : List ObjBlock) → Apart y bs → look nat_order (cells (blocks_of bs)) x ≡ some c → y ≤ x
  above y [] a e = absurd (none-some e)
  above y (b ∷ bs) a e = go (split b bs e) (above (stop b) bs a.1)
    where
      go : (look nat_order (cells_from b.start b.words) x ≡ some c) ⊎ (look nat_order (cells (blocks_of bs)) x ≡ some c) → (look nat_order (cells (blocks_of bs)) x ≡ some c → stop b ≤ x) → y ≤ x
      go (inl q) ih = let l = run-from b.start b.words x c q in omega (arith, l, a.0.0)
      go (inr q) ih = let l = ih q in omega (arith, l, a.0.0)

run-low : (s : ℕ) (ws : List Cell) (x w : ℕ) → LowCells ws → look nat_order (cells_from s ws) x ≡ some (word w) → w < 65536
run-low s [] x w h e = absurd (none-some e)
run-low s (c ∷ ws) x w h e = by_place c h (nat_order.tri x s) (run-low (suc s) ws x w)
  where
    same_word : (d : Cell) → LowCells (d ∷ ws) → some d ≡ some (word w) → w < 65536
    same_word unset g q = never cc
    same_word (word v) g q = let z : v ≡ w = cc in rw (← z) g.0

    rest : (d : Cell) → LowCells (d ∷ ws) → LowCells ws
    rest unset g = g
    rest (word v) g = g.1

    by_place : (d : Cell) → LowCells (d ∷ ws) → Tri nat_order.lt x s → (LowCells ws → look nat_order (cells_from (suc s) ws) x ≡ some (word w) → w < 65536) → w < 65536
    by_place d g (less l) ih = ih (rest c h) (sym (look-there nat_order (s, c) (cells_from (suc s) ws) x (lt-ne nat_order x s l)) ∙ e)
    by_place d g (same l) ih = same_word c h (sym (look-here nat_order (s, c) (cells_from (suc s) ws) x l) ∙ e)
    by_place d g (more l) ih = ih (rest c h) (sym (look-there nat_order (s, c) (cells_from (suc s) ws) x (λ z. lt-ne nat_order s x l (sym z))) ∙ e)

words-two : (bs : List ObjBlock) (x w : ℕ) → All (λ b. LowCells b.words) bs → look nat_order (cells (blocks_of bs)) x ≡ some (word w) → w < 65536
words-two [] x w h e = absurd (none-some e)
words-two (b ∷ bs) x w h e = go (split x (word w) b bs e) (words-two bs x w h.1)
  where
    go : (look nat_order (cells_from b.start b.words) x ≡ some (word w)) ⊎ (look nat_order (cells (blocks_of bs)) x ≡ some (word w)) → (look nat_order (cells (blocks_of bs)) x ≡ some (word w) → w < 65536) → w < 65536
    go (inl q) ih = run-low b.start b.words x w h.0 q
    go (inr q) ih = ih q

-- a word held in some block is the word at its address
any_held : (y x : ℕ) (bs : List ObjBlock) → Apart y bs → Any (Has x) bs → look nat_order (cells (blocks_of bs)) x ≡ some (word 0)
any_held y x [] a h = absurd h
any_held y x (b ∷ bs) a (inl h) = look-append nat_order (cells_from b.start b.words) (cells (blocks_of bs)) x ∙ left-some (look nat_order (cells_from b.start b.words) x) (look nat_order (cells (blocks_of bs)) x) (word 0) h
any_held y x (b ∷ bs) a (inr h) =
    let q = any_held (stop b) x bs a.1 h in
    let l = above x (word 0) (stop b) bs a.1 q in
    look-append nat_order (cells_from b.start b.words) (cells (blocks_of bs)) x ∙ go (look nat_order (cells_from b.start b.words) x) refl q l
  where
    go : (o : Option Cell) → look nat_order (cells_from b.start b.words) x ≡ o → look nat_order (cells (blocks_of bs)) x ≡ some (word 0) → stop b ≤ x → or_else o (look nat_order (cells (blocks_of bs)) x) ≡ some (word 0)
    go none r q l = q
    go (some c) r q l = absurd (let m = run_in b.start b.words x c r in omega (arith, l, m))

-- LABELS
abbrev lab_opt : Option Symbol → Option Lab
lab_opt none = none
lab_opt (some s) = some s.lab

abbrev pub labels_of : Table Name Symbol → Table Name Lab
labels_of t = map_t (λ n s. s.lab) t

look-labels : (t : Table Name Symbol) (n : Name) → look name_order (labels_of t) n ≡ lab_opt (look name_order t n)
look-labels [] n = refl
look-labels (e ∷ t) n = go (name_order.tri n e.0) (look-labels t n)
  where
    go : (c : Tri name_order.lt n e.0) → look name_order (labels_of t) n ≡ lab_opt (look name_order t n) → pick c e.1.lab (look name_order (labels_of t) n) ≡ lab_opt (pick c e.1 (look name_order t n))
    go (less l) ih = ih
    go (same l) ih = refl
    go (more l) ih = ih

low-labels : (n : Name) (t : Table Name Symbol) → Low name_order n t → Low name_order n (labels_of t)
low-labels n [] h = tt
low-labels n (e ∷ t) h = (h.0, low-labels n t h.1)

sorted-labels : (t : Table Name Symbol) → Sorted name_order t → Sorted name_order (labels_of t)
sorted-labels [] h = tt
sorted-labels (e ∷ t) h = (low-labels e.0 t h.0, sorted-labels t h.1)

pub length-labels : (t : Table Name Symbol) → length (labels_of t) ≡ length t
length-labels [] = refl
length-labels (e ∷ t) = ap suc (length-labels t)

-- what a label says, a symbol says
labelled : (t : Table Name Symbol) (n : Name) (v : Lab) → look name_order (labels_of t) n ≡ some v → (s : Symbol) × (look name_order t n ≡ some s) × (s.lab ≡ v)
labelled t n v e = go (look name_order t n) refl (sym (look-labels t n) ∙ e)
  where
    go : (o : Option Symbol) → look name_order t n ≡ o → lab_opt o ≡ some v → (s : Symbol) × (look name_order t n ≡ some s) × (s.lab ≡ v)
    go none q x = absurd (none-some x)
    go (some s) q x = (s, q, cc)

-- THE THEOREM
pub finished-good : (f : Pass1State) (u : Pass2State) → Finished f u → Good (object (blocks_of u.blocks) (labels_of f.symbols) f.relocs)
finished-good f u h =
    let a = h.along.apart in
    let c = apart-chain 0 u.blocks a in
    let k = h.kept in
    record {
      heads_up = chain-heads 0 (blocks_of u.blocks) c;
      labels_up = sorted-labels f.symbols k.symbols.up;
      relocs_up = k.relocs_up;
      filled = chain-full 0 (blocks_of u.blocks) c;
      named = λ n v e. (let s = labelled f.symbols n v e in k.symbols.named n s.0 s.1);
      cells_up = chain-cells 0 (blocks_of u.blocks) c;
      low = λ x d e. below x d 0 u.blocks a e;
      few_blocks = rw (length-map {B = ℕ × List Cell} u.blocks (λ (b : ObjBlock). (b.start, b.words))) h.along.few;
      few_labels = rw (length-labels f.symbols) k.symbols.few;
      few_relocs = k.few_relocs;
      reloc_zero = λ x n e. any_held 0 x u.blocks a (in_blocks x u.current h.along.level (h.fine.zero x n e));
      reloc_outer = λ x n e. (let s = k.known x n e in look-labels f.symbols n ∙ (ap lab_opt s.is ∙ ap (λ (v : Lab). some v) s.outside));
      words_low = λ x w e. words-two u.blocks x w h.fine.low e;
      labels_low = λ n b e. (let s = labelled f.symbols n (defined b) e in let l = k.symbols.low n s.0 s.1 in rw s.2 at l);
    }
  where
    in_blocks : (x : ℕ) (o : Option ObjBlock) → Level f.cursor o → HeldIn x o ⊎ Any (Has x) u.blocks → Any (Has x) u.blocks
    in_blocks x o l (inr q) = q
    in_blocks x none l (inl q) = absurd q
    in_blocks x (some b) l (inl q) = absurd (rw h.outside at l)
