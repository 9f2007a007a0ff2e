-- What `Joins` says of an object determines it; and what the entries of a list gather in one object is so joined. Assumes nothing.
use mathlib.Core.Path.{◌≡◌, refl, sym, ◌∙◌, ap}
use mathlib.Core.Logic.{◌⊎◌, inl, inr}
use mathlib.Core.Option.{Option, none, some}
use mathlib.Core.List.{List, [], ◌∷◌, ◌++◌, map, Memᴰ}
use Prim.Native.Nat.{ℕ, suc}
use Rattle.rules.specs.Tables.{Table, nat_order, name_order}
use Rattle.rules.specs.Objects.{Cell, word, Lab, outer, defined, Name, Object, cells_from, cells, heads, flat, head_at, cell_at, lab_of, rel_at, Good}
use Rattle.rules.specs.Buffers.{carve}
use Rattle.rules.specs.Linking.{settle, patch, stay}
use Rattle.rules.proofs.Bools.{never}
use Rattle.rules.proofs.Tables.{none-some, ext}
use Rattle.rules.proofs.Laid.{carve-flat}
use Rattle.laws_link.specs.Ways.{AllGood}
use Rattle.laws_link.specs.Joins.{Defines, Open, Joins}
use Rattle.laws_link.proofs.Gathers.{keep, Gathers, defines, settle-open, outer-up, keep_some}

-- BLOCKS ARE KNOWN by their starts, lengths and words by address

run-words : (s : ℕ) (c : List Cell) (t : Table ℕ Cell) (r : List Cell) → r ≡ map (λ (e : ℕ × Cell). e.1) t → c ++ r ≡ map (λ (e : ℕ × Cell). e.1) (cells_from s c ++ t)
run-words s [] t r h = h
run-words s (x ∷ c) t r h = ap (λ (l : List Cell). x ∷ l) (run-words (suc s) c t r h)

flat-cells : (b : Table ℕ (List Cell)) → flat b ≡ map (λ (e : ℕ × Cell). e.1) (cells b)
flat-cells [] = refl
flat-cells (d ∷ b) = run-words d.0 d.1 (cells b) (flat b) (flat-cells b)

pub rebuild : (a b : Table ℕ (List Cell)) → heads a ≡ heads b → cells a ≡ cells b → a ≡ b
rebuild a b h e =
    let f : flat a ≡ flat b = flat-cells a ∙ (ap (map (λ (e : ℕ × Cell). e.1)) e ∙ sym (flat-cells b)) in
    sym (carve-flat a) ∙ ((λ i. carve (h i) (f i)) ∙ carve-flat b)

-- each of two values is the other where it is something
agree : {A : Type 0} (u v : Option A) → ((a : A) → u ≡ some a → v ≡ some a) → ((a : A) → v ≡ some a → u ≡ some a) → u ≡ v
agree none none f g = refl
agree none (some b) f g = g b refl
agree (some a) v f g = sym (f a refl)

-- ONE OBJECT ONLY

-- a name is defined by some entry, or by none
told : (l : List Object) (o : Object) → Joins l o → (n : Name) → ((a : ℕ) × Defines l n a) ⊎ Open l n
told l o J n = go (lab_of o n) refl
  where
    go : (v : Option Lab) → lab_of o n ≡ v → ((a : ℕ) × Defines l n a) ⊎ Open l n
    go none q = inr (λ a w. let z = J.label_defined n a w in none-some (sym q ∙ z))
    go (some outer) q = inr (λ a w. let z = J.label_defined n a w in never cc)
    go (some (defined a)) q = inl (a, J.label_from n (defined a) q)

module _ (l : List Object) (o p : Object) (J : Joins l o) (P : Joins l p) where
  head-same : (s k : ℕ) → head_at o s ≡ some k → head_at p s ≡ some k
  head-same s k q = let w = J.block_from s k q in P.block_kept w.0 w.1 s k w.2

  label_same : (n : Name) (v : Lab) → lab_of o n ≡ some v → lab_of p n ≡ some v
  label_same n outer q =
      let w = J.label_from n outer q in
      P.label_outer w.0 w.1 n w.2 (λ a d. let z = J.label_defined n a d in never cc)
  label_same n (defined a) q = P.label_defined n a (J.label_from n (defined a) q)

  word_same : (x : ℕ) (c : Cell) → cell_at o x ≡ some c → cell_at p x ≡ some c
  word_same x c q = let w = J.word_from x c q in go w.0 w.1 w.2 w.3 (rel_at w.0 x) refl
    where
      go : (e : Object) → Memᴰ e l → (d : Cell) → cell_at e x ≡ some d → (r : Option Name) → rel_at e x ≡ r → cell_at p x ≡ some c
      go e m d i none r =
          let k : ((n : Name) → rel_at e x ≡ some n → Open l n) = (λ n s. absurd (none-some (sym r ∙ s))) in
          P.word_kept e m x d i k ∙ (sym (J.word_kept e m x d i k) ∙ q)
      go e m d i (some n) r = named (told l o J n)
        where
          named : ((a : ℕ) × Defines l n a) ⊎ Open l n → cell_at p x ≡ some c
          named (inl w) = P.reloc_written e m x n w.0 r w.1 ∙ (sym (J.reloc_written e m x n w.0 r w.1) ∙ q)
          named (inr w) =
              let k : ((n : Name) → rel_at e x ≡ some n → Open l n) = (λ j s. let z : n ≡ j = cc in rw z at w) in
              P.word_kept e m x d i k ∙ (sym (J.word_kept e m x d i k) ∙ q)

  reloc-same : (x : ℕ) (n : Name) → rel_at o x ≡ some n → rel_at p x ≡ some n
  reloc-same x n q = let w = J.reloc_from x n q in P.reloc_kept w.0 w.1 x n w.2 w.3

pub determined : (l : List Object) (o p : Object) → Good o → Good p → Joins l o → Joins l p → o ≡ p
determined l o p g k J P =
    let hh : heads o.blocks ≡ heads p.blocks =
    ext nat_order _ _ g.heads_up k.heads_up (λ s. agree (head_at o s) (head_at p s) (head-same l o p J P s) (head-same l p o P J s)) in
    let hc : cells o.blocks ≡ cells p.blocks =
    ext nat_order _ _ g.cells_up k.cells_up (λ x. agree (cell_at o x) (cell_at p x) (word_same l o p J P x) (word_same l p o P J x)) in
    let hb : o.blocks ≡ p.blocks = rebuild o.blocks p.blocks hh hc in
    let hl : o.labels ≡ p.labels =
    ext name_order _ _ g.labels_up k.labels_up (λ n. agree (lab_of o n) (lab_of p n) (label_same l o p J P n) (label_same l p o P J n)) in
    let hr : o.relocs ≡ p.relocs =
    ext nat_order _ _ g.relocs_up k.relocs_up (λ x. agree (rel_at o x) (rel_at p x) (reloc-same l o p J P x) (reloc-same l p o P J x)) in
    λ i. record { blocks = hb i; labels = hl i; relocs = hr i }

-- WHAT IS GATHERED IS SO JOINED

stay-open : (n : Name) (v : Option Lab) → ((a : ℕ) → v ≡ some (defined a) → ⊥) → stay n v ≡ some n
stay-open n none h = refl
stay-open n (some outer) h = refl
stay-open n (some (defined a)) h = absurd (h a refl)

module _ (l : List Object) (o : Object) (G : AllGood l) (g : Good o) (J : Gathers l o) where
  -- a name that no entry defines, the object does not define
  not-defined : (n : Name) → Open l n → (a : ℕ) → lab_of o n ≡ some (defined a) → ⊥
  not-defined n h a q = h a (J.lab-of n (defined a) q)

  untouched : (e : Object) (x : ℕ) (c : Cell) → ((n : Name) → rel_at e x ≡ some n → Open l n) → patch (lab_of o) (rel_at e x) c ≡ c
  untouched e x c h = go (rel_at e x) refl
    where
      go : (r : Option Name) → rel_at e x ≡ r → patch (lab_of o) r c ≡ c
      go none q = refl
      go (some n) q = settle-open (lab_of o n) c (not-defined n (h n q))

  pub gathers-joins : Joins l o
  gathers-joins = record {
    block_kept = J.head-up;
    block_from = J.head_of;
    label_defined = λ n a w. defines l o w.0 J w.1 n a w.2;
    label_outer = λ e m n q h. outer-up (lab_of o n) (rw q at (J.lab-up e m n)) (not-defined n h);
    label_from = J.lab-of;
    reloc_written = λ e m x n a r w.
        J.cell-up e m x (word 0) ((G e m).reloc_zero x n r)
        ∙ (ap (λ (y : Option Name). some (patch (lab_of o) y (word 0))) r
        ∙ ap (λ (v : Option Lab). some (settle v (word 0))) (defines l o w.0 J w.1 n a w.2));
    word_kept = λ e m x c q h. J.cell-up e m x c q ∙ ap (λ (d : Cell). some d) (untouched e x c h);
    word_from = J.cell-of;
    reloc_gone = λ e m x n a r w.
        J.rel-up e m x (word 0) ((G e m).reloc_zero x n r) ∙ (ap (keep (lab_of o)) r ∙ ap (stay n) (defines l o w.0 J w.1 n a w.2));
    reloc_kept = λ e m x n r h. J.rel-up e m x (word 0) ((G e m).reloc_zero x n r) ∙ (ap (keep (lab_of o)) r ∙ stay-open n (lab_of o n) (not-defined n h));
    reloc_from = λ x n q.
        let w = J.cell-of x (word 0) (g.reloc_zero x n q) in
        let z = keep_some (lab_of o) (rel_at w.0 x) n (sym (J.rel-up w.0 w.1 x w.2 w.3) ∙ q) in
        (w.0, w.1, z.0, λ a d. z.1 a (defines l o d.0 J d.1 n a d.2));
  }
