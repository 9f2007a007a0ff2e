-- Relocations settled among words are relocations settled among cells, and those give each address the cell that the link's rule gives it. Assumes nothing.
use mathlib.Core.Path.{◌≡◌, refl, sym, ◌∙◌, ap}
use mathlib.Core.Logic.{◌⊎◌, inl, inr}
use mathlib.Core.Bool.{Bool}
use mathlib.Core.Option.{Option, none, some}
use mathlib.Core.List.{List, [], ◌∷◌, ◌++◌, map, append-nil, append_assoc}
use Prim.Native.Nat.{ℕ, zero, suc, ◌+◌, ◌-◌, ◌≤◌, ◌<◌}
use native.Mathlib.Omega.{arith}
use native.Mathlib.Decide.{dec_lt, ℕ_discrete}
use lib.ListN.{length, set, length-set, length-map}
use lib.Dec.{eqb}
use lib.Seq.{set-append_left}
use borrow.Author.Tests.{eq-eqb, ne_eqb}
use Rattle.rules.specs.Base.{when◌then◌else◌}
use Rattle.rules.specs.Tables.{Table, look, Sorted, nat_order, map_t}
use Rattle.rules.specs.Objects.{Cell, word, Lab, outer, defined, Name, cells_from, cells, heads, flat}
use Rattle.rules.specs.Linking.{settle, patch}
use Rattle.rules.specs.Buffers.{carve, lay, zeros, word_of, mark_of}
use Rattle.rules.proofs.Bools.{never}
use Rattle.rules.proofs.Tables.{look-here, look-there, look-low, none-some, ext}
use Rattle.rules.proofs.Runs.{or_else, look-append, or_split, run-from, run_in}
use Rattle.rules.proofs.Chains.{Chain, chain-cells, total, heads-carve, Spot, here, there, store_same, store_other}
use Rattle.rules.proofs.Laid.{carve-flat}
use Rattle.link_notes.specs.Notes.{open_mark, address_in}
use Rattle.link_words.specs.Settled.{place_of, settled_word, settled_words}
use Rattle.link_words.proofs.Settling.{place_here, place-there, word-open, word_set}
use Rattle.laws_link.proofs.Blocks.{turned, cells-turned, heads-turned}
use Rattle.laws_link.proofs.Determined.{rebuild}
use Rattle.laws_link.proofs.Mapped.{omap, look-map, sorted-map}
use Rattle.link_words.proofs.Turned.{kept-turned, flat-carve, total-heads}

-- WHERE AN ADDRESS STANDS

-- some block has the address
abbrev pub Has : ℕ → Table ℕ ℕ → Type 0
Has x [] = ⊥
Has x (h ∷ hs) = ((h.0 ≤ x) × (x < h.0 + h.1)) ⊎ Has x hs

-- each block starts where the one before it ends, or later
abbrev pub Rising : ℕ → Table ℕ ℕ → Type 0
Rising y [] = Unit {0}
Rising y (h ∷ hs) = (y ≤ h.0) × (0 < h.1) × Rising (h.0 + h.1) hs

pub chain-rising : (y : ℕ) (b : Table ℕ (List Cell)) → Chain y b → Rising y (heads b)
chain-rising y [] c = tt
chain-rising y (d ∷ b) c = (c.0, c.1, chain-rising (d.0 + length d.1) b c.2)

rising-chain : (y : ℕ) (b : Table ℕ (List Cell)) → Rising y (heads b) → Chain y b
rising-chain y [] c = tt
rising-chain y (d ∷ b) c = (c.0, c.1, rising-chain (d.0 + length d.1) b c.2)

pub held-has : (b : Table ℕ (List Cell)) (x : ℕ) (c : Cell) → look nat_order (cells b) x ≡ some c → Has x (heads b)
held-has [] x c q = none-some q
held-has (d ∷ b) x c q =
    go (or_split (look nat_order (cells_from d.0 d.1) x) (look nat_order (cells b) x) c (sym (look-append nat_order (cells_from d.0 d.1) (cells b) x) ∙ q)) (held-has b x c)
  where
    go : (look nat_order (cells_from d.0 d.1) x ≡ some c) ⊎ (look nat_order (cells b) x ≡ some c) → (look nat_order (cells b) x ≡ some c → Has x (heads b)) → Has x (heads (d ∷ b))
    go (inl p) ih = inl (run-from d.0 d.1 x c p, run_in d.0 d.1 x c p)
    go (inr p) ih = inr (ih p)

has_above : (y : ℕ) (hs : Table ℕ ℕ) (x : ℕ) → Rising y hs → Has x hs → y ≤ x
has_above y [] x r h = absurd h
has_above y (h ∷ hs) x r (inl p) = omega (arith, r.0, p.0)
has_above y (h ∷ hs) x r (inr p) = let i = has_above (h.0 + h.1) hs x r.2 p in omega (arith, r.0)

pub place-spot : (y : ℕ) (hs : Table ℕ ℕ) (x : ℕ) → Rising y hs → Has x hs → Spot x hs (place_of hs x)
place-spot y [] x r h = absurd h
place-spot y (h ∷ hs) x r p = go (dec_lt x (h.0 + h.1)) p (place-spot (h.0 + h.1) hs x r.2)
  where
    go : Dec (x < h.0 + h.1) → Has x (h ∷ hs) → (Has x hs → Spot x hs (place_of hs x)) → Spot x (h ∷ hs) (place_of (h ∷ hs) x)
    go (yes l) (inl q) ih = rw (place_here h hs x l) (here {h = h} {hs = hs} {p = x - h.0} (omega (arith, q.0)) (omega (arith, q.0)))
    go (yes l) (inr q) ih = absurd (let i = has_above (h.0 + h.1) hs x r.2 q in omega arith)
    go (no l) (inl q) ih = absurd (l q.1)
    go (no l) (inr q) ih = rw (place-there h hs x (let m : h.0 + h.1 ≤ x = omega arith in m)) (there {h = h} {hs = hs} {p = place_of hs x} (λ m. l m.1) (ih q) refl)

spot-under : (x : ℕ) (hs : Table ℕ ℕ) (p : ℕ) → Spot x hs p → p < total hs
spot-under x hs p (here {h = h} {hs = t} e k) = omega arith
spot-under x hs p (there {h = h} {hs = t} {p = q} n s e) = let i = spot-under x t q s in omega arith

-- WORDS AND CELLS

unfoldable pub settled_cell : List Cell → (p address : ℕ) → List Cell
settled_cell cs p a = when eqb a open_mark then cs else set cs p (word a)

abbrev pub settled_cells : Table ℕ ℕ → List Cell → Table ℕ (ℕ × ℕ) → List Cell
settled_cells hs cs [] = cs
settled_cells hs cs (r ∷ rs) = settled_cells hs (settled_cell cs (place_of hs r.0) r.1.1) rs

cell-open : (cs : List Cell) (p a : ℕ) → a ≡ open_mark → settled_cell cs p a ≡ cs
unfolding settled_cell when◌then◌else◌
cell-open cs p a e = ap (λ (b : Bool). when b then cs else set cs p (word a)) (eq-eqb a open_mark e)

cell_set : (cs : List Cell) (p a : ℕ) → (a ≡ open_mark → ⊥) → settled_cell cs p a ≡ set cs p (word a)
unfolding settled_cell when◌then◌else◌
cell_set cs p a n = ap (λ (b : Bool). when b then cs else set cs p (word a)) (ne_eqb a open_mark n)

length-cell : (cs : List Cell) (p a : ℕ) → length (settled_cell cs p a) ≡ length cs
length-cell cs p a = elim (ℕ_discrete a open_mark) [
  | yes e ↦ ap length (cell-open cs p a e)
  | no n ↦ ap length (cell_set cs p a n) ∙ length-set cs p (word a)
]

pub length-cells : (hs : Table ℕ ℕ) (rs : Table ℕ (ℕ × ℕ)) (cs : List Cell) → length (settled_cells hs cs rs) ≡ length cs
length-cells hs [] cs = refl
length-cells hs (r ∷ rs) cs = length-cells hs rs (settled_cell cs (place_of hs r.0) r.1.1) ∙ length-cell cs (place_of hs r.0) r.1.1

map-set : (cs : List Cell) (p a : ℕ) → map word_of (set cs p (word a)) ≡ set (map word_of cs) p a
map-set [] p a = refl
map-set (c ∷ cs) zero a = refl
map-set (c ∷ cs) (suc p) a = ap (λ (l : List ℕ). word_of c ∷ l) (map-set cs p a)

-- a word among words at the front of a buffer
set-lay : (l : List ℕ) (len p a : ℕ) → p < length l → set (lay l len) p a ≡ lay (set l p a) len
set-lay l len p a h = set-append_left l (zeros (len - length l)) p a h ∙ ap (λ (k : ℕ). set l p a ++ zeros (len - k)) (sym (length-set l p a))

word_cell : (cs : List Cell) (len p a : ℕ) → p < length cs → settled_word (lay (map word_of cs) len) p a ≡ lay (map word_of (settled_cell cs p a)) len
word_cell cs len p a h = elim (ℕ_discrete a open_mark) [
  | yes e ↦ sym (word-open (lay (map word_of cs) len) p a e) ∙ ap (λ (l : List Cell). lay (map word_of l) len) (sym (cell-open cs p a e))
  | no n ↦ sym (word_set (lay (map word_of cs) len) p a n)
      ∙ (set-lay (map word_of cs) len p a (rw (length-map cs word_of) h)
      ∙ ap (λ (l : List ℕ). lay l len) (sym (map-set cs p a) ∙ ap (map word_of) (sym (cell_set cs p a n))))
]

-- every relocation's address is in a block
abbrev pub AllIn : Table ℕ ℕ → Table ℕ (ℕ × ℕ) → Type 0
AllIn hs [] = Unit {0}
AllIn hs (r ∷ rs) = Has r.0 hs × AllIn hs rs

module _ (y : ℕ) (hs : Table ℕ ℕ) (up : Rising y hs) (len : ℕ) where
  pub words-cells : (rs : Table ℕ (ℕ × ℕ)) (cs : List Cell) → total hs ≤ length cs → AllIn hs rs
      → settled_words hs (lay (map word_of cs) len) rs ≡ lay (map word_of (settled_cells hs cs rs)) len
  unfolding settled_words
  words-cells [] cs l a = refl
  words-cells (r ∷ rs) cs l a =
      let p : place_of hs r.0 < length cs = omega (arith, spot-under r.0 hs (place_of hs r.0) (place-spot y hs r.0 up a.0)) in
      ap (λ (w : List ℕ). settled_words hs w rs) (word_cell cs len (place_of hs r.0) r.1.1 p)
      ∙ words-cells rs (settled_cell cs (place_of hs r.0) r.1.1) (omega (arith, length-cell cs (place_of hs r.0) r.1.1)) a.1

-- BY ADDRESS

-- the words cs are the words ds with the relocations of P settled
abbrev pub Settled : (Name → Option Lab) → Table ℕ ℕ → List Cell → List Cell → Table ℕ Name → Type 0
Settled L hs ds cs P = (y : ℕ) → look nat_order (cells (carve hs cs)) y ≡ omap (patch L (look nat_order P y)) (look nat_order (cells (carve hs ds)) y)

omap-id : (u : Option Cell) → u ≡ omap (λ c. c) u
omap-id none = refl
omap-id (some c) = refl

pub settled-start : (L : Name → Option Lab) (hs : Table ℕ ℕ) (ds : List Cell) → Settled L hs ds ds []
settled-start L hs ds y = omap-id (look nat_order (cells (carve hs ds)) y)

-- the relocations, each beside the note of its label, are those of a table of names whose labels L tells
abbrev pub Carries : (Name → Option Lab) → Table ℕ (ℕ × ℕ) → Table ℕ Name → Type 0
Carries L [] [] = Unit {0}
Carries L [] (e ∷ P) = ⊥
Carries L (r ∷ rs) [] = ⊥
Carries L (r ∷ rs) (e ∷ P) = (r.0 ≡ e.0) × (r.1.1 ≡ address_in (L e.1)) × Carries L rs P

-- a definition's address is a word
abbrev pub Small : (Name → Option Lab) → Type 0
Small L = (n : Name) (a : ℕ) → L n ≡ some (defined a) → a < open_mark

module _ (L : Name → Option Lab) (small : Small L) (y : ℕ) (hs : Table ℕ ℕ) (up : Rising y hs) (ds : List Cell) where
  -- one relocation, whose address no earlier one has
  module _ (cs : List Cell) (room : total hs ≤ length cs) (D : Table ℕ Name) (e : ℕ × Name) (free : look nat_order D e.0 ≡ none) (I : Settled L hs ds cs D) (c : Cell) (held : look nat_order (cells (carve hs ds)) e.0 ≡ some c) (in_block : Has e.0 hs) where
    last : look nat_order (D ++ (e ∷ [])) e.0 ≡ some e.1
    last =
        look-append nat_order D (e ∷ []) e.0
        ∙ (ap (λ (u : Option Name). or_else u (look nat_order (e ∷ []) e.0)) free ∙ look-here nat_order e [] e.0 refl)

    others : (x : ℕ) → (x ≡ e.0 → ⊥) → look nat_order (D ++ (e ∷ [])) x ≡ look nat_order D x
    others x n = look-append nat_order D (e ∷ []) x ∙ (ap (or_else (look nat_order D x)) (look-there nat_order e [] x n) ∙ or-none (look nat_order D x))
      where
        or-none : (u : Option Name) → or_else u none ≡ u
        or-none none = refl
        or-none (some u) = refl

    write : (a : ℕ) → L e.1 ≡ some (defined a) → Settled L hs ds (set cs (place_of hs e.0) (word a)) (D ++ (e ∷ []))
    write a q x = go (ℕ_discrete x e.0)
      where
        spot : Spot e.0 hs (place_of hs e.0)
        spot = place-spot y hs e.0 up in_block

        go : Dec (x ≡ e.0) → look nat_order (cells (carve hs (set cs (place_of hs e.0) (word a)))) x ≡ omap (patch L (look nat_order (D ++ (e ∷ [])) x)) (look nat_order (cells (carve hs ds)) x)
        go (yes d) = rw d (store_same hs cs e.0 (place_of hs e.0) (word a) room spot ∙ sym (rw (last, held) (ap (λ (v : Option Lab). some (settle v c)) q)))
        go (no n) = store_other hs cs e.0 (place_of hs e.0) (word a) x n spot ∙ (I x ∙ rw (others x n))

    keep : ((a : ℕ) → L e.1 ≡ some (defined a) → ⊥) → Settled L hs ds cs (D ++ (e ∷ []))
    keep m x = go (ℕ_discrete x e.0)
      where
        still : (v : Option Lab) → ((a : ℕ) → v ≡ some (defined a) → ⊥) → (u : Option Cell) → omap (λ c. c) u ≡ omap (λ c. settle v c) u
        still v n none = refl
        still none n (some c) = refl
        still (some outer) n (some c) = refl
        still (some (defined a)) n (some c) = absurd (n a refl)

        go : Dec (x ≡ e.0) → look nat_order (cells (carve hs cs)) x ≡ omap (patch L (look nat_order (D ++ (e ∷ [])) x)) (look nat_order (cells (carve hs ds)) x)
        go (yes d) = rw d (I e.0 ∙ rw (free, last) (still (L e.1) m (look nat_order (cells (carve hs ds)) e.0)))
        go (no n) = I x ∙ rw (others x n)

    -- as its note tells
    step : (t : ℕ) → t ≡ address_in (L e.1) → Settled L hs ds (settled_cell cs (place_of hs e.0) t) (D ++ (e ∷ []))
    step t q = go (L e.1) refl
      where
        shut : t ≡ open_mark → ((a : ℕ) → L e.1 ≡ some (defined a) → ⊥) → Settled L hs ds (settled_cell cs (place_of hs e.0) t) (D ++ (e ∷ []))
        shut p m = rw (cell-open cs (place_of hs e.0) t p) (keep m)

        go : (o : Option Lab) → L e.1 ≡ o → Settled L hs ds (settled_cell cs (place_of hs e.0) t) (D ++ (e ∷ []))
        go none p = shut (q ∙ ap address_in p) (λ a r. none-some (sym p ∙ r))
        go (some outer) p = shut (q ∙ ap address_in p) (λ a r. (let z : some outer ≡ some (defined a) = sym p ∙ r in never cc))
        go (some (defined a)) p =
            let w : t ≡ a = q ∙ ap address_in p in
            rw (w, cell_set cs (place_of hs e.0) a (λ z. omega (arith, small e.1 a p))) (write a p)

  -- what is asked of the relocations to come, where D are settled
  pub record ToCome (D : Table ℕ Name) (P : Table ℕ Name) : Type 0 where
    pub rise : Sorted nat_order P
    pub free : (x : ℕ) (n : Name) → look nat_order P x ≡ some n → look nat_order D x ≡ none
    pub held : (x : ℕ) (n : Name) → look nat_order P x ≡ some n → (c : Cell) × (look nat_order (cells (carve hs ds)) x ≡ some c)
    pub within : (x : ℕ) (n : Name) → look nat_order P x ≡ some n → Has x hs

  to-come-tail : (D : Table ℕ Name) (e : ℕ × Name) (P : Table ℕ Name) → ToCome D (e ∷ P) → ToCome (D ++ (e ∷ [])) P
  to-come-tail D e P t = record {
    rise = t.rise.1;
    free = λ x n q.
        look-append nat_order D (e ∷ []) x ∙ (λ i. or_else (t.free x n (later x n q) i) (look-there nat_order e [] x (apart x n q) i));
    held = λ x n q. t.held x n (later x n q);
    within = λ x n q. t.within x n (later x n q);
  }
    where
      apart : (x : ℕ) (n : Name) → look nat_order P x ≡ some n → x ≡ e.0 → ⊥
      apart x n q p = none-some (sym (look-low nat_order e.0 P t.rise.0) ∙ (ap (look nat_order P) (sym p) ∙ q))

      later : (x : ℕ) (n : Name) → look nat_order P x ≡ some n → look nat_order (e ∷ P) x ≡ some n
      later x n q = look-there nat_order e P x (apart x n q) ∙ q

  pub settled-round : (R : Table ℕ (ℕ × ℕ)) (P : Table ℕ Name) (D : Table ℕ Name) (cs : List Cell) → total hs ≤ length cs → Carries L R P → ToCome D P → Settled L hs ds cs D
      → Settled L hs ds (settled_cells hs cs R) (D ++ P)
  settled-round [] [] D cs l k t I = rw (append-nil D) I
  settled-round [] (e ∷ P) D cs l k t I = absurd k
  settled-round (r ∷ R) [] D cs l k t I = absurd k
  settled-round (r ∷ R) (e ∷ P) D cs l k t I =
      let q : look nat_order (e ∷ P) e.0 ≡ some e.1 = look-here nat_order e P e.0 refl in
      let c = t.held e.0 e.1 q in
      let s : Settled L hs ds (settled_cell cs (place_of hs e.0) r.1.1) (D ++ (e ∷ [])) =
      step cs l D e (t.free e.0 e.1 q) I c.0 c.1 (t.within e.0 e.1 q) r.1.1 k.1 in
      rw (k.0, ← append_assoc D (e ∷ []) P)
      (settled-round R P (D ++ (e ∷ [])) (settled_cell cs (place_of hs e.0) r.1.1) (omega (arith, length-cell cs (place_of hs e.0) r.1.1)) k.2 (to-come-tail D e P t) s)

-- AT THE END

-- the blocks are those that the rule gives
pub settled-blocks : (L : Name → Option Lab) (W : Table ℕ (List Cell)) (cs : List Cell) (P : Table ℕ Name) → Chain 0 W → length cs ≡ length (flat W)
    → Settled L (heads W) (flat W) cs P → cs ≡ flat (turned (λ x c. patch L (look nat_order P x) c) W)
settled-blocks L W cs P chain size I =
    let room : total (heads W) ≡ length cs = total-heads W ∙ sym size in
    let hc : heads (carve (heads W) cs) ≡ heads W = heads-carve (heads W) cs (omega arith) in
    let sc : Sorted nat_order (cells (carve (heads W) cs)) = chain-cells 0 (carve (heads W) cs) (rising-chain 0 (carve (heads W) cs) (rw hc (chain-rising 0 W chain))) in
    let at : (x : ℕ) → look nat_order (cells (carve (heads W) cs)) x ≡ look nat_order (map_t (λ x c. patch L (look nat_order P x) c) (cells W)) x =
    (λ x. (I x ∙ ap (λ (t : Table ℕ (List Cell)). omap (patch L (look nat_order P x)) (look nat_order (cells t) x)) (carve-flat W)) ∙ sym (look-map nat_order (λ x c. patch L (look nat_order P x) c) (cells W) x)) in
    let same : carve (heads W) cs ≡ turned (λ x c. patch L (look nat_order P x) c) W =
    rebuild (carve (heads W) cs) (turned (λ x c. patch L (look nat_order P x) c) W) (hc ∙ sym (heads-turned (λ x c. patch L (look nat_order P x) c) W))
    (ext nat_order (cells (carve (heads W) cs)) (map_t (λ x c. patch L (look nat_order P x) c) (cells W)) sc (sorted-map nat_order (λ x c. patch L (look nat_order P x) c) (cells W) (chain-cells 0 W chain)) at
    ∙ sym (cells-turned (λ x c. patch L (look nat_order P x) c) W)) in
    sym (flat-carve (heads W) cs room) ∙ ap flat same

-- TWO ROUNDS

-- a relocation of P is at a set word 0 of W
abbrev pub AtZero : Table ℕ (List Cell) → Table ℕ Name → Type 0
AtZero W P = (x : ℕ) (n : Name) → look nat_order P x ≡ some n → look nat_order (cells W) x ≡ some (word 0)

all_in : (L : Name → Option Lab) (W : Table ℕ (List Cell)) (R : Table ℕ (ℕ × ℕ)) (P : Table ℕ Name) → Carries L R P → Sorted nat_order P → AtZero W P → AllIn (heads W) R
all_in L W [] [] k s z = tt
all_in L W [] (e ∷ P) k s z = absurd k
all_in L W (r ∷ R) [] k s z = absurd k
all_in L W (r ∷ R) (e ∷ P) k s z = (
  rw k.0 (held-has W e.0 (word 0) (z e.0 e.1 (look-here nat_order e P e.0 refl))),
  all_in L W R P k.2 s.1 (λ x n q. z x n (look-there nat_order e P x (λ (p : x ≡ e.0). none-some (sym (look-low nat_order e.0 P s.0) ∙ (ap (look nat_order P) (sym p) ∙ q))) ∙ q)),
)

module _ (L : Name → Option Lab) (small : Small L) (W : Table ℕ (List Cell)) (chain : Chain 0 W) where
  to-come : (D P : Table ℕ Name) → Sorted nat_order P → AtZero W P → ((x : ℕ) (n : Name) → look nat_order P x ≡ some n → look nat_order D x ≡ none)
      → ToCome L small 0 (heads W) (chain-rising 0 W chain) (flat W) D P
  to-come D P s z f = record {
    rise = s;
    free = f;
    held = λ x n q. (word 0, ap (λ (t : Table ℕ (List Cell)). look nat_order (cells t) x) (carve-flat W) ∙ z x n q);
    within = λ x n q. held-has W x (word 0) (z x n q);
  }

  -- the relocations of P, and then those of Q, which are at other addresses
  module _ (R : Table ℕ (ℕ × ℕ)) (P : Table ℕ Name) (S : Table ℕ (ℕ × ℕ)) (Q : Table ℕ Name) (kp : Carries L R P) (kq : Carries L S Q) (up : Sorted nat_order P) (uq : Sorted nat_order Q)
      (zp : AtZero W P) (zq : AtZero W Q) (apart : (x : ℕ) (n : Name) → look nat_order Q x ≡ some n → look nat_order P x ≡ none) where
    abbrev rule : ℕ → Cell → Cell
    rule x c = patch L (look nat_order (P ++ Q) x) c

    pub twice-words : (len : ℕ) → settled_words (heads W) (settled_words (heads W) (lay (map word_of (flat W)) len) R) S ≡ lay (map word_of (flat (turned rule W))) len
    twice-words len =
        let room : total (heads W) ≡ length (flat W) = total-heads W in
        let room' : total (heads W) ≤ length (settled_cells (heads W) (flat W) R) = omega (arith, length-cells (heads W) R (flat W)) in
        let I : Settled L (heads W) (flat W) (settled_cells (heads W) (flat W) R) P =
        settled-round L small 0 (heads W) (chain-rising 0 W chain) (flat W) R P [] (flat W) (omega arith) kp (to-come [] P up zp (λ x n q. refl)) (settled-start L (heads W) (flat W)) in
        let J : Settled L (heads W) (flat W) (settled_cells (heads W) (settled_cells (heads W) (flat W) R) S) (P ++ Q) =
        settled-round L small 0 (heads W) (chain-rising 0 W chain) (flat W) S Q P (settled_cells (heads W) (flat W) R) room' kq (to-come P Q uq zq apart) I in
        ap (λ (w : List ℕ). settled_words (heads W) w S) (words-cells 0 (heads W) (chain-rising 0 W chain) len R (flat W) (omega arith) (all_in L W R P kp up zp))
        ∙ (words-cells 0 (heads W) (chain-rising 0 W chain) len S (settled_cells (heads W) (flat W) R) room' (all_in L W S Q kq uq zq)
        ∙ ap (λ (l : List Cell). lay (map word_of l) len)
        (settled-blocks L W (settled_cells (heads W) (settled_cells (heads W) (flat W) R) S) (P ++ Q) chain
        (length-cells (heads W) S (settled_cells (heads W) (flat W) R) ∙ length-cells (heads W) R (flat W)) J))

-- which changes no mark
pub twice-marks : (L : Name → Option Lab) (W : Table ℕ (List Cell)) → Sorted nat_order (cells W) → (P Q : Table ℕ Name) → AtZero W P → AtZero W Q
    → map mark_of (flat (turned (λ x c. patch L (look nat_order (P ++ Q) x) c) W)) ≡ map mark_of (flat W)
twice-marks L W up P Q zp zq =
    kept-turned (λ x c. patch L (look nat_order (P ++ Q) x) c) mark_of W up (λ x c q. go x c q (look nat_order (P ++ Q) x) refl)
  where
    zero : (x : ℕ) (n : Name) → (look nat_order P x ≡ some n) ⊎ (look nat_order Q x ≡ some n) → look nat_order (cells W) x ≡ some (word 0)
    zero x n (inl p) = zp x n p
    zero x n (inr p) = zq x n p

    settled : (v : Option Lab) → mark_of (settle v (word 0)) ≡ 1
    settled none = refl
    settled (some outer) = refl
    settled (some (defined a)) = refl

    go : (x : ℕ) (c : Cell) → look nat_order (cells W) x ≡ some c → (o : Option Name) → look nat_order (P ++ Q) x ≡ o → mark_of (patch L o c) ≡ mark_of c
    go x c q none p = refl
    go x c q (some n) p =
        let z = zero x n (or_split (look nat_order P x) (look nat_order Q x) n (sym (look-append nat_order P Q x) ∙ p)) in
        let w : c ≡ word 0 = (let s : some c ≡ some (word 0) = sym q ∙ z in cc) in
        rw w (settled (L n))
