-- The blocks of two lent objects that share no address, in one table: they are as many as both have, good, and hold what either object holds. Assumes nothing.
use mathlib.Core.Path.{◌≡◌, refl, sym, ◌∙◌, ap}
use mathlib.Core.Logic.{◌⊎◌, inl, inr}
use mathlib.Core.Bool.{false}
use mathlib.Core.Option.{Option, none, some}
use mathlib.Core.List.{List, []}
use Prim.Native.Nat.{ℕ, ◌+◌, ◌<◌}
use lib.ListN.{length}
use Rattle.rules.specs.Tables.{Table, look, nat_order}
use Rattle.rules.specs.Objects.{Cell, Object, object, Counts, cells, flat}
use Rattle.rules.specs.Linking.{shared, all_blocks}
use Rattle.rules.specs.Buffers.{Buffers, tab, head_row, view_blocks, view, BlocksOk}
use Rattle.rules.proofs.Bools.{never}
use Rattle.rules.proofs.Runs.{or_else, or_split}
use Rattle.rules.proofs.Chains.{Chain, chain-heads, chain-cells, chain-full}
use Rattle.rules.proofs.Sound.{BlocksGood, blocks-good}
use Rattle.laws_link.proofs.Blocks as Blocks
use Rattle.laws_link.proofs.Blocks.{Merged, merged}
use Rattle.laws_link.proofs.Tests.{shared-apart, overlap-shared}
use Rattle.link_blocks.specs.Meeting.{meeting}
use Rattle.link_blocks.specs.Merged.{both_blocks}
use Rattle.link_blocks.proofs.Shared.{shared-heads, heads-view}

pub good-chain : {bs : Table ℕ (List Cell)} {n w : ℕ} → BlocksGood bs n w → Chain 0 bs
good-chain {bs} g = Blocks.good-chain bs g.filled g.cells_up

module _ {na wa : ℕ} {a : List ℕ} {nb wb : ℕ} {b : List ℕ} (aw am bw bm : List ℕ) (v : BlocksOk na wa a) (u : BlocksOk nb wb b) (e : meeting (tab na (head_row a)) (tab nb (head_row b)) ≡ false) where
  -- the blocks of each, and an object with nothing else
  abbrev first : Table ℕ (List Cell)
  first = view_blocks na wa a aw am

  abbrev second : Table ℕ (List Cell)
  second = view_blocks nb wb b bw bm

  abbrev both : Table ℕ (List Cell)
  both = both_blocks na wa a aw am nb wb b bw bm

  abbrev bare : Table ℕ (List Cell) → Object
  bare bs = object bs [] []

  none-shared : shared (bare first) (bare second) ≡ false
  unfolding shared
  none-shared = shared-heads first second ∙ ((λ i. meeting (heads-view na wa a aw am v i) (heads-view nb wb b bw bm u i)) ∙ e)

  all-merged : Merged first second
  all-merged =
      merged 0 first second (good-chain (blocks-good na wa a aw am v)) (good-chain (blocks-good nb wb b bw bm u)) (shared-apart (bare first) (bare second) none-shared)

  pub both-blocks : length both ≡ na + nb
  unfolding both_blocks
  both-blocks = all-merged.blocks ∙ (λ i. (blocks-good na wa a aw am v).count i + (blocks-good nb wb b bw bm u).count i)

  pub both_words : length (flat both) ≡ wa + wb
  unfolding both_blocks
  both_words = all-merged.words ∙ (λ i. (blocks-good na wa a aw am v).words i + (blocks-good nb wb b bw bm u).words i)

  -- what stands at an address is what stands there in one of the two
  both_at : (x : ℕ) → look nat_order (cells both) x ≡ or_else (look nat_order (cells first) x) (look nat_order (cells second) x)
  unfolding both_blocks
  both_at x = all-merged.at x

  -- no address is in both
  pub both-apart : (x : ℕ) (c d : Cell) → look nat_order (cells first) x ≡ some c → look nat_order (cells second) x ≡ some d → ⊥
  both-apart x c d p q =
      let s = overlap-shared (bare first) (bare second) (x, c, d, p, q) in
      let n = none-shared in
      never cc

  pub both_first : (x : ℕ) (c : Cell) → look nat_order (cells first) x ≡ some c → look nat_order (cells both) x ≡ some c
  both_first x c q = both_at x ∙ ap (λ (o : Option Cell). or_else o (look nat_order (cells second) x)) q

  pub both-second : (x : ℕ) (c : Cell) → look nat_order (cells second) x ≡ some c → look nat_order (cells both) x ≡ some c
  both-second x c q = both_at x ∙ go (look nat_order (cells first) x) refl
    where
      go : (o : Option Cell) → look nat_order (cells first) x ≡ o → or_else o (look nat_order (cells second) x) ≡ some c
      go none p = q
      go (some d) p = absurd (both-apart x d c p q)

  pub both-good : BlocksGood both (na + nb) (wa + wb)
  unfolding both_blocks
  both-good =
      record {
        heads_up = chain-heads 0 both all-merged.chain;
        cells_up = chain-cells 0 both all-merged.chain;
        filled = chain-full 0 both all-merged.chain;
        low = λ x c q. low-either x c (or_split (look nat_order (cells first) x) (look nat_order (cells second) x) c (sym (all-merged.at x) ∙ q));
        count = both-blocks;
        words = both_words;
      }
    where
      low-either : (x : ℕ) (c : Cell) → (look nat_order (cells first) x ≡ some c) ⊎ (look nat_order (cells second) x ≡ some c) → x < 65024
      low-either x c (inl p) = (blocks-good na wa a aw am v).low x c p
      low-either x c (inr p) = (blocks-good nb wb b bw bm u).low x c p

-- the rules' blocks of both objects are these
pub all_blocks_lem : (c d : Counts) (x y : Buffers) → all_blocks (view c x) (view d y)
    ≡ both_blocks c.blocks c.words x.blocks x.words x.marks d.blocks d.words y.blocks y.words y.marks
unfolding all_blocks both_blocks
all_blocks_lem c d x y = refl
