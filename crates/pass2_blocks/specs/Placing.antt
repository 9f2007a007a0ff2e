-- A block is placed among those closed as the rules' `place` places it. Assumes nothing.
use Rattle.std.specs.Prelude.{◌≡◌, List, ℕ, ◌+◌, ◌-◌, ◌*◌, ◌≤◌, ◌<◌, length, get_or, drop, leb}
use Rattle.rules.specs.Base.{when◌then◌else◌, Outcome, ok, span}
use Rattle.rules.specs.Passes.{ObjBlock, obj_block, place}
use Rattle.rules.specs.Buffers.{head_row, sum_of, WordRow}
use Rattle.base_rotate.specs.Turned.{turned}
use Rattle.pass2_blocks.specs.Rows.{cells_at, view_obj_blocks, row_in}
use Rattle.std.specs.declared.result.Result.{Result}
use Rattle.std.specs.declared.result.Result.TheVariants.{Ok, Err}
use Rattle.base_refusals.specs.declared.Refusal.{Refusal}
use Rattle.base_refusals.specs.Refusals.{refusal, refused_by}

-- the words of n blocks, and of the one to place behind them, fill the used part; there is room for a row
pub record Ready (bs os ws ms : List ℕ) (n used size : ℕ) : Type 0 where
  pub few : n < 64
  pub room : n * 2 + 2 ≤ length bs
  pub room_origs : n * 2 + 2 ≤ length os
  pub words : used ≤ length ws
  pub marks : used ≤ length ms
  pub sum : sum_of (head_row bs) n + size ≡ used

-- row k is where the block goes, and its words to `at`
pub record InsertAt (bs os ws ms : List ℕ) (n k at used size : ℕ) : Type 0 where
  pub ready : Ready bs os ws ms n used size
  pub row : k ≤ n
  pub here : at ≡ sum_of (head_row bs) k
  pub low : at + size ≤ used

pub record InsertedAt (bs os ws ms bs' os' ws' ms' : List ℕ) (n k at used a size o₁ o₂ : ℕ) : Type 0 where
  pub blocks : bs' ≡ row_in bs n k a size
  pub origs : os' ≡ row_in os n k o₁ o₂
  pub words : ws' ≡ turned at (used - size) used ws
  pub marks : ms' ≡ turned at (used - size) used ms

-- the refusal where the block overlaps row k: 28 at both .orig, earlier first
unfoldable pub clash_of : List ℕ → (k o₁ o₂ : ℕ) → Refusal
clash_of os k o₁ o₂ =
    when leb o₁ (get_or os (k * 2) 0) then refusal 28 o₁ o₂ (get_or os (k * 2) 0) (get_or os (k * 2 + 1) 0)
    else refusal 28 (get_or os (k * 2) 0) (get_or os (k * 2 + 1) 0) o₁ o₂

-- what the answer says
abbrev pub outcome : ℕ → (bs os ws ms : List ℕ) → Result (Unit {0}) Refusal → Outcome (List ObjBlock)
outcome n bs os ws ms (Ok u) = ok (view_obj_blocks (n + 1) bs os ws ms)
outcome n bs os ws ms (Err f) = refused_by f

-- the rows' words are the used part again, each beside its mark as before, and what is not in use is as it was
pub record Kept (bs os ws ms bs' os' ws' ms' : List ℕ) (n used : ℕ) : Type 0 where
  pub sum : sum_of (head_row bs') (n + 1) ≡ used
  pub blocks : drop (n * 2 + 2) bs' ≡ drop (n * 2 + 2) bs
  pub origs : drop (n * 2 + 2) os' ≡ drop (n * 2 + 2) os
  pub words : drop used ws' ≡ drop used ws
  pub marks : drop used ms' ≡ drop used ms
  pub clean : ((i : ℕ) → i < used → WordRow ws ms i) → (i : ℕ) → i < used → WordRow ws' ms' i

pub record PlacedAs (bs os ws ms bs' os' ws' ms' : List ℕ) (n used a size o₁ o₂ : ℕ) (r : Result (Unit {0}) Refusal) : Type 0 where
  pub rule : outcome n bs' os' ws' ms' r ≡ place (obj_block a (cells_at ws ms (used - size) size) (span o₁ o₂)) (view_obj_blocks n bs os ws ms)
  pub kept : r ≡ Ok tt → Kept bs os ws ms bs' os' ws' ms' n used
