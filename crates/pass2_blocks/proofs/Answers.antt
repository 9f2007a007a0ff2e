-- The answers of placing a block are the rules'. Assumes nothing.
use Prim.Native.Nat.{ℕ, ◌+◌, ◌-◌, ◌*◌, ◌≤◌, ◌<◌}
use mathlib.Core.Path.{◌≡◌, refl, ap, sym, ◌∙◌, subst}
use mathlib.Core.Bool.{Bool, true, false}
use mathlib.Core.List.{List}
use native.Mathlib.Decide.{dec_lt}
use native.Mathlib.Omega.{arith}
use lib.ListN.{length, get_or, drop}
use lib.Dec.{leb}
use borrow.Author.Tests.{le-leb, lt-leb}
use Rattle.rules.specs.Base.{when◌then◌else◌, ok, refuse2, span}
use Rattle.rules.specs.Passes.{overlapping}
use Rattle.rules.specs.Buffers.{head_row, sum_of, WordRow}
use Rattle.rules.proofs.Bools.{never}
use Rattle.base_rotate.specs.Turned.{turned}
use Rattle.base_rotate.proofs.Moved.{get-low, get-front, get-back, get-rest}
use Rattle.pass2_blocks.specs.Rows.{orig_row, view_obj_blocks}
use Rattle.pass2_blocks.specs.Spots.{ClashAt, FreeAt, Spotted}
use Rattle.std.specs.declared.result.Result.{Result}
use Rattle.std.specs.declared.result.Result.TheVariants.{Ok, Err}
use Rattle.base_refusals.specs.declared.Refusal.{Refusal}
use Rattle.base_refusals.specs.Refusals.{refusal, refused_by}
use Rattle.pass2_blocks.specs.Placing.{Ready, InsertAt, InsertedAt, clash_of, outcome, PlacedAs}
use Rattle.pass2_blocks.proofs.Inserted.{row-rest, sum-rise}
use Rattle.pass2_blocks.proofs.Placed.{clash-rule, free-rule, view-new, sum-new}

pub clash-first : (os : List ℕ) (k o₁ o₂ b e : ℕ) → b ≡ get_or os (k * 2) 0 → e ≡ get_or os (k * 2 + 1) 0 → o₁ ≤ b → refusal 28 o₁ o₂ b e ≡ clash_of os k o₁ o₂
unfolding clash_of when◌then◌else◌
clash-first os k o₁ o₂ b e eb ee h = let t : leb o₁ (get_or os (k * 2) 0) ≡ true = rw (← eb) (le-leb o₁ b h) in rw t (cc)

pub clash-second : (os : List ℕ) (k o₁ o₂ b e : ℕ) → b ≡ get_or os (k * 2) 0 → e ≡ get_or os (k * 2 + 1) 0 → b < o₁ → refusal 28 b e o₁ o₂ ≡ clash_of os k o₁ o₂
unfolding clash_of when◌then◌else◌
clash-second os k o₁ o₂ b e eb ee h = let t : leb o₁ (get_or os (k * 2) 0) ≡ false = rw (← eb) (lt-leb o₁ b h) in rw t (cc)

clash-says : (n : ℕ) (bs os' ws ms os : List ℕ) (k o₁ o₂ : ℕ) → outcome n bs os' ws ms (Err (clash_of os k o₁ o₂)) ≡ overlapping (span o₁ o₂) (orig_row os k)
unfolding clash_of when◌then◌else◌ overlapping
clash-says n bs os' ws ms os k o₁ o₂ = go (leb o₁ (get_or os (k * 2) 0))
  where
    go : (b : Bool)
        → outcome n bs os' ws ms (Err (when b then refusal 28 o₁ o₂ (get_or os (k * 2) 0) (get_or os (k * 2 + 1) 0) else refusal 28 (get_or os (k * 2) 0) (get_or os (k * 2 + 1) 0) o₁ o₂))
        ≡ (when b then refuse2 28 (span o₁ o₂) (orig_row os k) else refuse2 28 (orig_row os k) (span o₁ o₂))
    go true = refl
    go false = refl

pub clashes : (bs os ws ms : List ℕ) (n used a s o₁ o₂ k : ℕ) (r : Result (Unit {0}) Refusal) → ClashAt bs n a s k → r ≡ Err (clash_of os k o₁ o₂)
    → PlacedAs bs os ws ms bs os ws ms n used a s o₁ o₂ r
clashes bs os ws ms n used a s o₁ o₂ k r c e =
    record {
      rule = ap (outcome n bs os ws ms) e ∙ clash-says n bs os ws ms os k o₁ o₂ ∙ clash-rule bs os ws ms n used a s o₁ o₂ k c;
      kept = λ q. never cc;
    }

-- the index from which a turn takes what stands at i
from-where : (ws ms : List ℕ) (lo mid hi : ℕ) → lo ≤ mid → mid ≤ hi → hi ≤ length ws → hi ≤ length ms → ((i : ℕ) → i < hi → WordRow ws ms i)
    → (i : ℕ) → i < hi → WordRow (turned lo mid hi ws) (turned lo mid hi ms) i
from-where ws ms lo mid hi h k lw lm c i l = elim (dec_lt i lo) [
  | yes y ↦ same_row i i (get-low ws lo mid hi h k lw i y) (get-low ms lo mid hi h k lm i y) (c i l)
  | no y ↦ elim (dec_lt i (lo + (hi - mid))) [
    | yes z ↦ (let e : i ≡ lo + (i - lo) = omega arith in
        let q : mid + (i - lo) < hi = omega arith in
        rw e (same_row (lo + (i - lo)) (mid + (i - lo)) (get-front ws lo mid hi h k lw (i - lo) q) (get-front ms lo mid hi h k lm (i - lo) q) (c (mid + (i - lo)) q)))
    | no z ↦ (let e : i ≡ lo + (hi - mid + (i - lo - (hi - mid))) = omega arith in
        let q : lo + (i - lo - (hi - mid)) < mid = omega arith in
        let p : lo + (i - lo - (hi - mid)) < hi = omega arith in
        rw e (same_row (lo + (hi - mid + (i - lo - (hi - mid)))) (lo + (i - lo - (hi - mid))) (get-back ws lo mid hi h k lw (i - lo - (hi - mid)) q) (get-back ms lo mid hi h k lm (i - lo - (hi - mid)) q) (c (lo + (i - lo - (hi - mid))) p)))
  ]
]
  where
    same_row : (i j : ℕ) → get_or (turned lo mid hi ws) i 0 ≡ get_or ws j 0 → get_or (turned lo mid hi ms) i 0 ≡ get_or ms j 0 → WordRow ws ms j
        → WordRow (turned lo mid hi ws) (turned lo mid hi ms) i
    same_row i j e f w = record { mark = omega (arith, w.mark); clear = λ z. e ∙ w.clear (sym f ∙ z) }

-- the place that was found is one to insert at
pub insert-at : (bs os ws ms : List ℕ) (n k at used a s : ℕ) → Ready bs os ws ms n used s → FreeAt bs n a s k at → InsertAt bs os ws ms n k at used s
insert-at bs os ws ms n k at used a s r f =
    record { ready = r; row = f.within; here = f.sum; low = omega (arith, r.sum, f.sum, sum-rise (head_row bs) k n f.within) }

pub places : (bs os ws ms bs' os' ws' ms' : List ℕ) (n used a s o₁ o₂ k at : ℕ) → Ready bs os ws ms n used s → FreeAt bs n a s k at
    → InsertedAt bs os ws ms bs' os' ws' ms' n k at used a s o₁ o₂ → PlacedAs bs os ws ms bs' os' ws' ms' n used a s o₁ o₂ (Ok tt)
places bs os ws ms bs' os' ws' ms' n used a s o₁ o₂ k at r f i =
    let w : ws' ≡ turned (sum_of (head_row bs) k) (used - s) used ws = i.words ∙ ap (λ (x : ℕ). turned x (used - s) used ws) f.sum in
    let m : ms' ≡ turned (sum_of (head_row bs) k) (used - s) used ms = i.marks ∙ ap (λ (x : ℕ). turned x (used - s) used ms) f.sum in
    let low : sum_of (head_row bs) k ≤ used - s = omega (arith, r.sum, sum-rise (head_row bs) k n f.within) in
    record {
      rule = (λ v. ok (view_obj_blocks (n + 1) (i.blocks v) (i.origs v) (w v) (m v)))
          ∙ ap ok (view-new bs os ws ms n used a s o₁ o₂ r k f.within) ∙ sym (free-rule bs os ws ms n used a s o₁ o₂ k at f);
      kept = λ q. record {
        sum = ap (λ (x : List ℕ). sum_of (head_row x) (n + 1)) i.blocks ∙ sum-new bs os ws ms n used a s o₁ o₂ r k f.within;
        blocks = ap (drop (n * 2 + 2)) i.blocks ∙ row-rest bs n k a s f.within r.room;
        origs = ap (drop (n * 2 + 2)) i.origs ∙ row-rest os n k o₁ o₂ f.within r.room_origs;
        words = ap (drop used) w ∙ get-rest ws (sum_of (head_row bs) k) (used - s) used low (omega arith) r.words;
        marks = ap (drop used) m ∙ get-rest ms (sum_of (head_row bs) k) (used - s) used low (omega arith) r.marks;
        clean = λ old j l. subst (λ (x : List ℕ). WordRow x ms' j) (sym w) (subst (λ (y : List ℕ). WordRow (turned (sum_of (head_row bs) k) (used - s) used ws) y j) (sym m) (from-where ws ms (sum_of (head_row bs) k) (used - s) used low (omega arith) r.words r.marks old j l));
      };
    }

-- BY THE SPOT THAT WAS FOUND

clashed : (bs : List ℕ) (n a s k : ℕ) (d : Result (ℕ × ℕ) ℕ) → Spotted bs n a s d → d ≡ Err k → ClashAt bs n a s k
clashed bs n a s k d f e = subst (Spotted bs n a s) e f

freed : (bs : List ℕ) (n a s k at : ℕ) (d : Result (ℕ × ℕ) ℕ) → Spotted bs n a s d → d ≡ Ok (k, at) → FreeAt bs n a s k at
freed bs n a s k at d f e = subst (Spotted bs n a s) e f

pub spot-clashes : (bs os ws ms : List ℕ) (n used a s o₁ o₂ k : ℕ) (d : Result (ℕ × ℕ) ℕ) (r : Result (Unit {0}) Refusal) → Spotted bs n a s d → d ≡ Err k → r ≡ Err (clash_of os k o₁ o₂)
    → PlacedAs bs os ws ms bs os ws ms n used a s o₁ o₂ r
spot-clashes bs os ws ms n used a s o₁ o₂ k d r f e q = clashes bs os ws ms n used a s o₁ o₂ k r (clashed bs n a s k d f e) q

pub spot-free : (bs os ws ms : List ℕ) (n k at used a s : ℕ) (d : Result (ℕ × ℕ) ℕ) → Ready bs os ws ms n used s → Spotted bs n a s d → d ≡ Ok (k, at) → InsertAt bs os ws ms n k at used s
spot-free bs os ws ms n k at used a s d r f e = insert-at bs os ws ms n k at used a s r (freed bs n a s k at d f e)

pub spot-places : (bs os ws ms bs' os' ws' ms' : List ℕ) (n used a s o₁ o₂ k at : ℕ) (d : Result (ℕ × ℕ) ℕ) → Ready bs os ws ms n used s → Spotted bs n a s d → d ≡ Ok (k, at)
    → InsertedAt bs os ws ms bs' os' ws' ms' n k at used a s o₁ o₂ → PlacedAs bs os ws ms bs' os' ws' ms' n used a s o₁ o₂ (Ok tt)
spot-places bs os ws ms bs' os' ws' ms' n used a s o₁ o₂ k at d r f e i = places bs os ws ms bs' os' ws' ms' n used a s o₁ o₂ k at r (freed bs n a s k at d f e) i
