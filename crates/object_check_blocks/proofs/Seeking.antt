-- What the search of an address keeps, and what is read there. Assumes nothing.
use Rattle.std.specs.declared.option.Option as O
use Rattle.std.specs.declared.option.Option.TheVariants.{Some, None}
use mathlib.Core.Path.{◌≡◌, sym, ◌∙◌, ap}
use mathlib.Core.Bool.{Bool, false}
use mathlib.Core.Option.{some}
use mathlib.Core.List.{List}
use Prim.Native.Nat.{ℕ, zero, suc, ◌+◌, ◌-◌, ◌*◌, ◌≤◌, ◌<◌}
use native.Mathlib.Nat.{not-suc-le-zero}
use native.Mathlib.Decide.{dec_lt}
use native.Mathlib.Omega.{arith}
use lib.ListN.{length, get_or}
use Rattle.rules.specs.Objects.{word}
use Rattle.rules.specs.Buffers.{head_row, sum_of, cell_row, BlocksOk, WordsOk, ZeroAt}
use Rattle.rules.proofs.Bools.{never}
use Rattle.object.specs.Decides.{Decides, decides_no}
use Rattle.object.proofs.Blocks.{starts-up}
use Rattle.object_check_blocks.specs.Places.{Inside, Placed, ZeroCell}
use Rattle.object_check_blocks.proofs.Spots.{spot-at, cell_at, cell-none}

-- the first k blocks end at x or before, and have `sum` words
pub record Seeking (n : ℕ) (bs : List ℕ) (x k sum : ℕ) : Type 0 where
  pub within : k ≤ n
  pub count : sum ≡ sum_of (head_row bs) k
  pub small : sum ≤ k * 65536
  pub past : (j : ℕ) → j < k → (head_row bs j).0 + (head_row bs j).1 ≤ x

-- words before a row are within all words
sum-up : (n : ℕ) (h : ℕ → ℕ × ℕ) (k : ℕ) → k < n → sum_of h k + (h k).1 ≤ sum_of h n
sum-up zero h k l = absurd (not-suc-le-zero l)
sum-up (suc n) h k l = go (dec_lt k n) (sum-up n h k)
  where
    go : Dec (k < n) → (k < n → sum_of h k + (h k).1 ≤ sum_of h n) → sum_of h k + (h k).1 ≤ sum_of h n + (h n).1
    go (yes p) ih = let q = ih p in omega arith
    go (no p) ih = let e : k ≡ n = omega arith in rw e (omega arith)

module _ {n w k x sum s l : ℕ} {bs : List ℕ} (v : BlocksOk n w bs) (t : Seeking n bs x k sum) (h : k < n) (p : s ≡ get_or bs (k * 2) 0) (q : l ≡ get_or bs (k * 2 + 1) 0) where
  pub seeking-hit : s ≤ x → x - s < l → Placed n w bs x (Some (sum + (x - s)))
  seeking-hit a b = record {
    hit = λ u e. (
        let r : sum + (x - s) ≡ u = cc in
        let c : sum_of (head_row bs) k + (x - (head_row bs k).0) ≡ u = omega (arith, t.count) in (
          omega (arith, sum-up n (head_row bs) k h, t.count, v.sum),
          rw c at (spot-at n (head_row bs) k x h (omega arith, omega arith) (λ j m i. absurd (let z = t.past j m in omega (arith, i.1)))),
        ));
    miss = λ e. (never cc);
  }

  pub seeking-before : x < s → Placed n w bs x None
  seeking-before a = record {
    hit = λ u e. (never cc);
    miss = λ e. go;
  }
    where
      go : (j : ℕ) → j < n → Inside (head_row bs) x j → ⊥
      go j m i = elim (dec_lt j k) [
        | yes b ↦ (let z = t.past j b in omega (arith, i.1))
        | no b ↦ (let z = starts-up n bs v.rows k j (omega arith) m in omega (arith, i.0))
      ]

-- WHAT STANDS THERE

pub place-words : {n w x p : ℕ} {bs ws ms : List ℕ} {r : O.Option ℕ} → WordsOk w ws ms → Placed n w bs x r → r ≡ Some p → p < length ws
place-words {p = p} v s e = omega (arith, v.room_words, (s.hit p e).0)

pub place-marks : {n w x p : ℕ} {bs ws ms : List ℕ} {r : O.Option ℕ} → WordsOk w ws ms → Placed n w bs x r → r ≡ Some p → p < length ms
place-marks {p = p} v s e = omega (arith, v.room_marks, (s.hit p e).0)

-- the answer at the place is the answer at the address
pub zero_held : {n w x p : ℕ} {bs ws ms : List ℕ} {r : O.Option ℕ} {t : Bool} → BlocksOk n w bs → Placed n w bs x r → r ≡ Some p → Decides (ZeroCell ws ms p) t → Decides (ZeroAt n w bs ws ms x) t
zero_held {n} {w} {x} {p} {bs} {ws} {ms} v s e d =
    let u = s.hit p e in
    let h = cell_at n w bs ws ms x p v u.0 u.1 in
    record {
      yes = λ q. record { at = h ∙ ap some (d.yes q).cell };
      no = λ q a. d.no q (record { cell = (let c : some (cell_row ws ms p) ≡ some (word 0) = sym h ∙ a.at in cc) });
    }

pub zero-nowhere : {n w x : ℕ} {bs ws ms : List ℕ} {r : O.Option ℕ} → Placed n w bs x r → r ≡ None → Decides (ZeroAt n w bs ws ms x) false
zero-nowhere {n} {w} {x} {bs} {ws} {ms} s e = decides_no (λ a. cell-none n w bs ws ms x (s.miss e) (word 0) a.at)
