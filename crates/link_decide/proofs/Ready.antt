-- Two lent objects are what judging asks for. Assumes nothing.
use mathlib.Core.List.{List}
use Prim.Native.Nat.{ℕ, zero, suc, ◌*◌, ◌≤◌, ◌<◌}
use native.Mathlib.Omega.{arith}
use lib.ListN.{length}
use Rattle.rules.specs.Buffers.{Buffers, head_row, end_of, sum_of, BlockRow, BlocksOk, RelocsOk, Valid}
use Rattle.object.specs.declared.Counts.{Counts}
use Rattle.object.specs.Meaning.{counts}
use Rattle.link_blocks.proofs.Walk.{blocks-rows}
use Rattle.link_relocations.specs.Open.{Carried}
use Rattle.link_decide.specs.Decided.{JudgeReady}

-- the words of blocks that lie one behind another end where the last one ends, or before
sum-end : (h : ℕ → ℕ × ℕ) (n k : ℕ) → ((j : ℕ) → j < n → BlockRow 0 h j) → k ≤ n → sum_of h k ≤ end_of 0 h k
sum-end h n zero r l = omega arith
sum-end h n (suc k) r l = omega (arith, sum-end h n k r (omega arith), (r k (omega arith)).after)

end_low : (h : ℕ → ℕ × ℕ) (n k : ℕ) → ((j : ℕ) → j < n → BlockRow 0 h j) → k ≤ n → end_of 0 h k ≤ 65024
end_low h n zero r l = omega arith
end_low h n (suc k) r l = (r k (omega arith)).low

pub words-few : {n w : ℕ} {bs : List ℕ} → BlocksOk n w bs → w ≤ 65024
words-few {n} {w} {bs} v = omega (arith, v.sum, sum-end (head_row bs) n n v.rows (omega arith), end_low (head_row bs) n n v.rows (omega arith))

pub relocs-carried : {n nb w m : ℕ} {bs ws ms ls rs xs : List ℕ} → RelocsOk n nb w m bs ws ms ls rs → m * 2 ≤ length xs → Carried n rs xs
relocs-carried v h = record { room = v.room; noted = λ k l. omega (arith, (v.rows k l).row); up = v.up }

pub judge-ready : (c : Counts) (b : Buffers) (d : Counts) (e : Buffers) (xs ys : List ℕ) → Valid (counts c) b → Valid (counts d) e → 2048 ≤ length xs → 2048 ≤ length ys
    → JudgeReady c b.blocks b.labels b.relocs b.names d e.blocks e.labels e.relocs e.names xs ys
judge-ready c b d e xs ys v u p q =
    let x : c.labels * 2 ≤ length xs = omega (arith, v.labels.few) in
    let y : d.labels * 2 ≤ length ys = omega (arith, u.labels.few) in
    record {
      blocks1 = blocks-rows v.blocks;
      blocks2 = blocks-rows u.blocks;
      labels = record { first = v.labels; second = u.labels; first_notes = x; second_notes = y };
      relocs1 = relocs-carried v.relocs x;
      relocs2 = relocs-carried u.relocs y;
      few = record {
        blocks1 = v.blocks.few;
        blocks2 = u.blocks.few;
        words1 = words-few v.blocks;
        words2 = words-few u.blocks;
        relocs1 = v.relocs.few;
        relocs2 = u.relocs.few;
      };
    }
