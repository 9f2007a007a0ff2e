-- `view_refusal::put_position` meets its contract. Assumes nothing.
use mathlib.Core.Path.{refl}
use native.Mathlib.Omega.{arith}
use Rattle.view_refusal.proofs.RefusalTexts.{feeds-fit, position-put}
use Rattle.view_refusal.proofs.put_position.Goals as goal

pub overflow_add-feeds : goal.overflow_add-feeds
overflow_add-feeds c = omega (arith, feeds-fit _ c.line_feeds-feeds.ensures)

pub returns : goal.returns
returns c = position-put _ _ _ c.line_feeds-feeds.ensures c.bytes_since-since.ensures.value refl refl c.put-a.ensures c.put_byte-b.ensures c.put_decimal-c.ensures c.put_byte-d.ensures c.put_decimal-e.ensures c.put.ensures
