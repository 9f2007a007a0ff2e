-- `base_text::key_at` meets its contract. Assumes nothing.
use Rattle.base_text.proofs.KeyLaws.{key-is}
use Rattle.base_text.proofs.key_at.Goals as goal

pub returns : goal.returns
returns c = key-is _ _ c.four_at.ensures.0 c.four_at-2.ensures.0
