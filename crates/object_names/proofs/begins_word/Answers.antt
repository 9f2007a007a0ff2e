-- `object_names::begins_word` meets its contract. Assumes nothing.
use mathlib.Core.Path.{refl}
use Rattle.object_names.specs.Plain.{beginning}
use Rattle.object_names.proofs.begins_word.Goals as goal

pub returns : goal.returns
unfolding beginning
returns c = refl
