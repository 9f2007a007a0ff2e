-- `stored::store` meets its contract. Assumes nothing.
use mathlib.Core.Path.{◌∙◌}
use Rattle.std.specs.declared.result.Result.TheVariants.{Err}
use lib.ListN.{length}
use Rattle.object_check.proofs.Whole.{checked-valid}
use Rattle.object_check.proofs.Writes.{zeros-still, writes-object, writes_short, writes-bad}
use Rattle.stored.proofs.store.Goals as goal

pub store_object-requires : goal.store_object-requires
store_object-requires c = record { valid = checked-valid _ c.check_object.ensures c.in-Ok.is; bytes_value = zeros-still _ (length c.args.bytes.now) c.clear.ensures }

pub returns-in-Ok : goal.returns-in-Ok
returns-in-Ok c = writes-object _ _ _ _ c.check_object.ensures _ _ _ _ c.in-Ok.is c.clear.ensures c.store_object.ensures

pub returns-in-Err-ShortBuffer : goal.returns-in-Err-ShortBuffer
returns-in-Err-ShortBuffer c = writes_short _ _ _ _ c.check_object.ensures _ _ (c.in-Err-ShortBuffer.is ∙ (λ i. Err (c.in-Err-ShortBuffer.field-0-is i))) c.clear.ensures

pub returns-in-Err-BadObject : goal.returns-in-Err-BadObject
returns-in-Err-BadObject c = writes-bad _ _ _ _ c.check_object.ensures _ _ (c.in-Err-BadObject.is ∙ (λ i. Err (c.in-Err-BadObject.field-0-is i))) c.clear.ensures
