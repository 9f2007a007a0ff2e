-- Checking what was stored gives the object back; what checking accepts is good and stored as the same bytes. No two objects share stored bytes, and one object has one. Assumes nothing.
use mathlib.Core.Path.{◌≡◌, sym, ◌∙◌, ap}
use mathlib.Core.List.{List, []}
use Prim.Native.Nat.{ℕ}
use native.Mathlib.Omega.{arith}
use lib.ListN.{length}
use Rattle.rules.specs.Base.{ok}
use Rattle.rules.specs.Objects.{Object, Good}
use Rattle.rules.specs.Stored.{spell, items_of, stored, begin, check}
use Rattle.laws_stored.specs.Beginnings.{AreBytes}
use Rattle.laws_stored.proofs.Framed.{Bytes, all-bytes}
use Rattle.laws_stored.proofs.Accepted.{accept-read, read-accept}
use Rattle.laws_stored.proofs.Taken.{along-begin, accept-items}
use Rattle.laws_stored.proofs.Ordered.{good-ordered, ordered-good}
use Rattle.laws_stored.proofs.Complete.{items-accepted}
use Rattle.laws_stored.proofs.Kept.{kept-begin, accept-ordered}
use Rattle.laws_stored.proofs.TwoBytes.{stored_low}

-- What was stored is checked to be the object.
pub stored-checks : (o : Object) → Good o → check (stored o) ≡ ok o
unfolding check stored
stored-checks o g = accept-read (length (spell (items_of o))) begin [] (items_of o) o (omega arith) (items-accepted o (good-ordered o g))

-- the same of bytes as a list
pub bytes-stored : (b : List ℕ) (o : Object) → Bytes b → check b ≡ ok o → stored o ≡ b
unfolding check stored
bytes-stored b o h e =
    let r = read-accept b (length b) begin 0 o h e in
    ap spell (sym (accept-items begin r.items o along-begin r.taken)) ∙ sym r.bytes

pub bytes_good : (b : List ℕ) (o : Object) → Bytes b → check b ≡ ok o → Good o
unfolding check
bytes_good b o h e =
    let r = read-accept b (length b) begin 0 o h e in
    let l = stored_low o (rw (bytes-stored b o h e) h) in
    ordered-good o (accept-ordered begin r.items o along-begin kept-begin r.taken) l.words l.addresses

-- What checking accepts is stored as the same bytes,
pub checked-stored : (b : List ℕ) (o : Object) → AreBytes b → check b ≡ ok o → stored o ≡ b
checked-stored b o h e = bytes-stored b o (all-bytes b h) e

-- and is good.
pub checked-good : (b : List ℕ) (o : Object) → AreBytes b → check b ≡ ok o → Good o
checked-good b o h e = bytes_good b o (all-bytes b h) e

-- No two objects share stored bytes,
pub no-two-share : (o p : Object) → Good o → Good p → stored o ≡ stored p → o ≡ p
no-two-share o p g h e = let z : ok o ≡ ok p = sym (stored-checks o g) ∙ (ap check e ∙ stored-checks p h) in cc

-- and one object has one: bytes that are checked to be the same object are the same.
pub one-has-one : (b c : List ℕ) (o : Object) → AreBytes b → AreBytes c → check b ≡ ok o → check c ≡ ok o → b ≡ c
one-has-one b c o h k e f = sym (checked-stored b o h e) ∙ checked-stored c o k f
