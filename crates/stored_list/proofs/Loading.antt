-- What loading leaves in the listing program's buffers tells its outcome. Assumes nothing.
use Prim.Native.Nat.{ℕ, ◌≤◌}
use mathlib.Core.Path.{◌≡◌, refl, ◌∙◌}
use mathlib.Core.List.{List}
use Rattle.rules.specs.Base.{when◌then◌else◌}
use Rattle.rules.specs.Capacities.{program_word_room}
use Rattle.rules.specs.Buffers.{Buffers}
use Rattle.rules.specs.Calls.{of_bytes}
use Rattle.rules.specs.Stored.{load}
use Rattle.laws_stored.specs.Beginnings.{AreBytes}
use Rattle.object_answer.specs.declared.Answer.{Answer}
use Rattle.stored_load.specs.Call.{called, Loaded}
use Rattle.stored_load.proofs.Accepting.{accepted-call, load-accepts, load-numbers}
use Rattle.list_print.specs.Program.{Wrote, tells, Tellable}
use Rattle.list_print.proofs.Program.{lent, lent-long, lent-words, Telling, telling-tellable, telling-wrote}
use Rattle.stored_list.specs.Stored.{stored_listing}

module _ (s : List ℕ) (v : AreBytes s) where
  called_is : called lent s ≡ load program_word_room s
  unfolding called of_bytes when◌then◌else◌
  called_is = rw (lent-long, lent-words) refl

  module _ (r : Answer) (b : Buffers) (l : Loaded lent s r b) (len : ℕ) (h : 482304 ≤ len) where
    loading-tells : Telling (load program_word_room s) r b
    loading-tells =
        record {
          left = rw called_is at l;
          good = λ x e. accepted-call lent s r b x v l (called_is ∙ e);
          fits = λ x e. (load-accepts program_word_room s x e).fits;
          known = λ q e. (let w = load-numbers program_word_room s q e in record { some = w.0; few = w.1 });
        }

    pub load-tellable : Tellable r b len
    load-tellable = telling-tellable (load program_word_room s) r b loading-tells len h

    pub load-wrote : (n : ℕ) (out : List ℕ) → Wrote (tells r b) len n out → Wrote (stored_listing s) len n out
    unfolding stored_listing
    load-wrote n out w = telling-wrote (load program_word_room s) r b loading-tells len h n out w
