-- Whatever is assembled, loaded, or linked from such objects is good, where all that assembling and checking accept is. Assumes nothing.
use mathlib.Core.Path.{◌≡◌}
use mathlib.Core.List.{List, Memᴰ}
use Prim.Native.Nat.{ℕ, ◌<◌}
use lib.ListN.{get_or}
use Rattle.rules.specs.Base.{ok}
use Rattle.rules.specs.Objects.{Object, Good}
use Rattle.rules.specs.Passes.{assemble}
use Rattle.rules.specs.Stored.{check}
use Rattle.laws_link.specs.Ways.{AllGood}
use Rattle.laws_link.specs.Obtained.{Obtained, assembled, loaded, linked}
use Rattle.laws_link.proofs.Demand.{link-good}

module _ (accepted-good : (room : ℕ) (s : List ℕ) (o : Object) → assemble room s ≡ ok o → Good o)
    (checked-good : (b : List ℕ) (o : Object) → ((i : ℕ) → get_or b i 0 < 256) → check b ≡ ok o → Good o) where
  obtained : {o : Object} → Obtained o → Good o
  obtained (assembled {o = o} room s e) = accepted-good room s o e
  obtained (loaded {o = o} b h e) = checked-good b o h e
  obtained (linked {a = a} {b = b} {o = o} room g h e) = link-good room a b o (obtained g) (obtained h) e

  pub obtained-good : (o : Object) → Obtained o → Good o
  obtained-good o h = obtained h

  pub all-obtained-good : (l : List Object) → ((e : Object) → Memᴰ e l → Obtained e) → AllGood l
  all-obtained-good l h e m = obtained (h e m)
