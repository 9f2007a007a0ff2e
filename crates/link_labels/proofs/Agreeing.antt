-- Two tables that agree, a row at a time. Assumes nothing.
use mathlib.Core.Path.{◌≡◌, refl, sym}
use mathlib.Core.Bool.{true, false}
use mathlib.Core.Option.{Option, none}
use mathlib.Core.List.{[], ◌∷◌}
use Prim.Native.Nat.{ℕ, ◌+◌}
use Rattle.rules.specs.Base.{refuse, span}
use Rattle.rules.specs.Tables.{Table, Low, look, name_order}
use Rattle.rules.specs.Objects.{Lab, outer, defined, Name}
use Rattle.rules.specs.Linking.{differ, agree}
use Rattle.rules.proofs.Tables.{lt-ne, look-there}

-- a row of the second table that is below the whole first says nothing
pub agree-low : (r : ℕ) (s : Table Name Lab) (e : Name × Lab) (t : Table Name Lab) → Low name_order e.0 s → agree r s (e ∷ t) ≡ agree r s t
unfolding agree
agree-low r [] e t l = refl
agree-low r (d ∷ s) e t l =
    let f : look name_order (e ∷ t) d.0 ≡ look name_order t d.0 = look-there name_order e t d.0 (λ q. lt-ne name_order e.0 d.0 l.0 (sym q)) in
    rw (f, agree-low (r + 1) s e t l.1)

-- the first row of the first table agrees with what the second says of its name, or differs from it
pub agree-next : (r : ℕ) (e : Name × Lab) (s t : Table Name Lab) (o : Option Lab) → look name_order t e.0 ≡ o → differ e.1 o ≡ false → agree r (e ∷ s) t ≡ agree (r + 1) s t
unfolding agree
agree-next r e s t o p q = rw (p, q)

pub agree-stop : (r : ℕ) (e : Name × Lab) (s t : Table Name Lab) (o : Option Lab) → look name_order t e.0 ≡ o → differ e.1 o ≡ true → agree r (e ∷ s) t ≡ refuse 25 (span r (r + 1))
unfolding agree
agree-stop r e s t o p q = rw (p, q)

pub differ-none : (u : Lab) → differ u none ≡ false
unfolding differ
differ-none outer = refl
differ-none (defined a) = refl
