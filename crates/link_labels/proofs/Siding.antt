-- Which object has the next row: what the comparison of two names says of it. Assumes nothing.
use mathlib.Core.Path.{◌≡◌, sym, ◌∙◌}
use mathlib.Core.List.{List}
use Prim.Native.Nat.{ℕ, ◌+◌, ◌-◌, ◌≤◌, ◌<◌}
use native.Mathlib.Omega.{arith}
use Rattle.rules.specs.Objects.{Name}
use Rattle.rules.specs.Buffers.{name_row}
use Rattle.rules.proofs.Bools.{never}
use Rattle.base_text.specs.Names.{ordered}
use Rattle.std.specs.declared.cmp.Ordering.{Ordering}
use Rattle.std.specs.declared.cmp.Ordering.TheVariants.{Less, Equal, Greater}
use Rattle.object.proofs.Order.{is-less, is_same, is_greater}
use Rattle.link_labels.specs.Matching.{FirstNext, SecondNext, BothNext, Sided}
use Rattle.link_labels.specs.declared.Side.{Side}
use Rattle.link_labels.specs.declared.Side.TheVariants.{First, Second, Both, Over}

module _ {m : ℕ} {al an : List ℕ} {n : ℕ} {bl bn : List ℕ} {i j : ℕ} where
  pub sided-first : FirstNext m al an n bl bn i j → Sided m al an n bl bn i j First
  sided-first s = record { first = λ e. s; second = λ e. (never cc); both = λ e. (never cc); over = λ e. (never cc) }

  pub sided-second : SecondNext m al an n bl bn i j → Sided m al an n bl bn i j Second
  sided-second s = record { first = λ e. (never cc); second = λ e. s; both = λ e. (never cc); over = λ e. (never cc) }

  pub sided-both : BothNext m al an n bl bn i j → Sided m al an n bl bn i j Both
  sided-both s = record { first = λ e. (never cc); second = λ e. (never cc); both = λ e. s; over = λ e. (never cc) }

  pub side-over : m ≤ i → n ≤ j → Sided m al an n bl bn i j Over
  side-over p q = record { first = λ e. (never cc); second = λ e. (never cc); both = λ e. (never cc); over = λ e. record { first = p; second = q } }

  -- one of the objects has no more rows
  pub side-second : m ≤ i → j < n → Sided m al an n bl bn i j Second
  side-second p q = sided-second (record { within = q; low = λ l. absurd (omega arith) })

  pub side-first : i < m → n ≤ j → Sided m al an n bl bn i j First
  side-first p q = sided-first (record { within = p; low = λ l. absurd (omega arith) })

  -- both have
  module _ {x y : Name} {r : Ordering} (p : i < m) (q : j < n) (d : x ≡ name_row al an i) (e : y ≡ name_row bl bn j) (o : r ≡ ordered x y) where
    pub side-less : r ≡ Less → Sided m al an n bl bn i j First
    side-less l = sided-first (record { within = p; low = λ z. rw (d, e) at (is-less x y o l) })

    pub side-greater : r ≡ Greater → Sided m al an n bl bn i j Second
    side-greater l = sided-second (record { within = q; low = λ z. rw (d, e) at (is_greater x y o l) })

    pub side_same : r ≡ Equal → Sided m al an n bl bn i j Both
    side_same l = sided-both (record { first = p; second = q; same = sym d ∙ (is_same x y o l ∙ e) })

-- WHAT IS LEFT of both grows less
module _ {m : ℕ} {al an : List ℕ} {n : ℕ} {bl bn : List ℕ} {i j : ℕ} {r : Side} (s : Sided m al an n bl bn i j r) where
  pub less-first : r ≡ First → m - (i + 1) + (n - j) < m - i + (n - j)
  less-first q = omega (arith, (s.first q).within)

  pub less-second : r ≡ Second → m - i + (n - (j + 1)) < m - i + (n - j)
  less-second q = omega (arith, (s.second q).within)

  pub less_both : r ≡ Both → m - (i + 1) + (n - (j + 1)) < m - i + (n - j)
  less_both q = omega (arith, (s.both q).first, (s.both q).second)
