-- The labels of two objects in one table, which object has its next row, and what matching them answers. Assumes nothing.
use Rattle.std.specs.declared.result.Result.{Result}
use Rattle.std.specs.declared.result.Result.TheVariants.{Ok, Err}
use Rattle.std.specs.declared.option.Option as O
use Rattle.std.specs.declared.option.Option.TheVariants.{Some, None}
use Rattle.std.specs.Prelude.{◌≡◌, List, ℕ, ◌+◌, ◌*◌, ◌≤◌, ◌<◌, length, get_or}
use Rattle.std.proofs.Math.Option.{some}
use Rattle.rules.specs.Base.{Outcome, ok, refuse, span, when◌then◌else◌}
use Rattle.rules.specs.Tables.{Table, Before, name_order, merge}
use Rattle.rules.specs.Objects.{Lab, Name}
use Rattle.rules.specs.Buffers.{name_row, view_labels, LabelsOk}
use Rattle.rules.specs.Linking.{differ, agree, join_lab}
use Rattle.link_notes.specs.Notes.{address_in, Noted}
use Rattle.link_labels.specs.declared.Side.{Side}
use Rattle.link_labels.specs.declared.Side.TheVariants.{First, Second, Both, Over}

-- the labels of both objects: m rows al with names an, n rows bl with names bn
unfoldable pub both_labels : (m : ℕ) (al an : List ℕ) (n : ℕ) (bl bn : List ℕ) → Table Name Lab
both_labels m al an n bl bn = merge name_order join_lab (view_labels m al an) (view_labels n bl bn)

-- whether they agree, as the rules say it: 25 where not
abbrev pub both_agree : (m : ℕ) (al an : List ℕ) (n : ℕ) (bl bn : List ℕ) → Outcome (Unit {0})
both_agree m al an n bl bn = agree 0 (view_labels m al an) (view_labels n bl bn)

-- row k is there, and its address is one
pub record RowIn (ls : List ℕ) (k : ℕ) : Type 0 where
  pub here : k * 4 + 4 ≤ length ls
  pub low : get_or ls (k * 4) 0 < 65536

-- what two labels of one name become
unfoldable pub joined_as : Lab → Lab → O.Option ℕ
joined_as u v = when differ u (some v) then None else Some (address_in (some (join_lab u v)))

-- WHICH OBJECT HAS THE NEXT ROW, when i rows of the first and j of the second are out

pub record FirstNext (m : ℕ) (al an : List ℕ) (n : ℕ) (bl bn : List ℕ) (i j : ℕ) : Type 0 where
  pub within : i < m
  pub low : j < n → Before (name_row al an i) (name_row bl bn j)

pub record SecondNext (m : ℕ) (al an : List ℕ) (n : ℕ) (bl bn : List ℕ) (i j : ℕ) : Type 0 where
  pub within : j < n
  pub low : i < m → Before (name_row bl bn j) (name_row al an i)

pub record BothNext (m : ℕ) (al an : List ℕ) (n : ℕ) (bl bn : List ℕ) (i j : ℕ) : Type 0 where
  pub first : i < m
  pub second : j < n
  pub same : name_row al an i ≡ name_row bl bn j

pub record NoneNext (m n i j : ℕ) : Type 0 where
  pub first : m ≤ i
  pub second : n ≤ j

pub record Sided (m : ℕ) (al an : List ℕ) (n : ℕ) (bl bn : List ℕ) (i j : ℕ) (r : Side) : Type 0 where
  pub first : r ≡ First → FirstNext m al an n bl bn i j
  pub second : r ≡ Second → SecondNext m al an n bl bn i j
  pub both : r ≡ Both → BothNext m al an n bl bn i j
  pub over : r ≡ Over → NoneNext m n i j

-- MATCHING

-- what it asks: both tables as 43 demands them, room for a note of each row
pub record MatchReady (m : ℕ) (al an : List ℕ) (n : ℕ) (bl bn xs ys : List ℕ) : Type 0 where
  pub first : LabelsOk m al an
  pub second : LabelsOk n bl bn
  pub first_notes : m * 2 ≤ length xs
  pub second_notes : n * 2 ≤ length ys

-- the answer as the rules'
abbrev pub told : Result ℕ ℕ → Outcome (Unit {0})
told (Ok k) = ok tt
told (Err k) = refuse 25 (span k (k + 1))

-- all rows are noted, in a result of k rows
pub record BothNoted (m : ℕ) (al an : List ℕ) (n : ℕ) (bl bn : List ℕ) (k : ℕ) (xs ys : List ℕ) : Type 0 where
  pub count : k ≡ length (both_labels m al an n bl bn)
  pub first : Noted (both_labels m al an n bl bn) al an m xs
  pub second : Noted (both_labels m al an n bl bn) bl bn n ys

pub record Matches (m : ℕ) (al an : List ℕ) (n : ℕ) (bl bn : List ℕ) (r : Result ℕ ℕ) (xs ys : List ℕ) : Type 0 where
  pub answer : told r ≡ both_agree m al an n bl bn
  pub noted : (k : ℕ) → r ≡ Ok k → BothNoted m al an n bl bn k xs ys
