-- What matching and laying say in the words of the link's rules. Assumes nothing.
use Rattle.std.specs.declared.result.Result.{Result}
use Rattle.std.specs.declared.result.Result.TheVariants.{Ok, Err}
use mathlib.Core.Path.{◌≡◌, refl, sym, ◌∙◌, ap}
use mathlib.Core.List.{List}
use Prim.Native.Nat.{ℕ, ◌+◌, ◌≤◌}
use lib.ListN.{length}
use Rattle.rules.specs.Base.{ok, refuse, span}
use Rattle.rules.specs.Capacities.{label_room}
use Rattle.rules.specs.Objects.{Object, Counts}
use Rattle.rules.specs.Buffers.{Buffers, view, LabelsOk, lay_labels, lay_names}
use Rattle.rules.specs.Linking.{all_labels, union}
use Rattle.object_layout_labels.specs.Laying.{LabelRoom, LaidLabels}
use Rattle.link_labels.specs.Matching.{both_labels, both_agree, told, BothNoted, Matches}
use Rattle.link_labels.specs.Laying.{LayReady}

-- THE ANSWER of matching
module _ {m : ℕ} {al an : List ℕ} {n : ℕ} {bl bn xs ys : List ℕ} {r : Result ℕ ℕ} {k : ℕ} (t : Matches m al an n bl bn r xs ys) where
  pub rows_agree : r ≡ Ok k → both_agree m al an n bl bn ≡ ok tt
  rows_agree e = sym t.answer ∙ ap told e

  pub rows-noted : r ≡ Ok k → BothNoted m al an n bl bn k xs ys
  rows-noted e = t.noted k e

  pub differs_at : r ≡ Err k → both_agree m al an n bl bn ≡ refuse 25 (span k (k + 1))
  differs_at e = sym t.answer ∙ ap told e

-- WHAT LAYING ASKS, from what matching leaves
pub lay-ready : {m : ℕ} {al an : List ℕ} {n : ℕ} {bl bn xs ys ls ns : List ℕ} {k : ℕ} → LabelsOk m al an → LabelsOk n bl bn → BothNoted m al an n bl bn k xs ys → k ≤ label_room → LabelRoom k ls ns
    → LayReady m al an xs n bl bn ys ls ns
lay-ready a b t l r = record { first = a; second = b; first_notes = t.first; second_notes = t.second; few = rw t.count at l; room = rw t.count at r }

-- the labels of the link of two objects that stand in buffers
pub both-all : (c d : Counts) (p q : Buffers) → both_labels c.labels p.labels p.names d.labels q.labels q.names ≡ all_labels (view c p) (view d q)
unfolding both_labels all_labels
both-all c d p q = refl

-- and where they stand in its layout
module _ (a b : Object) {ls ns ls' ns' : List ℕ} (t : LaidLabels (all_labels a b) ls ns ls' ns') where
  pub laid-rows : ls' ≡ lay_labels (union a b) (length ls)
  unfolding union lay_labels
  laid-rows = t.rows

  pub laid-names : ns' ≡ lay_names (union a b) (length ns)
  unfolding union lay_names
  laid-names = t.names
