-- The answers of the lookups as the rules', with their numbers. Assumes nothing.
use Rattle.std.specs.Prelude.{◌≡◌, List, ℕ, ◌<◌}
use Rattle.std.proofs.Math.Option.{Option, none, some}
use Rattle.rules.specs.Base.{Outcome, ok, refuse, nowhere}
use Rattle.rules.specs.Objects.{Lab, outer, defined, Name, Counts, first_at, rev_lookup_label}
use Rattle.rules.specs.Buffers.{Buffers, name_row, view, view_labels}
use Rattle.rules.specs.Calls.{OfObject}
use Rattle.std.specs.declared.result.Result.{Result}
use Rattle.std.specs.declared.result.Result.TheVariants.{Ok, Err}
use Rattle.std.specs.declared.option.Option as O
use Rattle.std.specs.declared.option.Option.TheVariants.{Some, None}
use Rattle.object.specs.declared.Label.{Label}
use Rattle.object.specs.Meaning.{lab}
use Rattle.object_check.specs.declared.ObjectErr.{ObjectErr}
use Rattle.object_check.specs.declared.ObjectErr.TheVariants.{ShortBuffer, BadObject}

abbrev pub said : Result (O.Option Label) ObjectErr → Outcome (Option Lab)
said (Ok (Some l)) = ok (some (lab l))
said (Ok None) = ok none
said (Err ShortBuffer) = refuse 42 nowhere
said (Err BadObject) = refuse 43 nowhere

-- a row stands for its name
abbrev pub found : List ℕ → List ℕ → Result (O.Option ℕ) ObjectErr → Outcome (Option Name)
found ls ns (Ok (Some k)) = ok (some (name_row ls ns k))
found ls ns (Ok None) = ok none
found ls ns (Err ShortBuffer) = refuse 42 nowhere
found ls ns (Err BadObject) = refuse 43 nowhere

-- the row is one of n, and its name is the first at the address
pub record Reached (n : ℕ) (ls ns : List ℕ) (a : ℕ) (r : O.Option ℕ) : Type 0 where
  pub name : found ls ns (Ok r) ≡ ok (first_at a (view_labels n ls ns))
  pub row : (k : ℕ) → r ≡ Some k → k < n

pub record Reversed (c : Counts) (b : Buffers) (a : ℕ) (r : Result (O.Option ℕ) ObjectErr) : Type 0 where
  pub name : OfObject c b (ok (rev_lookup_label (view c b) a)) (found b.labels b.names r)
  pub row : (k : ℕ) → r ≡ Ok (Some k) → k < c.labels
