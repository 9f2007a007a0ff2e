-- The code's place of a word as the view's. Assumes nothing.
use Rattle.std.specs.Prelude.{Some, None}
use Rattle.std.specs.declared.option.Option as O
use Rattle.std.proofs.Math.Option.{Option, none, some}
use Rattle.view_object.specs.Pieces.{place}
use Rattle.view_object.specs.Pieces as P
use Rattle.view_object.specs.declared.Place.{Place}

unfoldable pub found : O.Option Place → Option P.Place
found (Some p) = some (place p.start p.size p.before)
found None = none
