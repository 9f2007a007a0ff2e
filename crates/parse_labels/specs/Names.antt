-- The name that stands between two places of the source. Assumes nothing.
use Rattle.std.specs.Prelude.{List, map, ℕ, ◌-◌, ◌≤◌, length, take, drop}
use Rattle.rules.specs.Base.{span}
use Rattle.rules.specs.Tokens.{upper}
use Rattle.rules.specs.Objects as Objects
use Rattle.rules.specs.Statements.{Name}

-- the text of so many bytes at a place of the source, in upper case
abbrev pub name_from : List ℕ → ℕ → ℕ → Objects.Name
name_from src s l = map upper (take l (drop s src))

-- the name between two places
abbrev pub name_between : List ℕ → ℕ → ℕ → Name
name_between src b e = record { text = name_from src b (e - b); place = span b e }

-- two places for a name, at most 64 bytes apart
pub record Between (src : List ℕ) (b e : ℕ) : Type 0 where
  pub rising : b ≤ e
  pub within : e ≤ length src
  pub small : e - b ≤ 64
