-- A token's text as the part of the source where it stands. Assumes nothing.
use Rattle.std.specs.Prelude.{ℕ, List, [], leb, length}
use Rattle.rules.specs.Base.{when◌then◌else◌}
use Rattle.lex_token.specs.Meant.{part}

-- the bytes from a up to e; none where these places are not in the source
unfoldable pub label_text : List ℕ → (a e : ℕ) → List ℕ
label_text s a e = when leb a e then (when leb e (length s) then part s a e else []) else []
