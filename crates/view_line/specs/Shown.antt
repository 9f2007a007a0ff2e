-- A place of a source as a person is shown it: its line, or a window of a long one, and carets under the place. Assumes nothing.
use Rattle.std.specs.Prelude.{ℕ, ◌+◌, ◌-◌, min, ◌&&◌, ◌||◌, List, [], ◌++◌, map, eqb, leb, ltb}
use Rattle.rules.specs.Base.{when◌then◌else◌, bytes}
use Rattle.rules.specs.Listing.{lf}
use Rattle.lex_token.specs.Meant.{part}
use Rattle.view_places.specs.Lines.{line_start, line_stop}

-- a byte as it is shown, in one column but for a tab: what is not printable is a question mark
unfoldable pub shown_byte : ℕ → ℕ
shown_byte b = when eqb b 9 || (leb 32 b && ltb b 127) then b else 63

-- what stands under a byte: a tab under a tab, so that both lines keep step, and else this mark
unfoldable pub under_byte : ℕ → ℕ → ℕ
under_byte mark b = when eqb b 9 then b else mark

-- a line of more than a hundred bytes is shown by a hundred of them, at most sixty before the place
unfoldable pub window_start : (first last place : ℕ) → ℕ
window_start first last place = when leb (last - first) 100 then first else (first + (place - first - 60))

unfoldable pub window_stop : (start last : ℕ) → ℕ
window_stop start last = start + min 100 (last - start)

-- a text that stands for bytes which are left out between two places
unfoldable pub between : ℕ → ℕ → List ℕ → List ℕ
between a b t = when ltb a b then t else []

-- the line from `first` to `last`, of which the bytes from `start` to `stop` are shown
unfoldable pub shown_line : List ℕ → (first start stop last : ℕ) → List ℕ
shown_line s first start stop last =
    bytes "    " ++ between first start (bytes "...") ++ map shown_byte (part s start stop) ++ between stop last (bytes "...") ++ lf

-- carets under the bytes of a place; one where there are none
unfoldable pub carets : List ℕ → (place end : ℕ) → List ℕ
carets s place end = when ltb place end then map (under_byte 94) (part s place end) else bytes "^"

-- under that line: spaces up to the place, then carets
unfoldable pub caret_line : List ℕ → (first start place end : ℕ) → List ℕ
caret_line s first start place end = bytes "    " ++ between first start (bytes "   ") ++ map (under_byte 32) (part s start place) ++ carets s place end ++ lf

-- the line of a place, and carets under the place: one at least, and none behind what is shown
unfoldable pub underlined : List ℕ → (place end : ℕ) → List ℕ
underlined s place end =
    let first = line_start s place in
    let last = line_stop s first in
    let start = window_start first last place in
    let stop = window_stop start last in
    shown_line s first start stop last ++ caret_line s first start place (min end stop)
