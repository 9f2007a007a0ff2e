-- The line of an offset at which stored bytes are refused, and what stands there in words. Assumes nothing.
use Rattle.std.specs.Prelude.{ℕ, List, ◌++◌, Bool, eqb}
use Rattle.rules.specs.Base.{when◌then◌else◌, bytes}
use Rattle.rules.specs.Listing.{lf}
use Rattle.rules.specs.Answers.{answer}
use Rattle.rules.specs.Stored.{field_at, check}
use Rattle.laws_stored.specs.Offsets.{part_at}
use Rattle.stored_read.specs.Told.{told}
use Rattle.stored_read.specs.declared.Field.{Field}
use Rattle.stored_read.specs.declared.Field.TheVariants.{Over, CutShort, Found}
use Rattle.view_text.specs.Texts.{decimal}

-- a whole field, by its tag
unfoldable pub tag_text : ℕ → List ℕ
tag_text t =
    when eqb t 0 then bytes "the end with content, or before all words of a block"
    else when eqb t 1 then bytes "a block with no words, not above the last, past xFE00, before all words of the last, after a label, or one too many"
    else when eqb t 2 then bytes "set words where there are none, half a one, above 16,384, more than their block lacks, or behind others that are not full"
    else when eqb t 3 then bytes "unset words where there are none, more than their block lacks, or behind others"
    else when eqb t 4 then bytes "a label with no good name, not above the last, before all words of a block, after a relocation, or one too many"
    else when eqb t 5 then bytes "an external with no good name, not above the last, before all words of a block, after a relocation, or one too many"
    else when eqb t 6 then bytes "a relocation at no set word 0, of no external, not above the last, or one too many"
    else bytes "no field has this tag"

-- what stands at a place
unfoldable pub field_text : Field → List ℕ
field_text Over = bytes "the field that ends the bytes is missing"
field_text CutShort = bytes "a field that is cut short"
field_text (Found t start end) = tag_text t

-- the bytes before a place are a stored object
unfoldable pub ends_at : List ℕ → ℕ → Bool
ends_at b i = eqb (answer (check (part_at b 0 i))).number 0

-- what is wrong at a place
unfoldable pub wrong_text : List ℕ → ℕ → List ℕ
wrong_text b i = when ends_at b i then bytes "bytes after the end" else field_text (told i (field_at b i))

-- the line: the offset, and what stands there
unfoldable pub offset_text : ℕ → List ℕ
offset_text i = bytes "    at byte " ++ decimal i ++ bytes ": "

unfoldable pub broken_text : List ℕ → ℕ → List ℕ
broken_text b i = offset_text i ++ wrong_text b i ++ lf
