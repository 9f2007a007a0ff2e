-- A refusal as a person reads it: a line that an editor finds the place by, and each of its places underlined. Assumes nothing.
use Rattle.std.specs.Prelude.{ℕ, ◌+◌, Bool, ◌&&◌, List, [], ◌++◌, eqb, leb, ltb, length, take}
use Rattle.rules.specs.Base.{when◌then◌else◌, bytes}
use Rattle.rules.specs.Capacities.{source_room}
use Rattle.rules.specs.Answers.{refusal_name}
use Rattle.rules.specs.Listing.{lf}
use Rattle.view_text.specs.Texts.{decimal}
use Rattle.view_places.specs.Lines.{feeds, since, line_start, line_stop}
use Rattle.view_line.specs.Shown.{underlined}
use Rattle.view_note.specs.Notes.{note_text}
use Rattle.view_refusal.specs.Meanings.{meaning}

-- its number, its name and what it means
unfoldable pub title : ℕ → List ℕ
title n = bytes "REFUSED " ++ decimal n ++ bytes " " ++ refusal_name n ++ bytes ": " ++ meaning n

-- the file, the line and the column of a place, each before a colon
unfoldable pub position_text : (file s : List ℕ) → ℕ → List ℕ
position_text file s place =
    file ++ bytes ":" ++ decimal (feeds (take place s) + 1) ++ bytes ":" ++ decimal (since (take place s) + 1) ++ bytes ": "

-- words for a place where nothing stands
unfoldable pub end_words : List ℕ → ℕ → List ℕ
end_words s place =
    when eqb place (length s) then bytes " (the end of the source)"
    else when leb (line_stop s (line_start s place)) place then bytes " (the end of the line)"
    else []

-- the first line of a refusal with a place, and the one line of a refusal without
unfoldable pub heading_text : (file s : List ℕ) → (n place : ℕ) → List ℕ
heading_text file s n place = position_text file s place ++ title n ++ end_words s place ++ lf

unfoldable pub placeless_text : List ℕ → ℕ → List ℕ
placeless_text file n = file ++ bytes ": " ++ title n ++ lf

-- a place that can be shown: it ends behind 0 and begins in the source, which is one that is taken
unfoldable pub placed : List ℕ → (start end : ℕ) → Bool
placed s start end = ltb 0 end && leb start (length s) && leb (length s) source_room

-- the second place, where there is one
unfoldable pub second_text : (file s : List ℕ) → (start end : ℕ) → List ℕ
second_text file s start end =
    when placed s start end then (position_text file s start ++ bytes "and here\n" ++ underlined s start end) else []

-- the first place, with what was due there, and the second
unfoldable pub placed_text : (file s : List ℕ) → (n start end start2 end2 : ℕ) → List ℕ
placed_text file s n start end start2 end2 = heading_text file s n start ++ underlined s start end ++ note_text s n start ++ second_text file s start2 end2

-- 11 is refused as a whole, and so is what has no place
unfoldable pub refusal_text : (file s : List ℕ) → (n start end start2 end2 : ℕ) → List ℕ
refusal_text file s n start end start2 end2 =
    when eqb n 11 then placeless_text file n
    else when placed s start end then placed_text file s n start end start2 end2
    else placeless_text file n
