-- Section "Capacities" of document 01. Assumes nothing.
use Rattle.std.specs.Prelude.{ℕ}

-- Source 262,144 bytes; name 64 bytes;
abbrev pub source_room : ℕ
source_room = 262144

abbrev pub name_room : ℕ
name_room = 64

-- per object 64 blocks, 1,024 label names (externals included), 1,024 relocations;
abbrev pub block_room : ℕ
block_room = 64

abbrev pub label_room : ℕ
label_room = 1024

abbrev pub reloc_room : ℕ
reloc_room = 1024

-- words as many as the lent buffer holds, never above 65,024: from x0000 up to xFE00
abbrev pub word_room : ℕ
word_room = 65024

-- The program keeps the source in one array of 65,536 zero bytes and lends 32,768 words.
abbrev pub program_source_room : ℕ
program_source_room = 65536

abbrev pub program_word_room : ℕ
program_word_room = 32768
