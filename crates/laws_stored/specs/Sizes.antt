-- The most bytes that a stored object can take. Assumes nothing.
use Rattle.std.specs.Prelude.{ℕ, ◌+◌, ◌-◌, ◌*◌}
use Rattle.rules.specs.Capacities.{name_room, block_room, label_room, reloc_room, word_room}

-- a field with so many bytes of content: tag byte, length, content
abbrev pub field_bytes : ℕ → ℕ
field_bytes n = 3 + n

-- all blocks (start, count), each word a run by itself (one word, or a count of 1), all labels and all relocations (address, longest name), and x00;
-- less one address, since a relocation names an external
abbrev pub most_bytes : ℕ
most_bytes = block_room * field_bytes 4 + word_room * field_bytes 2 + label_room * field_bytes (2 + name_room) + reloc_room * field_bytes (2 + name_room) + field_bytes 0 - 2
