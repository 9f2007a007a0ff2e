-- The listing of stored bytes. Assumes nothing.
use Rattle.std.specs.Prelude.{ℕ, List}
use Rattle.rules.specs.Capacities.{program_word_room}
use Rattle.rules.specs.Listing.{printed}
use Rattle.rules.specs.Stored.{load}

-- the object that they are, loaded into the words that the listing program lends, or 50 or 41
unfoldable pub stored_listing : List ℕ → List ℕ
stored_listing b = printed (load program_word_room b)
