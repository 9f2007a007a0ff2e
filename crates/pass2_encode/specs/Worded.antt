-- The word of a statement as the rules' `words_of` gives it, from what the code's statement holds. Assumes nothing.
use Rattle.std.specs.declared.result.Result.{Result}
use Rattle.std.specs.declared.result.Result.TheVariants.{Ok, Err}
use Rattle.base_refusals.specs.declared.Fault.{Fault}
use Rattle.base_refusals.specs.Refusals.{fault}
use Rattle.std.specs.Prelude.{◌≡◌, List, [], ◌∷◌, ℕ, ◌+◌, ◌-◌, ◌≤◌, ◌<◌, length, eqb}
use Rattle.rules.specs.Base.{when◌then◌else◌, Outcome, ok, refuse, ◌>>=◌, span}
use Rattle.rules.specs.Words.{Range, signed, reach, field}
use Rattle.rules.specs.Tables.{Table}
use Rattle.rules.specs.Objects.{Cell, word}
use Rattle.rules.specs.Objects as objects
use Rattle.rules.specs.Statements.{Name}
use Rattle.rules.specs.Passes.{Symbol, address, offset_to}
use Rattle.parse_labels.specs.Names.{name_between, Between}
use Rattle.pass1_symbols.specs.Symbols.{Growing}
use Rattle.parse.specs.declared.Statement.{Statement}

-- what an answer stands for
abbrev pub told : Result ℕ Fault → Outcome (List Cell)
told (Ok w) = ok (word w ∷ [])
told (Err f) = refuse f.number (span f.start f.end)

-- the label operand's name
abbrev pub label_of : List ℕ → Statement → Name
label_of src st = name_between src st.label_start st.label_end

-- an instruction's field, by how many values it has
abbrev pub field_of : ℕ → Range
field_of r = when eqb r 512 then signed 9 else signed 11

-- an instruction's word with an offset
unfoldable pub offset_word : Statement → ℕ → ℕ → Outcome (List Cell)
offset_word st label next = reach (field_of st.reach) label next (span st.label_start st.label_end) >>= λ d. ok (word (st.bits + field (field_of st.reach) d) ∷ [])

-- and with that of its label operand
unfoldable pub offset_word_to : Table objects.Name Symbol → List ℕ → Statement → ℕ → Outcome (List Cell)
offset_word_to ss src st next = offset_to ss next (record { field = field_of st.reach; name = label_of src st }) >>= λ d. ok (word (st.bits + d) ∷ [])

-- a label operand's address
unfoldable pub address_word : Table objects.Name Symbol → List ℕ → Statement → Outcome (List Cell)
address_word ss src st = address ss (label_of src st) >>= λ a. ok (word a ∷ [])

-- the bits leave room for a label operand's
pub record Able (st : Statement) : Type 0 where
  pub low : st.bits + (st.reach - 1) < 65536
  pub long : (st.reach ≡ 512 → ⊥) → 2048 ≤ st.reach

-- a label operand, and the symbols
pub record Aiming (rs src : List ℕ) (n : ℕ) (st : Statement) : Type 0 where
  pub table : Growing rs src n
  pub size : length src ≤ 262144
  pub between : Between src st.label_start st.label_end

-- a statement, with or without a label operand, and the symbols
pub record Ready (rs src : List ℕ) (n : ℕ) (st : Statement) : Type 0 where
  pub table : Growing rs src n
  pub size : length src ≤ 262144
  pub low : st.bits + (st.reach - 1) < 65536
  pub long : (st.reach ≡ 0 → ⊥) → (st.reach ≡ 512 → ⊥) → 2048 ≤ st.reach
  pub between : (st.reach ≡ 0 → ⊥) → Between src st.label_start st.label_end
