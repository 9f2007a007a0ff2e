-- Two stored objects linked, as bytes: what comes of it, and what is left in the lent buffers. Assumes nothing.
use Rattle.std.specs.declared.result.Result.{Result}
use Rattle.std.specs.declared.result.Result.TheVariants.{Ok, Err}
use Rattle.std.specs.Prelude.{ℕ, zero, suc, ◌≡◌, false, List, [], ◌∷◌, eqb, length}
use Rattle.std.proofs.Common.{sym, ◌∙◌}
use Rattle.rules.specs.Base.{when◌then◌else◌, Outcome, ok, refused, ◌>>=◌}
use Rattle.rules.specs.Capacities.{word_room}
use Rattle.rules.specs.Tables.{Table}
use Rattle.rules.specs.Objects.{Lab, Name, Object, Counts, Good}
use Rattle.rules.specs.Buffers.{Buffers, short, Valid, view, name_row}
use Rattle.rules.specs.Calls.{bytes_of, left_bytes}
use Rattle.rules.specs.Linking.{link}
use Rattle.rules.specs.Stored.{stored, store, check, load}
use Rattle.object_answer.specs.declared.Answer.{Answer}
use Rattle.view_text.specs.Put.{Put}
use Rattle.lc3_link.specs.declared.Linked.{Linked}

-- WHAT COMES OF A LINK: the bytes of the result or a refusal, and the name that stands in the way, empty where none does
pub record Comes : Type 0 where
  pub outcome : Outcome (List ℕ)
  pub blamed : Name

abbrev pub comes : Outcome (List ℕ) → Name → Comes
comes o n = record { outcome = o; blamed = n }

-- the name in a row of a label table; empty past its end
unfoldable pub name_in : Table Name Lab → ℕ → Name
name_in [] r = []
name_in (e ∷ t) zero = e.0
name_in (e ∷ t) (suc r) = name_in t r

-- 25 has the smallest such name's row in the first object; of no other refusal is it a name
unfoldable pub in_the_way : Object → Outcome Object → Name
in_the_way a (ok o) = []
in_the_way a (refused q) = when eqb q.number 25 then name_in a.labels q.first.start else []

-- two objects linked, with all the words that an object can have, and the result stored in so many bytes: 28, 25, 40, 41, then 51
unfoldable pub link_objects : ℕ → Object → Object → Comes
link_objects len a b = let o = link word_room a b in comes (o >>= store len) (in_the_way a o)

-- both are loaded first: 50 of the first, then of the second
unfoldable pub link_second : ℕ → Object → Outcome Object → Comes
link_second len a (ok b) = link_objects len a b
link_second len a (refused q) = comes (refused q) []

unfoldable pub link_first : ℕ → Outcome Object → Outcome Object → Comes
link_first len (ok a) b = link_second len a b
link_first len (refused q) b = comes (refused q) []

unfoldable pub link_stored : ℕ → List ℕ → List ℕ → Comes
link_stored len first second = link_first len (load word_room first) (load word_room second)

-- WHAT IS ANSWERED: number 0 and how many bytes, or the refusal's number and 0; how long the name is, as far as it fits
abbrev pub linked_of : Result ℕ ℕ → ℕ → Linked
linked_of (Ok n) named = record { number = 0; size = n; named = named }
linked_of (Err n) named = record { number = n; size = 0; named = named }

abbrev pub number_of : Outcome (List ℕ) → ℕ
number_of (ok l) = 0
number_of (refused q) = q.number

-- the answer r, with the bytes and the name afterwards; the name's buffer was name₀
pub record Told (c : Comes) (len : ℕ) (name₀ : List ℕ) (r : Linked) (bytes name : List ℕ) : Type 0 where
  pub number : r.number ≡ number_of c.outcome
  pub size : r.size ≡ length (bytes_of c.outcome)
  pub holds : bytes ≡ left_bytes c.outcome len
  pub blames : Put name₀ name 0 r.named c.blamed

-- TWO ANSWERS THAT IT ALLOWS ARE EQUAL, and so are the bytes and the name
module _ {c : Comes} {len : ℕ} {name₀ : List ℕ} {r s : Linked} {b d n m : List ℕ} (p : Told c len name₀ r b n) (q : Told c len name₀ s d m) where
  pub one_answer : r ≡ s
  one_answer =
      let e : r.number ≡ s.number = p.number ∙ sym q.number in
      let f : r.size ≡ s.size = p.size ∙ sym q.size in
      let g : r.named ≡ s.named = p.blames.stop ∙ sym q.blames.stop in
      λ i. record { number = e i; size = f i; named = g i }

  pub one_bytes : b ≡ d
  one_bytes = p.holds ∙ sym q.holds

  pub one_name : n ≡ m
  one_name = p.blames.here ∙ sym q.blames.here

-- WHAT FOLLOWS

-- what is accepted: both are stored objects, and the bytes are the stored form of their link
pub record Accepted (first second bytes : List ℕ) : Type 0 where
  pub one : Object
  pub other : Object
  pub result : Object
  pub one_checks : check first ≡ ok one
  pub other_checks : check second ≡ ok other
  pub links : link word_room one other ≡ ok result
  pub is : bytes ≡ stored result

-- the same bytes, or both are refused
abbrev pub SameBytes : Outcome (List ℕ) → Outcome (List ℕ) → Type 0
SameBytes (ok l) (ok m) = l ≡ m
SameBytes (ok l) (refused q) = ⊥
SameBytes (refused q) (ok m) = ⊥
SameBytes (refused q) (refused r) = Unit {0}

-- INNER FUNCTIONS

-- a good object stands in buffers of full size
pub record Held (c : Counts) (b : Buffers) : Type 0 where
  pub full : short b ≡ false
  pub valid : Valid c b
  pub good : Good (view c b)

-- the name of the row that a refusal names
unfoldable pub blamed_row : Answer → List ℕ → List ℕ → Name
blamed_row a ls ns = when eqb a.number 25 then name_row ls ns a.start else []
