-- What the statements of a source and each call on a lent object leave in the nine numbers, and that two such answers are equal. Assumes nothing.
use Rattle.std.specs.Prelude.{ℕ, ◌≡◌, List}
use Rattle.std.proofs.Common.{sym, ◌∙◌, ap}
use Rattle.std.proofs.Math.Option.{Option}
use Rattle.rules.specs.Base.{Outcome, ok, refused}
use Rattle.rules.specs.Statements.{Stmt}
use Rattle.rules.specs.Objects.{Lab, Object, Counts, lookup_label}
use Rattle.rules.specs.Buffers.{Buffers, view, zeros}
use Rattle.rules.specs.Answers.{Answer, answer, numbers, accepted, no_counts, refusal}
use Rattle.rules.specs.Calls.{OfObject, left_object}
use Rattle.rules.proofs.Calls.{answered-once}
use Rattle.rules.specs.Listing.{list}
use Rattle.rules.specs.Stored.{store}
use Rattle.link.specs.Call.{Outcomes}
use Rattle.object_answer.specs.Writes.{Writes, one_answer, one_buffer}
use Rattle.object_lookup.specs.Told.{Reversed}
use Rattle.std.specs.declared.result.Result.{Result}
use Rattle.std.specs.declared.option.Option as O
use Rattle.object_check.specs.declared.ObjectErr.{ObjectErr}
use Rattle.object_lookup.proofs.Once.{found-once}
use Rattle.laws_stored.specs.Offsets.{part_at}
use Rattle.view_places.specs.Lines.{feeds, since}
use Rattle.view_text.specs.Put.{Put}
use Rattle.view_refusal.specs.Refusals.{title}
use Rattle.lc3_answers.specs.Told.{counted, written_told, said_told, found_told}

-- all statements of a source, with no counts
abbrev pub checked : Outcome (List Stmt) → Answer
checked (ok ss) = accepted no_counts
checked (refused r) = refusal r

-- a place of a source: how many lines stand before it, and how many bytes before it in its line
abbrev pub place_told : List ℕ → ℕ → Answer
place_told s i = counted (feeds (part_at s 0 i)) (since (part_at s 0 i)) 0 0

-- a refusal as text at the front of len bytes, as far as it fits, zeros after it
pub record RefusalCall (number len : ℕ) (text out : List ℕ) : Type 0 where
  pub size : ℕ
  pub put : Put (zeros len) text 0 size (title number)
  pub told : out ≡ numbers (counted size 0 0 0)

-- two objects into a third, whose buffers hold out and then out'
pub record LinkCall (c : Counts) (b : Buffers) (d : Counts) (e out out' : Buffers) (told : List ℕ) : Type 0 where
  pub outcome : Outcome Object
  pub lent : Outcomes c b d e out outcome
  pub answered : told ≡ numbers (answer outcome)
  pub left : out' ≡ left_object outcome out

-- what a rule writes of an object, its bytes in `text` of `len` bytes, zeros after them
pub record WriteCall (rule : ℕ → Object → Outcome (List ℕ)) (c : Counts) (b : Buffers) (len : ℕ) (text out : List ℕ) : Type 0 where
  pub written : Result ℕ ℕ
  pub called : Writes rule c b len written text
  pub told : out ≡ numbers (written_told written)

-- the listing; the stored form
abbrev pub ListCall : Counts → Buffers → ℕ → (text out : List ℕ) → Type 0
ListCall c b len text out = WriteCall list c b len text out

abbrev pub StoreCall : Counts → Buffers → ℕ → (text out : List ℕ) → Type 0
StoreCall c b len text out = WriteCall store c b len text out

-- what the object says of the name m
pub record LookupCall (c : Counts) (b : Buffers) (m : List ℕ) (out : List ℕ) : Type 0 where
  pub said : Outcome (Option Lab)
  pub lent : OfObject c b (ok (lookup_label (view c b) m)) said
  pub told : out ≡ numbers (said_told said)

-- the label at the address a
pub record RevLookupCall (c : Counts) (b : Buffers) (a : ℕ) (out : List ℕ) : Type 0 where
  pub found : Result (O.Option ℕ) ObjectErr
  pub reversed : Reversed c b a found
  pub told : out ≡ numbers (found_told b.labels found)

-- TWO ANSWERS THAT A CONTRACT ALLOWS ARE EQUAL
module _ {c : Counts} {b : Buffers} {d : Counts} {e out : Buffers} where
  pub link-call-once : {x y : Buffers} {told also : List ℕ} → LinkCall c b d e out x told → LinkCall c b d e out y also → told ≡ also
  link-call-once p q = p.answered ∙ (ap (λ (o : Outcome Object). numbers (answer o)) (answered-once p.lent q.lent) ∙ sym q.answered)

  pub link-object-once : {x y : Buffers} {told also : List ℕ} → LinkCall c b d e out x told → LinkCall c b d e out y also → x ≡ y
  link-object-once p q = p.left ∙ (ap (λ (o : Outcome Object). left_object o out) (answered-once p.lent q.lent) ∙ sym q.left)

pub refusal-call-once : {n len : ℕ} {x y out also : List ℕ} → RefusalCall n len x out → RefusalCall n len y also → (x ≡ y) × (out ≡ also)
refusal-call-once p q =
    let s : p.size ≡ q.size = p.put.stop ∙ sym q.put.stop in
    (p.put.here ∙ sym q.put.here, p.told ∙ (ap (λ (k : ℕ). numbers (counted k 0 0 0)) s ∙ sym q.told))

module _ {c : Counts} {b : Buffers} where
  pub write-call-once : {rule : ℕ → Object → Outcome (List ℕ)} {len : ℕ} {x y out also : List ℕ} → WriteCall rule c b len x out → WriteCall rule c b len y also → out ≡ also
  write-call-once p q = p.told ∙ (ap (λ (r : Result ℕ ℕ). numbers (written_told r)) (one_answer p.called q.called) ∙ sym q.told)

  pub write-text-once : {rule : ℕ → Object → Outcome (List ℕ)} {len : ℕ} {x y out also : List ℕ} → WriteCall rule c b len x out → WriteCall rule c b len y also → x ≡ y
  write-text-once p q = one_buffer p.called q.called

  pub lookup-call-once : {m out also : List ℕ} → LookupCall c b m out → LookupCall c b m also → out ≡ also
  lookup-call-once p q = p.told ∙ (ap (λ (o : Outcome (Option Lab)). numbers (said_told o)) (answered-once p.lent q.lent) ∙ sym q.told)

  pub rev-lookup-call-once : {a : ℕ} {out also : List ℕ} → RevLookupCall c b a out → RevLookupCall c b a also → out ≡ also
  rev-lookup-call-once {a} p q =
      p.told ∙ (ap (λ (r : Result (O.Option ℕ) ObjectErr). numbers (found_told b.labels r)) (found-once c b a p.found q.found p.reversed q.reversed) ∙ sym q.told)
