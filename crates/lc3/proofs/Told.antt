-- What each call puts is what its contract says. Assumes nothing.
use Rattle.std.specs.declared.result.Result.{Result}
use Rattle.base_refusals.specs.declared.Fault.{Fault}
use Prim.Native.Nat.{ℕ, ◌+◌, ◌-◌, ◌*◌, ◌≤◌}
use mathlib.Core.Path.{◌≡◌, refl, sym, ◌∙◌, ap}
use mathlib.Core.List.{List}
use native.Mathlib.Omega.{arith}
use lib.ListN.{length}
use Rattle.rules.specs.Base.{Span, Outcome, ok, refused}
use Rattle.rules.specs.Statements.{Stmt}
use Rattle.rules.specs.Objects.{Object, Counts, lookup_label}
use Rattle.rules.specs.Words as R
use Rattle.rules.specs.Buffers.{Buffers, view, zeros}
use Rattle.rules.specs.Answers.{Answer, answer, no_counts, numbers}
use Rattle.lex_token.specs.declared.Next.{Next}
use Rattle.lex_token.specs.declared.Lexeme.{Lexeme}
use Rattle.lex_token.specs.Flat.{flat_next}
use Rattle.parse.specs.Coded.{coded_statements, source_statements}
use Rattle.rules.specs.Calls.{OfObject}
use Rattle.rules.proofs.Bools.{never}
use Rattle.link.specs.Call.{Linked}
use Rattle.object_answer.specs.Writes.{Writes}
use Rattle.object_lookup.specs.Told.{said, Reversed}
use Rattle.object_lookup.proofs.Once.{row-valid}
use Rattle.std.specs.declared.result.Result.TheVariants.{Ok, Err}
use Rattle.std.specs.declared.option.Option as O
use Rattle.std.specs.declared.option.Option.TheVariants.{Some, None}
use Rattle.object.specs.declared.Label.{Label}
use Rattle.object_check.specs.declared.ObjectErr.{ObjectErr}
use Rattle.object_check.specs.declared.ObjectErr.TheVariants.{ShortBuffer, BadObject}
use Rattle.laws.proofs.Single.{Single, source-single}
use Rattle.object_answer.specs.declared.Answer as object_answer
use Rattle.object_answer.specs.Meant.{meant, Leaves}
use Rattle.lc3_answers.specs.declared.Reply.{Reply}
use Rattle.lc3_answers.proofs.Lexemes.{lexeme-told}
use Rattle.lc3_answers.specs.Told.{reply, row, answered, counted, next_told, lexeme_told, statements_told, written_told, said_told, RowIn, found_told, line_told}
use Rattle.laws_stored.specs.Offsets.{part_at}
use Rattle.view_places.specs.Lines.{feeds, since}
use Rattle.view_text.specs.Put.{Put}
use Rattle.view_refusal.specs.Refusals.{title}
use Rattle.lc3.specs.Calls.{checked, place_told, RefusalCall, LinkCall, WriteCall, LookupCall, RevLookupCall}

-- the numbers put are those of the answer
put : {r : Reply} {a : Answer} {out : List ℕ} → r ≡ reply a → out ≡ row r → out ≡ numbers a
unfolding numbers
put e p = p ∙ ap row e

-- a refusal of tokens or statements has one place
told-checked : (o : Outcome (List Stmt)) → Single o → statements_told (coded_statements o) ≡ checked o
unfolding coded_statements
told-checked (ok ss) h = refl
told-checked (refused r) h = ap (λ (q : Span). answered r.number r.first q no_counts) (sym h)

source-checked : (s : List ℕ) → statements_told (coded_statements (source_statements s)) ≡ checked (source_statements s)
unfolding source_statements
source-checked s = told-checked (source_statements s) (source-single s)

module _ {r : Reply} {out : List ℕ} (p : out ≡ row r) where
  pub next-put : {t : Lexeme} (n : Next) → t ≡ flat_next n → r ≡ reply (lexeme_told t) → out ≡ numbers (next_told n)
  next-put n q e = put (e ∙ (ap (λ (x : Lexeme). reply (lexeme_told x)) q ∙ ap reply (lexeme-told n))) p

  pub statements-put : {n : Result (Unit {0}) Fault} (s : List ℕ) → n ≡ coded_statements (source_statements s) → r ≡ reply (statements_told n) → out ≡ numbers (checked (source_statements s))
  statements-put s q e = put (e ∙ (ap (λ (x : Result (Unit {0}) Fault). reply (statements_told x)) q ∙ ap reply (source-checked s))) p

  pub place-put : (s : List ℕ) (i : ℕ) {b : List ℕ} {k l : ℕ} → b ≡ part_at s 0 (i - 0) → k ≡ feeds b → l ≡ since b → r ≡ reply (counted k l 0 0) → out ≡ numbers (place_told s i)
  place-put s i h f g e =
      let z : i - 0 ≡ i = omega arith in
      put (e ∙ (rw (f, g, h, z) refl)) p

  pub refusal-put : (n len : ℕ) {b text : List ℕ} {k : ℕ} → b ≡ zeros len → Put b text 0 k (title n) → r ≡ reply (written_told (Ok k)) → RefusalCall n len text out
  refusal-put n len {b} {text} {k} z h e = record { size = k; put = rw z at h; told = put e p }

  pub line-put : {n m : R.Line} → n ≡ m → r ≡ reply (line_told n) → out ≡ numbers (line_told m)
  line-put q e = put (e ∙ ap (λ (x : R.Line). reply (line_told x)) q) p

  pub linked-put : {c : Counts} {b : Buffers} {d : Counts} {e o o' : Buffers} {a : object_answer.Answer} → Linked c b d e o a o'
      → r ≡ reply (meant a) → LinkCall c b d e o o' out
  linked-put l q = record { outcome = l.outcome; lent = l.is; answered = put (q ∙ ap reply l.leaves.answer) p; left = l.leaves.buffers }

  pub answer-put : {t : Answer} {a : object_answer.Answer} → meant a ≡ t → r ≡ reply (meant a) → out ≡ numbers t
  answer-put l e = put (e ∙ ap reply l) p

  pub assembled-put : {o : Outcome Object} {b b' : Buffers} {a : object_answer.Answer} → Leaves o b a b'
      → r ≡ reply (meant a) → out ≡ numbers (answer o)
  assembled-put l e = answer-put l.answer e

  module _ {c : Counts} {b : Buffers} where
    pub write-put : {rule : ℕ → Object → Outcome (List ℕ)} {len : ℕ} {x : List ℕ} {l : Result ℕ ℕ} → Writes rule c b len l x → r ≡ reply (written_told l) → WriteCall rule c b len x out
    write-put {l = l} q e = record { written = l; called = q; told = put e p }

    pub lookup-put : {m : List ℕ} (s : Result (O.Option Label) ObjectErr) → OfObject c b (ok (lookup_label (view c b) m)) (said s) → r ≡ reply (said_told (said s)) → LookupCall c b m out
    lookup-put s q e = record { said = said s; lent = q; told = put e p }

    pub rev-lookup-put : {a : ℕ} {f : Result (O.Option ℕ) ObjectErr} → Reversed c b a f → r ≡ reply (found_told b.labels f) → RevLookupCall c b a out
    rev-lookup-put {f = f} q e = record { found = f; reversed = q; told = put e p }

-- a row that is found lies in the table
pub row-in : {c : Counts} {b : Buffers} {a : ℕ} (f : Result (O.Option ℕ) ObjectErr) → Reversed c b a f → RowIn (length b.labels) f
row-in {c} {b} {a} f q = record { row = go f q }
  where
    go : (f : Result (O.Option ℕ) ObjectErr) → Reversed c b a f → (k : ℕ) → f ≡ Ok (Some k) → k * 4 + 4 ≤ length b.labels
    go (Ok (Some j)) q k e =
        let z : j ≡ k = cc in
        let room = (row-valid j q.name).labels.room in
        let l = q.row j refl in
        omega arith
    go (Ok None) q k e = never cc
    go (Err ShortBuffer) q k e = never cc
    go (Err BadObject) q k e = never cc
