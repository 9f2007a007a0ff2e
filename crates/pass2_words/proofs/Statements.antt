-- What each kind of statement writes. Assumes nothing.
use Rattle.std.specs.declared.result.Result.TheVariants.{Ok, Err}
use mathlib.Core.Path.{◌≡◌, refl, sym, ◌∙◌, ap}
use mathlib.Core.List.{List, [], ◌∷◌, ◌++◌, map}
use Prim.Native.Nat.{ℕ, ◌+◌, ◌<◌}
use native.Mathlib.Omega.{arith}
use lib.ListN.{length, replicate, length-append, length-map, length-replicate}
use Rattle.rules.specs.Base.{Outcome, ok}
use Rattle.rules.specs.Words.{instr, orig, fill, blkw, stringz, end, external}
use Rattle.rules.specs.Words as words
use Rattle.rules.specs.Tables.{Table}
use Rattle.rules.specs.Objects.{Cell, unset, word}
use Rattle.rules.specs.Objects as objects
use Rattle.rules.specs.Statements.{Stmt}
use Rattle.rules.specs.Passes.{Symbol, word_len, words_of}
use Rattle.parse_rows.specs.declared.Op.{Op}
use Rattle.parse_rows.specs.declared.Op.TheVariants.{Instr, Orig, Fill, Blkw, Stringz, External}
use Rattle.parse_rows.specs.declared.Op.TheVariants as op
use Rattle.parse.specs.declared.Statement.{Statement}
use Rattle.pass1_symbols.specs.Symbols.{symbols}
use Rattle.parse_meaning.specs.Reading.{meant_op, chars_at, Faithful}
use Rattle.pass2_words.specs.Writing.{Room, Wrote, WroteAs, size_by, size_at, Roomy}
use Rattle.pass2_words.proofs.Cells.{wrote_none, wrote-unset, went_to}

size-by : (src : List ℕ) (st : Statement) (o : Op) → st.op ≡ o → size_at src st ≡ size_by o st.bits (length (chars_at src (st.text_start + 1)))
unfolding size_at
size-by src st o e = ap (λ (x : Op). size_by x st.bits (length (chars_at src (st.text_start + 1)))) e

-- the rule, by kind
words-none : (ss : Table objects.Name Symbol) (a : ℕ) (s : Stmt) → (words_of ss a orig s ≡ ok []) × (words_of ss a end s ≡ ok []) × (words_of ss a external s ≡ ok [])
unfolding words_of
words-none ss a s = (refl, refl, refl)

words-unset : (ss : Table objects.Name Symbol) (a : ℕ) (s : Stmt) → words_of ss a blkw s ≡ ok (replicate s.bits unset)
unfolding words_of
words-unset ss a s = refl

words-chars : (ss : Table objects.Name Symbol) (a : ℕ) (s : Stmt) → words_of ss a stringz s ≡ ok (map word (s.chars ++ 0 ∷ []))
unfolding words_of
words-chars ss a s = refl

module _ (rs src : List ℕ) (n : ℕ) (ws ms : List ℕ) (st : Statement) (used a : ℕ) (v : Roomy rs src n ws ms st used a) where
  sized-room : (k : ℕ) → size_at src st ≡ k → Room ws ms used k
  sized-room k e = rw e at v.room

  pub instr-room : st.op ≡ Instr → Room ws ms used 1
  instr-room e = sized-room 1 (size-by src st Instr e)

  pub instr-low : st.op ≡ Instr → a < 65535
  instr-low e = let z : size_at src st ≡ 1 = size-by src st Instr e in let w = v.low (omega arith) in omega arith

  pub fill-room : st.op ≡ Fill → Room ws ms used 1
  fill-room e = sized-room 1 (size-by src st Fill e)

  pub string-fits : st.op ≡ Stringz → Room ws ms used (length (chars_at src (st.text_start + 1)) + 1)
  string-fits e = sized-room _ (size-by src st Stringz e)

  module _ (at : ℕ) (s : Stmt) (f : Faithful src at st s) where
    abbrev Words : Outcome (List Cell)
    Words = words_of (symbols n rs src) a s.op s

    rule-of : (o : Op) → st.op ≡ o → words_of (symbols n rs src) a (meant_op o) s ≡ Words
    rule-of o e = ap (λ (x : words.Op). words_of (symbols n rs src) a x s) (sym (f.op ∙ ap meant_op e))

    pub wrote-blkw : st.op ≡ Blkw → (k : ℕ) → k ≡ st.bits → WroteAs Words ws ms ws ms used (Ok (used + k))
    wrote-blkw e k q = went_to Words ws ms ws ms used (used + k) (replicate s.bits unset)
        (sym (rule-of Blkw e) ∙ words-unset (symbols n rs src) a s)
        (ap (λ (x : ℕ). used + x) (q ∙ (sym f.bits ∙ sym (length-replicate s.bits unset))))
        (wrote-unset ws ms used v.clear s.bits)

    pub wrote-string : st.op ≡ Stringz → (ws' ms' : List ℕ) (k : ℕ) → Wrote ws ms ws' ms' used (map word (chars_at src (st.text_start + 1) ++ 0 ∷ [])) × (k ≡ used + (length (chars_at src (st.text_start + 1)) + 1)) → WroteAs Words ws ms ws' ms' used (Ok k)
    wrote-string e ws' ms' k h =
        let t = f.text e in
        let l : length (map word (chars_at src (st.text_start + 1) ++ 0 ∷ [])) ≡ length (chars_at src (st.text_start + 1)) + 1 = length-map (chars_at src (st.text_start + 1) ++ 0 ∷ []) word ∙ (length-append (chars_at src (st.text_start + 1)) (0 ∷ []) ∙ omega arith) in
        went_to Words ws ms ws' ms' used k (map word (chars_at src (st.text_start + 1) ++ 0 ∷ []))
        (sym (rule-of Stringz e) ∙ (words-chars (symbols n rs src) a s ∙ ap (λ (x : List ℕ). ok (map word (x ++ 0 ∷ []))) t))
        (omega (arith, h.1, l))
        h.0

    nothing_written : Words ≡ ok [] → WroteAs Words ws ms ws ms used (Ok used)
    nothing_written e = went_to Words ws ms ws ms used used [] e (omega arith) (wrote_none ws ms used)

    pub wrote-orig : st.op ≡ Orig → WroteAs Words ws ms ws ms used (Ok used)
    wrote-orig e = nothing_written (sym (rule-of Orig e) ∙ (words-none (symbols n rs src) a s).0)

    pub wrote-end : st.op ≡ op.End → WroteAs Words ws ms ws ms used (Ok used)
    wrote-end e = nothing_written (sym (rule-of op.End e) ∙ (words-none (symbols n rs src) a s).1)

    pub wrote-external : st.op ≡ External → WroteAs Words ws ms ws ms used (Ok used)
    wrote-external e = nothing_written (sym (rule-of External e) ∙ (words-none (symbols n rs src) a s).2)

-- the rule's size is that of the code's statement
pub size_is : (src : List ℕ) (at : ℕ) (st : Statement) (s : Stmt) → Faithful src at st s → word_len s.op s ≡ size_at src st
unfolding size_at word_len
size_is src at st s f = ap (λ (x : words.Op). word_len x s) f.op ∙ go st.op refl
  where
    go : (o : Op) → st.op ≡ o → word_len (meant_op o) s ≡ size_by o st.bits (length (chars_at src (st.text_start + 1)))
    go Instr e = refl
    go Fill e = refl
    go Blkw e = f.bits
    go Stringz e = ap (λ (l : List ℕ). length l + 1) (f.text e)
    go Orig e = refl
    go op.End e = refl
    go External e = refl
