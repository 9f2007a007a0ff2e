-- The refusals of reading tokens have a number of the table. Assumes nothing.
use Prim.Native.Nat.{ℕ, zero, suc, ◌+◌, ◌-◌, ◌*◌}
use mathlib.Core.Path.{◌≡◌, refl}
use mathlib.Core.Bool.{true, false}
use mathlib.Core.List.{List, [], ◌∷◌}
use lib.ListN.{length, drop}
use lib.Dec.{leb, ltb}
use Rattle.rules.specs.Answers.{refusals}
use Rattle.rules.specs.Base.{when◌then◌else◌, ok, refuse, Span, span}
use Rattle.rules.specs.Capacities.{source_room}
use Rattle.rules.specs.Tokens.{Kind, Found, token, blank, bad, Match, match, Form, Quoted, open', closed, dec, dec_neg, hex, hex_neg, reg, value, digits, read, number_after, wrong_after, word_at, directive_after, after_hash, after_minus, after_x, after_r, after_quote, line, quoted, while, wordy, token_at, Token, token_in, blame, kept, tokens_from, tokens, next_from, next_token, ascii, lexed}
use Rattle.rules.proofs.Bools.{never, either}
use Rattle.laws_numbers.specs.Known.{in_table, known, Numbered}
use Rattle.laws_numbers.proofs.Stages.{gives, refuses, required, bound}

-- what a match finds
pub record Fine (f : Found) : Type 0 where
  pub number : (n : ℕ) → f ≡ bad n → known n ≡ true

abbrev FineMatch : Match → Type 0
FineMatch m = Fine m.found

takes : (k : Kind) → Fine (token k)
takes k = record { number = λ n e. never cc }

skips : Fine blank
skips = record { number = λ n e. never cc }

wrong : (m : ℕ) → known m ≡ true → Fine (bad m)
wrong m h = record { number = λ n e. let f : m ≡ n = cc in rw f at h }

-- NUMBERS
pub record FineForm (f : Form) : Type 0 where
  pub digit : known f.wrong ≡ true
  pub over : known f.over ≡ true
  pub none : known f.none ≡ true

module _ (f : Form) (h : FineForm f) where
  fine-digits : (n : ℕ) (s : List ℕ) → Fine (digits f n s)
  unfolding digits
  fine-digits n [] = takes (f.kind n)
  fine-digits n (c ∷ s) =
      either Fine (leb f.base (value c)) (wrong f.wrong h.digit)
      (either Fine (ltb f.bound (n * f.base + value c)) (wrong f.over h.over) (fine-digits (n * f.base + value c) s))

  fine-read : (s : List ℕ) → Fine (read f s)
  unfolding read
  fine-read [] = wrong f.none h.none
  fine-read (c ∷ s) = fine-digits 0 (c ∷ s)

  fine-number : (n : ℕ) (s : List ℕ) → FineMatch (number_after n f s)
  unfolding number_after
  fine-number n s = fine-read (while wordy s)

fine-dec : FineForm dec
unfolding dec known in_table refusals
fine-dec = record { digit = refl; over = refl; none = refl }

fine-dec-neg : FineForm dec_neg
unfolding dec_neg known in_table refusals
fine-dec-neg = record { digit = refl; over = refl; none = refl }

fine-hex : FineForm hex
unfolding hex known in_table refusals
fine-hex = record { digit = refl; over = refl; none = refl }

fine-hex-neg : FineForm hex_neg
unfolding hex_neg known in_table refusals
fine-hex-neg = record { digit = refl; over = refl; none = refl }

fine-reg : FineForm reg
unfolding reg known in_table refusals
fine-reg = record { digit = refl; over = refl; none = refl }

fine-wrong : (n : ℕ) (s : List ℕ) → FineMatch (wrong_after n s)
unfolding wrong_after known in_table refusals
fine-wrong n s = wrong 4 refl

-- EACH FIRST BYTE
fine-word : (s : List ℕ) → FineMatch (word_at s)
unfolding word_at
fine-word s = takes _

fine-directive : (s : List ℕ) → FineMatch (directive_after s)
unfolding directive_after
fine-directive s = takes _

fine-hash : (s : List ℕ) → FineMatch (after_hash s)
unfolding after_hash
fine-hash s =
    either FineMatch _ (fine-number dec_neg fine-dec-neg 2 (drop 1 s))
    (either FineMatch _ (fine-number dec fine-dec 1 s) (either FineMatch _ (fine-wrong _ _) (fine-wrong _ _)))

fine-minus : (s : List ℕ) → FineMatch (after_minus s)
unfolding after_minus
fine-minus s = either FineMatch _ (fine-number dec_neg fine-dec-neg 1 s) (fine-wrong _ _)

fine-x : (c : ℕ) (s : List ℕ) → FineMatch (after_x c s)
unfolding after_x
fine-x c s = either FineMatch _ (fine-number hex_neg fine-hex-neg 2 (drop 1 s)) (either FineMatch _ (fine-number hex fine-hex 1 s) (fine-word (c ∷ s)))

fine-r : (c : ℕ) (s : List ℕ) → FineMatch (after_r c s)
unfolding after_r
fine-r c s = either FineMatch _ (fine-number reg fine-reg 1 s) (fine-word (c ∷ s))

fine-quote : (s : List ℕ) → FineMatch (after_quote s)
unfolding after_quote known in_table refusals
fine-quote s = go (quoted false (line s))
  where
    go :
        (q : Quoted)
        → FineMatch (elim q [ open' ↦ match (bad 7) (1 + length (line s)) | closed t n ↦ match (when leb (length t) 65534 then token (Kind.text t) else bad 8) (1 + n) ])
    go open' = wrong 7 refl
    go (closed t n) = either Fine (leb (length t) 65534) (takes _) (wrong 8 refl)

pub fine-token : (c : ℕ) (s : List ℕ) → FineMatch (token_at c s)
unfolding token_at known in_table refusals
fine-token c s =
    either FineMatch _ (fine-number dec fine-dec 0 (c ∷ s))
    (either FineMatch _ (fine-hash s)
    (either FineMatch _ (fine-minus s)
    (either FineMatch _ (fine-x c s)
    (either FineMatch _ (fine-r c s)
    (either FineMatch _ (fine-word (c ∷ s))
    (either FineMatch _ (fine-directive s)
    (either FineMatch _ (fine-quote s)
    (either FineMatch _ (takes _)
    (either FineMatch _ (takes _)
    (either FineMatch _ skips
    (either FineMatch _ (takes _)
    (either FineMatch _ (takes _)
    (either FineMatch _ skips (wrong 10 refl))))))))))))))

-- TOKENS
fine-kept : (f : Found) (p q : Span) → Fine f → Numbered (kept f p q)
unfolding kept
fine-kept (token k) p q h = gives _
fine-kept blank p q h = gives _
fine-kept (bad n) p q h = refuses _ (h.number n refl)

numbered-from : (k i : ℕ) (s : List ℕ) → Numbered (tokens_from k i s)
unfolding tokens_from
numbered-from k i [] = gives _
numbered-from (suc k) i (c ∷ s) = numbered-from k (i + 1) s
numbered-from zero i (c ∷ s) =
    bound (kept (token_at c s).found (span i (i + (token_at c s).size)) (blame i (token_at c s))) _ (fine-kept _ _ _ (fine-token c s)) λ t.
    bound (tokens_from ((token_at c s).size - 1) (i + 1) s) _ (numbered-from ((token_at c s).size - 1) (i + 1) s) λ ts. gives _

next-numbered : (k i : ℕ) (s : List ℕ) → Numbered (next_from k i s)
unfolding next_from
next-numbered k i [] = gives _
next-numbered (suc k) i (c ∷ s) = next-numbered k (i + 1) s
next-numbered zero i (c ∷ s) = go (token_at c s).found (fine-token c s) (next-numbered ((token_at c s).size - 1) (i + 1) s)
  where
    go :
        (f : Found) → Fine f → Numbered (next_from ((token_at c s).size - 1) (i + 1) s)
        → Numbered {A = Token} (elim f [ token k ↦ ok (token_in k (span i (i + (token_at c s).size))) | blank ↦ next_from ((token_at c s).size - 1) (i + 1) s | bad n ↦ refuse n (blame i (token_at c s)) ])
    go (token k) h r = gives _
    go blank h r = r
    go (bad n) h r = refuses _ (h.number n refl)

pub token-numbered : (s : List ℕ) (i : ℕ) → Numbered (next_token s i)
unfolding next_token
token-numbered s i = next-numbered 0 i (drop i s)

ascii-numbered : (i : ℕ) (s : List ℕ) → Numbered (ascii i s)
unfolding ascii known in_table refusals
ascii-numbered i [] = gives tt
ascii-numbered i (c ∷ s) = bound _ _ (required (ltb c 128) 12 (span i (i + 1)) refl) λ x. ascii-numbered (i + 1) s

pub lexed-numbered : (s : List ℕ) → Numbered (lexed s)
unfolding lexed tokens known in_table refusals
lexed-numbered s = bound _ _ (required (leb (length s) source_room) 11 (span 0 (length s)) refl) λ x. bound _ _ (ascii-numbered 0 s) λ y. numbered-from 0 0 s
