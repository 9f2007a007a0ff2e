-- WHAT IS PROVED. Each final theorem of the project, stated here and cited from its proof. Every word that it uses is defined in a folder `specs`: what is right in
-- that of crate `rules`, what the answers of a crate's code mean in that crate's own. Assumes nothing.
use Rattle.isa_fields.specs.declared.OffsetNewErr.{OffsetNewErr}
use Rattle.isa_fields.specs.declared.OffsetNewErr.TheVariants.{CannotFitSigned}
use Rattle.std.specs.declared.result.Result.TheVariants.{Ok, Err}
use Rattle.std.specs.declared.option.Option.TheVariants.{Some, None}
use Rattle.std.specs.declared.result.Result.{Result}
use Rattle.std.specs.declared.option.Option as O
use Rattle.base_refusals.specs.declared.Fault.{Fault}
use Prim.Native.Nat.{ℕ, ◌^◌, ◌≤◌, ◌<◌}
use mathlib.Core.Bool.{Bool, true, false}
use mathlib.Core.List.{List, [], ◌∷◌, map, Memᴰ, Permᴰ}
use mathlib.Core.Logic.{◌↔◌}
use mathlib.Core.Option.{none, some}
use mathlib.Core.Path.{◌≡◌, sym, ◌∙◌}
use lib.ListN.{length, get_or, take}
use Rattle.rules.specs.Tokens.{Match, token_at, token_in, upper, next_token, lexed}
use Rattle.rules.specs.Tokens as Kinds
use Rattle.rules.specs.Patterns.{patterns, LongestMatch}
use Rattle.rules.specs.Examples.{EveryRow}
use Rattle.rules.specs.Base.{Outcome, ok, refused, refuse, Refusal, span, nowhere, offset_at, verdict}
use Rattle.rules.specs.Passes.{assemble}
use Rattle.rules.specs.Linking.{link}
use Rattle.rules.specs.Statements.{Name, name_at, past_lines, past_label, labels_at, Read, GoesOn, next_statement, statements}
use Rattle.rules.specs.Words as R
use Rattle.rules.specs.Words.{Range, signed, offset, fits, reach, field, extend, Width, Instr, word, disassemble, line, Shown}
use Rattle.rules.specs.Objects.{Object, nothing, Counts, counts_of, flat, lookup_label, Good}
use Rattle.rules.specs.Buffers.{Buffers, short, lent_words, view, layout, Valid}
use Rattle.rules.specs.Examples as Examples
use Rattle.rules.proofs.Longest as Longest
use Rattle.rules.proofs.Ahead as Ahead
use Rattle.rules.proofs.Following as Following
use Rattle.parse_labels.specs.Walk.{label_from}
use Rattle.parse_labels.specs.declared.NextLabel.{NextLabel}
use Rattle.parse.specs.declared.Statement.{Statement}
use Rattle.parse.specs.Coded.{coded_statement, coded_statements, source_statements}
use Rattle.parse.specs.Reach.{LabelField, HasField}
use Rattle.parse.proofs.Reach as Reach
use Rattle.parse.proofs.Unique as Parser
use Rattle.lex_reserved.specs.declared.Ident.{Ident}
use Rattle.lex_token.specs.Coded.{coded}
use Rattle.lex_token.specs.Meant as Meant
use Rattle.lex_token.specs.declared.Token.TheVariants as tok
use Rattle.lex_token.specs.declared.Next.{Next}
use Rattle.lex_token.specs.declared.Next.TheVariants.{Took}
use Rattle.lex_token.proofs.MeantCoded as Tokens
use Rattle.lex.specs.Label.{label_text}
use Rattle.lex.proofs.LabelLaws as Labels
use Rattle.lex_source.specs.Lexed.{meant_lexed}
use Rattle.lex_source.proofs.OneAnswer as Lexer
use Rattle.list.specs.Call.{Called}
use Rattle.object_answer.specs.Writes as Writing
use Rattle.rules.proofs.Fields as Fields
use Rattle.rules.proofs.Disassembly as Disassembly
use Rattle.rules.proofs.Laid as Laid
use Rattle.rules.proofs.Sound as Sound
use Rattle.rules.proofs.Fits as Fits
use Rattle.rules.proofs.Calls as Calling
use Rattle.object_answer.specs.declared.Answer as Making
use Rattle.asm.proofs.Accepting as Accepting
use Rattle.laws_accepted.proofs.Accepted as Assembly
use Rattle.laws_link.specs.Ways.{Way, node, entries, run, Lends, AllGood, Room, OneSame, Refused}
use Rattle.laws_link.specs.Joins.{TwoClash, Joins}
use Rattle.laws_link.specs.Obtained.{Obtained}
use Rattle.rules.specs.Stored.{stored, check}
use Rattle.laws_stored.specs.Beginnings.{AreBytes, FirstBreak, ObjectOrFifty}
use Rattle.laws_stored.specs.Sizes.{most_bytes}
use Rattle.laws_stored.proofs.Promised as StoredForm
use Rattle.laws_stored.proofs.First as StoredFirst
use Rattle.laws_stored.proofs.Most as StoredMost
use Rattle.laws_stored.proofs.Reached as StoredReached
use Rattle.laws_stored.proofs.Checking as StoredSteps
use Rattle.stored.specs.Call as StoreCall
use Rattle.laws_link.proofs.Demand as Demand
use Rattle.laws_link.proofs.Obtaining as Obtaining
use Rattle.link.specs.Call.{Outcomes, Linked}
use Rattle.link.specs.CarriedOut.{EntriesLent, Lendable, Ends, stands, CarriedOut, Tells, Alike, Stopped, SameContents, SameSizes}
use Rattle.link.proofs.Accepting as Linking
use Rattle.link.proofs.Carrying as Carrying
use Rattle.isa_fields.specs.Fields.{encoded, meant_offset}
use Rattle.isa.specs.Instructions.{meant}
use Rattle.isa.specs.Disassembly.{meant_if, meant_line}
use Rattle.isa.specs.declared.AsmInstr.{AsmInstr}
use Rattle.isa.specs.declared.disassembly.Line.{Line}
use Rattle.isa.proofs.Promises as Words
use Rattle.isa_fields.proofs.Promises as FieldsOf
use Rattle.rules.specs.Calls.{Answered, OfObject, left_object}
use Rattle.object_check.specs.Checked as Check
use Rattle.object_check.specs.Checked.{outcome}
use Rattle.object_check.specs.declared.ObjectErr.{ObjectErr}
use Rattle.object.specs.declared.Label as Labelling
use Rattle.object_lookup.specs.Told.{said, Reversed}
use Rattle.object_lookup.proofs.Once as Lookup
use Rattle.rules.specs.Answers.{numbers, answer}
use Rattle.object_answer.specs.Meant.{AcceptedCall}
use Rattle.object_answer.specs.Meant.{meant as meant_answer}
use Rattle.object_answer.proofs.Leaving as Leaving
use Rattle.list_print.specs.Program as Program
use Rattle.stored_list.specs.Stored.{stored_listing}
use Rattle.stored_load.specs.Call as LoadCall
use Rattle.stored_load.specs.Call.{Loaded}
use Rattle.stored_load.proofs.Accepting as Loading
use Rattle.stored_load.proofs.Back as LoadingBack
use Rattle.asm.specs.Call.{called, Assembled}
use Rattle.rules.specs.Capacities.{word_room}
use Rattle.lc3_assemble.specs.Assembled as SourceStored
use Rattle.lc3_link.specs.Linked as StoredLink
use Rattle.lc3_link.specs.Linked.{link_stored}
use Rattle.lc3_link.specs.declared.Linked.{Linked as LinkAnswer}
use Rattle.lc3_link.proofs.Either as StoredEither
use Rattle.lc3_answers.specs.Told as Told
use Rattle.lc3.specs.Calls as Calls
use Rattle.lc3.specs.Calls.{checked, place_told, RefusalCall, LinkCall, ListCall, LookupCall, RevLookupCall}

-- TOKENS. Each token is the longest match of the patterns of lex.rs at its place, at equal length of the pattern declared first:
-- a number or register before a word. It is so of every first byte and every rest, and there is one longest match only.
pub longest-match : (c : ℕ) (s : List ℕ) → LongestMatch (c ∷ s) (token_at c s)
longest-match = Longest.longest-match

pub one-longest-match : (s : List ℕ) {m n : Match} → LongestMatch s m → LongestMatch s n → m ≡ n
one-longest-match s h k = Longest.one-longest patterns s h k

-- THE CODE OF TOKENS, crates `lex` and `lex_source`. What `next_token` tells means the rule's next token, of any bytes and from any place;
-- a word's text, handed out as a part of the source, is in upper case the rule's word.
pub told-means-the-token : (s : List ℕ) (at : ℕ) → Meant.meant s (coded (next_token s at)) ≡ next_token s at
told-means-the-token = Tokens.meant-coded

pub label-text-is-the-word :
    (s : List ℕ) (at : ℕ) (i : Ident) (a e : ℕ) → Meant.meant s (Took (tok.Ident i) a e) ≡ next_token s at → next_token s at ≡ ok (token_in (Kinds.word (map upper (label_text s a e))) (span a e))
label-text-is-the-word = Labels.label-word

-- Two answers that a contract allows are equal: `next_token`; `label_text`; `first_refusal` of the whole source (11, 12, then 1 to 10).
pub next-token-one-answer : (s : List ℕ) (at : ℕ) (r t : Next) → r ≡ coded (next_token s at) → t ≡ coded (next_token s at) → r ≡ t
next-token-one-answer s at r t = Lexer.next-token-one s at

pub label-text-one-answer : (s : List ℕ) (start end : ℕ) (r t : List ℕ) → r ≡ label_text s start end → t ≡ label_text s start end → r ≡ t
label-text-one-answer s start end r t = Lexer.label-text-one s start end

pub first-refusal-one-answer : (s : List ℕ) (r t : Result (Unit {0}) Fault) → meant_lexed r ≡ verdict (lexed s) → meant_lexed t ≡ verdict (lexed s) → r ≡ t
first-refusal-one-answer = Lexer.first-refusal-one

-- THE CODE OF STATEMENTS, crates `parse_labels` and `parse`. A statement's labels, walked one at a time by `next_label`, are exactly the rule's.
pub labels-one-by-one : (s : List ℕ) (at : ℕ) (n : Name) → name_at s (past_lines s at) ≡ some n → labels_at s at ≡ n ∷ labels_at s (past_label s at)
labels-one-by-one = Ahead.names-on

pub labels-end : (s : List ℕ) (at : ℕ) → name_at s (past_lines s at) ≡ none → labels_at s at ≡ []
labels-end = Ahead.names-done

-- A statement goes on from its place and not past the source, so that reading one after another ends.
pub statement-goes-on : (s : List ℕ) (at : ℕ) (x : Read) → next_statement s at ≡ ok (some x) → GoesOn s at x
statement-goes-on = Following.statement-goes

-- In an accepted statement a label operand goes to an offset9 or an offset11 of an instruction, or to the word of .fill or .external.
pub label-operand-field : (s : List ℕ) (i : ℕ) (x : Read) → next_statement s i ≡ ok (some x) → HasField (LabelField x.stmt.op) x.stmt.target
label-operand-field = Reach.statement-known

-- Two answers that a contract allows are equal: `next_label`; `next_statement`; `first_refusal` (13 to 16); `check_source` (11, 12, 1 to 10, then 13 to 16).
pub next-label-one-answer : (s : List ℕ) (at : ℕ) (r t : NextLabel) → r ≡ label_from s at → t ≡ label_from s at → r ≡ t
next-label-one-answer s at r t p q = p ∙ sym q

pub next-statement-one-answer : (s : List ℕ) (at : ℕ) (r t : Result (O.Option Statement) Fault) → r ≡ coded_statement (next_statement s at) → t ≡ coded_statement (next_statement s at) → r ≡ t
next-statement-one-answer = Parser.next-statement-one-answer

pub statements-one-answer : (s : List ℕ) (r t : Result (Unit {0}) Fault) → r ≡ coded_statements (statements s) → t ≡ coded_statements (statements s) → r ≡ t
statements-one-answer = Parser.first-refusal-one-answer

pub check-source-one-answer : (s : List ℕ) (r t : Result (Unit {0}) Fault) → r ≡ coded_statements (source_statements s) → t ≡ coded_statements (source_statements s) → r ≡ t
check-source-one-answer = Parser.check-source-one-answer

-- MARKED EXAMPLES. P1 to P10: each row of the table gives its answer.
pub marked-examples : EveryRow
marked-examples = Examples.examples

-- WORDS. In a signed field of 1 to 16 bits, decoding undoes encoding, encoding undoes decoding, and the bits are the field's own.
pub decoding-undoes-encoding : (w : ℕ) → Width w → (d : ℕ) → fits (signed w) d ≡ true → extend w (field (signed w) d) ≡ d
decoding-undoes-encoding = Fields.extend-field

pub encoding-undoes-decoding : (w : ℕ) → Width w → (b : ℕ) → b < 2 ^ w → field (signed w) (extend w b) ≡ b
encoding-undoes-decoding = Fields.field-extend

pub field-has-its-width : (w : ℕ) → Width w → (d : ℕ) → field (signed w) d < 2 ^ w
field-has-its-width = Fields.field_below

-- A word disassembled to an instruction is the word that the instruction encodes to; an instruction encoded is shown as itself,
-- or as what shares its word.
pub disassembled-encodes : (w : ℕ) (i : Instr) → disassemble w ≡ some i → word i ≡ some w
disassembled-encodes = Disassembly.disassembled-encodes

pub encoded-shows : (i : Instr) (w : ℕ) → word i ≡ some w → Shown i (disassemble w)
encoded-shows = Disassembly.encoded-shows

-- OBJECTS. Whatever buffers a good object is written into, the object that stands in them is that object.
pub view-of-layout : (o : Object) (b : Buffers) → Good o → view (counts_of o) (layout o b) ≡ o
view-of-layout = Laid.view-layout

-- Two good objects with the same counts and the same layout are one.
pub one-layout : (o p : Object) (b c : Buffers) → Good o → Good p → counts_of o ≡ counts_of p → layout o b ≡ layout p c → o ≡ p
one-layout = Laid.layout-one

-- Lent buffers that 43 lets pass hold a good object, and their counts are the object's; the words are numbers of two bytes.
pub valid-is-good : (c : Counts) (b : Buffers) → Valid c b → ((i : ℕ) → get_or b.words i 0 < 65536) → Good (view c b)
valid-is-good = Sound.valid-good

pub valid-has-its-counts : (c : Counts) (b : Buffers) → Valid c b → counts_of (view c b) ≡ c
valid-has-its-counts = Sound.valid-counts

-- A good object written into buffers that 42 lets pass, with lent words enough, is one that 43 lets pass.
pub layout-is-valid : (o : Object) (b : Buffers) → Good o → short b ≡ false → length (flat o.blocks) ≤ lent_words b.words b.marks → Valid (counts_of o) (layout o b)
layout-is-valid = Fits.layout-valid

-- EVERY CALL ON LENT OBJECTS: 42, then 43, then its rule. Two answers that this allows are equal, whatever the rule.
pub answered-once : {A : Type 0} {small : Bool} {valid : Type 0} {rule r s : Outcome A} → Answered small valid rule r → Answered small valid rule s → r ≡ s
answered-once = Calling.answered-once

-- THE CODE OF LENT OBJECTS. Two answers that a contract allows are equal: `check_object`; `lookup_label`; `rev_lookup_label`.
pub check-object-one-answer : (c : Counts) (b : Buffers) (r s : Result (Unit {0}) ObjectErr) → OfObject c b (ok tt) (outcome r) → OfObject c b (ok tt) (outcome s) → r ≡ s
check-object-one-answer = Check.checked-once

pub lookup-label-one-answer :
    (c : Counts) (b : Buffers) (m : List ℕ) (r s : Result (O.Option Labelling.Label) ObjectErr) → OfObject c b (ok (lookup_label (view c b) m)) (said r) → OfObject c b (ok (lookup_label (view c b) m)) (said s) → r ≡ s
lookup-label-one-answer = Lookup.said-once

pub rev-lookup-label-one-answer : (c : Counts) (b : Buffers) (a : ℕ) (r s : Result (O.Option ℕ) ObjectErr) → Reversed c b a r → Reversed c b a s → r ≡ s
rev-lookup-label-one-answer = Lookup.found-once

-- THE CODE OF THE LISTING, crate `list`. Two answers that the contract of `list` allows are equal, and so are the buffers afterwards.
pub list-one-answer : (c : Counts) (b : Buffers) (len : ℕ) (r s : Result ℕ ℕ) (x y : List ℕ) → Called c b len r x → Called c b len s y → r ≡ s
list-one-answer c b len r s x y = Writing.one_answer

pub list-one-buffer : (c : Counts) (b : Buffers) (len : ℕ) (r s : Result ℕ ℕ) (x y : List ℕ) → Called c b len r x → Called c b len s y → x ≡ y
list-one-buffer c b len r s x y = Writing.one_buffer

-- THE CODE OF WORDS, crates `isa` and `isa_fields`: an instruction's meaning is the rule's of the same name, and the contracts are the equations below.
-- `encode`, then `try_disassemble_line`: the instruction, up to the names that share a word; and the other way round the word.
pub encode-disassemble :
    (i : AsmInstr) (r : O.Option ℕ) (w : ℕ) (d : O.Option AsmInstr) → r ≡ encoded (word (meant i)) → r ≡ Some w → meant_if d ≡ disassemble w → Shown (meant i) (meant_if d)
encode-disassemble = Words.encode-disassemble

pub disassemble-encode : (w : ℕ) (d : O.Option AsmInstr) (i : AsmInstr) (r : O.Option ℕ) → meant_if d ≡ disassemble w → d ≡ Some i → r ≡ encoded (word (meant i)) → r ≡ Some w
disassemble-encode = Words.disassemble-encode

-- `replace_pc_offset9` and `replace_pc_offset11`: 29 exactly where the offset lies outside the field.
pub refused-outside : (f : Range) (label pc : ℕ) (r : Result ℕ OffsetNewErr) → meant_offset r ≡ reach f label pc nowhere → fits f (offset label pc) ≡ false → r ≡ Err CannotFitSigned
refused-outside = FieldsOf.refused-outside

pub accepted-inside : (f : Range) (label pc : ℕ) (r : Result ℕ OffsetNewErr) → meant_offset r ≡ reach f label pc nowhere → fits f (offset label pc) ≡ true → r ≡ Ok (offset label pc)
accepted-inside = FieldsOf.accepted-inside

-- Two answers that a contract allows are equal: `encode`; `try_disassemble_line`; `disassemble_line`; `replace_pc_offset9` and `11`; `low5` to `low11`.
pub encode-one-answer : (i : AsmInstr) (r s : O.Option ℕ) → r ≡ encoded (word (meant i)) → s ≡ encoded (word (meant i)) → r ≡ s
encode-one-answer = Words.encode-one-answer

pub try-disassemble-one-answer : (w : ℕ) (r s : O.Option AsmInstr) → meant_if r ≡ disassemble w → meant_if s ≡ disassemble w → r ≡ s
try-disassemble-one-answer = Words.try-disassemble-one-answer

pub disassemble-line-one-answer : (w : ℕ) (r s : Line) → meant_line r ≡ line w → meant_line s ≡ line w → r ≡ s
disassemble-line-one-answer = Words.disassemble-line-one-answer

pub offset-one-answer : (f : Range) (label pc : ℕ) (r s : Result ℕ OffsetNewErr) → meant_offset r ≡ reach f label pc nowhere → meant_offset s ≡ reach f label pc nowhere → r ≡ s
offset-one-answer = FieldsOf.offset-one-answer

pub value-one-answer : (f : Range) (d : ℕ) (r s : O.Option ℕ) → r ≡ encoded (R.bits (R.num f) (R.value d)) → s ≡ encoded (R.bits (R.num f) (R.value d)) → r ≡ s
value-one-answer = FieldsOf.value-one-answer

-- ASSEMBLING, `asm::assemble`. What the rule accepts is a good object. What the call accepts is that object in its one layout, valid, with its counts; a refusal leaves every
-- buffer zero; two answers that the contract allows are equal, and so are the buffers.
pub accepted-object-good : (room : ℕ) (s : List ℕ) (o : Object) → assemble room s ≡ ok o → Good o
accepted-object-good = Assembly.accepted-good

pub assemble-accepts : (b : Buffers) (s : List ℕ) (r : Making.Answer) (x : Buffers) (o : Object) → Assembled b s r x → called b s ≡ ok o → AcceptedCall b r x o
assemble-accepts = Accepting.accepted-call

pub assemble-refuses : (b : Buffers) (s : List ℕ) (r : Making.Answer) (x : Buffers) (q : Refusal) → Assembled b s r x → called b s ≡ refused q → x ≡ layout nothing b
assemble-refuses = Accepting.refused-call

pub assemble-one-answer : (b : Buffers) (s : List ℕ) (r t : Making.Answer) (x y : Buffers) → Assembled b s r x → Assembled b s t y → (r ≡ t) × (x ≡ y)
assemble-one-answer = Accepting.assembled-once

-- LINKING, `link::link`. The third demand: a list of one or more objects, assembled, loaded or linked, and linked in any order and any grouping, gives one same object, or is
-- refused each way. A way is an order and a grouping, with the words lent to each of its links; its entries are the list in some order.
-- What is assembled, loaded, or linked from such objects is good, and so is what one link accepts.
pub obtained-object-good : (o : Object) → Obtained o → Good o
obtained-object-good = Obtaining.obtained-good Assembly.accepted-good StoredForm.checked-good

pub obtained-list-good : (l : List Object) → ((e : Object) → Memᴰ e l → Obtained e) → AllGood l
obtained-list-good = Obtaining.all-obtained-good Assembly.accepted-good StoredForm.checked-good

pub linked-object-good : (room : ℕ) (a b o : Object) → Good a → Good b → link room a b ≡ ok o → Good o
linked-object-good = Demand.link-good

-- One same object, or refused each way, where blocks, words, labels and relocations, added up over the list, are within the capacities and the words lent to each link.
pub any-order-and-grouping :
    (w : ℕ) (l : List Object) → AllGood l → Room w l → (s t : Way) → Lends w s → Lends w t → Permᴰ (entries s) l → Permᴰ (entries t) l → OneSame (run s) (run t)
any-order-and-grouping = Demand.one_same

-- Refused exactly when two entries share an address or define one name at two addresses, where there is that room; and where two do, whatever is lent.
pub refused-exactly-on-clash : (w : ℕ) (l : List Object) → AllGood l → Room w l → (t : Way) → Lends w t → Permᴰ (entries t) l → Refused (run t) ↔ TwoClash l
refused-exactly-on-clash = Demand.refused-exactly

pub clash-is-refused : (l : List Object) → AllGood l → (t : Way) → Permᴰ (entries t) l → TwoClash l → Refused (run t)
clash-is-refused = Demand.clash-refused

-- In the object each relocation whose name some entry defines holds that address, and every other word is as its entry had it: what a way accepts is what the entries make
-- together, whatever is lent; they make one object at most; and where no two of them clash and there is that room, every way gives it.
pub accepted-is-what-they-make : (l : List Object) → AllGood l → (t : Way) → Permᴰ (entries t) l → (o : Object) → run t ≡ ok o → Joins l o
accepted-is-what-they-make = Demand.gives-what-they-make

pub they-make-one-object : (l : List Object) (o p : Object) → Good o → Good p → Joins l o → Joins l p → o ≡ p
they-make-one-object = Demand.one-object

pub every-way-makes-it :
    (w : ℕ) (l : List Object) → AllGood l → Room w l → (TwoClash l → ⊥) → (t : Way) → Lends w t → Permᴰ (entries t) l → (o : Object) × (run t ≡ ok o) × Good o × Joins l o
every-way-makes-it = Demand.made

-- So two ways of one list that are both accepted give one same object, whatever is lent to either.
pub accepted-ways-agree :
    (l : List Object) → AllGood l → (s t : Way) → Permᴰ (entries s) l → Permᴰ (entries t) l → (o p : Object) → run s ≡ ok o → run t ≡ ok p → o ≡ p
accepted-ways-agree = Demand.accepted-alike

-- A list of one gives its entry; and each list of one or more has a way.
pub list-of-one : (e : Object) (t : Way) → Permᴰ (entries t) (e ∷ []) → run t ≡ ok e
list-of-one = Demand.one-alone

pub list-has-a-way : (w : ℕ) (e : Object) (l : List Object) → (t : Way) × Lends w t × (entries t ≡ e ∷ l)
list-has-a-way = Demand.some-way

-- THE CODE OF LINKING, crate `link`. What the call accepts is the rule's object in its one layout, good, valid, with its counts (the words of a buffer of u16 are below 65536);
-- a refusal leaves every buffer zero; two answers that the contract allows are equal, and so are the buffers. Number 0 is acceptance, any other a refusal.
pub link-accepts :
    (c : Counts) (b : Buffers) (d : Counts) (e : Buffers) (out : Buffers) (r : Making.Answer) (x : Buffers) (o : Object) → Linked c b d e out r x → Outcomes c b d e out (ok o)
    → ((i : ℕ) → get_or b.words i 0 < 65536) → ((i : ℕ) → get_or e.words i 0 < 65536) → AcceptedCall out r x o
link-accepts = Linking.accepted-call

pub link-refuses :
    (c : Counts) (b : Buffers) (d : Counts) (e : Buffers) (out : Buffers) (r : Making.Answer) (x : Buffers) (q : Refusal) → Linked c b d e out r x → Outcomes c b d e out (refused q)
    → x ≡ layout nothing out
link-refuses = Linking.refused-call

pub link-one-answer :
    (c : Counts) (b : Buffers) (d : Counts) (e : Buffers) (out : Buffers) (r t : Making.Answer) (x y : Buffers) → Linked c b d e out r x → Linked c b d e out t y → (r ≡ t) × (x ≡ y)
link-one-answer = Linking.linked-once

pub link-number-0 :
    (c : Counts) (b : Buffers) (d : Counts) (e : Buffers) (out : Buffers) (r : Making.Answer) (x : Buffers) → Linked c b d e out r x → r.number ≡ 0 → (o : Object) × Outcomes c b d e out (ok o)
link-number-0 = Linking.by_number

pub link-other-number :
    (c : Counts) (b : Buffers) (d : Counts) (e : Buffers) (out : Buffers) (r : Making.Answer) (x : Buffers) → Linked c b d e out r x → (r.number ≡ 0 → ⊥)
    → (q : Refusal) × Outcomes c b d e out (refused q)
link-other-number = Linking.by-other-number

-- WAYS CARRIED OUT by calls of `link`: each entry lent in buffers of its own, each link a call that is lent what its two parts left. What comes of the calls is what the rule says
-- of the way; and what a link leaves is the layout of that object.
pub calls-tell-the-rule : (t : Way) (x : Ends) → CarriedOut t x → Tells (run t) x
calls-tell-the-rule = Carrying.carried-tells

pub calls-leave-its-layout :
    (room : ℕ) (s t : Way) (c : Counts) (b : Buffers) → CarriedOut (node room s t) (stands c b) → (out : Buffers) × (lent_words out.words out.marks ≡ room) × (b ≡ layout (view c b) out)
calls-leave-its-layout = Carrying.carried-laid

-- The third demand of the calls: two ways of one list both stand, with one same object and the same counts, or both are refused;
pub calls-in-any-order-and-grouping :
    (w : ℕ) (l : List Object) → Room w l → (s t : Way) → Lends w s → Lends w t → Permᴰ (entries s) l → Permᴰ (entries t) l → (x y : Ends) → CarriedOut s x → CarriedOut t y → Alike x y
calls-in-any-order-and-grouping = Carrying.carried-alike

-- refused exactly when two entries clash; what stands is what the entries make;
pub calls-refuse-exactly-on-clash :
    (w : ℕ) (l : List Object) → Room w l → (t : Way) → Lends w t → Permᴰ (entries t) l → (x : Ends) → CarriedOut t x → Stopped x ↔ TwoClash l
calls-refuse-exactly-on-clash = Carrying.carried-refused

pub calls-leave-what-they-make : (l : List Object) (t : Way) (c : Counts) (b : Buffers) → Permᴰ (entries t) l → CarriedOut t (stands c b) → Joins l (view c b)
calls-leave-what-they-make = Carrying.carried-joins

-- and two that end in a link and stand leave the same at every place of the six buffers, whatever is lent: equal buffers, where these are of the same lengths.
pub calls-leave-the-same :
    (l : List Object) (m n : ℕ) (s s' t t' : Way) (c d : Counts) (b e : Buffers) → Permᴰ (entries (node m s s')) l → Permᴰ (entries (node n t t')) l
    → CarriedOut (node m s s') (stands c b) → CarriedOut (node n t t') (stands d e) → SameContents b e
calls-leave-the-same = Carrying.carried-contents

pub calls-leave-equal-buffers :
    (l : List Object) (m n : ℕ) (s s' t t' : Way) (c d : Counts) (b e : Buffers) → Permᴰ (entries (node m s s')) l → Permᴰ (entries (node n t t')) l
    → CarriedOut (node m s s') (stands c b) → CarriedOut (node n t t') (stands d e) → SameSizes b e → b ≡ e
calls-leave-equal-buffers = Carrying.carried-equal

-- Each way whose entries are lent, and whose links are lent no more words than a buffer can lend, can be carried out.
pub every-way-can-be-carried-out : (t : Way) → EntriesLent t → Lendable t → (x : Ends) × CarriedOut t x
every-way-can-be-carried-out = Carrying.can-carry

-- THE STORED FORM, of the rule (`Stored`), and as calls: `stored::store`, `stored_check::check`, `stored_load::load`. Checking what was stored gives the object back.
pub stored-checks : (o : Object) → Good o → check (stored o) ≡ ok o
stored-checks = StoredForm.stored-checks

-- What checking accepts is good, and is stored as the same bytes (the numbers of a buffer of bytes are below 256).
pub checked-is-good : (b : List ℕ) (o : Object) → AreBytes b → check b ≡ ok o → Good o
checked-is-good = StoredForm.checked-good

pub checked-is-stored : (b : List ℕ) (o : Object) → AreBytes b → check b ≡ ok o → stored o ≡ b
checked-is-stored = StoredForm.checked-stored

-- So no two objects share stored bytes, and one object has one.
pub no-two-objects-share-bytes : (o p : Object) → Good o → Good p → stored o ≡ stored p → o ≡ p
no-two-objects-share-bytes = StoredForm.no-two-share

pub one-object-has-one-form : (b c : List ℕ) (o : Object) → AreBytes b → AreBytes c → check b ≡ ok o → check c ≡ ok o → b ≡ c
one-object-has-one-form = StoredForm.one-has-one

-- 50 stands at the first field that breaks the form: every beginning up to there begins a stored object, and with the field that stands there, if it is whole, none does.
pub fifty-stands-at-the-first : (b : List ℕ) (i : ℕ) → AreBytes b → check b ≡ refuse 50 (offset_at i) → FirstBreak b i
fifty-stands-at-the-first = StoredFirst.fifty-first

-- Checking answers an object, or 50 with an offset in the bytes or at their end.
pub checking-answers : (b : List ℕ) → ObjectOrFifty b (check b)
checking-answers = StoredSteps.check-answers

-- No object takes more bytes than this, and some object takes so many.
pub no-object-takes-more : (o : Object) → Good o → length (stored o) ≤ most_bytes
no-object-takes-more = StoredMost.stored-most

pub some-object-takes-them : (o : Object) × Good o × (length (stored o) ≡ most_bytes)
some-object-takes-them = StoredReached.most-taken

-- `stored::store`: two answers that the contract allows are equal, and so is the buffer of bytes.
pub store-one-answer : (c : Counts) (b : Buffers) (len : ℕ) (r s : Result ℕ ℕ) (x y : List ℕ) → StoreCall.Called c b len r x → StoreCall.Called c b len s y → r ≡ s
store-one-answer c b len r s x y = Writing.one_answer

pub store-one-buffer : (c : Counts) (b : Buffers) (len : ℕ) (r s : Result ℕ ℕ) (x y : List ℕ) → StoreCall.Called c b len r x → StoreCall.Called c b len s y → x ≡ y
store-one-buffer c b len r s x y = Writing.one_buffer

-- `stored_check::check`: two answers that the contract allows are equal.
pub check-one-answer : (b : List ℕ) (r s : Making.Answer) → meant_answer r ≡ answer (check b) → meant_answer s ≡ answer (check b) → r ≡ s
check-one-answer b r s p q = Leaving.meant-once r s (p ∙ sym q)

-- `stored_load::load`: the same, and the six buffers too.
pub load-one-answer : (out : Buffers) (b : List ℕ) (r s : Making.Answer) (x y : Buffers) → Loaded out b r x → Loaded out b s y → (r ≡ s) × (x ≡ y)
load-one-answer = Loading.loaded-once

-- What an accepted load leaves: the good object that was stored, in its one layout, valid, with its counts.
pub load-accepts : (out : Buffers) (b : List ℕ) (r : Making.Answer) (x : Buffers) (o : Object) → AreBytes b → Loaded out b r x → LoadCall.called out b ≡ ok o → AcceptedCall out r x o
load-accepts = Loading.accepted-call

-- What `store` has written, lent to `load` with buffers that are long enough, is accepted: the object that was stored, in its one layout, with its counts.
pub stored-object-loads :
    (c : Counts) (b : Buffers) (len n : ℕ) (x : List ℕ) (out : Buffers) (r : Making.Answer) (y : Buffers) → StoreCall.Called c b len (Ok n) x → ((i : ℕ) → get_or b.words i 0 < 65536)
    → short out ≡ false → c.words ≤ lent_words out.words out.marks → Loaded out (take n x) r y → AcceptedCall out r y (view c b)
stored-object-loads = LoadingBack.stored-loads

-- THE LISTING PROGRAM, `list_print::list_source`: of an input whose first bytes were read, and which goes on or not, the text holds what `Listing.listing_program` says of all of it. Two
-- answers that this allows are equal, and so is the text.
pub listing-program-one-answer :
    (src : List ℕ) (more : Bool) (len r s : ℕ) (x y : List ℕ) → Program.Listed src more len r x → Program.Listed src more len s y → (r ≡ s) × (x ≡ y)
listing-program-one-answer src more len r s x y = Program.listed-once src len more

-- The same of stored bytes, `stored_list::list_stored`: the text holds the listing of their object, or the line of 50 or 41.
pub stored-listing-one-answer :
    (b : List ℕ) (len r s : ℕ) (x y : List ℕ) → Program.Wrote (stored_listing b) len r x → Program.Wrote (stored_listing b) len s y → (r ≡ s) × (x ≡ y)
stored-listing-one-answer b len r s x y p q = (Program.one_count p q, Program.one_buffer p q)

-- WHAT THE COMMANDS WRITE. `lc3_assemble::assemble_stored`: a source is assembled with the words that are lent, and its object stored in the lent bytes; or its refusal, with its places, or 51.
-- Two answers that this allows are equal, and so are the words, the marks and the bytes.
pub stored-source-one-answer :
    (src words marks : List ℕ) (len : ℕ) (r s : Result ℕ Making.Answer) (w v m n b d : List ℕ) → SourceStored.Told src words marks len r w m b → SourceStored.Told src words marks len s v n d → (r ≡ s) × (w ≡ v) × (m ≡ n) × (b ≡ d)
stored-source-one-answer src words marks len r s w v m n b d p q =
    (SourceStored.one_answer p q, p.left_words ∙ sym q.left_words, p.left_marks ∙ sym q.left_marks, SourceStored.one_bytes p q)

-- `lc3_link::link_stored`: two byte strings are loaded, linked, and the result is stored in the lent bytes; or the first refusal, and of 25 the name. Two answers that this allows are equal,
-- and so are the bytes and the buffer of the name.
pub stored-link-one-answer :
    (first second : List ℕ) (len : ℕ) (name : List ℕ) (r s : LinkAnswer) (b d n m : List ℕ) → StoredLink.Told (link_stored len first second) len name r b n
    → StoredLink.Told (link_stored len first second) len name s d m → (r ≡ s) × (b ≡ d) × (n ≡ m)
stored-link-one-answer first second len name r s b d n m p q = (StoredLink.one_answer p q, StoredLink.one_bytes p q, StoredLink.one_name p q)

-- What it accepts are two stored objects, and the bytes are the stored form of their link.
pub stored-link-accepts : (len : ℕ) (x y l : List ℕ) → (link_stored len x y).outcome ≡ ok l → StoredLink.Accepted x y l
stored-link-accepts = StoredEither.link-accepted

-- The third demand of two: where both orders are accepted the bytes are the same, whatever is lent to either; and where the two have room together, both orders give the same bytes or both are refused.
pub stored-links-agree :
    (len n : ℕ) (x y l m : List ℕ) → AreBytes x → AreBytes y → (link_stored len x y).outcome ≡ ok l → (link_stored n y x).outcome ≡ ok m → l ≡ m
stored-links-agree = StoredEither.either-accepted

pub stored-link-in-either-order :
    (len : ℕ) (x y : List ℕ) (a b : Object) → AreBytes x → AreBytes y → check x ≡ ok a → check y ≡ ok b → Room word_room (a ∷ b ∷ [])
    → StoredLink.SameBytes (link_stored len x y).outcome (link_stored len y x).outcome
stored-link-in-either-order = StoredEither.either_order

-- THE CALLS FROM OTHER LANGUAGES, crate `lc3`. Two answers of nine numbers that a contract allows are equal: `lc3_next_token`; `lc3_first_refusal`; `lc3_disassemble`;
-- `lc3_assemble`, and the six buffers too; `lc3_link`, and the six buffers too; `lc3_list` and `lc3_store`, and the buffer of bytes too; `lc3_check`; `lc3_load`, and the six buffers too; `lc3_lookup_label`; `lc3_rev_lookup_label`; `lc3_place`; `lc3_refusal`, and its text too.
pub lc3-next-token-one-answer :
    (s : List ℕ) (at : ℕ) (x y : List ℕ) → x ≡ numbers (Told.next_told (coded (next_token s at))) → y ≡ numbers (Told.next_told (coded (next_token s at))) → x ≡ y
lc3-next-token-one-answer s at x y p q = p ∙ sym q

pub lc3-first-refusal-one-answer :
    (s x y : List ℕ) → x ≡ numbers (checked (source_statements s)) → y ≡ numbers (checked (source_statements s)) → x ≡ y
lc3-first-refusal-one-answer s x y p q = p ∙ sym q

pub lc3-disassemble-one-answer : (w : ℕ) (x y : List ℕ) → x ≡ numbers (Told.line_told (line w)) → y ≡ numbers (Told.line_told (line w)) → x ≡ y
lc3-disassemble-one-answer w x y p q = p ∙ sym q

pub lc3-assemble-one-answer : (b : Buffers) (s x y : List ℕ) → x ≡ numbers (answer (called b s)) → y ≡ numbers (answer (called b s)) → x ≡ y
lc3-assemble-one-answer b s x y p q = p ∙ sym q

pub lc3-assemble-one-object : (b : Buffers) (s : List ℕ) (x y : Buffers) → x ≡ left_object (called b s) b → y ≡ left_object (called b s) b → x ≡ y
lc3-assemble-one-object b s x y p q = p ∙ sym q

pub lc3-link-one-answer : (c : Counts) (b : Buffers) (d : Counts) (e out p q : Buffers) (x y : List ℕ) → LinkCall c b d e out p x → LinkCall c b d e out q y → x ≡ y
lc3-link-one-answer c b d e out p q x y = Calls.link-call-once

pub lc3-link-one-object : (c : Counts) (b : Buffers) (d : Counts) (e out p q : Buffers) (x y : List ℕ) → LinkCall c b d e out p x → LinkCall c b d e out q y → p ≡ q
lc3-link-one-object c b d e out p q x y = Calls.link-object-once

pub lc3-list-one-answer : (c : Counts) (b : Buffers) (len : ℕ) (t u x y : List ℕ) → ListCall c b len t x → ListCall c b len u y → x ≡ y
lc3-list-one-answer c b len t u x y = Calls.write-call-once

pub lc3-list-one-buffer : (c : Counts) (b : Buffers) (len : ℕ) (t u x y : List ℕ) → ListCall c b len t x → ListCall c b len u y → t ≡ u
lc3-list-one-buffer c b len t u x y = Calls.write-text-once

pub lc3-store-one-answer : (c : Counts) (b : Buffers) (len : ℕ) (t u x y : List ℕ) → Calls.StoreCall c b len t x → Calls.StoreCall c b len u y → x ≡ y
lc3-store-one-answer c b len t u x y = Calls.write-call-once

pub lc3-store-one-buffer : (c : Counts) (b : Buffers) (len : ℕ) (t u x y : List ℕ) → Calls.StoreCall c b len t x → Calls.StoreCall c b len u y → t ≡ u
lc3-store-one-buffer c b len t u x y = Calls.write-text-once

pub lc3-check-one-answer : (b x y : List ℕ) → x ≡ numbers (answer (check b)) → y ≡ numbers (answer (check b)) → x ≡ y
lc3-check-one-answer b x y p q = p ∙ sym q

pub lc3-load-one-answer : (out : Buffers) (b x y : List ℕ) → x ≡ numbers (answer (LoadCall.called out b)) → y ≡ numbers (answer (LoadCall.called out b)) → x ≡ y
lc3-load-one-answer out b x y p q = p ∙ sym q

pub lc3-load-one-object : (out : Buffers) (b : List ℕ) (x y : Buffers) → x ≡ left_object (LoadCall.called out b) out → y ≡ left_object (LoadCall.called out b) out → x ≡ y
lc3-load-one-object out b x y p q = p ∙ sym q

pub lc3-lookup-label-one-answer : (c : Counts) (b : Buffers) (m x y : List ℕ) → LookupCall c b m x → LookupCall c b m y → x ≡ y
lc3-lookup-label-one-answer c b m x y = Calls.lookup-call-once

pub lc3-rev-lookup-label-one-answer : (c : Counts) (b : Buffers) (a : ℕ) (x y : List ℕ) → RevLookupCall c b a x → RevLookupCall c b a y → x ≡ y
lc3-rev-lookup-label-one-answer c b a x y = Calls.rev-lookup-call-once

pub lc3-place-one-answer : (s : List ℕ) (i : ℕ) (x y : List ℕ) → x ≡ numbers (place_told s i) → y ≡ numbers (place_told s i) → x ≡ y
lc3-place-one-answer s i x y p q = p ∙ sym q

pub lc3-refusal-one-answer : (n len : ℕ) (t u x y : List ℕ) → RefusalCall n len t x → RefusalCall n len u y → (t ≡ u) × (x ≡ y)
lc3-refusal-one-answer n len t u x y = Calls.refusal-call-once
