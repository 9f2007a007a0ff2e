-- A way of linking carried out by calls of `link` ends as the rule says; so two ways of one list end alike, and leave the same in every buffer. Assumes nothing.
use mathlib.Core.Path.{◌≡◌, refl, sym, ◌∙◌, ap, subst}
use mathlib.Core.Bool.{Bool, true, false}
use mathlib.Core.Logic.{◌↔◌, ⊎_elim}
use mathlib.Core.List.Memᴰ
use mathlib.Core.List.Permᴰ
use mathlib.Core.List.{List, map, Permᴰ}
use Prim.Native.Nat.{ℕ, ◌≤◌}
use native.Mathlib.Omega.{arith}
use native.Mathlib.Decide.{ℕ_discrete}
use lib.Dec.{ltb}
use lib.ListN.{length, get_or, length-replicate}
use lib.Seq.{ext_get_or}
use borrow.Author.Tests.{ltb-false}
use Rattle.rules.specs.Base.{when◌then◌else◌, Outcome, ok, refused, Refusal}
use Rattle.rules.specs.Capacities.{word_room}
use Rattle.rules.specs.Answers as rule
use Rattle.rules.specs.Objects.{Object, Counts, counts_of, flat, heads, Good}
use Rattle.rules.specs.Buffers.{Buffers, six, short, least, lent_words, view, Valid, zeros, lay, head_cells, word_of, mark_of, label_cells, reloc_cells, name_bytes, lay_blocks, lay_words, lay_marks, lay_labels, lay_relocs, lay_names, layout}
use Rattle.rules.specs.Calls.{on_object, left_object}
use Rattle.rules.specs.Linking.{link}
use Rattle.rules.proofs.Rows.{get_or-lay}
use Rattle.rules.proofs.Laid.{view-layout}
use Rattle.rules.proofs.Sound.{valid-good, valid-counts}
use Rattle.rules.proofs.Calls.{answered-once}
use Rattle.laws_link.specs.Ways.{Way, leaf, node, entries, run, Lends, AllGood, Room, OneSame, Refused}
use Rattle.laws_link.specs.Joins.{TwoClash, Joins}
use Rattle.laws_link.proofs.Gathers.{mem-perm}
use Rattle.laws_link.proofs.Meanings.{first-refused, second-refused, both-given}
use Rattle.laws_link.proofs.Demand as Demand
use Rattle.object_answer.specs.declared.Answer.{Answer}
use Rattle.object_answer.specs.Meant.{meant, AcceptedCall}
use Rattle.object_answer.proofs.Full.{layout-full}
use Rattle.link.specs.Call.{Outcomes}
use Rattle.link.specs.CarriedOut.{EntriesLent, Lendable, Call, Ends, stands, stopped, told, CarriedOut, entry, first_stops, second_stops, accepts, refuses, Tells, Alike, Stopped, SameContents, SameSizes}
use Rattle.link.proofs.Accepting.{call-leaves, good-call, by_number, by-other-number}

-- ONE CALL

-- what stands after a way: the object that the rule gives, in buffers that another call may be lent
record Standing (t : Way) (c : Counts) (b : Buffers) : Type 0 where
  given : run t ≡ ok (view c b)
  good : Good (view c b)
  full : short b ≡ false
  valid : Valid c b

-- a refusal is the rule's
abbrev Refusing : Way → Answer → Type 0
Refusing t r = (q : Refusal) × (run t ≡ refused q) × (meant r ≡ rule.refusal q)

module _ (room : ℕ) (s t : Way) (c d : Counts) (b e x : Buffers) (r : Answer) (A : Standing s c b) (B : Standing t d e) (C : Call room c b d e r x) where
  abbrev said : Outcome Object
  said = link (lent_words C.out.words C.out.marks) (view c b) (view d e)

  -- neither 42 nor 43
  by-rule : Outcomes c b d e C.out said
  by-rule = on_object (rw (A.full, B.full) C.full) (A.valid, B.valid) refl

  run-said : run (node room s t) ≡ said
  run-said = both-given room s t (view c b) (view d e) A.given B.given ∙ ap (λ (n : ℕ). link n (view c b) (view d e)) (sym C.lends)

  -- number 0: the object that the rule gives, in its layout
  record Making : Type 0 where
    object : Object
    is : run (node room s t) ≡ ok object
    call : AcceptedCall C.out r x object
    seen : view (told r) x ≡ object

  call-makes : r.number ≡ 0 → Making
  call-makes z =
      let w = by_number c b d e C.out r x C.linked z in
      let o = w.0 in
      let K = good-call c b d e C.out r x o C.linked w.1 A.good B.good in
      record {
        object = o;
        is = run-said ∙ answered-once by-rule w.1;
        call = K;
        seen = ap (λ (a : rule.Answer). view a.counts x) K.counts ∙ (ap (λ (y : Buffers). view (counts_of o) y) K.laid ∙ view-layout o C.out K.good);
      }

  call-accepts : r.number ≡ 0 → Standing (node room s t) (told r) x
  call-accepts z =
      let M = call-makes z in
      record {
        given = M.is ∙ ap (λ (p : Object). ok p) (sym M.seen);
        good = subst (λ (p : Object). Good p) (sym M.seen) M.call.good;
        full = rw M.call.laid (layout-full M.object C.out C.full);
        valid = subst (λ (a : rule.Answer). Valid a.counts x) (sym M.call.counts) M.call.valid;
      }

  call-refuses : (r.number ≡ 0 → ⊥) → Refusing (node room s t) r
  unfolding rule.answer
  call-refuses z =
      let w = by-other-number c b d e C.out r x C.linked z in
      (w.0, run-said ∙ answered-once by-rule w.1, (call-leaves c b d e C.out r x (refused w.0) C.linked w.1).answer)

-- ALL CALLS OF A WAY

abbrev Known : Way → Ends → Type 0
Known t (stands c b) = Standing t c b
Known t (stopped r) = Refusing t r

known : {t : Way} {x : Ends} → CarriedOut t x → Known t x
known (entry {c = c} {b = b} L) = record { given = refl; good = valid-good c b L.valid L.words; full = L.full; valid = L.valid }
known (first_stops {room = room} {s = s} {t = t} h E) = let k = known h in (k.0, first-refused room s t k.0 k.1, k.2)
known (second_stops {room = room} {s = s} {t = t} {c = c} {b = b} h i) =
    let k = known i in
    (k.0, second-refused room s t (view c b) k.0 (known h).given k.1, k.2)
known (accepts {room = room} {s = s} {t = t} {c = c} {d = d} {b = b} {e = e} {x = x} {r = r} h i C z) = call-accepts room s t c d b e x r (known h) (known i) C z
known (refuses {room = room} {s = s} {t = t} {c = c} {d = d} {b = b} {e = e} {x = x} {r = r} h i C z) = call-refuses room s t c d b e x r (known h) (known i) C z

-- what comes of the calls is what the rule says
pub carried-tells : (t : Way) (x : Ends) → CarriedOut t x → Tells (run t) x
carried-tells t (stands c b) h = let k = known h in rw k.given (refl, sym (valid-counts c b k.valid))
carried-tells t (stopped r) h = let k = known h in rw k.1 k.2

-- and of a link, in the layout of that object
pub carried-laid : (room : ℕ) (s t : Way) (c : Counts) (b : Buffers) → CarriedOut (node room s t) (stands c b) → (out : Buffers) × (lent_words out.words out.marks ≡ room) × (b ≡ layout (view c b) out)
carried-laid room s t c b (accepts {c = k} {d = d} {b = p} {e = e} {x = x} {r = r} h i C z) =
    let M = call-makes room s t k d p e x r (known h) (known i) C z in
    (C.out, C.lends, M.call.laid ∙ ap (λ (o : Object). layout o C.out) (sym M.seen))

-- TWO WAYS OF ONE LIST

entries-good : (t : Way) → EntriesLent t → AllGood (entries t)
entries-good (leaf e) E f m =
    let q : f ≡ e = Memᴰ.eq_of_singleton m in
    subst (λ (o : Object). Good o) (E.3 ∙ sym q) (valid-good E.0 E.1 E.2.valid E.2.words)
entries-good (node room s t) E f m = ⊎_elim (entries-good s E.0 f) (entries-good t E.1 f) (Memᴰ.append_cases (entries s) m)

entries-lent : {t : Way} {x : Ends} → CarriedOut t x → EntriesLent t
entries-lent (entry {c = c} {b = b} L) = (c, b, L, refl)
entries-lent (first_stops h E) = (entries-lent h, E)
entries-lent (second_stops h i) = (entries-lent h, entries-lent i)
entries-lent (accepts h i C z) = (entries-lent h, entries-lent i)
entries-lent (refuses h i C z) = (entries-lent h, entries-lent i)

list-good : (l : List Object) (t : Way) (x : Ends) → Permᴰ (entries t) l → CarriedOut t x → AllGood l
list-good l t x d h e m = entries-good t (entries-lent h) e (mem-perm e (Permᴰ.symm d) m)

tells_alike : (u v : Outcome Object) (x y : Ends) → OneSame u v → Tells u x → Tells v y → Alike x y
tells_alike (ok o) (ok p) (stands c b) (stands d e) z u v = (u.1 ∙ (ap counts_of z ∙ sym v.1), u.0 ∙ (z ∙ sym v.0))
tells_alike (ok o) (ok p) (stands c b) (stopped r) z u v = absurd v
tells_alike (ok o) (ok p) (stopped r) y z u v = absurd u
tells_alike (ok o) (refused q) x y z u v = absurd z
tells_alike (refused q) (ok p) x y z u v = absurd z
tells_alike (refused q) (refused r) (stands c b) y z u v = absurd u
tells_alike (refused q) (refused r) (stopped m) (stands d e) z u v = absurd v
tells_alike (refused q) (refused r) (stopped m) (stopped n) z u v = tt

-- both stand with one same object, or both are refused
pub carried-alike : (w : ℕ) (l : List Object) → Room w l → (s t : Way) → Lends w s → Lends w t → Permᴰ (entries s) l → Permᴰ (entries t) l
    → (x y : Ends) → CarriedOut s x → CarriedOut t y → Alike x y
carried-alike w l R s t K L c d x y h i =
    tells_alike (run s) (run t) x y (Demand.one_same w l (list-good l s x c h) R s t K L c d) (carried-tells s x h) (carried-tells t y i)

tells-refused : (u : Outcome Object) (x : Ends) → Tells u x → Stopped x ↔ Refused u
tells-refused (ok o) (stands c b) t = (λ h. h, λ h. h)
tells-refused (ok o) (stopped r) t = absurd t
tells-refused (refused q) (stands c b) t = absurd t
tells-refused (refused q) (stopped r) t = (λ h. h, λ h. h)

-- refused exactly where two entries clash
pub carried-refused : (w : ℕ) (l : List Object) → Room w l → (t : Way) → Lends w t → Permᴰ (entries t) l → (x : Ends) → CarriedOut t x → Stopped x ↔ TwoClash l
carried-refused w l R t L d x h =
    let a = tells-refused (run t) x (carried-tells t x h) in
    let b = Demand.refused-exactly w l (list-good l t x d h) R t L d in
    (λ z. b.0 (a.0 z), λ z. a.1 (b.1 z))

-- THE BUFFERS

laid-alike : (o : Object) (b e : Buffers) → SameContents (layout o b) (layout o e)
unfolding lay_blocks lay_words lay_marks lay_labels lay_relocs lay_names
laid-alike o b e = record {
  blocks = two (head_cells (heads o.blocks)) (length b.blocks) (length e.blocks);
  words = two (map word_of (flat o.blocks)) (length b.words) (length e.words);
  marks = two (map mark_of (flat o.blocks)) (length b.marks) (length e.marks);
  labels = two (label_cells 0 o.labels) (length b.labels) (length e.labels);
  relocs = two (reloc_cells o.labels o.relocs) (length b.relocs) (length e.relocs);
  names = two (name_bytes o.labels) (length b.names) (length e.names);
}
  where
    two : (v : List ℕ) (m n i : ℕ) → get_or (lay v m) i 0 ≡ get_or (lay v n) i 0
    two v m n i = get_or-lay v m i ∙ sym (get_or-lay v n i)

contents-equal : (b e : Buffers) → SameContents b e → SameSizes b e → b ≡ e
contents-equal b e s z =
    let f = ext_get_or 0 b.blocks e.blocks z.blocks (λ i l. s.blocks i) in
    let g = ext_get_or 0 b.words e.words z.words (λ i l. s.words i) in
    let h = ext_get_or 0 b.marks e.marks z.marks (λ i l. s.marks i) in
    let j = ext_get_or 0 b.labels e.labels z.labels (λ i l. s.labels i) in
    let k = ext_get_or 0 b.relocs e.relocs z.relocs (λ i l. s.relocs i) in
    let m = ext_get_or 0 b.names e.names z.names (λ i l. s.names i) in
    λ i. six (f i) (g i) (h i) (j i) (k i) (m i)

module _ (l : List Object) where
  -- what stands is what the entries make, whatever is lent
  pub carried-joins : (t : Way) (c : Counts) (b : Buffers) → Permᴰ (entries t) l → CarriedOut t (stands c b) → Joins l (view c b)
  carried-joins t c b d h = Demand.gives-what-they-make l (list-good l t (stands c b) d h) t d (view c b) (known h).given

  one-view : (s t : Way) (c d : Counts) (b e : Buffers) → Permᴰ (entries s) l → Permᴰ (entries t) l → CarriedOut s (stands c b) → CarriedOut t (stands d e) → view c b ≡ view d e
  one-view s t c d b e p q h i =
      Demand.accepted-alike l (list-good l s (stands c b) p h) s t p q (view c b) (view d e) (known h).given (known i).given

  module _ (m n : ℕ) (s s' t t' : Way) (c d : Counts) (b e : Buffers) (p : Permᴰ (entries (node m s s')) l) (q : Permᴰ (entries (node n t t')) l)
      (h : CarriedOut (node m s s') (stands c b)) (i : CarriedOut (node n t t') (stands d e)) where
    -- two ways that end in a link and stand leave the same in every buffer, whatever is lent;
    pub carried-contents : SameContents b e
    carried-contents =
        let u = carried-laid m s s' c b h in
        let v = carried-laid n t t' d e i in
        let w = u.2 ∙ ap (λ (o : Object). layout o u.0) (one-view (node m s s') (node n t t') c d b e p q h i) in
        subst (λ (y : Buffers). SameContents b y) (sym v.2) (subst (λ (y : Buffers). SameContents y (layout (view d e) v.0)) (sym w) (laid-alike (view d e) u.0 v.0))

    -- equal buffers, where these are of the same lengths
    pub carried-equal : SameSizes b e → b ≡ e
    carried-equal z = contents-equal b e carried-contents z

-- EACH WAY whose entries are lent, and whose links are lent no more words than a buffer can lend, can be carried out

unmeant : rule.Answer → Answer
unmeant a = record {
  number = a.number;
  start = a.first.start;
  end = a.first.stop;
  start2 = a.second.start;
  end2 = a.second.stop;
  blocks = a.counts.blocks;
  words = a.counts.words;
  labels = a.counts.labels;
  relocations = a.counts.relocs;
}

least-low : (m n : ℕ) → m ≤ n → least m n ≡ m
unfolding least when◌then◌else◌
least-low m n l = go (ltb m n) refl
  where
    go : (t : Bool) → ltb m n ≡ t → (when t then m else n) ≡ m
    go true e = refl
    go false e = omega (arith, ltb-false m n e)

lends-room : (room : ℕ) → room ≤ word_room → lent_words (zeros room) (zeros room) ≡ room
unfolding lent_words
lends-room room l = rw length-replicate (rw (least-low room room (omega arith)) (least-low room word_room l))

module _ (room : ℕ) (c d : Counts) (b e : Buffers) (f : short b ≡ false) (g : short e ≡ false) (v : Valid c b) (u : Valid d e) (l : room ≤ word_room) where
  abbrev lent_out : Buffers
  lent_out = six b.blocks (zeros room) (zeros room) b.labels b.relocs b.names

  some-call : (r : Answer) × (x : Buffers) × Call room c b d e r x
  unfolding short unmeant
  some-call =
      let o = link (lent_words (zeros room) (zeros room)) (view c b) (view d e) in (
        unmeant (rule.answer o),
        left_object o lent_out,
        record {
          out = lent_out;
          full = f;
          lends = lends-room room l;
          linked = record { outcome = o; is = on_object (rw (f, g)) (v, u) refl; leaves = record { answer = refl; buffers = refl } };
        },
      )

pub can-carry : (t : Way) → EntriesLent t → Lendable t → (x : Ends) × CarriedOut t x
can-carry (leaf o) E Z = (stands E.0 E.1, subst (λ (p : Object). CarriedOut (leaf p) (stands E.0 E.1)) E.3 (entry E.2))
can-carry (node room s t) E Z = let A = can-carry s E.0 Z.1 in let B = can-carry t E.1 Z.2 in go A.0 A.1 B.0 B.1
  where
    go : (x : Ends) → CarriedOut s x → (y : Ends) → CarriedOut t y → (z : Ends) × CarriedOut (node room s t) z
    go (stopped r) h y i = (stopped r, first_stops h E.1)
    go (stands c b) h (stopped r) i = (stopped r, second_stops h i)
    go (stands c b) h (stands d e) i =
        let A = known h in
        let B = known i in
        let w = some-call room c d b e A.full B.full A.valid B.valid Z.0 in
        elim (ℕ_discrete w.0.number 0) [ yes z ↦ (stands (told w.0) w.1, accepts h i w.2 z) | no z ↦ (stopped w.0, refuses h i w.2 z) ]
