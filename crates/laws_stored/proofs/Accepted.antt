-- Checking bytes is accepting the items that they spell, one after another. Assumes nothing.
use mathlib.Core.Path.{◌≡◌, refl, sym, ◌∙◌, ap}
use mathlib.Core.Bool.{Bool, true, false}
use mathlib.Core.List.{List, [], ◌∷◌, ◌++◌, append_assoc}
use mathlib.Core.Option.{Option, none, some}
use Prim.Native.Nat.{ℕ, zero, suc, ◌+◌, ◌≤◌}
use native.Mathlib.Omega.{arith}
use lib.ListN.{length, take, drop, length-append, drop_of_length-le}
use lib.Dec.{eqb}
use borrow.Author.Tests.{eqb-true, eq-eqb}
use Rattle.rules.specs.Base.{Outcome, ok, refused, Refusal}
use Rattle.rules.specs.Objects.{Object}
use Rattle.rules.specs.Stored.{Item, tag_of, content, frame, spell, meant, Field, over, cut_short, field, field_at, State, held, may, next, is_fin, broken, ended, judged, read_from}
use Rattle.rules.proofs.Bools.{never}
use Rattle.rules.proofs.Tables.{none-some}
use Rattle.laws_stored.proofs.Framed.{Bytes, meant-content, content-meant, field-written, Extent, field-extent, field-frame, field-bytes, take-field}

-- ITEMS, as fields are checked

abbrev pub closing : State → List Item → Option Object
closing s [] = some (held s)
closing s (i ∷ is) = none

unfoldable pub accept : State → List Item → Option Object
accept s [] = none
accept s (i ∷ is) = judged (may s i) (is_fin i) none (closing s is) (accept (next s i) is)

-- ONE FIELD

-- the field there says an item, and the next begins at z
pub record Finds (b : List ℕ) (at : ℕ) (i : Item) (z : ℕ) : Type 0 where
  pub tag : ℕ
  pub body : List ℕ
  pub there : field_at b at ≡ field tag body z
  pub says : meant tag body ≡ some i

-- the field there says nothing
pub record Mute (b : List ℕ) (at : ℕ) : Type 0 where
  pub tag : ℕ
  pub body : List ℕ
  pub after : ℕ
  pub there : field_at b at ≡ field tag body after
  pub says : meant tag body ≡ none

-- what a reader meets at a position
pub data Met (b : List ℕ) (at : ℕ) : Type 0 where
  missing : field_at b at ≡ over → Met b at
  halved : field_at b at ≡ cut_short → Met b at
  mute : Mute b at → Met b at
  finds : (i : Item) (z : ℕ) → Finds b at i z → Met b at

pub met : (b : List ℕ) (at : ℕ) → Met b at
met b at = go (field_at b at) refl
  where
    says : (t : ℕ) (c : List ℕ) (z : ℕ) → field_at b at ≡ field t c z → (x : Option Item) → meant t c ≡ x → Met b at
    says t c z d none m = mute (record { tag = t; body = c; after = z; there = d; says = m })
    says t c z d (some i) m = finds i z (record { tag = t; body = c; there = d; says = m })

    go : (f : Field) → field_at b at ≡ f → Met b at
    go over d = missing d
    go cut_short d = halved d
    go (field t c z) d = says t c z d (meant t c) refl

-- where an item that is found ends, and its bytes
pub found-extent : (b : List ℕ) (at : ℕ) (i : Item) (z : ℕ) (f : Finds b at i z) → Extent b at f.body z
found-extent b at i z f = field-extent b at f.tag f.body z f.there

pub found-spelled : (b : List ℕ) (at : ℕ) (i : Item) (z : ℕ) → Bytes b → Finds b at i z → drop at b ≡ frame (tag_of i) (content i) ++ drop z b
found-spelled b at i z v f =
    let u = content-meant f.tag f.body i (field-bytes b at f.tag f.body z v f.there) f.says in
    field-frame b at f.tag f.body z v f.there ∙ rw (u.tag, u.body) refl

pub found-taken : (b : List ℕ) (at : ℕ) (i : Item) (z : ℕ) → Bytes b → Finds b at i z → take z b ≡ take at b ++ frame (tag_of i) (content i)
found-taken b at i z v f =
    let u = content-meant f.tag f.body i (field-bytes b at f.tag f.body z v f.there) f.says in
    take-field b at f.tag f.body z v f.there ∙ rw (u.tag, u.body) refl

pub read-over : (b : List ℕ) (k : ℕ) (s : State) (at : ℕ) → field_at b at ≡ over → read_from b k s at ≡ broken at
unfolding read_from
read-over b zero s at e = refl
read-over b (suc k) s at e = rw (e, read_from) refl

pub read_short : (b : List ℕ) (k : ℕ) (s : State) (at : ℕ) → field_at b at ≡ cut_short → read_from b k s at ≡ broken at
unfolding read_from
read_short b zero s at e = refl
read_short b (suc k) s at e = rw (e, read_from) refl

pub read_none : (b : List ℕ) (s : State) (at : ℕ) → read_from b 0 s at ≡ broken at
unfolding read_from
read_none b s at = refl

pub read-mute : (b : List ℕ) (k : ℕ) (s : State) (at : ℕ) → Mute b at → read_from b k s at ≡ broken at
unfolding read_from
read-mute b zero s at m = refl
read-mute b (suc k) s at m = rw (m.there, read_from) (rw m.says refl)

pub read-item : (b : List ℕ) (k : ℕ) (s : State) (at : ℕ) (i : Item) (z : ℕ) → Finds b at i z
    → read_from b (suc k) s at ≡ judged (may s i) (is_fin i) (broken at) (ended (eqb z (length b)) s z) (read_from b k (next s i) z)
unfolding read_from
read-item b k s at i z f = rw (f.there, read_from) (rw f.says refl)

-- an item written behind other bytes is found there
pub found-written : (x : List ℕ) (i : Item) (y : List ℕ) → Finds (x ++ (frame (tag_of i) (content i) ++ y)) (length x) i (length x + 3 + length (content i))
found-written x i y = record { tag = tag_of i; body = content i; there = field-written x (tag_of i) (content i) y; says = meant-content i }

-- ITEMS ACCEPTED ARE READ FROM THEIR BYTES

pub accept-read : (k : ℕ) (s : State) (x : List ℕ) (is : List Item) (o : Object) → length (spell is) ≤ k → accept s is ≡ some o → read_from (x ++ spell is) k s (length x) ≡ ok o
unfolding accept
accept-read zero s x [] o l e = absurd (none-some e)
accept-read zero s x (i ∷ is) o l e = absurd (omega arith)
accept-read (suc k) s x [] o l e = absurd (none-some e)
accept-read (suc k) s x (i ∷ is) o l e =
    let f = frame (tag_of i) (content i) in
    let z = length x + 3 + length (content i) in
    let p : length (x ++ f) ≡ z = omega (arith, length-append x f) in
    let q : (x ++ f) ++ spell is ≡ x ++ (f ++ spell is) = append_assoc x f (spell is) in
    let n : length (x ++ (f ++ spell is)) ≡ z + length (spell is) = omega (arith, length-append x (f ++ spell is), length-append (content i) (spell is)) in
    read-item (x ++ (f ++ spell is)) k s (length x) i z (found-written x i (spell is))
    ∙ go (may s i) (is_fin i) is (x ++ (f ++ spell is)) (length x) z n e
    (λ a. rw (p, q) at (accept-read k (next s i) (x ++ f) is o (omega (arith, length-append (content i) (spell is))) a))
  where
    go : (m f : Bool) (js : List Item) (b : List ℕ) (at z : ℕ) → length b ≡ z + length (spell js) → judged m f none (closing s js) (accept (next s i) js) ≡ some o
        → (accept (next s i) js ≡ some o → read_from b k (next s i) z ≡ ok o)
        → judged m f (broken at) (ended (eqb z (length b)) s z) (read_from b k (next s i) z) ≡ ok o
    go false f js b at z n a h = absurd (none-some a)
    go true true [] b at z n a h = let y : held s ≡ o = cc in rw (eq-eqb z (length b) (omega arith)) (ap ok y)
    go true true (j ∷ js) b at z n a h = absurd (none-some a)
    go true false js b at z n a h = h a

-- BYTES READ ARE THOSE OF ITEMS ACCEPTED

no_ok : {A : Type 0} {r : Refusal} {a : A} → ◌≡◌ {A = Outcome A} (refused r) (ok a) → ⊥
no_ok e = never cc

pub record Spelled (b : List ℕ) (s : State) (at : ℕ) (o : Object) : Type 0 where
  pub items : List Item
  pub bytes : drop at b ≡ spell items
  pub taken : accept s items ≡ some o

-- a field that is taken spells its item
spelled-item : (b : List ℕ) (k : ℕ) (s : State) (at : ℕ) (o : Object) (i : Item) (z : ℕ) → Bytes b → Finds b at i z
    → (m : Bool) → may s i ≡ m → (f : Bool) → is_fin i ≡ f → (x : Bool) → eqb z (length b) ≡ x → judged m f (broken at) (ended x s z) (read_from b k (next s i) z) ≡ ok o
    → (read_from b k (next s i) z ≡ ok o → Spelled b (next s i) z o) → Spelled b s at o
unfolding accept
spelled-item b k s at o i z v d false p f r x y a h = absurd (no_ok a)
spelled-item b k s at o i z v d true p true r false y a h = absurd (no_ok a)
spelled-item b k s at o i z v d true p true r true y a h =
    let o' : held s ≡ o = cc in
    let l : length b ≤ z = omega (arith, eqb-true z (length b) y) in
    record { items = i ∷ []; bytes = found-spelled b at i z v d ∙ ap (λ (u : List ℕ). frame (tag_of i) (content i) ++ u) (drop_of_length-le b l); taken = rw (p, r) (ap some o') }
spelled-item b k s at o i z v d true p false r x y a h =
    let w = h a in
    record { items = i ∷ w.items; bytes = found-spelled b at i z v d ∙ ap (λ (u : List ℕ). frame (tag_of i) (content i) ++ u) w.bytes; taken = rw (p, r) w.taken }

pub read-accept : (b : List ℕ) (k : ℕ) (s : State) (at : ℕ) (o : Object) → Bytes b → read_from b k s at ≡ ok o → Spelled b s at o
read-accept b zero s at o v e = absurd (no_ok (sym (read_none b s at) ∙ e))
read-accept b (suc k) s at o v e = go (met b at) (λ n z. read-accept b k n z o v)
  where
    go : Met b at → ((n : State) (y : ℕ) → read_from b k n y ≡ ok o → Spelled b n y o) → Spelled b s at o
    go (missing d) h = absurd (no_ok (sym (read-over b (suc k) s at d) ∙ e))
    go (halved d) h = absurd (no_ok (sym (read_short b (suc k) s at d) ∙ e))
    go (mute d) h = absurd (no_ok (sym (read-mute b (suc k) s at d) ∙ e))
    go (finds i z d) h = spelled-item b k s at o i z v d (may s i) refl (is_fin i) refl (eqb z (length b)) refl (sym (read-item b k s at i z d) ∙ e) (h (next s i) z)
