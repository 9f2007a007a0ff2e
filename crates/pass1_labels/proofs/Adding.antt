-- What each way through `add_label` and `add_labels` shows. Assumes nothing.
use Rattle.std.specs.declared.result.Result.{Result}
use Rattle.std.specs.declared.result.Result.TheVariants.{Ok, Err}
use mathlib.Core.Path.{◌≡◌, refl, sym, ◌∙◌, ap}
use mathlib.Core.Option.{Option, none, some}
use mathlib.Core.List.{List, [], ◌∷◌}
use Prim.Native.Nat.{ℕ, ◌+◌, ◌-◌, ◌≤◌, ◌<◌}
use native.Mathlib.Omega.{arith}
use lib.ListN.{length}
use Rattle.rules.specs.Base.{Outcome, ok, ◌>>=◌, Span, span}
use Rattle.rules.specs.Tables.{Table}
use Rattle.rules.specs.Objects.{defined}
use Rattle.rules.specs.Objects as objects
use Rattle.rules.specs.Statements.{Name, name_at, past_lines, past_label, labels_at}
use Rattle.rules.specs.Passes.{Symbol, add_label, add_labels}
use Rattle.rules.specs.Buffers.{lab_from}
use Rattle.rules.proofs.Ahead.{label-in, names-on, names-done}
use Rattle.rules.proofs.Bools.{never}
use Rattle.base_refusals.specs.Refusals.{refusal_at}
use Rattle.base_refusals.specs.declared.Refusal.{Refusal}
use Rattle.parse_labels.specs.Names.{name_from, name_between}
use Rattle.parse_labels.specs.Walk.{label_from, labelled, Heads}
use Rattle.parse_labels.specs.declared.NextLabel.{NextLabel}
use Rattle.parse_labels.specs.declared.NextLabel.TheVariants.{Label, Done}
use Rattle.pass1_symbols.specs.Symbols.{symbols}
use Rattle.pass1_symbols.specs.Adding.{named_at, outcome, Ready, Adding}
use Rattle.pass1_symbols.specs.declared.AddErr.{AddErr}
use Rattle.pass1_symbols.specs.declared.AddErr.TheVariants as unadded
use Rattle.pass1_labels.specs.Naming.{told, NamesReady, NameReady, NameAdded, NamesAdded}
use Rattle.parse_labels.proofs.Texts.{name-stands}
use Rattle.parse_labels.proofs.Before.{heads-on}

refused-no : {A : Type 0} {f : Refusal} {m : ℕ} → Err f ≡ Ok m → A
refused-no q = never cc

-- ONE NAME
module _ (rs src : List ℕ) (n a f b e : ℕ) (v : NameReady rs src n a f b e) where
  pub from-small : b ≤ 262144
  from-small = omega (arith, v.size, v.row.place)

  pub size_small : e - b ≤ 262144
  size_small = omega (arith, v.row.small)

  module _ (s l : ℕ) (x : s ≡ b) (y : l ≡ e - b) where
    pub ready : Ready rs src n a f s l
    ready = record { table = v.table; row = rw (x, y) v.row }

    name-same : named_at src s l ≡ name_between src b e
    name-same = let z : b + (e - b) ≡ e = omega (arith, v.rising) in rw (x, y, z)

    module _ (rs' : List ℕ) (r : Result ℕ AddErr) (h : Adding rs src rs' n a f s l r) (st en : ℕ) where
      ruled : outcome rs src rs' s l (span st en) r ≡ add_label (lab_from a f) (span st en) (name_between src b e) (symbols n rs src)
      ruled = h.rule (span st en) ∙ ap (λ (m : Name). add_label (lab_from a f) (span st en) m (symbols n rs src)) name-same

      pub name-held : (m : ℕ) → r ≡ Ok m → NameAdded rs src rs' n a f b e (span st en) (Ok m)
      name-held m q = record {
        rule = sym (ap (outcome rs src rs' s l (span st en)) q) ∙ ruled;
        table = λ k z. (let w : m ≡ k = cc in rw w at (h.table m q));
      }

      pub name-full : r ≡ Err unadded.Full → NameAdded rs src rs' n a f b e (span st en) (Err (refusal_at 40 st en))
      name-full q = record {
        rule = sym (ap (outcome rs src rs' s l (span st en)) q) ∙ ruled;
        table = λ m y. refused-no y;
      }

-- ALL LABELS

-- the labels from i on are left, for a table that has those before, and then the same statement
pub record Going (rs₀ src rs : List ℕ) (at n a : ℕ) (p : Span) (i held : ℕ) : Type 0 where
  pub same : add_labels a p (labels_at src at) (symbols n rs₀ src) ≡ add_labels a p (labels_at src i) (symbols held rs src)
  pub ready : NamesReady rs src held a
  pub long : length rs ≡ length rs₀
  pub heads : Heads src i p.start

-- the label that is met
pub record Met (s : List ℕ) (i b e j : ℕ) : Type 0 where
  pub named : name_at s (past_lines s i) ≡ some (name_between s b e)
  pub rising : b ≤ e
  pub within : e ≤ length s
  pub small : e - b ≤ 64
  pub onward : j ≡ past_label s i

pub met : (s : List ℕ) (i : ℕ) (x : NextLabel) (b e j : ℕ) → x ≡ label_from s i → x ≡ Label b e j → Met s i b e j
unfolding label_from labelled
met s i x b e j h q = go (name_at s (past_lines s i)) refl (sym h ∙ q)
  where
    go : (o : Option Name) → name_at s (past_lines s i) ≡ o → labelled o (past_label s i) ≡ Label b e j → Met s i b e j
    go none f z = never cc
    go (some m) f z =
        let y : m.place.start ≡ b = cc in
        let w : m.place.stop ≡ e = cc in
        let k : past_label s i ≡ j = cc in
        let g = name-stands s (past_lines s i) m f in
        let t : m.text ≡ name_from s b (e - b) = rw (y, w) at g.stands.same in
        let d : m ≡ name_between s b e = λ c. record { text = t c; place = record { start = y c; stop = w c } } in
        record {
          named = f ∙ ap (λ (v : Name). some v) d;
          rising = omega (arith, g.stands.rising);
          within = omega (arith, g.stands.within);
          small = omega (arith, g.small);
          onward = sym k;
        }

pub unmet : (s : List ℕ) (i : ℕ) (x : NextLabel) → x ≡ label_from s i → x ≡ Done → name_at s (past_lines s i) ≡ none
unfolding label_from labelled
unmet s i x h q = go (name_at s (past_lines s i)) refl (sym h ∙ q)
  where
    go : (o : Option Name) → name_at s (past_lines s i) ≡ o → labelled o (past_label s i) ≡ Done → name_at s (past_lines s i) ≡ none
    go none f z = f
    go (some m) f z = never cc

one_more : (a : ℕ) (p : Span) (m : Name) (ms : List Name) (ss : Table objects.Name Symbol) → add_labels a p (m ∷ ms) ss ≡ (add_label (defined a) p m ss >>= add_labels a p ms)
unfolding add_labels
one_more a p m ms ss = refl

no_more : (a : ℕ) (p : Span) (ss : Table objects.Name Symbol) → add_labels a p [] ss ≡ ok ss
unfolding add_labels
no_more a p ss = refl

module _ (rs₀ src rs : List ℕ) (at n a : ℕ) (p : Span) (i held : ℕ) (g : Going rs₀ src rs at n a p i held) (x : NextLabel) (h : x ≡ label_from src i) where
  module _ (b e j : ℕ) (q : x ≡ Label b e j) where
    it : Met src i b e j
    it = met src i x b e j h q

    pub going-ready : NameReady rs src held a 0 b e
    going-ready = let u = it in record {
      table = g.ready.table;
      size = g.ready.size;
      rising = u.rising;
      row = record { address = g.ready.address; flag = omega arith; outside = λ z. absurd (omega arith); place = omega (arith, u.rising, u.within); small = u.small };
    }

    pub going_less : length src - j < length src - i
    going_less = let u = it in let w = label-in src i _ u.named in omega (arith, u.onward, w.0, w.1)

    module _ (rs' : List ℕ) (r : Result ℕ Refusal) (k : NameAdded rs src rs' held a 0 b e p r) where
      rest : (told rs' src r >>= add_labels a p (labels_at src j)) ≡ add_labels a p (labels_at src at) (symbols n rs₀ src)
      rest =
          let u = it in
          ap (λ (o : Outcome (Table objects.Name Symbol)). o >>= add_labels a p (labels_at src j)) k.rule
          ∙ (sym (one_more a p (name_between src b e) (labels_at src j) (symbols held rs src))
          ∙ (ap (λ (l : List Name). add_labels a p l (symbols held rs src)) (rw u.onward (sym (names-on src i (name_between src b e) u.named))) ∙ sym g.same))

      pub going_on : (m : ℕ) → r ≡ Ok m → length rs' ≡ length rs → Going rs₀ src rs' at n a p j m
      going_on m z l = record {
        same = sym (sym (ap (λ (y : Result ℕ Refusal). told rs' src y >>= add_labels a p (labels_at src j)) z) ∙ rest);
        ready = record { table = k.table m z; size = g.ready.size; address = g.ready.address };
        long = l ∙ g.long;
        heads = let u = it in rw u.onward (heads-on src i p.start (name_between src b e) u.named g.heads);
      }

      pub going-refused : (f : Refusal) → r ≡ Err f → NamesAdded rs₀ src rs' at n a p r
      going-refused f z = record {
        rule = ap (told rs' src) z ∙ (sym (ap (λ (y : Result ℕ Refusal). told rs' src y >>= add_labels a p (labels_at src j)) z) ∙ rest);
        table = k.table;
      }

  pub going_done : x ≡ Done → NamesAdded rs₀ src rs at n a p (Ok held)
  going_done q = record {
    rule = sym (g.same ∙ (ap (λ (l : List Name). add_labels a p l (symbols held rs src)) (names-done src i (unmet src i x h q)) ∙ no_more a p (symbols held rs src)));
    table = λ m z. (let y : held ≡ m = cc in rw y at g.ready.table);
  }
