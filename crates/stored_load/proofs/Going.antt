-- What the loop over fields keeps, and each way through its body. Assumes nothing.
use Rattle.std.specs.Prelude.{Ok, Err}
use mathlib.Core.Path.{◌≡◌, refl, ◌∙◌, ap}
use mathlib.Core.Bool.{false}
use mathlib.Core.List.{List}
use Prim.Native.Nat.{ℕ, ◌-◌, ◌≤◌, ◌<◌}
use native.Mathlib.Omega.{arith}
use lib.ListN.{length}
use Rattle.rules.specs.Base.{refuse, offset_at}
use Rattle.rules.specs.Objects as Objects
use Rattle.rules.specs.Buffers.{Buffers, six, short, lent_words}
use Rattle.rules.specs.Stored.{State, begin, held, next, check}
use Rattle.rules.proofs.Bools.{never}
use Rattle.rules.proofs.Fits.{long}
use Rattle.laws_stored.specs.Beginnings.{AreBytes}
use Rattle.object.specs.declared.Counts.{Counts}
use Rattle.stored_walk.specs.declared.Walk.{Walk}
use Rattle.stored_walk.specs.declared.Walked.{Walked}
use Rattle.stored_walk.specs.declared.Walked.TheVariants.{On, Ended, Broken}
use Rattle.stored_walk.specs.Walking.{begun, Tells, Going, Onward, Whole, Steps}
use Rattle.stored_walk.proofs.Starting.{tells-start, step-further, step-within}
use Rattle.stored_put.specs.Laid.{Laid, Meets, Met, Puts}
use Rattle.stored_put.proofs.Growing.{laid-begin, laid-whole}
use Rattle.stored_put.proofs.Meeting.{words-rise}
use Rattle.stored_put_labels.specs.Putting.{Roomy, PutRun}
use Rattle.stored_load.specs.Filling.{Lengths, Fitting, PutFitting, Fillable, Fills, Came}

-- A FIELD THAT FITS, OR NOT

pub fitting-met : {b : List ℕ} {w r : Walk} {room : ℕ} {x : Buffers} → Fitting b w r room x → r.words ≤ room → Met b w r x
fitting-met f h = f.met h

pub fitting-put : {b : List ℕ} {w r : Walk} {room : ℕ} {x y : Buffers} → Puts b w r x y → PutFitting b w r room x y
fitting-put p = record { puts = λ h. p }

pub fitting-not : {b : List ℕ} {w r : Walk} {room : ℕ} {x y : Buffers} → room < r.words → PutFitting b w r room x y
fitting-not l = record { puts = λ h. absurd (omega arith) }

-- THE LOOP

-- the walk tells what was read, and as long as its words fit it stands in the buffers
pub record Filling (b noted places : List ℕ) (room : ℕ) (out x : Buffers) (w : Walk) : Type 0 where
  pub state : State
  pub tells : Tells b places w state
  pub full : short out ≡ false
  pub lent : room ≡ lent_words out.words out.marks
  pub laid : w.words ≤ room → Laid state out x
  pub noting : length places ≡ length noted
  pub lengths : Lengths out x

pub filling-none : {b places : List ℕ} {room : ℕ} {x : Buffers} {w : Walk} → Fillable places room x → AreBytes b → w ≡ begun → Filling b places places room x x w
filling-none {b} {places} {x = x} f v e = rw e (record {
  state = begin;
  tells = tells-start b places v f.noting;
  full = f.lent.full;
  lent = f.lent.words;
  laid = λ h. laid-begin x x f.clear;
  noting = refl;
  lengths = record { blocks = refl; words = refl; marks = refl; labels = refl; relocs = refl; names = refl };
})

-- the labels behind a field
module _ {b noted places : List ℕ} {room : ℕ} {out : Buffers} {bs ws ms ls rs ns : List ℕ} {w : Walk} (f : Filling b noted places room out (six bs ws ms ls rs ns) w) where
  pub filling-roomy : {ls' ns' : List ℕ} → length ls' ≡ length ls → length ns' ≡ length ns → Roomy ls' ns'
  filling-roomy dl dn = let l = long out f.full in record { rows = omega (arith, l.labels, f.lengths.labels); bytes = omega (arith, l.names, f.lengths.names) }

  pub filling-run : {after ls' ns' : List ℕ} {u : Walk} → PutRun b places after w u room ls ns ls' ns' → length ls' ≡ length ls → length ns' ≡ length ns → Filling b noted after room out (six bs ws ms ls' rs ns') u
  filling-run p dl dn =
      let o = p.runs f.state f.tells in
      record {
        state = o.state;
        tells = o.tells;
        full = f.full;
        lent = f.lent;
        laid = λ h. (let k : w.words ≤ room = omega (arith, p.words) in o.laid out bs ws ms rs f.full f.lent k (f.laid k));
        noting = p.size ∙ f.noting;
        lengths = record {
          blocks = f.lengths.blocks;
          words = f.lengths.words;
          marks = f.lengths.marks;
          labels = dl ∙ f.lengths.labels;
          relocs = f.lengths.relocs;
          names = dn ∙ f.lengths.names;
        };
      }

module _ {b noted places : List ℕ} {room : ℕ} {out : Buffers} {bs ws ms ls rs ns : List ℕ} {w : Walk} (f : Filling b noted places room out (six bs ws ms ls rs ns) w) where
  module _ (after : List ℕ) (r : Walked) (m : (length after ≡ length places) × ((s : State) → Tells b places w s → Steps b after w s r)) where
    -- a field that may follow
    module _ {n : Walk} (e : r ≡ On n) where
      onward : Onward b after w f.state n
      unfolding Steps
      onward = rw e at (m.1 f.state f.tells)

      -- it lies behind the last, and so do the labels behind it
      pub filling-less : (k : ℕ) → n.at ≤ k → length b - k < length b - w.at
      filling-less k l = omega (arith, step-further b after w f.state n onward, step-within b after w f.state n onward)

      meets : n.words ≤ room → Meets b places after w f.state n out (six bs ws ms ls rs ns)
      meets h = record { tells = f.tells; onward = onward; laid = f.laid (omega (arith, words-rise f.tells onward)); full = f.full; room = rw f.lent at h }

      pub filling-fits : Fitting b w n room (six bs ws ms ls rs ns)
      filling-fits = record { met = λ h. record { places = places; places' = after; state = f.state; out = out; meets = meets h } }

      pub filling-more : {bs' ws' ms' ls' rs' ns' : List ℕ} → PutFitting b w n room (six bs ws ms ls rs ns) (six bs' ws' ms' ls' rs' ns')
          → length bs' ≡ length bs → length ws' ≡ length ws → length ms' ≡ length ms → length ls' ≡ length ls → length rs' ≡ length rs → length ns' ≡ length ns
          → Filling b noted after room out (six bs' ws' ms' ls' rs' ns') n
      unfolding meets
      filling-more p db dw dm dl dr dn = record {
        state = next f.state onward.item;
        tells = onward.tells;
        full = f.full;
        lent = f.lent;
        laid = λ h. (p.puts h).laid places after f.state out (meets h);
        noting = m.0 ∙ f.noting;
        lengths = record {
          blocks = db ∙ f.lengths.blocks;
          words = dw ∙ f.lengths.words;
          marks = dm ∙ f.lengths.marks;
          labels = dl ∙ f.lengths.labels;
          relocs = dr ∙ f.lengths.relocs;
          names = dn ∙ f.lengths.names;
        };
      }

      -- behind it labels may follow
      pub filling-next : Going b after n
      filling-next = record { state = next f.state onward.item; tells = onward.tells }

      -- and are put
      pub filling-both : {bs' ws' ms' ls' rs' ns' : List ℕ} → PutFitting b w n room (six bs ws ms ls rs ns) (six bs' ws' ms' ls' rs' ns')
          → length bs' ≡ length bs → length ws' ≡ length ws → length ms' ≡ length ms → length ls' ≡ length ls → length rs' ≡ length rs → length ns' ≡ length ns
          → {last ls'' ns'' : List ℕ} {u : Walk} → PutRun b after last n u room ls' ns' ls'' ns'' → length ls'' ≡ length ls' → length ns'' ≡ length ns'
          → Filling b noted last room out (six bs' ws' ms' ls'' rs' ns'') u
      filling-both p db dw dm dl dr dn q el en = filling-run (filling-more p db dw dm dl dr dn) q el en

    -- the end
    module _ {c : Counts} (e : r ≡ Ended c) where
      whole : Whole b f.state c
      unfolding Steps
      whole = rw e at (m.1 f.state f.tells)

      fits : c.words ≤ room → w.words ≤ room
      fits h =
          let s = f.state in
          let k = ap (λ (d : Objects.Counts). d.words) whole.counted in
          let z = f.tells.words in
          let q = f.tells.shut whole.closed in
          omega (arith, k, rw q at z)

      fills : Fills b room out (six bs ws ms ls rs ns) c
      fills = record {
        object = held f.state;
        checked = whole.checked;
        counted = whole.counted;
        laid = λ h. laid-whole f.state out (six bs ws ms ls rs ns) (f.laid (fits h)) whole.closed (f.tells.shut whole.closed);
      }

      pub filling-whole : Came b room out (six bs ws ms ls rs ns) (Ok c)
      filling-whole = record { lengths = f.lengths; filled = λ d q. (let z : c ≡ d = cc in rw (← z) fills); broken = λ k q. never cc }

    -- 50
    pub filling-broken : {k : ℕ} → r ≡ Broken k → Came b room out (six bs ws ms ls rs ns) (Err k)
    unfolding Steps
    filling-broken {k} e =
        let h : check b ≡ refuse 50 (offset_at k) = rw e at (m.1 f.state f.tells) in
        record { lengths = f.lengths; filled = λ c q. never cc; broken = λ j q. (let z : k ≡ j = cc in rw (← z) h) }
