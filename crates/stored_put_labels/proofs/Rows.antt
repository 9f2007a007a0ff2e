-- The loop that puts labels: what it keeps, and each way through its body. Assumes nothing.
use mathlib.Core.Path.{◌≡◌, refl, ◌∙◌}
use mathlib.Core.List.{List}
use mathlib.Core.Logic.{⊎_elim}
use Prim.Native.Nat.{ℕ, ◌+◌, ◌-◌, ◌≤◌, ◌<◌}
use native.Mathlib.Omega.{arith}
use lib.ListN.{length, get_or, set}
use Rattle.rules.specs.Buffers.{six}
use Rattle.rules.specs.Stored.{State, next}
use Rattle.laws_stored.specs.Offsets.{number_at, part_at}
use Rattle.stored_walk.specs.declared.Walk.{Walk}
use Rattle.stored_walk.specs.Walking.{Tells, Going}
use Rattle.stored_walk.specs.Behind.{NamedAt}
use Rattle.stored_put.specs.Laid.{Puts, LabelRoom, Labelled}
use Rattle.stored_put.proofs.Meeting.{puts-defined, puts-external}
use Rattle.stored_run.specs.Following.{behind_labels, name_start, LabelEnds}
use Rattle.stored_run.proofs.Names.{start-defined, start-other, named-there}
use Rattle.stored_run.proofs.Running.{Running, tells_none, name-none, running_none, running-low, running_more, one_on, next_last}
use Rattle.stored_put_labels.specs.Putting.{PutNamed, Roomy, RunsOn, PutRun}

-- A FIELD, by its tag

module _ {b : List ℕ} {at end : ℕ} (p : NamedAt b at (name_start b at) end) where
  pub head_in : at + 3 ≤ length b
  head_in = named-there p

  pub head-low : at < length b
  head-low = omega (arith, head_in)

  pub address-in : get_or b at 0 ≡ 4 → at + 3 + 2 ≤ length b
  address-in e = omega (arith, start-defined b at e, p.order, p.within)

  module _ {ls ns : List ℕ} {k m : ℕ} (r : LabelRoom ls ns k m (end - name_start b at)) where
    pub defined-room : get_or b at 0 ≡ 4 → LabelRoom ls ns k m (end - (at + 3 + 2))
    defined-room e = rw (start-defined b at e) r

    pub external-room : (get_or b at 0 ≡ 4 → ⊥) → LabelRoom ls ns k m (end - (at + 3))
    external-room e = rw (start-other b at e) r

module _ {b : List ℕ} {at end : ℕ} {ls ns ls' ns' : List ℕ} {k m : ℕ} where
  pub put-defined : get_or b at 0 ≡ 4 → Labelled ls ns ls' ns' k m (number_at b (at + 3)) 0 (part_at b (at + 3 + 2) (end - (at + 3 + 2))) → PutNamed b at end ls ns ls' ns' k m
  put-defined e p = record { defined = λ h. p; external = λ h. absurd (omega arith) }

  pub put-external : (get_or b at 0 ≡ 4 → ⊥) → Labelled ls ns ls' ns' k m 0 1 (part_at b (at + 3) (end - (at + 3))) → PutNamed b at end ls ns ls' ns' k m
  put-external e p = record { defined = λ h. absurd (e h); external = λ h. p }

-- WHAT THE LOOP KEEPS: the walk tells what was read, and from whatever state it began, what was read stands in the buffers

pub record Behind (b places : List ℕ) (w : Walk) (room last at n m : ℕ) (s : State) (ls₀ ns₀ ls ns : List ℕ) : Type 0 where
  pub on : RunsOn b places w (behind_labels w at n m) room s ls₀ ns₀ ls ns
  pub name : on.state.last ≡ part_at b last (at - last)

pub record Putting (b old places : List ℕ) (w : Walk) (room last at n m : ℕ) (ls₀ ns₀ ls ns : List ℕ) : Type 0 where
  pub running : Running b old places w last at n m
  pub roomy : Roomy ls ns
  pub same_rows : length ls ≡ length ls₀
  pub same_bytes : length ns ≡ length ns₀
  pub behind : (s : State) → Tells b old w s → Behind b places w room last at n m s ls₀ ns₀ ls ns

pub putting-none : {b places : List ℕ} {w : Walk} {room : ℕ} {ls ns : List ℕ} → Going b places w → (w.labels ≡ 0) × (w.owed ≡ 0) × (w.relocations ≡ 0) → Roomy ls ns → Putting b places places w room w.at w.at 0 0 ls ns ls ns
putting-none {b} {places} {w} g z y = record {
  running = running_none g z;
  roomy = y;
  same_rows = refl;
  same_bytes = refl;
  behind = λ s t. record { on = record { state = s; tells = tells_none t z; laid = λ out bs ws ms rs q e h x. x }; name = name-none t z };
}

module _ {b old places : List ℕ} {w : Walk} {room last at n m : ℕ} {ls₀ ns₀ ls ns : List ℕ} (f : Putting b old places w room last at n m ls₀ ns₀ ls ns) where
  pub putting-stop : {r : Walk} → r ≡ behind_labels w at n m → PutRun b old places w r room ls₀ ns₀ ls ns
  putting-stop e = rw e (record { size = f.running.size; further = f.running.further; words = refl; runs = λ s t. (f.behind s t).on })

  module _ {end : ℕ} (u : LabelEnds b last at end) (d : end ≡ at → ⊥) (l : n < 1024) where
    pub putting-named : NamedAt b at (name_start b at) end
    putting-named = u.named d

    pub putting-room : LabelRoom ls ns n m (end - name_start b at)
    putting-room = let h = running-low f.running u d refl l in record { row = omega (arith, f.roomy.rows); place = omega (arith, f.roomy.bytes); small = h }

    module _ {ls' ns' : List ℕ} (p : PutNamed b at end ls ns ls' ns' n m) where
      puts : (bs ws ms rs : List ℕ) → Puts b (behind_labels w at n m) (behind_labels w end (n + 1) (m + (end - name_start b at))) (six bs ws ms ls rs ns) (six bs ws ms ls' rs ns')
      puts bs ws ms rs = ⊎_elim (λ e. puts-defined e (p.defined e)) (λ e. puts-external e (p.external e)) (u.tag d)

      further : (s : State) → Tells b old w s → Behind b (set places n at) w room (name_start b at) end (n + 1) (m + (end - name_start b at)) s ls₀ ns₀ ls' ns'
      further s t =
          let r = f.behind s t in
          let o = one_on w r.on.tells r.name f.running.owed f.running.relocs l u d in
          record {
            on = record {
              state = next r.on.state o.item;
              tells = o.tells;
              laid = λ out bs ws ms rs q e h x. (puts bs ws ms rs).laid places (set places n at) r.on.state out
                  (record { tells = r.on.tells; onward = o; laid = r.on.laid out bs ws ms rs q e h x; full = q; room = rw e at h });
            };
            name = next_last w r.on.tells r.name f.running.owed f.running.relocs l u d;
          }

      pub putting-more : {start : ℕ} → start ≡ name_start b at → length ls' ≡ length ls → length ns' ≡ length ns → Putting b old (set places n at) w room start end (n + 1) (m + (end - start)) ls₀ ns₀ ls' ns'
      putting-more h x y = rw h (record {
        running = running_more f.running u d refl l;
        roomy = record { rows = omega (arith, f.roomy.rows); bytes = omega (arith, f.roomy.bytes) };
        same_rows = x ∙ f.same_rows;
        same_bytes = y ∙ f.same_bytes;
        behind = further;
      })

-- where no label is put
pub put-none : {b places : List ℕ} {w : Walk} {room : ℕ} {ls ns : List ℕ} → PutRun b places places w w room ls ns ls ns
put-none = record { size = refl; further = omega arith; words = refl; runs = λ s t. record { state = s; tells = t; laid = λ out bs ws ms rs q e h x. x } }
