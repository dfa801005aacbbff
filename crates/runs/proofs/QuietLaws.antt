-- A call that moves no cell and is no slot: a refused one, or a load.
use Prim.Native.Nat.{ℕ, ◌<◌}
use mathlib.Core.Path.{◌≡◌, refl}
use mathlib.Core.List.{List, [], append-nil}
use native.Mathlib.Omega.{arith}
use Rattle.plan.specs.Range.{most_ports}
use Rattle.side.proofs.ListLaws.{get_d_repeated}
use Rattle.refusal.specs.declared.Refusal.{Refusal}
use Rattle.std.specs.Prelude.{Err}
use Rattle.plan.specs.declared.Plan.{Plan}
use Rattle.crossbar.specs.Load.{with_plans}
use Rattle.fabric.specs.Answer.{all_idle}
use Rattle.fabric.specs.declared.flow.Answer.TheVariants.{Idle}
use Rattle.crossbar.specs.declared.state.Reply.{Reply}
use Rattle.crossbar.specs.declared.state.Switch.{Switch}
use Rattle.runs.specs.Event.{Lent, Event, state_after, store_after}
use Rattle.runs.specs.Event.Event.{stepped, arrived, loaded}
use Rattle.runs.specs.Flow.{accepted_in, moved_in, left_in, slots_in, board_empty_in}
use Rattle.runs.proofs.LedgerLaws.{head_empty_in, ledger_still}
use Rattle.runs.proofs.SoundLaws.{Sound, two_between}
use Rattle.runs.proofs.FlowPromiseLaws.{EventLaw}

pub record Quiet (i j : ℕ) (e : Event) : Type 0 where
  pub accepted : accepted_in i j e ≡ []
  pub moved : moved_in i j e ≡ []
  pub left : left_in i j e ≡ []
  pub slots : slots_in e ≡ 0
  pub heads : head_empty_in i j e ≡ 0
  pub boards : board_empty_in i j e ≡ 0

-- only the plans of the state may change
pub quiet_law : {s : Switch} {store : List ℕ} → Sound s store → (i j : ℕ) → i < s.running.ports → j < s.running.ports
    → (e : Event) (running waiting : Plan) (waits : ℕ) → state_after e ≡ with_plans s running waiting waits → store_after store e ≡ store → Quiet i j e
    → EventLaw s.running.ports s.running.frame i j s store e
quiet_law {s} {store} ok i j hi hj e running waiting waits to left q =
    record {
      ledger = rw to (ledger_still _ _ i j s (with_plans s running waiting waits) e refl refl refl refl q.moved q.left q.slots q.heads q.boards);
      room = rw q.moved (omega (arith, two_between ok i j hi hj));
      crossing = rw (to, q.moved, q.left) (append-nil _);
      queue = rw (to, left, q.accepted, q.moved) (append-nil _);
    }

-- a refused call hands the state back
pub refused_law : {s : Switch} {store : List ℕ} → Sound s store → (i j : ℕ) → i < s.running.ports → j < s.running.ports
    → (e : Event) → state_after e ≡ s → store_after store e ≡ store → Quiet i j e
    → EventLaw s.running.ports s.running.frame i j s store e
refused_law {s} ok i j hi hj e to left q = quiet_law ok i j hi hj e s.running s.waiting s.waits to left q

pub refused_arrival : (i j : ℕ) (lent : Lent) (p q cell : ℕ) (r : Refusal) (s : Switch) (left : List ℕ) → Quiet i j (arrived lent p q cell (record { verdict = Err r; state = s }) left)
refused_arrival i j lent p q cell r s left = record { accepted = refl; moved = refl; left = refl; slots = refl; heads = refl; boards = refl }

pub any_load : (i j n t : ℕ) (rates : List ℕ) (r : Reply) → Quiet i j (loaded n t rates r)
any_load i j n t rates r = record { accepted = refl; moved = refl; left = refl; slots = refl; heads = refl; boards = refl }

pub refused_step : (i j : ℕ) (lent : Lent) (r : Refusal) (s : Switch) → Quiet i j (stepped lent (record { verdict = Err r; state = s; moves = all_idle; sends = all_idle }))
refused_step i j lent r s =
    let board = get_d_repeated most_ports i Idle in
    let head = get_d_repeated most_ports j Idle in
    record { accepted = refl; moved = rw board refl; left = rw head refl; slots = refl; heads = rw head refl; boards = rw board refl }
