-- When an arrival is accepted, what it answers and leaves in the store, and that its places are there.
use Prim.Native.Nat.{ℕ, ◌+◌, ◌*◌, ◌%◌, ◌<◌, ◌≤◌}
use mathlib.Core.Path.{◌≡◌, refl}
use mathlib.Core.Bool.{not, ◌&&◌}
use mathlib.Core.List.{List}
use native.Mathlib.Nat.{mul-le-mul}
use native.Mathlib.Omega.{arith}
use lib.Dec.{ltb, leb}
use lib.ListN.{length, set}
use borrow.Author.Tests.{not-false, ltb-true, lt-ltb, leb-false, lt-leb}
use Rattle.refusal.specs.declared.Refusal.{Refusal}
use Rattle.refusal.specs.Verdict.{Verdict}
use Rattle.std.specs.Prelude.{Ok, Err}
use Rattle.refusal.proofs.ChainLaws.{refuse_passed}
use Rattle.plan.specs.Range.{most_flows}
use Rattle.plan.specs.Lines.{flow_of}
use Rattle.plan.proofs.BelowLaws.{and_true}
use Rattle.plan.proofs.LineLaws.{row_within, flow_below, square_small}
use Rattle.crossbar.specs.State.{queue_at, store_fits}
use Rattle.fabric.specs.Flow.{most_depth}
use Rattle.crossbar.specs.Valid.{valid_of}
use Rattle.crossbar.specs.Arrive.{with_queues, longer, arrive_verdict, CanArrive, arrive_of, Arrives}
use Rattle.crossbar.specs.declared.state.Switch.{Switch}
use Rattle.crossbar.proofs.StoreLaws.{store_length, store_fits_lem}
use Rattle.crossbar.proofs.ValidLaws.{valid}

pub can_arrive : (s : Switch) (len i j : ℕ) → arrive_verdict s len i j ≡ Ok tt → CanArrive s len i j
unfolding arrive_verdict
can_arrive s len i j e =
    let n = s.running.ports in
    let first = refuse_passed (not (valid_of s)) _ _ e in
    let second = refuse_passed (not (store_fits n s.depth len)) _ _ first.1 in
    let third = refuse_passed (not (ltb i n && ltb j n)) _ _ second.1 in
    let fourth = refuse_passed (leb s.depth (queue_at s (flow_of n i j)).count) _ _ third.1 in
    let ports = and_true (ltb i n) (ltb j n) (not-false _ third.0) in
    record {
      valid = not-false _ first.0;
      store = store_length n s.depth len (not-false _ second.0);
      board = ltb-true i n ports.0;
      head = ltb-true j n ports.1;
      room = leb-false _ _ fourth.0;
    }

pub arrives : (s : Switch) (len i j : ℕ) → CanArrive s len i j → arrive_verdict s len i j ≡ Ok tt
unfolding arrive_verdict
arrives s len i j can =
    simp (
      can.valid,
      store_fits_lem _ _ len can.store,
      lt-ltb i _ can.board,
      lt-ltb j _ can.head,
      lt-leb _ _ can.room,
    )

-- The answer and the store, as the code leaves them, by its verdict v.
module _ (s : Switch) (store : List ℕ) (i j cell : ℕ) {v : Verdict} (is : v ≡ arrive_verdict s (length store) i j) where
  -- `next` is the place of the ring that the cell goes to
  pub arrive_accepted : {k next : ℕ} → v ≡ Ok tt → k ≡ flow_of s.running.ports i j →
      let q = queue_at s k in
      next ≡ (q.place + q.count) % s.depth →
      Arrives s store i j cell (record { verdict = v; state = with_queues s (set s.fabric.queues k (longer q)) }) (set store (k * s.depth + next) cell)
  unfolding arrive_of
  arrive_accepted told at place = rw (← is, told, place, at) refl

  -- a refused arrival leaves state and store as they were
  pub arrive_refused : {r : Refusal} → v ≡ Err r → Arrives s store i j cell (record { verdict = v; state = s }) store
  unfolding arrive_of
  arrive_refused told = rw (← is, told) refl

-- flow k has its places in the lists, and its next cell one in the store
pub record Placed (s : Switch) (len k : ℕ) : Type 0 where
  pub deep : s.depth ≤ most_depth
  pub few : k < most_flows
  pub room : (queue_at s k).count < s.depth
  pub once_around : (queue_at s k).place + (queue_at s k).count < s.depth + s.depth
  pub within : (p : ℕ) → p < s.depth → k * s.depth + p < len
  pub small : len ≤ most_flows * most_depth

pub placed : (s : Switch) (len i j k : ℕ) → CanArrive s len i j → k ≡ flow_of s.running.ports i j → Placed s len k
placed s len i j k can e =
    let n = s.running.ports in
    let v = valid s can.valid in
    let square : n * n ≤ most_flows = square_small n v.running.few_ports in
    let queue_room : (queue_at s k).count < s.depth = rw e can.room in
    let flow : k < n * n = rw e (flow_below n i j can.board can.head) in
    record {
      deep = v.few_places;
      few = omega arith;
      room = queue_room;
      once_around = omega (arith, v.queue_place k flow, queue_room);
      within = λ p l. omega (arith, can.store, row_within k (n * n) s.depth flow);
      small = omega (arith, can.store, mul-le-mul square v.few_places);
    }
