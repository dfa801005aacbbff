-- What a valid state is known to have, and that these are the valid ones.
use Prim.Native.Nat.{ℕ, ◌+◌, ◌*◌, ◌≤◌}
use mathlib.Core.Path.{◌≡◌}
use mathlib.Core.Bool.{Bool, true, ◌&&◌}
use mathlib.Core.List.{List}
use native.Mathlib.Omega.{arith}
use lib.Dec.{ltb, leb}
use borrow.Author.Tests.{ltb-true, leb-true, lt-ltb, le-leb}
use Rattle.plan.specs.Lines.{flow_of}
use Rattle.plan.proofs.BelowLaws.{and_true}
use Rattle.planpair.specs.Rates.{plan_rates}
use Rattle.planpair.specs.Valid.{plans_valid}
use Rattle.planpair.proofs.ValidLaws.{running_valid, waiting_valid, plans_are_valid}
use Rattle.fabric.specs.Flow.{most_depth}
use Rattle.side.specs.Valid.{ports_valid}
use Rattle.fabric.specs.Valid.{flows_valid}
use Rattle.side.proofs.ValidLaws.{CountsWithin, ports_valid_lem, ports_are_valid}
use Rattle.fabric.proofs.ValidLaws.{flows_valid_lem, flows_are_valid}
use Rattle.crossbar.specs.State.{has_waiting, depth_in_range}
use Rattle.crossbar.specs.Valid.{valid_of, IsValid}
use Rattle.crossbar.specs.declared.state.Switch.{Switch}

-- Q.

pub depth_range : (depth : ℕ) → depth_in_range depth ≡ true → (1 ≤ depth) × (depth ≤ most_depth)
unfolding depth_in_range
depth_range depth e =
    let both = and_true (leb 1 depth) (leb depth most_depth) e in
    (leb-true 1 depth both.0, leb-true depth most_depth both.1)

pub depth_in : (depth : ℕ) → 1 ≤ depth → depth ≤ most_depth → depth_in_range depth ≡ true
unfolding depth_in_range
depth_in depth lo hi = simp (le-leb 1 depth lo, le-leb depth most_depth hi)

-- The whole state.

all_six : (a b c d e f : Bool) → (a && b && c && d && e && f) ≡ true → (a ≡ true) × (b ≡ true) × (c ≡ true) × (d ≡ true) × (e ≡ true) × (f ≡ true)
all_six a b c d e f h =
    let h5 = and_true (a && b && c && d && e) f h in
    let h4 = and_true (a && b && c && d) e h5.0 in
    let h3 = and_true (a && b && c) d h4.0 in
    let h2 = and_true (a && b) c h3.0 in
    let h1 = and_true a b h2.0 in
    (h1.0, h1.1, h2.1, h3.1, h4.1, h5.1)

module _ (s : Switch) where
  abbrev n : ℕ
  n = s.running.ports

  abbrev rates : List ℕ
  rates = plan_rates s.running

  -- where flow (i, j) stands among the boards' counts, and among the heads'
  board_place : (i j : ℕ) → i * n + j * 1 ≡ flow_of n i j
  board_place i j = omega arith

  head_place : (i j : ℕ) → j * 1 + i * n ≡ flow_of n i j
  head_place i j = omega arith

  pub valid : valid_of s ≡ true → IsValid s
  unfolding valid_of
  valid e =
      let h = all_six (plans_valid s.running s.waiting (has_waiting s)) (depth_in_range s.depth) (ltb s.slot s.running.frame) (flows_valid s.fabric.queues s.fabric.crosspoints n s.depth) (ports_valid rates s.fabric.boards n n 1 s.slot) (ports_valid rates s.fabric.heads n 1 n s.slot) e in
      let waiting = waiting_valid s.running s.waiting (has_waiting s) h.0 in
      let depth = depth_range s.depth h.1 in
      let flow = flows_valid_lem s.fabric.queues s.fabric.crosspoints n s.depth h.3 in
      let board : CountsWithin rates s.fabric.boards n (flow_of n) s.slot = λ i j li lj. rw (board_place i j) at (ports_valid_lem rates s.fabric.boards n n 1 s.slot h.4 i j li lj) in
      let head : CountsWithin rates s.fabric.heads n (λ j i. flow_of n i j) s.slot = λ j i lj li. rw (head_place i j) at (ports_valid_lem rates s.fabric.heads n 1 n s.slot h.5 j i lj li) in
      record {
        running = running_valid s.running s.waiting (has_waiting s) h.0;
        waiting = λ w. (waiting w).0;
        ports_agree = λ w. (waiting w).1;
        same_frame = λ w. (waiting w).2;
        some_place = depth.0;
        few_places = depth.1;
        in_frame = ltb-true s.slot s.running.frame h.2;
        queue_place = λ k l. (flow k l).0;
        queue_count = λ k l. (flow k l).1;
        crosspoint_count = λ k l. (flow k l).2;
        board_count_within = λ i j li lj. (board i j li lj).0;
        head_count_within = λ i j li lj. (head j i lj li).0;
        board_zero = λ z i j li lj. (board i j li lj).1 z;
        head_zero = λ z i j li lj. (head j i lj li).1 z;
      }

  pub is_valid : IsValid s → valid_of s ≡ true
  unfolding valid_of
  is_valid v =
      simp (
        plans_are_valid s.running s.waiting (has_waiting s) v.running v.waiting v.ports_agree v.same_frame,
        depth_in s.depth v.some_place v.few_places,
        lt-ltb s.slot s.running.frame v.in_frame,
        flows_are_valid s.fabric.queues s.fabric.crosspoints n s.depth (λ k l. (v.queue_place k l, v.queue_count k l, v.crosspoint_count k l)),
        ports_are_valid rates s.fabric.boards n n 1 s.slot (λ i j li lj. rw (board_place i j) (v.board_count_within i j li lj, λ z. v.board_zero z i j li lj)),
        ports_are_valid rates s.fabric.heads n 1 n s.slot (λ j i lj li. rw (head_place i j) (v.head_count_within i j li lj, λ z. v.head_zero z i j li lj)),
      )
